-- A plan is reduced exactly where it fits each set: it names one of the set's actions where it plays the set's own sequence, and none
-- elsewhere.
use Rattle.std.proofs.Common.{◌≡◌, ◌↔◌, ℕ, ◌<◌, Bool, true, false, IsTrue, not, List, length, Option, Some, None, refl, sym, subst}
use Rattle.std.specs.Prelude.{slice_get}
use Rattle.std.proofs.lemmas.Option.{slice_get_within}
use Rattle.corr_game.specs.declared.nodes.SetInfo.{SetInfo}
use Rattle.corr_game.specs.declared.sides.Side.{Side}
use Rattle.corr_game.specs.Game.{GameView, IsGame, sets_of}
use Rattle.sequences.specs.Number.{IsOwn, Plays, side_of}
use Rattle.connected_pairs.specs.Connected.{IsPairs, IsPairsOf, PairsView}
use Rattle.equilibrium.specs.Reach.{leads}
use Rattle.equilibrium.specs.ReducedPlan.{IsReduced}
use Rattle.equilibrium_solutions.proofs.Recalled.{has_recall}
use Rattle.equilibrium_solutions.proofs.ReducedPlans.{leads_plays}
use Rattle.deviation_gains.specs.Planned.{FitsAt}

-- two tests of one fact
same_test : (a b : Bool) (P : Type 0) → (a ≡ true) ↔ P → IsTrue b ↔ P → a ≡ b
same_test true true P first second = refl
same_test false false P first second = refl
same_test true false P first second = sym (second.1 (first.0 refl))
same_test false true P first second = first.1 (second.0 refl)

pub leads_is : (g : GameView) (p : PairsView) → IsGame g → IsPairs p → IsPairsOf g p → (side : Side) (plan : List (Option ℕ)) (set seq : ℕ)
    → IsOwn (side_of side p.seqs) set seq → (b : Bool) → IsTrue b ↔ Plays (side_of side p.seqs) plan seq → leads side g plan set ≡ b
leads_is g p rules pairs of side plan set seq own b plays =
    let by = leads_plays g rules p pairs of (has_recall g rules p pairs of) side plan set own.0 own.1 in
    let Played : ℕ → Type 0 = λ n. (leads side g plan set ≡ true) ↔ Plays (side_of side p.seqs) plan n in
    same_test (leads side g plan set) b (Plays (side_of side p.seqs) plan seq) (subst Played own.2 by) plays

module _ (side : Side) (g : GameView) (plan : List (Option ℕ)) (set : ℕ) where
  -- a plan that names nothing at a set fits where it doesn't lead there
  pub none_fits : slice_get plan set ≡ Some None → (led : Bool) → leads side g plan set ≡ led → IsTrue (not led) ↔ FitsAt side g plan set
  none_fits at false leading = (
    λ h. record {
      where_led = rw at (sym leading);
      in_range = λ action info named there. absurd (cc (at, named));
    },
    λ h. refl,
  )
  none_fits at true leading = (λ h. absurd (cc h), λ fits. let led = rw at at fits.where_led in absurd (cc (led, leading)))

  module _ (action : ℕ) (named : slice_get plan set ≡ Some (Some action)) where
    -- one that names an action fits where it leads there and the action is one of the set's
    pub some_fits : (info : SetInfo) → slice_get (sets_of side g) set ≡ Some info → leads side g plan set ≡ true → (test : Bool)
        → IsTrue test ↔ (action < info.actions) → IsTrue test ↔ FitsAt side g plan set
    some_fits info there leading test is = (
      λ h. record {
        where_led = rw named (sym leading);
        in_range = λ other also_info also here. inside (is.0 h) other also_info also here;
      },
      λ fits. is.1 (fits.in_range action info named there),
    )
      where
        inside : action < info.actions → (other : ℕ) (also_info : SetInfo) → slice_get plan set ≡ Some (Some other)
            → slice_get (sets_of side g) set ≡ Some also_info → other < also_info.actions
        inside low other also_info also here =
            let one : action ≡ other = cc (named, also) in
            let two : info ≡ also_info = cc (there, here) in
            rw (← one, ← two) low

    pub none_led : leads side g plan set ≡ false → FitsAt side g plan set → ⊥
    none_led leading fits = let led = rw named at fits.where_led in absurd (cc (led, leading))

pub plan_reduced : (side : Side) (g : GameView) (plan : List (Option ℕ)) → length plan ≡ length (sets_of side g)
    → ((set : ℕ) → set < length (sets_of side g) → FitsAt side g plan set) → IsReduced side g plan
plan_reduced side g plan count each = record {
  is_plan = record {
    per_set = count;
    in_range = λ set action info named there. (each set (slice_get_within (sets_of side g) set info there)).in_range action info named there;
  };
  where_led = λ set low. (each set low).where_led;
}

pub reduced_fits : (side : Side) (g : GameView) (plan : List (Option ℕ)) → IsReduced side g plan → (set : ℕ) → set < length (sets_of side g)
    → FitsAt side g plan set
reduced_fits side g plan is set low = record {
  where_led = is.where_led set low;
  in_range = λ action info named there. is.is_plan.in_range set action info named there;
}

-- A plan is reduced by the tree exactly where it is reduced by the numbers of sequences.
use Rattle.std.proofs.Common.{◌≡◌, ◌↔◌, ℕ, ◌<◌, Bool, true, false, List, All, length, Option, Some, None, slice_get, refl, sym, ◌∙◌, arith}
use Rattle.std.proofs.lemmas.Option.{slice_get_within}
use Rattle.corr_game.specs.declared.sides.Side.{Side}
use Rattle.corr_game.specs.declared.sides.Side.TheVariants.{One, Two}
use Rattle.corr_game.specs.Game.{GameView, IsGame, sets_of}
use Rattle.corr_game.specs.Plan.{IsPlan}
use Rattle.tree_recall.specs.OwnSequence.{HasRecall}
use Rattle.sequences.specs.declared.places.Place.{Place}
use Rattle.sequences.specs.Number.{Plays, side_of}
use Rattle.sequences.proofs.Adding.{within}
use Rattle.connected_pairs.specs.Connected.{IsPairs, IsPairsOf, PairsView}
use Rattle.equilibrium.specs.Distribution.{Entry, IsEntry}
use Rattle.equilibrium.specs.Reach.{leads}
use Rattle.equilibrium.specs.ReducedPlan.{IsReduced, names_some}
use Rattle.equilibrium.proofs.Nesting.{named_one}
use Rattle.plan_decompose.specs.Reduced.{IsReduced as IsReducedBy}
use Rattle.equilibrium_solutions.proofs.Numbers.{set_plays}
use Rattle.equilibrium_solutions.proofs.SetNodes.{own_sequences}
use Rattle.equilibrium_solutions.proofs.SumRows.{IsReducedEntry}
use Rattle.equilibrium_solutions.proofs.Triggers.{leads_named}

module _ (g : GameView) (rules : IsGame g) (p : PairsView) (pairs : IsPairs p) (of : IsPairsOf g p)
    (recall : (side : Side) → HasRecall g side) where
  -- a plan leads to a set exactly where it plays the set's own sequence
  pub leads_plays : (side : Side) (plan : List (Option ℕ)) (set : ℕ) (place : Place)
      → slice_get (side_of side p.seqs).places set ≡ Some place
      → (leads side g plan set ≡ true) ↔ Plays (side_of side p.seqs) plan place.own
  leads_plays side plan set place at =
      let own = own_sequences side g rules (recall side) in
      let low : set < length (sets_of side g) =
      omega (arith, (of.sides side).per_set, slice_get_within (side_of side p.seqs).places set place at) in
      let led = leads_named g p pairs of side rules (recall side) own plan set low in
      let by = set_plays g rules p pairs of side own plan set place.own low (place, at, refl) in
      (λ h. by.1 (led.0 h), λ h. led.1 (by.0 h))

  reduced_by : (side : Side) (plan : List (Option ℕ)) → IsReduced side g plan → IsReducedBy (side_of side p.seqs) plan
  reduced_by side plan is =
      let count = (of.sides side).per_set in
      let inside : (set : ℕ) (place : Place) → slice_get (side_of side p.seqs).places set ≡ Some place → set < length (sets_of side g) =
      λ set place at. omega (arith, count, slice_get_within (side_of side p.seqs).places set place at) in
      record {
        each = λ set place at plays.
            named_one (slice_get plan set) (is.where_led set (inside set place at) ∙ (leads_plays side plan set place at).1 plays);
        none_else = λ set action place at named.
            (leads_plays side plan set place at).0
            (sym (is.where_led set (inside set place at)) ∙ rw named refl);
      }

  -- and the other way round
  pub reduced_of : (side : Side) (plan : List (Option ℕ)) → IsPlan side g plan → IsReducedBy (side_of side p.seqs) plan
      → IsReduced side g plan
  reduced_of side plan whole is = record { is_plan = whole; where_led = λ set low. led set low (leads side g plan set) refl }
    where
      there : (set : ℕ) → set < length (sets_of side g) → (place : Place) × (slice_get (side_of side p.seqs).places set ≡ Some place)
      there set low = within (side_of side p.seqs).places set (omega (arith, (of.sides side).per_set, low))

      none_named : (set : ℕ) → set < length (sets_of side g) → leads side g plan set ≡ false → (named : Option (Option ℕ))
          → slice_get plan set ≡ named → names_some named ≡ false
      none_named set low away None at = refl
      none_named set low away (Some None) at = refl
      none_named set low away (Some (Some action)) at =
          let place = there set low in
          let here = (leads_plays side plan set place.0 place.1).1 (is.none_else set action place.0 place.1 at) in
          absurd (cc)

      led : (set : ℕ) → set < length (sets_of side g) → (leading : Bool) → leads side g plan set ≡ leading
          → names_some (slice_get plan set) ≡ leading
      led set low true here =
          let place = there set low in
          let named = is.each set place.0 place.1 ((leads_plays side plan set place.0 place.1).0 here) in
          rw named.1 refl
      led set low false away = none_named set low away (slice_get plan set) refl

  entry_by : (entry : Entry) → IsEntry g entry → IsReducedEntry g p.seqs entry
  entry_by entry is = record {
    plan_one = is.one.is_plan;
    plan_two = is.two.is_plan;
    reduced_one = reduced_by One entry.one is.one;
    reduced_two = reduced_by Two entry.two is.two;
  }

  pub entries_by : (list : List Entry) → All (IsEntry g) list → All (IsReducedEntry g p.seqs) list
  entries_by list each = λ k d low. entry_by _ (each k d low)

-- Both sums are computed from the definitions: following pays player 1 20, and daring instead 21, whether told to chicken
-- out, at the set, or
-- from the start.
use Rattle.std.proofs.Common.{◌≡◌, ℕ, zero, suc, ◌<◌, [], ◌∷◌, Some, slice_get, ℤ, pos, ◌+ℤ◌, ◌*ℤ◌, ◌≤ℤ◌, refl, arith}
use Rattle.std.proofs.lemmas.Int.{ints}
use Rattle.exact_algebra.specs.Sums.{sum_over}
use Rattle.corr_game.specs.declared.nodes.SetId.{SetId}
use Rattle.corr_game.specs.declared.nodes.SetInfo.{SetInfo}
use Rattle.corr_game.specs.declared.notions.Notion.{Notion}
use Rattle.corr_game.specs.declared.notions.Notion.TheVariants.{Efce, Efcce, Nfcce}
use Rattle.corr_game.specs.declared.sides.Side.TheVariants.{One}
use Rattle.corr_game.specs.Game.{scale_of}
use Rattle.corr_game.specs.Preorder.{from_last}
use Rattle.corr_game.specs.Walk.{walk}
use Rattle.equilibrium.specs.declared.triggers.Trigger.TheVariants.{Told, Reached, Start}
use Rattle.equilibrium.specs.Deviation.{following, leaving}
use Rattle.equilibrium.specs.Distribution.{total}
use Rattle.equilibrium.specs.Equilibrium.{IsEquilibriumList, no_slack}
use Rattle.equilibrium.specs.FullChoice.{IsFullChoice}
use Rattle.equilibrium.specs.Reach.{comes_to}
use Rattle.equilibrium.proofs.Nesting.{no_more}
use Rattle.plain_programs.specs.Samples.{chicken_game, one_chickens_out}

abbrev first_set : SetId
first_set = record { 0 = 0 }

follows_20 : following One chicken_game one_chickens_out ≡ pos 20
unfolding sum_over walk from_last chicken_game
follows_20 = refl

told_21 : leaving One chicken_game (Told first_set 1) (0 ∷ []) one_chickens_out ≡ pos 21
unfolding sum_over walk comes_to from_last chicken_game
told_21 = refl

reached_21 : leaving One chicken_game (Reached first_set) (0 ∷ []) one_chickens_out ≡ pos 21
unfolding sum_over walk comes_to from_last chicken_game
reached_21 = refl

start_21 : leaving One chicken_game Start (0 ∷ []) one_chickens_out ≡ pos 21
unfolding sum_over walk from_last chicken_game
start_21 = refl

daring : IsFullChoice One chicken_game (0 ∷ [])
unfolding chicken_game
daring = record { per_set = refl; in_range = in_range }
  where
    in_range : (set action : ℕ) (info : SetInfo) → slice_get (0 ∷ []) set ≡ Some action
        → slice_get ((record { file = 1; actions = 2 }) ∷ []) set ≡ Some info → action < info.actions
    in_range zero action info e f =
        let first : 0 ≡ action = cc in
        let two : record { file = 1; actions = 2 } ≡ info = cc in
        rw (← first, ← two) (omega arith)
    in_range (suc set) action info e f = absurd (cc)

more_is_less : (l f s t : ℤ) → l ≡ pos 21 → f ≡ pos 20 → (pos 1 *ℤ l) ≤ℤ (pos 1 *ℤ f +ℤ pos 0 *ℤ s *ℤ t) → ⊥
more_is_less l f s t e k h = let low = no_more l f s t h in omega (arith, ints)

pub not_one_chickens_out : (notion : Notion) → IsEquilibriumList notion chicken_game no_slack one_chickens_out → ⊥
unfolding chicken_game
not_one_chickens_out Efce eq =
    more_is_less (leaving One chicken_game (Told first_set 1) (0 ∷ []) one_chickens_out)
    (following One chicken_game one_chickens_out) (scale_of One chicken_game) (total one_chickens_out)
    told_21 follows_20 (eq.none_improves One (Told first_set 1) (0 ∷ []) (record { file = 1; actions = 2 }, refl, omega arith) daring)
not_one_chickens_out Efcce eq =
    more_is_less (leaving One chicken_game (Reached first_set) (0 ∷ []) one_chickens_out)
    (following One chicken_game one_chickens_out) (scale_of One chicken_game) (total one_chickens_out)
    reached_21 follows_20 (eq.none_improves One (Reached first_set) (0 ∷ []) (omega arith) daring)
not_one_chickens_out Nfcce eq =
    more_is_less (leaving One chicken_game Start (0 ∷ []) one_chickens_out) (following One chicken_game one_chickens_out)
    (scale_of One chicken_game) (total one_chickens_out)
    start_21 follows_20 (eq.none_improves One Start (0 ∷ []) tt daring)

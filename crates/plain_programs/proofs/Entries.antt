-- Entries of a list of pairs, and their plans.
use Rattle.std.proofs.Common.{ℕ, ◌+◌, ◌<◌, inl, inr, List, [], ◌∷◌, All, Some, get_or, slice_get, arith, ◌≡◌, Option, true}
use Rattle.std.proofs.lemmas.Bool.{cases_lt}
use Rattle.std.proofs.lemmas.List.Elements.{All-cons, All-head, All-nil, All-tail}
use Rattle.corr_game.specs.declared.plans.Pair.{Pair}
use Rattle.corr_game.specs.declared.sides.Side.{Side}
use Rattle.corr_game.specs.declared.sides.Side.TheVariants.{One, Two}
use Rattle.corr_game.specs.Game.{GameView}
use Rattle.corr_game.specs.Plan.{IsPlan, plan_of}
use Rattle.equilibrium.specs.declared.triggers.Trigger.{Trigger}
use Rattle.equilibrium.specs.declared.triggers.Trigger.TheVariants.{Told, Reached, Start}
use Rattle.equilibrium.specs.Deviation.{left_for}
use Rattle.equilibrium.specs.Distribution.{IsEntry, entries_of, entry_of}
use Rattle.equilibrium.specs.FullChoice.{IsFullChoice, is_under}
use Rattle.plain_programs.proofs.NewPlans.{anew_is_plan}
use Rattle.plain_programs.proofs.WeightedSums.{pair_at}

abbrev pub AreEntriesBelow : GameView → List Pair → ℕ → Type 0
AreEntriesBelow g list k = (j : ℕ) (d : Pair) → j < k → IsEntry g (entry_of (get_or list j d))

pub one_entry_more : (g : GameView) (list : List Pair) (k : ℕ) (pair : Pair) → AreEntriesBelow g list k → slice_get list k ≡ Some pair
    → IsEntry g (entry_of pair) → AreEntriesBelow g list (k + 1)
one_entry_more g list k pair so_far there is = λ j d h. elim (cases_lt j k) [
  | inl less ↦ so_far j d less
  | inr last ↦
      let here : j ≡ k = omega arith in
      rw (here, pair_at list k pair d there) is
]

pub pairs_of_entries : (g : GameView) (pairs : List Pair) → All (IsEntry g) (entries_of pairs) → All (λ (pair : Pair). IsEntry g (entry_of pair)) pairs
pairs_of_entries g [] all = All-nil (λ (pair : Pair). IsEntry g (entry_of pair))
pairs_of_entries g (pair ∷ pairs) all =
    let P : Pair → Type 0 = λ (x : Pair). IsEntry g (entry_of x) in
    All-cons P pair pairs (All-head (IsEntry g) (entry_of pair) (entries_of pairs) all)
    (pairs_of_entries g pairs (All-tail (IsEntry g) (entry_of pair) (entries_of pairs) all))

pub own_is_plan : (side : Side) (g : GameView) (pair : Pair) → IsEntry g (entry_of pair) → IsPlan side g (plan_of side pair.one pair.two)
own_is_plan One g pair is = is.one.is_plan
own_is_plan Two g pair is = is.two.is_plan

pub left_is_plan : (side : Side) (g : GameView) (trigger : Trigger) (choice : List ℕ) (plan : List (Option ℕ)) → IsPlan side g plan
    → IsFullChoice side g choice → IsPlan side g (left_for side g trigger choice plan)
left_is_plan side g (Told set action) choice plan is full = anew_is_plan side g (is_under side g set.0) choice plan is full
left_is_plan side g (Reached set) choice plan is full = anew_is_plan side g (is_under side g set.0) choice plan is full
left_is_plan side g Start choice plan is full = anew_is_plan side g (λ set. true) choice plan is full

-- What following pays, leaf by leaf and pair by pair.
use Rattle.std.proofs.Common.{◌≡◌, ℕ, ◌+◌, List, take, slice_get, Some, ℤ, pos, ◌+ℤ◌, ◌*ℤ◌, ◌≤ℤ◌}
use Rattle.std.proofs.Common.{sym, ap, ap₂, ◌∙◌}
use Rattle.exact_algebra.specs.Sums.{sum_over, sum_to}
use Rattle.exact_algebra.proofs.RingLaws.{*ℤ-zero, +ℤ_assoc, +ℤ_idr}
use Rattle.exact_algebra.proofs.Sums.{sum_to-add, sum_to-add_one, sum_to-nothing, sum_to-same, sum_to-zero}
use Rattle.corr_game.specs.declared.plans.Pair.{Pair}
use Rattle.corr_game.specs.declared.sides.Side.{Side}
use Rattle.corr_game.specs.Game.{GameView}
use Rattle.equilibrium.specs.Distribution.{entries_of}
use Rattle.equilibrium.specs.Leaves.{leaf_amount}
use Rattle.deviation_gains.specs.Leaving.{PlanTest, paid_in_list, paid_in_pair}
use Rattle.deviation_gains.proofs.LeftLists.{paid_next}

pub adds_nothing : (t a : ℤ) → t ≡ t +ℤ a *ℤ pos 0
adds_nothing t a = sym (+ℤ_idr t) ∙ ap (λ (z : ℤ). t +ℤ z) (sym (*ℤ-zero a))

pub none_yet : (t : ℤ) (pays : ℕ → ℤ) → t ≡ t +ℤ sum_to 0 pays
none_yet t pays = sym (+ℤ_idr t) ∙ ap (λ (z : ℤ). t +ℤ z) (sym (sum_to-zero pays))

-- a node that pays this, and one that pays nothing
pub one_more : (t total more a : ℤ) (pays : ℕ → ℤ) (n : ℕ) → total ≡ t +ℤ sum_to n pays → more ≡ total +ℤ a → pays n ≡ a
    → more ≡ t +ℤ sum_to (n + 1) pays
one_more t total more a pays n e f is =
    f ∙ ap₂ (λ (x y : ℤ). x +ℤ y) e (sym is) ∙ +ℤ_assoc t (sum_to n pays) (pays n) ∙ ap (λ (z : ℤ). t +ℤ z) (sym (sum_to-add_one n pays))

pub no_more : (t total : ℤ) (pays : ℕ → ℤ) (n : ℕ) → total ≡ t +ℤ sum_to n pays → pays n ≡ pos 0 → total ≡ t +ℤ sum_to (n + 1) pays
no_more t total pays n e none = one_more t total total (pos 0) pays n e (sym (+ℤ_idr total)) none

module _ (side : Side) (g : GameView) (passes : PlanTest) where
  pub all_next : (list : List Pair) (k count : ℕ) (pair : Pair) → slice_get list k ≡ Some pair → pos 1 ≤ℤ pair.weight
      → sum_to count (λ n. paid_in_list side g passes (entries_of (take (k + 1) list)) n)
      ≡ sum_to count (λ n. paid_in_list side g passes (entries_of (take k list)) n) +ℤ sum_to count (λ n. paid_in_pair side g passes pair n)
  all_next list k count pair at h =
      sum_to-same count _ _ (λ n low. paid_next side g passes list k n pair at h) ∙ sum_to-add count _ _

  pub all_none : (list : List Pair) (count : ℕ) → sum_to count (λ n. paid_in_list side g passes (entries_of (take 0 list)) n) ≡ pos 0
  unfolding sum_over
  all_none list count = sum_to-nothing count _ (λ n low. *ℤ-zero (leaf_amount side (slice_get g.nodes n)))

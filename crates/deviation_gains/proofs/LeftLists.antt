-- The pairs of a list, one after the other: what a list pays at a node is what its first pairs pay and what the next one does.
use Rattle.std.proofs.Common.{◌≡◌, ℕ, zero, suc, ◌+◌, Bool, true, false, nat_eq, cond, List, [], ◌∷◌, map, take}
use Rattle.std.proofs.Common.{slice_get, slice_index, Some, ℤ, pos, negsuc, ◌+ℤ◌, ◌*ℤ◌, ◌≤ℤ◌, unsigned_abs, refl, ap, ◌∙◌, add-one, arith}
use Rattle.std.specs.Prelude.{replicate, slice_index_or}
use Rattle.std.proofs.lemmas.Int.{ints}
use Rattle.exact_algebra.specs.Sums.{sum_over}
use Rattle.exact_algebra.proofs.RingLaws.{*ℤ-+ℤ, *ℤ-zero}
use Rattle.exact_algebra.proofs.RingTactic.{linear}
use Rattle.exact_algebra.proofs.Sums.{sum_to-add, sum_to-nothing, sum_to-same}
use Rattle.corr_game.specs.declared.plans.Pair.{Pair}
use Rattle.corr_game.specs.declared.sides.Side.{Side}
use Rattle.corr_game.specs.Game.{GameView}
use Rattle.corr_game.specs.Plan.{plan_of}
use Rattle.connected_pairs.specs.Connected.{other}
use Rattle.equilibrium.specs.Distribution.{entries_of, entry_of}
use Rattle.equilibrium.specs.Leaves.{leaf_amount}
use Rattle.deviation_gains.specs.Leaving.{PlanTest, paid_behind, paid_in_list, paid_in_pair, weight_of_entry, weight_of_pair}

pub sum_next : {A B : Type 0} (f : B → ℤ) (h : A → B) (xs : List A) (k : ℕ) (x : A) → slice_get xs k ≡ Some x
    → sum_over f (map h (take (suc k) xs)) ≡ sum_over f (map h (take k xs)) +ℤ f (h x)
unfolding sum_over
sum_next f h [] k x e = absurd (cc)
sum_next f h (y ∷ xs) zero x e =
    let same : y ≡ x = cc in
    rw same (omega (arith, ints))
sum_next f h (y ∷ xs) (suc k) x e = let rest = sum_next f h xs k x e in omega (arith, linear)

pub weight_back : (w : ℤ) → pos 1 ≤ℤ w → pos (unsigned_abs w) ≡ w
weight_back (pos n) h = refl
weight_back (negsuc n) h = absurd (omega (arith, ints))

module _ (side : Side) (g : GameView) (passes : PlanTest) where
  pub pair_weighs : (n : ℕ) (pair : Pair) → pos 1 ≤ℤ pair.weight
      → weight_of_entry side (passes n) (entry_of pair) ≡ weight_of_pair side (passes n) pair
  pair_weighs n pair h =
      ap (λ (w : ℤ). cond (passes n (plan_of side pair.one pair.two) (plan_of (other side) pair.one pair.two)) w (pos 0))
      (weight_back pair.weight h)

  -- what the first pairs pay, and the next one
  pub paid_next : (list : List Pair) (k n : ℕ) (pair : Pair) → slice_get list k ≡ Some pair → pos 1 ≤ℤ pair.weight
      → paid_in_list side g passes (entries_of (take (k + 1) list)) n
      ≡ paid_in_list side g passes (entries_of (take k list)) n +ℤ paid_in_pair side g passes pair n
  paid_next list k n pair at h =
      let amount = leaf_amount side (slice_get g.nodes n) in
      let weight = weight_of_entry side (passes n) in
      ap (λ (m : ℕ). amount *ℤ sum_over (λ e. weight e) (entries_of (take m list))) (add-one k)
      ∙ ap (λ (z : ℤ). amount *ℤ z)
      (sum_next (λ e. weight e) entry_of list k pair at
      ∙ ap (λ (z : ℤ). sum_over (λ e. weight e) (entries_of (take k list)) +ℤ z) (pair_weighs n pair h))
      ∙ *ℤ-+ℤ amount (sum_over (λ e. weight e) (entries_of (take k list))) (weight_of_pair side (passes n) pair)

  both_if : (test : Bool) (x y z : ℤ) → z ≡ x +ℤ y → cond test z (pos 0) ≡ cond test x (pos 0) +ℤ cond test y (pos 0)
  both_if true x y z e = e
  both_if false x y z e = refl

  pub behind_next : (nodes : List ℕ) (list : List Pair) (k count q : ℕ) (pair : Pair) → slice_get list k ≡ Some pair
      → pos 1 ≤ℤ pair.weight
      → paid_behind nodes (paid_in_list side g passes (entries_of (take (k + 1) list))) count q
      ≡ paid_behind nodes (paid_in_list side g passes (entries_of (take k list))) count q
      +ℤ paid_behind nodes (paid_in_pair side g passes pair) count q
  behind_next nodes list k count q pair at h =
      sum_to-same count _ _ (λ n low. both_if (nat_eq (slice_index nodes n) q) (paid_in_list side g passes (entries_of (take k list)) n)
      (paid_in_pair side g passes pair n) _ (paid_next list k n pair at h))
      ∙ sum_to-add count _ _

  nothing_if : (test : Bool) (a : ℤ) → cond test (a *ℤ pos 0) (pos 0) ≡ pos 0
  nothing_if true a = *ℤ-zero a
  nothing_if false a = refl

  -- no pair pays nothing
  pub behind_none : (nodes : List ℕ) (list : List Pair) (count q : ℕ)
      → paid_behind nodes (paid_in_list side g passes (entries_of (take 0 list))) count q ≡ pos 0
  unfolding sum_over
  behind_none nodes list count q =
      sum_to-nothing count _ (λ n low. nothing_if (nat_eq (slice_index nodes n) q) (leaf_amount side (slice_get g.nodes n)))

-- nothing is there before the first pair
pub zeros_at : (n q : ℕ) → slice_index_or (replicate n (pos 0)) q (pos 0) ≡ pos 0
zeros_at zero q = refl
zeros_at (suc n) zero = refl
zeros_at (suc n) (suc q) = zeros_at n q

-- Sums over weighted pairs of plans, taken pair by pair: what is summed so far and what the pairs left give is the whole
-- sum, and no partial sum is larger than the weights allow.
use Rattle.std.proofs.Common.{◌≡◌, ℕ, zero, suc, ◌+◌, ◌*◌, ◌^◌, ◌<◌, ◌≤◌, List, [], ◌∷◌, All, Some, length, drop, get_or, slice_get}
use Rattle.std.proofs.Common.{ℤ, pos, ◌+ℤ◌, ◌*ℤ◌, ◌≤ℤ◌, unsigned_abs, to_z, of_z, refl, sym, ap, subst, ◌∙◌, arith}
use Rattle.std.specs.Int.{w128}
use Rattle.std.proofs.lemmas.Int.{ints}
use Rattle.std.proofs.lemmas.List.{drop_all, drop_more}
use Rattle.std.proofs.lemmas.Option.{slice_get-get_or}
use Rattle.exact_algebra.specs.Sums.{sum_over}
use Rattle.exact_algebra.proofs.ListSums.{sum_over-map, sum_over-cons, sum_over-nil}
use Rattle.corr_num.proofs.MagnitudeBounds.{product_magnitude, sum_magnitude}
use Rattle.corr_num.proofs.PrintedTerms.{returned}
use Rattle.corr_game.specs.declared.plans.Pair.{Pair}
use Rattle.equilibrium.specs.Distribution.{Entry, entries_of, entry_of, total, weighted}
use Rattle.plain_programs.specs.Weights.{AreWeights}

-- the sum of the weights' magnitudes
abbrev pub heavy : List Pair → ℕ
heavy [] = 0
heavy (pair ∷ pairs) = unsigned_abs pair.weight + heavy pairs

-- the terms of the first k pairs are summed; no term is above `most` times its weight
pub record IsPart (term : Pair → ℤ) (most : ℕ) (list : List Pair) (k : ℕ) (sum : ℤ) : Type 0 where
  pub value : sum +ℤ sum_over term (drop k list) ≡ sum_over term list
  pub bound : unsigned_abs sum + most * heavy (drop k list) ≤ most * heavy list

pub no_part : {term : Pair → ℤ} {most : ℕ} {list : List Pair} → IsPart term most list 0 (pos 0)
no_part = record { value = omega (arith, ints); bound = omega arith }

some_same : (x y : Pair) → Some x ≡ Some y → x ≡ y
some_same x y e = cc

-- the pairs left are the next one and those behind it
next_pair : (list : List Pair) (k : ℕ) (pair : Pair) → k < length list → slice_get list k ≡ Some pair
    → drop k list ≡ pair ∷ drop (k + 1) list
next_pair list k pair low there =
    let same : get_or list k pair ≡ pair = some_same _ _ (sym (slice_get-get_or list k pair low) ∙ there) in
    drop_more list k pair low ∙ ap (λ (x : Pair). x ∷ drop (k + 1) list) same

moved : (s x r w : ℤ) → s +ℤ (x +ℤ r) ≡ w → s +ℤ x +ℤ r ≡ w
moved s x r w e = omega (arith, ints)

bounded : (s x : ℤ) (most w h whole : ℕ) → unsigned_abs s + most * (w + h) ≤ most * whole → unsigned_abs x ≤ most * w
    → unsigned_abs (s +ℤ x) + most * h ≤ most * whole
bounded s x most w h whole b small = omega (arith, sum_magnitude s x)

-- the term of one pair more, as code of 128 bits adds it
pub next_part : {term : Pair → ℤ} {most : ℕ} {list : List Pair} {k : ℕ} {sum : ℤ} (x new : ℤ) (pair : Pair) → k < length list
    → slice_get list k ≡ Some pair
    → IsPart term most list k sum → x ≡ term pair → unsigned_abs x ≤ most * unsigned_abs pair.weight → most * heavy list < 2 ^ 126
    → new ≡ sum +ℤ to_z w128 (of_z w128 x) → IsPart term most list (k + 1) (to_z w128 (of_z w128 new))
next_part {term} {most} {list} {k} {sum} x new pair low there so_far e small room added =
    let next = next_pair list k pair low there in
    let whole = ap (λ (ps : List Pair). sum +ℤ sum_over term ps) next in
    let heavier = ap heavy next in
    let bound : unsigned_abs sum + most * (unsigned_abs pair.weight + heavy (drop (k + 1) list)) ≤ most * heavy list =
    rw (← heavier) so_far.bound in
    let more = bounded sum x most (unsigned_abs pair.weight) (heavy (drop (k + 1) list)) (heavy list) bound small in
    let same : to_z w128 (of_z w128 x) ≡ x = returned x (omega arith) in
    let back : to_z w128 (of_z w128 (sum +ℤ x)) ≡ sum +ℤ x = returned (sum +ℤ x) (omega arith) in
    rw (added, same, back) (record {
      value = moved sum x (sum_over term (drop (k + 1) list)) (sum_over term list)
          (rw e (sym (ap (λ (t : ℤ). sum +ℤ t) (sum_over-cons term pair (drop (k + 1) list))) ∙ sym whole ∙ so_far.value));
      bound = more;
    })

pub whole_part : {term : Pair → ℤ} {most : ℕ} {list : List Pair} {k : ℕ} {sum : ℤ} → length list ≤ k → IsPart term most list k sum
    → sum ≡ sum_over term list
whole_part {term} {most} {list} {k} {sum} h so_far =
    let none = ap (sum_over term) (drop_all k list h) ∙ sum_over-nil term in
    omega (arith, ints, so_far.value, none)

pub part_bound : {term : Pair → ℤ} {most : ℕ} {list : List Pair} {k : ℕ} {sum : ℤ} → IsPart term most list k sum
    → unsigned_abs sum ≤ most * heavy list
part_bound so_far = omega (arith, so_far.bound)

-- a weight times an amount, as code of 128 bits multiplies them
pub weighed_bound : (r w x : ℤ) → unsigned_abs w ≤ 2 ^ 62 → unsigned_abs x ≤ 2 ^ 40
    → r ≡ to_z w128 (of_z w128 w) *ℤ to_z w128 (of_z w128 x)
    → unsigned_abs (to_z w128 (of_z w128 r)) ≤ 2 ^ 40 * unsigned_abs w
weighed_bound r w x high small e =
    let weight : to_z w128 (of_z w128 w) ≡ w = returned w (omega arith) in
    let amount : to_z w128 (of_z w128 x) ≡ x = returned x (omega arith) in
    let bound : unsigned_abs (w *ℤ x) ≤ unsigned_abs w * 2 ^ 40 = product_magnitude w x (unsigned_abs w) (2 ^ 40) (omega arith) small in
    let back : to_z w128 (of_z w128 (w *ℤ x)) ≡ w *ℤ x = returned (w *ℤ x) (omega arith) in
    rw (e, weight, amount, back) (omega (arith, bound))

pub weighed_is : (r w x number : ℤ) → unsigned_abs w ≤ 2 ^ 62 → unsigned_abs x ≤ 2 ^ 40 → x ≡ number
    → r ≡ pos (unsigned_abs (to_z w128 (of_z w128 w))) *ℤ to_z w128 (of_z w128 x) → r ≡ pos (unsigned_abs w) *ℤ number
weighed_is r w x number high small same e =
    let weight : to_z w128 (of_z w128 w) ≡ w = returned w (omega arith) in
    let amount : to_z w128 (of_z w128 x) ≡ x = returned x (omega arith) in
    rw (e, weight, amount, same) refl

pub weighed_within : (r w : ℤ) → unsigned_abs w ≤ 2 ^ 62 → unsigned_abs r ≤ 2 ^ 40 * unsigned_abs (to_z w128 (of_z w128 w))
    → unsigned_abs r ≤ 2 ^ 40 * unsigned_abs w
weighed_within r w high h =
    let weight : to_z w128 (of_z w128 w) ≡ w = returned w (omega arith) in
    rw weight at h

pub weight_returned : (w : ℤ) → unsigned_abs w ≤ 2 ^ 62 → unsigned_abs (to_z w128 (of_z w128 w)) ≤ 2 ^ 62
weight_returned w high = let same : to_z w128 (of_z w128 w) ≡ w = returned w (omega arith) in rw same high

pub not_negative : (w : ℤ) → pos 0 ≤ℤ w → w ≡ pos (unsigned_abs w)
not_negative w h = omega (arith, ints)

total_heavy : (list : List Pair) → total (entries_of list) ≡ pos (heavy list)
unfolding sum_over
total_heavy [] = refl
total_heavy (pair ∷ pairs) = let rest = total_heavy pairs in omega (arith, ints)

pub heavy_at_most : (list : List Pair) → AreWeights list → heavy list ≤ 2 ^ 62
heavy_at_most list h = omega (arith, ints, h.at_most, total_heavy list)

-- each weight of the list is within the sum
weight_within : (list : List Pair) (k : ℕ) (pair : Pair) → slice_get list k ≡ Some pair → unsigned_abs pair.weight ≤ heavy list
weight_within [] k pair e = absurd (cc)
weight_within (first ∷ rest) zero pair e = let same : first ≡ pair = cc in rw (← same) (omega arith)
weight_within (first ∷ rest) (suc k) pair e = omega (arith, weight_within rest k pair e)

pub weight_at_most : (list : List Pair) (k : ℕ) (pair : Pair) → AreWeights list → slice_get list k ≡ Some pair
    → unsigned_abs pair.weight ≤ 2 ^ 62
weight_at_most list k pair h e = omega (arith, weight_within list k pair e, heavy_at_most list h)

pub weight_low : (list : List Pair) (k : ℕ) (pair : Pair) → AreWeights list → k < length list → slice_get list k ≡ Some pair
    → pos 0 ≤ℤ pair.weight
weight_low list k pair h low e =
    let same : get_or list k pair ≡ pair = some_same _ _ (sym (slice_get-get_or list k pair low) ∙ e) in
    let P : Pair → Type 0 = λ p. pos 0 ≤ℤ p.weight in
    subst P same (h.not_negative k pair low)

-- the weights from one pair on
pub heavy_next : (list : List Pair) (k : ℕ) (pair : Pair) → k < length list → slice_get list k ≡ Some pair
    → heavy (drop k list) ≡ unsigned_abs pair.weight + heavy (drop (k + 1) list)
heavy_next list k pair low there = ap heavy (next_pair list k pair low there)

pub heavy_none : (list : List Pair) (k : ℕ) → length list ≤ k → heavy (drop k list) ≡ 0
heavy_none list k h = ap heavy (drop_all k list h)

pub heavy_drop : (list : List Pair) (k : ℕ) → heavy (drop k list) ≤ heavy list
heavy_drop [] zero = omega arith
heavy_drop [] (suc k) = omega arith
heavy_drop (pair ∷ pairs) zero = omega arith
heavy_drop (pair ∷ pairs) (suc k) = omega (arith, heavy_drop pairs k)

-- what stands at a place of a list
pub pair_at : (list : List Pair) (k : ℕ) (pair d : Pair) → slice_get list k ≡ Some pair → get_or list k d ≡ pair
pair_at [] k pair d e = absurd (cc)
pair_at (x ∷ xs) zero pair d e = some_same x pair e
pair_at (x ∷ xs) (suc k) pair d e = pair_at xs k pair d e

pub weights_by_total : (list : List Pair) → All (λ (pair : Pair). pos 0 ≤ℤ pair.weight) list → heavy list ≤ 2 ^ 62 → AreWeights list
weights_by_total list each h = record { not_negative = each; at_most = omega (arith, ints, total_heavy list) }

-- what a list's entries sum to, and what its pairs do
pub weighted_pairs : (number : Entry → ℤ) (list : List Pair)
    → weighted number (entries_of list) ≡ sum_over (λ pair. pos (unsigned_abs pair.weight) *ℤ number (entry_of pair)) list
weighted_pairs number list = sum_over-map (λ (entry : Entry). pos entry.weight *ℤ number entry) entry_of list

pub total_pairs : (list : List Pair) → total (entries_of list) ≡ sum_over (λ pair. pos (unsigned_abs pair.weight)) list
total_pairs list = sum_over-map (λ (entry : Entry). pos entry.weight) entry_of list

-- How large products, sums and what stands in a list can be.
use Rattle.std.proofs.Common.{◌≡◌, ℕ, zero, suc, ◌+◌, ◌*◌, ◌^◌, ◌<◌, ◌≤◌, ◌∙◌, List, [], ◌∷◌, All, Some, length, take, ℤ, pos, negsuc, ◌+ℤ◌, ◌*ℤ◌, ◌≤ℤ◌, unsigned_abs, to_z, of_z, FitsSigned, get_or, refl, sym, ap, subst, arith}
use Rattle.std.proofs.lemmas.Nat.{mul-le}
use Rattle.std.proofs.lemmas.Option.{get_or_from_slice_get, slice_get_within}
use Rattle.std.specs.Prelude.{slice_get, slice_set, slice_index_or, replicate}
use Rattle.deviation_gains.specs.Reach.{reach}
use Rattle.std.specs.Int.{w128}
use Rattle.std.proofs.lemmas.Int.{ints, to_z-of_z}
use Rattle.corr_num.specs.Narrow.{Narrow}
use Rattle.corr_num.proofs.MagnitudeBounds.{product_magnitude, sum_magnitude}
use Rattle.corr_num.proofs.PrintedTerms.{returned}

pub size_back : (z : ℤ) → FitsSigned w128 z → unsigned_abs (to_z w128 (of_z w128 z)) ≡ unsigned_abs z
size_back z f = ap (λ (y : ℤ). unsigned_abs y) (to_z-of_z w128 z f)

-- a number from this place on, and all numbers before the place
pub reach_take : (xs : List ℤ) (f k : ℕ) → f ≤ k → unsigned_abs (slice_index_or xs k (pos 0)) + reach (take f xs) ≤ reach xs
reach_take [] zero k h = omega arith
reach_take [] (suc f) k h = omega arith
reach_take (x ∷ xs) zero zero h = omega arith
reach_take (x ∷ xs) zero (suc k) h = omega (arith, reach_take xs 0 k (omega arith))
reach_take (x ∷ xs) (suc f) zero h = absurd (omega arith)
reach_take (x ∷ xs) (suc f) (suc k) h = omega (arith, reach_take xs f k (omega arith))

pub reach_at : (xs : List ℤ) (k : ℕ) → unsigned_abs (slice_index_or xs k (pos 0)) ≤ reach xs
reach_at xs k = omega (arith, reach_take xs 0 k (omega arith))

pub reach_set : (xs : List ℤ) (k : ℕ) (v : ℤ) → k < length xs → reach (slice_set xs k v) + unsigned_abs (slice_index_or xs k (pos 0)) ≡ reach xs + unsigned_abs v
reach_set [] k v h = absurd (omega arith)
reach_set (x ∷ xs) zero v h = omega arith
reach_set (x ∷ xs) (suc k) v h = omega (arith, reach_set xs k v (omega arith))

-- the value of an element, where the list's have it
pub at_item : {X : Type 0} (P : X → Type 0) (xs : List X) (k : ℕ) (x : X) → All P xs → slice_get xs k ≡ Some x → P x
at_item P xs k x all e = subst P (get_or_from_slice_get xs k x x e) (all k x (slice_get_within xs k x e))

pub reach_zeros : (n : ℕ) → reach (replicate n (pos 0)) ≡ 0
reach_zeros zero = refl
reach_zeros (suc n) = omega (arith, reach_zeros n)

pub positive_product : (a b : ℤ) → pos 1 ≤ℤ a → pos 1 ≤ℤ b → pos 1 ≤ℤ (a *ℤ b)
positive_product (pos m) (pos n) p q = omega (arith, ints, mul-le 1 1 m n (omega (arith, ints)) (omega (arith, ints)))
positive_product (pos m) (negsuc n) p q = absurd (omega (arith, ints))
positive_product (negsuc m) b p q = absurd (omega (arith, ints))

-- a narrow denominator times a scale
pub scaled_size : (a b : ℤ) → Narrow a → pos 1 ≤ℤ b → b ≤ℤ pos (2 ^ 24) → unsigned_abs (a *ℤ b) < 2 ^ 126
scaled_size a b p q r = omega (arith, product_magnitude a b (2 ^ 62) (2 ^ 24) (omega arith) (omega (arith, ints)))

pub at_same : {X : Type 0} (P : X → Type 0) (xs : List X) (j k : ℕ) (x y : X) → j ≡ k → slice_get xs j ≡ Some x → slice_get xs k ≡ Some y → P y → P x
at_same P xs j k x y s e f p = subst P (sym (get_or_from_slice_get xs k y x f) ∙ ap (λ m. get_or xs m x) (sym s) ∙ get_or_from_slice_get xs j x x e) p

pub reach_get : (xs : List ℤ) (k : ℕ) (x : ℤ) → k < length xs → x ≡ get_or xs k x → unsigned_abs x ≤ reach xs
reach_get [] k x h e = absurd (omega arith)
reach_get (y ∷ xs) zero x h e = let same = ap (λ (z : ℤ). unsigned_abs z) e in omega (arith, same)
reach_get (y ∷ xs) (suc k) x h e = omega (arith, reach_get xs k x (omega arith) e)

pub reach_put : (xs : List ℤ) (k : ℕ) (x v : ℤ) → k < length xs → x ≡ get_or xs k x → reach (slice_set xs k v) + unsigned_abs x ≡ reach xs + unsigned_abs v
reach_put [] k x v h e = absurd (omega arith)
reach_put (y ∷ xs) zero x v h e = let same = ap (λ (z : ℤ). unsigned_abs z) e in omega (arith, same)
reach_put (y ∷ xs) (suc k) x v h e = omega (arith, reach_put xs k x v (omega arith) e)

pub sum_size : (r x b : ℤ) → unsigned_abs x ≤ 2 ^ 120 → unsigned_abs b ≤ 2 ^ 120 → r ≡ to_z w128 (of_z w128 x) +ℤ to_z w128 (of_z w128 b) → unsigned_abs (to_z w128 (of_z w128 r)) ≤ unsigned_abs x + unsigned_abs b
sum_size r x b p q e = rw (e, returned x (omega arith), returned b (omega arith), returned (x +ℤ b) (omega (arith, sum_magnitude x b))) (sum_magnitude x b)

pub sum_passed : (r x b : ℤ) → unsigned_abs x ≤ 2 ^ 120 → unsigned_abs b ≤ 2 ^ 120 → r ≡ x +ℤ to_z w128 (of_z w128 b)
    → to_z w128 (of_z w128 r) ≡ x +ℤ b
sum_passed r x b p q e = rw (e, returned b (omega arith)) (returned (x +ℤ b) (omega (arith, sum_magnitude x b)))

pub take_short : (xs : List ℤ) (f : ℕ) → length (take f xs) ≤ f
take_short [] zero = omega arith
take_short [] (suc f) = omega arith
take_short (x ∷ xs) zero = omega arith
take_short (x ∷ xs) (suc f) = omega (arith, take_short xs f)

pub cut_size : (ys xs : List ℤ) (f own : ℕ) (x best : ℤ) → ys ≡ take f xs → own < length ys → x ≡ get_or ys own x → unsigned_abs best + reach (take f xs) ≤ reach xs → unsigned_abs x ≤ reach xs
cut_size ys xs f own x best e low g bound = let cut : reach ys ≡ reach (take f xs) = ap (λ (zs : List ℤ). reach zs) e in omega (arith, reach_get ys own x low g, cut, bound)

pub cut_put : (ys xs : List ℤ) (f own : ℕ) (x best v : ℤ) → ys ≡ take f xs → own < length ys → x ≡ get_or ys own x → unsigned_abs best + reach (take f xs) ≤ reach xs
    → unsigned_abs v ≤ unsigned_abs x + unsigned_abs best → reach (slice_set ys own v) ≤ reach xs
cut_put ys xs f own x best v e low g bound size = let cut : reach ys ≡ reach (take f xs) = ap (λ (zs : List ℤ). reach zs) e in omega (arith, reach_put ys own x v low g, cut, bound, size)

pub cut_length : (ys xs : List ℤ) (f : ℕ) → ys ≡ take f xs → length ys ≤ f
cut_length ys xs f e = let cut : length ys ≡ length (take f xs) = ap (λ (zs : List ℤ). length zs) e in omega (arith, cut, take_short xs f)

-- How large a narrow number's products are, and sums with one, so that they come back from 128 bits as they were.
use Rattle.std.proofs.Common.{◌≡◌, ℕ, zero, suc, ◌+◌, ◌*◌, ◌^◌, ◌<◌, ◌≤◌, List, [], ◌∷◌, length, ℤ, ◌+ℤ◌, ◌*ℤ◌, unsigned_abs, to_z, of_z, refl, ap, arith}
use Rattle.std.specs.Prelude.{slice_set}
use Rattle.std.specs.Int.{w128}
use Rattle.corr_num.specs.Narrow.{Narrow}
use Rattle.corr_num.proofs.MagnitudeBounds.{product_magnitude, sum_magnitude}
use Rattle.corr_num.proofs.PrintedTerms.{returned}

pub product_size : (f n : ℤ) → Narrow f → unsigned_abs (f *ℤ n) ≤ 2 ^ 62 * unsigned_abs n
product_size f n p = product_magnitude f n (2 ^ 62) (unsigned_abs n) (omega arith) (omega arith)

pub more_size : (t f n : ℤ) → Narrow f → unsigned_abs (t +ℤ f *ℤ n) ≤ unsigned_abs t + 2 ^ 62 * unsigned_abs n
more_size t f n p = omega (arith, sum_magnitude t (f *ℤ n), product_size f n p)

pub size_passed : (z : ℤ) (m : ℕ) → unsigned_abs z ≤ m → m < 2 ^ 127 → unsigned_abs (to_z w128 (of_z w128 z)) ≤ m
size_passed z m h s = rw (returned z (omega arith)) h

pub more_passed : (r p t f n : ℤ) → Narrow f → unsigned_abs n ≤ 2 ^ 62 → unsigned_abs t ≤ 2 ^ 125 → p ≡ to_z w128 (of_z w128 f) *ℤ to_z w128 (of_z w128 n)
    → r ≡ to_z w128 (of_z w128 t) +ℤ to_z w128 (of_z w128 p) → to_z w128 (of_z w128 r) ≡ t +ℤ f *ℤ n
more_passed r p t f n narrow small before e g =
    let size : unsigned_abs (f *ℤ n) ≤ 2 ^ 124 = omega (arith, product_size f n narrow) in
    rw (g, e, returned t (omega arith), returned f (omega arith), returned n (omega arith), returned (f *ℤ n) (omega arith))
    (returned (t +ℤ f *ℤ n) (omega (arith, sum_magnitude t (f *ℤ n))))

pub put_length : (xs : List ℤ) (k : ℕ) (v : ℤ) → length (slice_set xs k v) ≡ length xs
put_length [] k v = refl
put_length (x ∷ xs) zero v = refl
put_length (x ∷ xs) (suc k) v = ap suc (put_length xs k v)

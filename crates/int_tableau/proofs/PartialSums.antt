-- A sum of numbers of 64 bits, taken one after another: each partial sum is small enough for 128 bits.
use Rattle.std.proofs.Common.{◌≡◌, ℕ, ◌+◌, ◌*◌, ◌^◌, ◌<◌, ◌≤◌, ℤ, ◌+ℤ◌, unsigned_abs, FitsSigned, to_z, of_z, arith, sym}
use Rattle.std.specs.Int.{w64, w128}
use Rattle.exact_algebra.specs.Sums.{sum_to}
use Rattle.exact_algebra.proofs.Sums.{sum_to-add_one}
use Rattle.corr_num.proofs.MagnitudeBounds.{sum_magnitude, word_magnitude}
use Rattle.corr_num.proofs.PrintedTerms.{returned}

-- the sum of the first k numbers
pub record IsSumOf (f : ℕ → ℤ) (k : ℕ) (total : ℤ) : Type 0 where
  pub value : total ≡ sum_to k f
  pub bound : unsigned_abs total ≤ k * 2 ^ 63

pub one_more : (f : ℕ → ℤ) (k : ℕ) (total x new : ℤ) → k < 2 ^ 24 → IsSumOf f k total → FitsSigned w64 x → x ≡ f k → new ≡ total +ℤ x → IsSumOf f (k + 1) (to_z w128 (of_z w128 new))
one_more f k total x new few so_far fits same e =
    let magnitude : unsigned_abs x ≤ 2 ^ 63 = word_magnitude x fits in
    let bound : unsigned_abs (total +ℤ x) ≤ (k + 1) * 2 ^ 63 = omega (arith, sum_magnitude total x, so_far.bound) in
    let back : to_z w128 (of_z w128 (total +ℤ x)) ≡ total +ℤ x = returned (total +ℤ x) (omega arith) in
    rw (e, back) (record { value = rw (so_far.value, same) (sym (sum_to-add_one k f)); bound = bound })

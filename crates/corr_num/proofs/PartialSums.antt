-- The sums on the way to a dot product of n narrow numbers and n numbers whose magnitude, n times, is at most 2^64: n times the
-- sum of k products is at most k times 2^126.
use Rattle.std.proofs.Common.{◌≡◌, ℕ, suc, ◌*◌, ◌^◌, ◌<◌, ◌≤◌, ℤ, ◌+ℤ◌, ◌*ℤ◌, unsigned_abs, FitsSigned, to_z, of_z, ⊎_elim, ap, arith}
use Rattle.std.specs.Int.{w128}
use Rattle.std.proofs.Math.Nat.{mul-le-mul_left}
use Rattle.std.proofs.lemmas.Bool.{cases_lt}
use Rattle.std.proofs.lemmas.Int.{unsigned_abs-mul}
use Rattle.std.proofs.lemmas.Nat.{mul-le}
use Rattle.corr_num.specs.Narrow.{Narrow}
use Rattle.corr_num.proofs.MagnitudeBounds.{sum_magnitude}
use Rattle.corr_num.proofs.PrintedTerms.{fits, returned}

pub partial_sum_more : (n k : ℕ) (t y x : ℤ) → Narrow y → n * unsigned_abs x ≤ 2 ^ 64 → n * unsigned_abs t ≤ k * 2 ^ 126 → n * unsigned_abs (t +ℤ y *ℤ x) ≤ suc k * 2 ^ 126
partial_sum_more n k t y x narrow small so_far =
    let whole = mul-le-mul_left n (sum_magnitude t (y *ℤ x)) in
    let spread = ap (λ (m : ℕ). n * m) (unsigned_abs-mul y x) in
    let last = mul-le (unsigned_abs y) (n * unsigned_abs x) (2 ^ 62) (2 ^ 64) (omega arith) small in
    omega arith

-- below 2^126 before the last product, and up to 2^126 with it
pub partial_sum_bound : (n k : ℕ) (t : ℤ) → k < n → n * unsigned_abs t ≤ k * 2 ^ 126 → unsigned_abs t < 2 ^ 126
partial_sum_bound n k t more so_far = ⊎_elim (λ l. l) (λ l. absurd (omega (arith, mul-le-mul_left n l))) (cases_lt (unsigned_abs t) (2 ^ 126))

pub whole_sum_bound : (n k : ℕ) (t : ℤ) → 0 < n → k ≤ n → n * unsigned_abs t ≤ k * 2 ^ 126 → unsigned_abs t < 2 ^ 127
whole_sum_bound n k t some within so_far = ⊎_elim (λ l. l) (λ l. absurd (omega (arith, mul-le-mul_left n l))) (cases_lt (unsigned_abs t) (2 ^ 127))

pub partial_sum_fits : (n k : ℕ) (t y x : ℤ) → k < n → Narrow y → n * unsigned_abs x ≤ 2 ^ 64 → n * unsigned_abs t ≤ k * 2 ^ 126 → FitsSigned w128 (t +ℤ y *ℤ x)
partial_sum_fits n k t y x more narrow small so_far =
    fits (t +ℤ y *ℤ x) (whole_sum_bound n (suc k) (t +ℤ y *ℤ x) (omega arith) more (partial_sum_more n k t y x narrow small so_far))

pub partial_sum_returned : (n k : ℕ) (t y x : ℤ) → k < n → Narrow y → n * unsigned_abs x ≤ 2 ^ 64 → n * unsigned_abs t ≤ k * 2 ^ 126 → to_z w128 (of_z w128 (t +ℤ y *ℤ x)) ≡ t +ℤ y *ℤ x
partial_sum_returned n k t y x more narrow small so_far =
    returned (t +ℤ y *ℤ x) (whole_sum_bound n (suc k) (t +ℤ y *ℤ x) (omega arith) more (partial_sum_more n k t y x narrow small so_far))

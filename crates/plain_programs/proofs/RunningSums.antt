-- A sum that is taken term by term in 128 bits: no term is above a bound, so no partial sum leaves them.
use Rattle.std.proofs.Common.{◌≡◌, ℕ, ◌+◌, ◌*◌, ◌^◌, ◌<◌, ◌≤◌, ℤ, pos, ◌+ℤ◌, unsigned_abs, to_z, of_z, arith, sym, ap, ◌∙◌}
use Rattle.std.specs.Int.{w128}
use Rattle.exact_algebra.specs.Sums.{sum_to}
use Rattle.exact_algebra.proofs.Sums.{sum_to-add_one, sum_to-zero}
use Rattle.corr_num.proofs.MagnitudeBounds.{sum_magnitude}
use Rattle.corr_num.proofs.PrintedTerms.{returned}

-- the sum of the first k terms, none of which is above `most`
pub record IsSumOf (f : ℕ → ℤ) (most k : ℕ) (total : ℤ) : Type 0 where
  pub value : total ≡ sum_to k f
  pub bound : unsigned_abs total ≤ k * most

pub no_term : (f : ℕ → ℤ) (most : ℕ) → IsSumOf f most 0 (pos 0)
no_term f most = record { value = sym (sum_to-zero f); bound = omega arith }

pub one_more : (f : ℕ → ℤ) (most k : ℕ) (total x new : ℤ) → (k + 1) * most < 2 ^ 127 → IsSumOf f most k total → unsigned_abs x ≤ most
    → x ≡ f k → new ≡ total +ℤ to_z w128 (of_z w128 x) → IsSumOf f most (k + 1) (to_z w128 (of_z w128 new))
one_more f most k total x new few so_far small same e =
    let bound : unsigned_abs (total +ℤ x) ≤ (k + 1) * most = omega (arith, sum_magnitude total x, so_far.bound) in
    let term : to_z w128 (of_z w128 x) ≡ x = returned x (omega arith) in
    let back : to_z w128 (of_z w128 (total +ℤ x)) ≡ total +ℤ x = returned (total +ℤ x) (omega arith) in
    rw (e, term, back) (record { value = rw (so_far.value, same) (sym (sum_to-add_one k f)); bound = bound })

-- the sum of all terms
pub all_terms : {f : ℕ → ℤ} {most k : ℕ} {total : ℤ} (n : ℕ) → IsSumOf f most k total → k ≡ n → total ≡ sum_to n f
all_terms {f} n so_far e = so_far.value ∙ ap (λ (m : ℕ). sum_to m f) e

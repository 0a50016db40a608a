-- What exact division leaves: 0 of 0, and the number itself of its product with the divisor.
use Rattle.std.proofs.Common.{◌≡◌, ◌↔◌, ◌⊎◌, inl, inr, ◌^◌, ℤ, pos, ◌*ℤ◌, ◌-ℤ◌, ◌<ℤ◌, unsigned_abs, Some, None, FitsSigned, to_z, of_z, arith}
use Rattle.std.specs.Int.{w64, w128}
use Rattle.std.proofs.lemmas.Int.{fits_signed_from_abs, to_z-of_z}
use Rattle.std.proofs.lemmas.Bool.{cases_lt}
use Rattle.corr_num.specs.Narrow.{Narrow, Wide}
use Rattle.corr_num.proofs.PrintedTerms.{narrow_returned}
use Rattle.exact_algebra.proofs.Order.{cancel_positive}
use Rattle.exact_algebra.proofs.RingTactic.{ring_laws, linear}

pub zero_of_zeros : (a p b c d q : ℤ) → a ≡ pos 0 → c ≡ pos 0 → pos 0 <ℤ d → q *ℤ d ≡ a *ℤ p -ℤ b *ℤ c → pos 0 ≡ q
zero_of_zeros a p b c d q f g h e =
    let numerator = rw (f, g) at e in
    let products : d *ℤ pos 0 ≡ d *ℤ q = simp ring_laws (omega (arith, linear, simp ring_laws at numerator)) in
    cancel_positive d h products

pub same_without : (a p b c d q : ℤ) → b ≡ pos 0 → p ≡ d → pos 0 <ℤ d → q *ℤ d ≡ a *ℤ p -ℤ b *ℤ c → a ≡ q
same_without a p b c d q f g h e =
    let numerator = rw (f, g) at e in
    let products : d *ℤ a ≡ d *ℤ q = simp ring_laws (omega (arith, linear, simp ring_laws at numerator)) in
    cancel_positive d h products

-- what `pivot_entry` answers is the quotient, as it can't be wide
pub some_quotient : (r q : ℤ) → (Narrow q → Some r ≡ Some q) → (Some r ≡ None) ↔ Wide q → r ≡ q
some_quotient r q exact wide = by_cases (cases_lt (unsigned_abs q) (2 ^ 62))
  where
    by_cases : Narrow q ⊎ Wide q → r ≡ q
    by_cases (inl h) = let same : Some r ≡ Some q = exact h in cc
    by_cases (inr h) = let none : Some r ≡ None = wide.1 h in absurd (cc)

pub narrow_fits_word : (r : ℤ) → Narrow r → FitsSigned w64 r
narrow_fits_word r h = fits_signed_from_abs w64 r (omega arith)

-- a narrow number goes to 64 bits and back
pub word_of_narrow : (r : ℤ) → Narrow r → to_z w64 (of_z w64 (to_z w128 (of_z w128 r))) ≡ r
word_of_narrow r h = rw (narrow_returned r h) (to_z-of_z w64 r (narrow_fits_word r h))

pub word_of : (r v : ℤ) → r ≡ v → Narrow v → to_z w64 (of_z w64 (to_z w128 (of_z w128 r))) ≡ v
word_of r v e h = rw e (word_of_narrow v h)

-- Two numbers have one greatest common divisor.
use Rattle.std.proofs.Common.{◌≡◌, ℕ, IsTrue, unsigned_abs, refl, subst, arith}
use Rattle.std.specs.Prelude.{nat_eq}
use Rattle.std.specs.Int.{IsGcd}
use Rattle.std.proofs.lemmas.Bool.Decides.{nat_tests}
use Rattle.std.proofs.lemmas.Nat.Gcd.{same_from_IsGcd}
use Rattle.corr_num.proofs.PrintedTerms.{narrow_returned}
use Rattle.polygon_check.proofs.sides.is_coprime.Goals as goal

one_tested : (g a b : ℕ) → IsGcd a b g → (IsTrue (nat_eq g 1) → IsGcd a b 1) × (IsGcd a b 1 → IsTrue (nat_eq g 1))
one_tested g a b divisor = (
  λ yes. let one : g ≡ 1 = grind (arith, nat_tests) in subst (λ n. IsGcd a b n) one divisor,
  λ coprime. let one : g ≡ 1 = same_from_IsGcd a b g 1 divisor coprime in rw one refl,
)

pub returns : goal.returns
returns c =
    let dir = c.args.dir.now in
    let a = rw (narrow_returned dir.a dir.a_narrow) at c.unsigned_abs.ensures.value in
    let b = rw (narrow_returned dir.b dir.b_narrow) at c.unsigned_abs-2.ensures.value in
    one_tested c.gcd.result (unsigned_abs dir.a) (unsigned_abs dir.b) (rw (a, b) at c.gcd.ensures)

-- The test for a denominator of 1 decides which form a fraction's text has.
use Rattle.std.proofs.Common.{◌≡◌, ◌≢◌, pos, Bool, true, false, refl}
use Rattle.std.specs.Bool.{Decides}
use Rattle.std.specs.Fmt.{signed_decimal}
use Rattle.std.specs.Ordering.{int_eq}
use Rattle.std.proofs.lemmas.Bool.Decides.{Decides-int_eq}
use Rattle.corr_num.specs.Fraction.{Fraction}
use Rattle.report_text.specs.PartText.{frac_text, quotient_text}

test_false : {P : Type 0} (test : Bool) → Decides test P → (P → ⊥) → test ≡ false
test_false true d n = absurd (n (d.0 refl))
test_false false d n = refl

pub whole_text : (f : Fraction) → f.den ≡ pos 1 → frac_text f ≡ signed_decimal f.num
unfolding frac_text
whole_text f e = rw e refl

pub parts_text : (f : Fraction) → f.den ≢ pos 1 → frac_text f ≡ quotient_text f.num f.den
unfolding frac_text
parts_text f n = rw (test_false (int_eq f.den (pos 1)) (Decides-int_eq f.den (pos 1)) n) refl

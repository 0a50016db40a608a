-- What the test of a fraction tells.
use Rattle.std.proofs.Common.{◌≡◌, ℕ, ◌*◌, ◌%◌, Bool, ◌&&◌, IsTrue, sym, ◌∙◌, ap, arith}
use Rattle.std.proofs.Math.Dec.{eqb}
use Rattle.std.proofs.Math.Nat.{mul_comm}
use Rattle.std.proofs.lemmas.Bool.Decides.{nat_tests}
use Rattle.std.proofs.lemmas.Nat.{mul-mod_second}

pub first_same : (a b x y : ℕ) (r : Bool) → r ≡ (eqb a b && eqb x y) → IsTrue r → a ≡ b
first_same a b x y r told true = grind (arith, nat_tests)

pub second_same : (a b x y : ℕ) (r : Bool) → r ≡ (eqb a b && eqb x y) → IsTrue r → x ≡ y
second_same a b x y r told true = grind (arith, nat_tests)

-- the product of a number and the remainder of a denominator
pub product_same : (v d p t o n : ℕ) → t ≡ v * o % p → o ≡ d % p → t ≡ n → d * v % p ≡ n
product_same v d p t o n product rest same =
    ap (λ x. x % p) (mul_comm d v) ∙ sym (mul-mod_second v d p) ∙ ap (λ x. v * x % p) (sym rest) ∙ sym product ∙ same

-- Units, amounts and right sides of which one is 1 are small.
use Rattle.std.proofs.Common.{◌≡◌, ◌⊎◌, ℕ, zero, suc, ◌+◌, ◌^◌, pos, inl, inr, arith}
use Rattle.lp_form.specs.Program.{LpView, right_of}
use Rattle.lp_form.specs.Small.{IsSmall}
use Rattle.plan_polytope.specs.Bounds.{AreUnits, IsWithin}

pub units_small : (lp : LpView) → AreUnits lp → IsWithin (2 ^ 40) lp → right_of lp 0 ≡ pos 1 → ((r : ℕ) → right_of lp (r + 1) ≡ pos 0) → IsSmall lp
units_small lp units amounts one zeros = record {
  coefficients = λ row col. omega (arith, units row col);
  payoffs = λ side col. omega (arith, amounts side col);
  rights = either;
}
  where
    either : (row : ℕ) → (right_of lp row ≡ pos 0) ⊎ (right_of lp row ≡ pos 1)
    either zero = inr one
    either (suc row) = let next : suc row ≡ row + 1 = omega arith in rw next (inl (zeros row))

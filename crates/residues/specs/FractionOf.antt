-- Rational reconstruction: Wang, A p-adic algorithm for univariate partial fractions (1981).
use Rattle.std.specs.Prelude.{◌≡◌, pos, ◌*ℤ◌}
use Rattle.residues.specs.declared.remainders.TheConstants.{P1, P2}
use Rattle.residues.specs.declared.fractions.Fraction.{Fraction}
use Rattle.residues.specs.declared.numbers.Residue.{Residue}
use Rattle.residues.specs.Remainder.{remainder}

-- the denominator times the number has the numerator's remainders
pub record IsFractionOf (f : Fraction) (value : Residue) : Type 0 where
  pub first : remainder (f.den *ℤ pos value.first) P1 ≡ remainder f.num P1
  pub second : remainder (f.den *ℤ pos value.second) P2 ≡ remainder f.num P2

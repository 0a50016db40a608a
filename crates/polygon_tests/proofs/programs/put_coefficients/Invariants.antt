-- The program stays a tested one.
use Rattle.polygon_tests.specs.Tested.{IsTested}
use Rattle.polygon_tests.proofs.programs.put_coefficients.Given as goal

abbrev pub invariant-loop-row : goal.invariant-loop-row
invariant-loop-row g l = IsTested l.lp

-- The program stays a tested one.
use Rattle.polygon_tests.specs.Tested.{IsTested}
use Rattle.polygon_tests.proofs.programs.put_payoffs.Given as goal

abbrev pub invariant-loop-side : goal.invariant-loop-side
invariant-loop-side g l = IsTested l.lp

-- What is listed and what is left are all the values.
use Rattle.std.proofs.Common.{◌≡◌, ◌++◌, drop}
use Rattle.polygon_sweep.proofs.readings.listed.Given as goal

abbrev pub invariant-loop-value : goal.invariant-loop-value
invariant-loop-value l = l.list ++ drop l.value-index l.values ≡ l.values

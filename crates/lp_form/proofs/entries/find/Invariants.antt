use Rattle.std.proofs.Common.{◌-◌}
use Rattle.lp_form.proofs.Placing.{Within}
use Rattle.lp_form.proofs.entries.find.Given as goal

abbrev pub invariant-loop-low : goal.invariant-loop-low
invariant-loop-low l = Within l.entries l.col l.low l.high

abbrev pub decreases-loop-low : goal.decreases-loop-low
decreases-loop-low l = l.high - l.low

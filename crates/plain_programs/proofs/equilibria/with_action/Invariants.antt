-- The actions so far stand in the new list.
use Rattle.std.proofs.Common.{◌≡◌, ◌++◌, drop}
use Rattle.plain_programs.proofs.equilibria.with_action.Given as goal

abbrev pub invariant-loop-earlier : goal.invariant-loop-earlier
invariant-loop-earlier l = l.longer.items ++ drop l.earlier-index l.front ≡ l.front

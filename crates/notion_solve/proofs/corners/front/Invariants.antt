-- The numbers gone over, each narrow.
use Rattle.std.proofs.Common.{◌≡◌, take, All}
use Rattle.corr_num.specs.Narrow.{Narrow}
use Rattle.notion_solve.proofs.corners.front.Given as goal

abbrev pub invariant-loop-k : goal.invariant-loop-k
invariant-loop-k l = (l.part ≡ take l.k l.list) × All Narrow l.part

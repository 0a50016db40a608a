-- All rules of the corners passed hold.
use Rattle.cert_check.specs.Truth.{AreBefore, IsTrueCorner}
use Rattle.cert_check.proofs.blocks.check_corners.Given as goal

abbrev pub invariant-loop-k : goal.invariant-loop-k
invariant-loop-k l = AreBefore (IsTrueCorner l.game l.notion) l.corners l.k

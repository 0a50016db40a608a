-- The points and the sides stay, and all rules of the sides passed hold.
use Rattle.std.proofs.Common.{◌≡◌}
use Rattle.cert_check.specs.Certified.{whole_of}
use Rattle.cert_check.specs.Truth.{AreBefore, IsTrueSide}
use Rattle.cert_check.proofs.blocks.check_sides.Given as goal

abbrev pub invariant-loop-k : goal.invariant-loop-k
invariant-loop-k l =
    (l.points.items ≡ l.initial.points.items)
    × (l.sides ≡ l.initial.sides)
    × AreBefore (IsTrueSide l.game (whole_of l.program) l.corners) l.sides l.k

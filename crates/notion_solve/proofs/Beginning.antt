-- The direction with which the turn begins.
use Rattle.std.proofs.Common.{pos, arith}
use Rattle.plane_hull.specs.declared.directions.Dir.{Dir}

abbrev pub right : Dir
right = record { a = pos 1; b = pos 0; a_narrow = omega arith; b_narrow = omega arith }

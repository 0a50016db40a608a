-- The direction is that of the costs turned left.
use Rattle.std.proofs.Common.{pos, ◌-ℤ◌, arith}
use Rattle.std.proofs.lemmas.Int.{ints}
use Rattle.corr_num.specs.Narrow.{Narrow}
use Rattle.corr_num.proofs.PrintedTerms.{narrow_returned}
use Rattle.polygon_sweep.proofs.bearings.bound_of.Goals as goal

pub returns-else-first-eq0-clause-bound : goal.returns-else-first-eq0-clause-bound
returns-else-first-eq0-clause-bound c =
    let turned : Narrow (pos 0 -ℤ c.args.second) = omega (arith, ints, c.requires.second) in
    let (by, over, a_is, b_is) = c.direction_of.ensures.same in
    record {
      by = by;
      positive = over;
      a = rw (narrow_returned c.args.second c.requires.second, narrow_returned (pos 0 -ℤ c.args.second) turned) at a_is;
      b = rw (narrow_returned c.args.first c.requires.first) at b_is;
    }

-- In each quarter the next axis; the first axis itself is followed by the second.
use Rattle.std.proofs.Common.{arith}
use Rattle.std.proofs.lemmas.Int.{ints}
use Rattle.corr_num.proofs.PrintedTerms.{narrow_returned}
use Rattle.polygon_sweep.proofs.Axes.{from_first_axis}
use Rattle.polygon_sweep.proofs.bearings.axis_behind.Goals as goal

pub returns-clause-turns : goal.returns-clause-turns
returns-clause-turns c =
    let up = rw (narrow_returned c.args.dir.now.b c.args.dir.now.b_narrow) at c.if-dir-gt0.false in
    let left = rw (narrow_returned c.args.dir.now.a c.args.dir.now.a_narrow) at c.if-dir-lt0.false in
    let down = rw (narrow_returned c.args.dir.now.b c.args.dir.now.b_narrow) at c.if-dir-lt0-2.false in
    from_first_axis c.args.dir.now.a c.args.dir.now.b c.requires (omega (arith, ints)) (omega (arith, ints)) (omega (arith, ints))

-- One coefficient is another one.
use Rattle.std.proofs.Common.{rules, ◌^◌, ◌<◌, unsigned_abs, FitsSigned, to_z, of_z}
use Rattle.std.specs.Int.{w64}
use Rattle.std.proofs.lemmas.Int.{to_z-of_z}
use Rattle.polygon_tests.proofs.OneChange.{tested_coefficient}
use Rattle.polygon_tests.proofs.programs.put.Goals as goal

pub returns : goal.returns
returns c =
    let done = c.in_ok-set.ensures in
    let fits : FitsSigned w64 c.wide.result = search rules in
    let small : unsigned_abs (to_z w64 (of_z w64 c.wide.result)) < 2 ^ 51 = rw (to_z-of_z w64 c.wide.result fits) c.wide.ensures in
    tested_coefficient c.args.lp.now c.set.new.self c.args.row c.args.col _ small done.placed done.others done.rows_alone done.as_many c.requires.tested

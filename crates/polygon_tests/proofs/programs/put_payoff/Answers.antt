-- One payoff is another one.
use Rattle.std.proofs.Common.{rules, ◌^◌, ◌<◌, unsigned_abs, FitsSigned, to_z, of_z}
use Rattle.std.specs.Int.{w64}
use Rattle.std.proofs.lemmas.Int.{to_z-of_z}
use Rattle.polygon_tests.proofs.OneChange.{tested_payoff}
use Rattle.polygon_tests.proofs.programs.put_payoff.Goals as goal

pub returns : goal.returns
returns c =
    let done = c.in_ok-set_payoff.ensures in
    let fits : FitsSigned w64 c.wide.result = search rules in
    let small : unsigned_abs (to_z w64 (of_z w64 c.wide.result)) < 2 ^ 51 = rw (to_z-of_z w64 c.wide.result fits) c.wide.ensures in
    tested_payoff c.args.lp.now c.set_payoff.new.self c.args.side c.args.col _ small done.placed done.others done.that_row_alone c.requires.tested

-- The sides of a block that was found are in their ranges; its corners, its belt and its sides are true.
use Rattle.std.proofs.Common.{sym, subst}
use Rattle.report_form.specs.declared.reports.Block.{Block}
use Rattle.cert_check.specs.Certified.{whole_of}
use Rattle.cert_check.specs.Truth.{IsTrueBlock}
use Rattle.cert_check.proofs.blocks.check_block.Goals as goal

pub check_sides-requires-clause-ranges : goal.check_sides-requires-clause-ranges
check_sides-requires-clause-ranges c = (rw c.in-Found.is at c.requires.ranges).3

pub returns-in-Found-clause-held : goal.returns-in-Found-clause-held
returns-in-Found-clause-held c =
    let g = c.args.game.now in
    let lp = whole_of c.in_ok-program.program in
    let notion = c.args.named.now.notion in
    let sides = c.in_ok-check_sides-in-Found.ensures.held in
    let Holds : Block → Type 0 = λ block. IsTrueBlock g lp notion block in
    (lp, c.in_ok-program.ensures.whose, subst Holds (sym c.in-Found.is) (c.in_ok-check_corners-in-Found.ensures.held, sides.0, sides.1))

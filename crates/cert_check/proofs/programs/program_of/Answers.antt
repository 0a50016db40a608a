-- The two parts are the notion's program.
use Rattle.plan_polytope.proofs.NotionProgram.{program_of_parts}
use Rattle.cert_check.proofs.programs.program_of.Goals as goal

pub returns-clause-whose : goal.returns-clause-whose
returns-clause-whose c =
    let base = c.in_ok-base.ensures in
    let more = c.in_ok-more.ensures in
    program_of_parts c.args.game.now c.args.pairs.now c.args.notion c.in_ok-base.base c.in_ok-more.more _ _ c.requires.size.2
    (record { columns = base.columns; a_row = base.a_row; correlation = base.correlation; payoffs = base.payoffs; total = base.total; others = base.other_rights })
    (record { columns = more.columns; rows = more.rows; of_one = more.rows_of_one; of_two = more.rows_of_two; rights = more.rights })

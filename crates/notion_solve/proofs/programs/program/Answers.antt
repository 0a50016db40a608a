-- Both parts are small, and both have as many rows together as the size says.
use Rattle.std.proofs.Common.{arith, rules}
use Rattle.lp_form.proofs.Solving.{solution_alike}
use Rattle.int_tableau.proofs.Narrowness.{small_starts_narrow}
use Rattle.lp_form.proofs.JoinedRights.{is_program}
use Rattle.plan_polytope.proofs.NotionProgram.{program_of_parts}
use Rattle.notion_solve.proofs.Joined.{as_many_rows}
use Rattle.notion_solve.proofs.programs.program.Goals as goal

pub returns-clause-program : goal.returns-clause-program
returns-clause-program c =
    rw c.in_ok-lp.ensures.both (is_program c.in_ok-base.base c.in_ok-more.more c.in_ok-base.ensures.a_row c.in_ok-base.ensures.total c.in_ok-base.ensures.other_rights c.in_ok-more.ensures.rights)

pub returns-clause-few_rows : goal.returns-clause-few_rows
returns-clause-few_rows c =
    let size = c.requires.size in
    let rows = as_many_rows c.args.game.now c.args.pairs.now c.args.notion c.in_ok-base.base c.in_ok-more.more size.0 size.1 size.2
    c.in_ok-base.ensures.rows c.in_ok-more.ensures.rows in
    rw c.in_ok-lp.ensures.both (omega (arith, rows, size.3))

pub returns-clause-small : goal.returns-clause-small
returns-clause-small c = c.in_ok-lp.ensures.small c.in_ok-base.ensures.small c.in_ok-more.ensures.small

pub returns-clause-narrow : goal.returns-clause-narrow
returns-clause-narrow c = small_starts_narrow c.in_ok-lp.lp (returns-clause-small c) (returns-clause-few_rows c)

pub returns-clause-bounded : goal.returns-clause-bounded
returns-clause-bounded c = c.in_ok-lp.ensures.bounded c.in_ok-base.ensures.bounded

pub returns-clause-over_rows : goal.returns-clause-over_rows
returns-clause-over_rows c = record {
  columns = search rules;
  meets = λ values total x count same s. c.in_ok-base.ensures.meets values total count
      (solution_alike c.in_ok-base.base total x _ (λ k low. same k (omega (arith, low, c.in_ok-base.ensures.columns))) (c.in_ok-lp.ensures.solutions total x s));
}

pub returns-clause-whose : goal.returns-clause-whose
returns-clause-whose c =
    let base = c.in_ok-base.ensures in
    let more = c.in_ok-more.ensures in
    rw c.in_ok-lp.ensures.both
    (program_of_parts c.args.game.now c.args.pairs.now c.args.notion c.in_ok-base.base c.in_ok-more.more _ _ c.requires.size.2
    (record { columns = base.columns; a_row = base.a_row; correlation = base.correlation; payoffs = base.payoffs; total = base.total; others = base.other_rights })
    (record { columns = more.columns; rows = more.rows; of_one = more.rows_of_one; of_two = more.rows_of_two; rights = more.rights }))

-- The rules of the first program's rows carry over to more columns, those of the second stand as they are. What solves
-- both solves the first, whose payoffs are paid.
use Rattle.lp_form.proofs.Joining.{joined_as, small_as}
use Rattle.lp_form.proofs.Solving.{bounded_too, pays_as, solves_as}
use Rattle.lp_form.proofs.programs.Lp.join.Goals as goal

pub invariant_of-result : goal.invariant_of-result
invariant_of-result c =
    rw (c.in_ok-append.ensures.items, c.in_ok-append-2.ensures.items)
    (joined_as c.base.view_is c.more.view_is c.base.invariant c.more.invariant c.requires.columns c.requires.few_rows)

pub returns-clause-solutions : goal.returns-clause-solutions
returns-clause-solutions c =
    rw (c.in_ok-append.ensures.items, c.in_ok-append-2.ensures.items)
    (solves_as c.base.view_is c.more.view_is c.base.invariant c.requires.columns)

pub returns-clause-payoffs : goal.returns-clause-payoffs
returns-clause-payoffs c =
    rw (c.in_ok-append.ensures.items, c.in_ok-append-2.ensures.items)
    (pays_as c.base.view_is c.more.view_is c.base.invariant c.requires.columns)

pub returns-clause-bounded : goal.returns-clause-bounded
returns-clause-bounded c = λ base.
    rw (c.in_ok-append.ensures.items, c.in_ok-append-2.ensures.items)
    (bounded_too _ c.args.base (solves_as c.base.view_is c.more.view_is c.base.invariant c.requires.columns) (pays_as c.base.view_is c.more.view_is c.base.invariant c.requires.columns) base)

pub returns-clause-small : goal.returns-clause-small
returns-clause-small c = λ base more.
    rw (c.in_ok-append.ensures.items, c.in_ok-append-2.ensures.items) (small_as c.base.view_is c.more.view_is base more)

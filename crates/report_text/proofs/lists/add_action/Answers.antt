-- The action's number is one more in the text.
use Rattle.report_text.specs.PartText.{action_text}
use Rattle.report_text.proofs.lists.add_action.Goals as goal

pub returns-in-None-clause-ok : goal.returns-in-None-clause-ok
unfolding action_text
returns-in-None-clause-ok c = rw c.in-None.is c.add_bytes.ensures.ok

pub returns-in-Some-clause-ok : goal.returns-in-Some-clause-ok
unfolding action_text
returns-in-Some-clause-ok c =
    let added = rw c.from.ensures at c.add_spaced.ensures.ok in
    rw c.in-Some.is added

pub returns-in-Some-clause-err : goal.returns-in-Some-clause-err
unfolding action_text
returns-in-Some-clause-err c =
    let added = rw c.from.ensures at c.add_spaced.ensures.err in
    rw c.in-Some.is added

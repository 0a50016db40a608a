-- An open set has a move of positive value, and the next one is a centre.
use Rattle.plan_decompose.proofs.Going.{goes_on, next_centre}
use Rattle.plan_decompose.proofs.Joining.{is_there}
use Rattle.plan_decompose.proofs.walks.Walk.settle.Goals as goal

pub unwrap-action-requires : goal.unwrap-action-requires
unwrap-action-requires c =
    let at = c.args.at in
    let r = c.requires in
    is_there c.positive_action.result c.positive_action.ensures.stuck
    (λ stuck. goes_on c.args.game.now c.args.pairs.now c.args.values.now r.whose r.rules r.solution c.args.self.now r.before r.fair at.side at.set at.beside stuck.0 r.is_open stuck.1 stuck.2)

pub returns-clause-fair : goal.returns-clause-fair
returns-clause-fair c =
    let r = c.requires in
    let gain = rw c.unwrap-action.ensures at c.positive_action.ensures.gain in
    c.choose.ensures.fair c.args.values.now gain.0 r.solution r.fair (next_centre c.args.game.now c.args.pairs.now c.args.values.now c.args.self.now r.whose r.solution r.before r.fair c.args.at r.is_open r.next) gain.1 gain.2

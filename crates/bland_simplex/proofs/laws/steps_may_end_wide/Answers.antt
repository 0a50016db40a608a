use Rattle.bland_simplex.proofs.Reaching.{listed_wide, step_leaves_wide}
use Rattle.bland_simplex.proofs.laws.steps_may_end_wide.Goals as goal

pub returns : goal.returns
returns c lp heading dir last new row col columns place may heads step ended lists =
    listed_wide lp new place columns (step_leaves_wide lp heading dir last new row col place may heads step ended) lists

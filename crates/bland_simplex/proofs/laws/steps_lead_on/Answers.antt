use Rattle.std.proofs.Common.{inl, inr}
use Rattle.bland_simplex.proofs.Reaching.{steps_may}
use Rattle.bland_simplex.specs.Steps.{IsFirstStep, IsTurning}
use Rattle.bland_simplex.proofs.laws.steps_lead_on.Goals as goal

pub returns-clause-first : goal.returns-clause-first
returns-clause-first c lp heading dir t last heads may led =
    steps_may lp heading dir (IsFirstStep lp) t last (λ at row col step. inl step) heads may led

pub returns-clause-turning : goal.returns-clause-turning
returns-clause-turning c lp heading dir t last heads may led =
    steps_may lp heading dir (IsTurning lp dir) t last (λ at row col step. inr step) heads may led

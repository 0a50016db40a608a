use Rattle.notion_solve.proofs.Rightness.{paid_is_mixture}
use Rattle.notion_solve.proofs.laws.what_lists_pay_is_mixed_of_corners.Goals as goal

pub returns : goal.returns
returns c notion g p lp corners sides point game right over = paid_is_mixture notion g p lp corners sides right point game over

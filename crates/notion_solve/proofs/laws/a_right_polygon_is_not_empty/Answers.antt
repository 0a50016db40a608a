use Rattle.notion_solve.proofs.Rightness.{not_empty}
use Rattle.notion_solve.proofs.laws.a_right_polygon_is_not_empty.Goals as goal

pub returns : goal.returns
returns c notion g p lp other corners sides multipliers right empty = not_empty notion g p lp corners sides right other multipliers empty

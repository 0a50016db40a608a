use Rattle.notion_solve.proofs.Rightness.{polygons_are_one}
use Rattle.notion_solve.proofs.laws.right_polygons_are_one.Goals as goal

pub returns : goal.returns
returns c = polygons_are_one

use Rattle.triangle_test.proofs.ByTree.{by_tree}
use Rattle.triangle_test.proofs.laws.triangles_are_those_of_the_tree.Goals as goal

pub returns : goal.returns
returns c = by_tree

use Rattle.triangle_test.proofs.ByTree.{least_by_tree}
use Rattle.triangle_test.proofs.laws.the_least_triangle_is_that_of_the_tree.Goals as goal

pub returns : goal.returns
returns c = least_by_tree

use Rattle.triangle_test.proofs.PublicClass.{none_in_pairs, none_in_tree}
use Rattle.triangle_test.proofs.laws.public_chance_leaves_no_triangle.Goals as goal

pub returns-clause-tree : goal.returns-clause-tree
returns-clause-tree c = none_in_tree

pub returns-clause-pairs : goal.returns-clause-pairs
returns-clause-pairs c = none_in_pairs

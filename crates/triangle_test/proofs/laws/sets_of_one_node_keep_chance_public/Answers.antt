use Rattle.triangle_test.proofs.OneKid.{public_singles}
use Rattle.triangle_test.proofs.laws.sets_of_one_node_keep_chance_public.Goals as goal

pub returns : goal.returns
returns c = public_singles

use Rattle.plan_decompose.proofs.ListSums.{sums_joined}
use Rattle.plan_decompose.proofs.laws.two_lists_together_add_their_sums.Goals as goal

pub returns : goal.returns
returns c = sums_joined

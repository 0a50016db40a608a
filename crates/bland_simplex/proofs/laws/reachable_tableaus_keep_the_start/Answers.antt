use Rattle.bland_simplex.proofs.Reaching.{may_keeps}
use Rattle.bland_simplex.proofs.laws.reachable_tableaus_keep_the_start.Goals as goal

pub returns : goal.returns
returns c = may_keeps

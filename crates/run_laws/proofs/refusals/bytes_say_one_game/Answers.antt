use Rattle.run_laws.proofs.OneFileRefused.{one_game}
use Rattle.run_laws.proofs.OneGameScaled.{one_scaled}
use Rattle.run_laws.proofs.OnePairs.{one_recalled}
use Rattle.run_laws.proofs.refusals.bytes_say_one_game.Goals as goal

pub returns-clause-said : goal.returns-clause-said
returns-clause-said c = one_game

pub returns-clause-scaled : goal.returns-clause-scaled
returns-clause-scaled c = one_scaled

pub returns-clause-recalled : goal.returns-clause-recalled
returns-clause-recalled c = one_recalled

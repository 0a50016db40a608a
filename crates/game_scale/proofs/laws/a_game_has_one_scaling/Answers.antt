use Rattle.game_scale.proofs.OneScaling.{file_scaling_once}
use Rattle.game_scale.proofs.laws.a_game_has_one_scaling.Goals as goal

pub returns : goal.returns
returns c = file_scaling_once

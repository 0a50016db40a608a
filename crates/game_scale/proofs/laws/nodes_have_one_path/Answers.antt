use Rattle.game_scale.proofs.OnePath.{file_path_once}
use Rattle.game_scale.proofs.laws.nodes_have_one_path.Goals as goal

pub returns : goal.returns
returns c = file_path_once

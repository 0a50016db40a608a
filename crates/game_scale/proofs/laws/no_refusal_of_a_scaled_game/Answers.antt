use Rattle.game_scale.proofs.OneScaleRefusal.{scaled_not_refused}
use Rattle.game_scale.proofs.laws.no_refusal_of_a_scaled_game.Goals as goal

pub returns : goal.returns
returns c = scaled_not_refused

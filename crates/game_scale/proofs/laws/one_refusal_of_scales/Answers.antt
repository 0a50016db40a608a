use Rattle.game_scale.proofs.OneScaleRefusal.{refused_once}
use Rattle.game_scale.proofs.laws.one_refusal_of_scales.Goals as goal

pub returns : goal.returns
returns c = refused_once

use Rattle.triangle_test.proofs.OneKid.{public_both}
use Rattle.triangle_test.proofs.laws.public_chance_keeps_sets_below_one_kid.Goals as goal

pub returns : goal.returns
returns c = public_both

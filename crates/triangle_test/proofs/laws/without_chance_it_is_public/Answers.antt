use Rattle.triangle_test.proofs.OneKid.{public_without}
use Rattle.triangle_test.proofs.laws.without_chance_it_is_public.Goals as goal

pub returns : goal.returns
returns c = public_without

use Rattle.text_laws.proofs.Drawing.{same_draws}
use Rattle.text_laws.proofs.draws.seeds_count_up_to_the_modulus.Goals as goal

pub returns : goal.returns
returns c = same_draws

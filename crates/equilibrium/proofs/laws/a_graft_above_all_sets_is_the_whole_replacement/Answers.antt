use Rattle.equilibrium.specs.FullChoice.{is_under}
use Rattle.equilibrium.proofs.Choosing.{all_anew}
use Rattle.equilibrium.proofs.laws.a_graft_above_all_sets_is_the_whole_replacement.Goals as goal

pub returns : goal.returns
returns c = λ side g above choice plan each. all_anew (is_under side g above) choice plan each

use Rattle.std.proofs.Common.{arith}
use Rattle.equilibrium.specs.FullChoice.{is_under}
use Rattle.equilibrium.proofs.Choosing.{chosen_there}
use Rattle.equilibrium.proofs.laws.grafts_choose_below.Goals as goal

pub returns : goal.returns
returns c = λ side g above choice plan set h is. chosen_there (is_under side g above) choice 0 plan set set (omega arith) h is

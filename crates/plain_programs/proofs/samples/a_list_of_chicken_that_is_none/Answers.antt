use Rattle.plain_programs.proofs.ChickenLists.{not_one_chickens_out}
use Rattle.plain_programs.proofs.samples.a_list_of_chicken_that_is_none.Goals as goal

pub returns : goal.returns
returns c = not_one_chickens_out

use Rattle.connected_pairs.proofs.OneTable.{one_table}
use Rattle.connected_pairs.proofs.laws.a_game_has_one_table_of_pairs.Goals as goal

pub returns : goal.returns
returns c = one_table

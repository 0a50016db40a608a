use Rattle.sequences.proofs.Numbering.{one_numbering}
use Rattle.sequences.proofs.laws.a_game_has_one_numbering.Goals as goal

pub returns : goal.returns
returns c = one_numbering

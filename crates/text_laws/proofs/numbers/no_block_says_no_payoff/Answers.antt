use Rattle.text_laws.proofs.WholeWords.{no_payoff}
use Rattle.text_laws.proofs.numbers.no_block_says_no_payoff.Goals as goal

pub returns : goal.returns
returns c = no_payoff

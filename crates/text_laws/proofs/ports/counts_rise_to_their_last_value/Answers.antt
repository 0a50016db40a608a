use Rattle.text_laws.proofs.Counts.{counts_higher, counts_last, counts_ordered, counts_within}
use Rattle.text_laws.proofs.ports.counts_rise_to_their_last_value.Goals as goal

pub returns-clause-higher : goal.returns-clause-higher
returns-clause-higher c = counts_higher

pub returns-clause-last : goal.returns-clause-last
returns-clause-last c = counts_last

pub returns-clause-within : goal.returns-clause-within
returns-clause-within c = counts_within

pub returns-clause-order : goal.returns-clause-order
returns-clause-order c = counts_ordered

use Rattle.text_laws.proofs.Stocks.{given_and_left, left_count, source_at_start, sure_source_at_start}
use Rattle.text_laws.proofs.ports.given_and_left_bytes_are_all.Goals as goal

pub returns-clause-all : goal.returns-clause-all
returns-clause-all c = given_and_left

pub returns-clause-count : goal.returns-clause-count
returns-clause-count c = left_count

pub returns-clause-source : goal.returns-clause-source
returns-clause-source c = source_at_start

pub returns-clause-sure : goal.returns-clause-sure
returns-clause-sure c = sure_source_at_start

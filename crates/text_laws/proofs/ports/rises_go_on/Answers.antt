use Rattle.text_laws.proofs.Counts.{rose_before, rose_behind, rose_higher}
use Rattle.text_laws.proofs.ports.rises_go_on.Goals as goal

pub returns-clause-before : goal.returns-clause-before
returns-clause-before c = rose_before

pub returns-clause-behind : goal.returns-clause-behind
returns-clause-behind c = rose_behind

pub returns-clause-higher : goal.returns-clause-higher
returns-clause-higher c = rose_higher

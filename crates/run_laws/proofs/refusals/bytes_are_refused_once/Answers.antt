use Rattle.run_laws.proofs.OneRefusal.{first_once, refused_once}
use Rattle.run_laws.proofs.refusals.bytes_are_refused_once.Goals as goal

pub returns-clause-file : goal.returns-clause-file
returns-clause-file c = refused_once

pub returns-clause-first : goal.returns-clause-first
returns-clause-first c = first_once

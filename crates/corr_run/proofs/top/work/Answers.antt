use Rattle.corr_run.specs.Ending.{written}
use Rattle.corr_run.proofs.top.work.Goals as goal

pub returns-in-Ok-clause-ending : goal.returns-in-Ok-clause-ending
returns-in-Ok-clause-ending g c = written c.in-Ok.answer.text.items c.in-Ok.answer.status c.in-Ok.ensures (rw c.as_slice.ensures.value at c.write_whole.ensures.writes)

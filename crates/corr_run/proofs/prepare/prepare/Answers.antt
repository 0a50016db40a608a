-- The refusal is that of a triangle.
use Rattle.corr_run.specs.FirstRefusal.{by_triangle}
use Rattle.corr_run.proofs.prepare.prepare.Goals as goal

pub returns-in-Some-clause-refused : goal.returns-in-Some-clause-refused
returns-in-Some-clause-refused c = by_triangle c.in_ok-ready.ready.game c.in_ok-ready.ready.pairs c.in_ok-ready.ensures.recalled c.triangle_refusal-refusal.ensures

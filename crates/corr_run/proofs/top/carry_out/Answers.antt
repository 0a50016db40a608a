use Rattle.corr_run.specs.GenAnswer.{GenAnswer}
use Rattle.corr_run.specs.WorkAnswer.{WorkAnswer}
use Rattle.corr_run.proofs.Commands.{ends_as}
use Rattle.corr_run.proofs.Endings.{ends_made}
use Rattle.corr_run.proofs.top.carry_out.Goals as goal

pub returns-in-Solve-clause-ends : goal.returns-in-Solve-clause-ends
returns-in-Solve-clause-ends g c = ends_as c.args.asked _ _ _ _ _ c.in-Solve.is c.solve.ensures.ends

pub returns-in-Check-clause-ends : goal.returns-in-Check-clause-ends
returns-in-Check-clause-ends g c = ends_as c.args.asked _ _ _ _ _ c.in-Check.is c.check.ensures.ends

pub returns-in-Gen-clause-ends : goal.returns-in-Gen-clause-ends
returns-in-Gen-clause-ends g c = ends_as c.args.asked _ _ _ _ _ c.in-Gen.is (ends_made (GenAnswer c.in-Gen.kind c.in-Gen.n c.in-Gen.seed) _ _ _ _ c.generate.ensures.ending)

pub returns-in-Work-clause-ends : goal.returns-in-Work-clause-ends
returns-in-Work-clause-ends g c = ends_as c.args.asked _ _ _ _ _ c.in-Work.is (ends_made (WorkAnswer c.in-Work.kind c.in-Work.n c.in-Work.seed c.in-Work.notions) _ _ _ _ c.work.ensures.ending)

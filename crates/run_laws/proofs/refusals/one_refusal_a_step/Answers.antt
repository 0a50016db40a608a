use Rattle.run_laws.proofs.OneFileRefused.{one_lines_refusal}
use Rattle.run_laws.proofs.OneGameScaled.{one_scales_refusal}
use Rattle.run_laws.proofs.OneRecall.{one_recall_refusal}
use Rattle.run_laws.proofs.OneSize.{one_size}
use Rattle.run_laws.proofs.OneTriangle.{one_triangle_refusal}
use Rattle.run_laws.proofs.refusals.one_refusal_a_step.Goals as goal

pub returns-clause-lines : goal.returns-clause-lines
returns-clause-lines c = one_lines_refusal

pub returns-clause-recall : goal.returns-clause-recall
returns-clause-recall c = one_recall_refusal

pub returns-clause-triangle : goal.returns-clause-triangle
returns-clause-triangle c = one_triangle_refusal

pub returns-clause-sizes : goal.returns-clause-sizes
returns-clause-sizes c = λ notions g p a b x y. one_size g p notions a b x y

pub returns-clause-scales : goal.returns-clause-scales
returns-clause-scales c = one_scales_refusal

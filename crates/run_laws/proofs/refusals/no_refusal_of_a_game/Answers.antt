use Rattle.efg_lines.proofs.SyntaxPlace.{no_file_there}
use Rattle.run_laws.proofs.OneFileRefused.{no_lines_refusal}
use Rattle.run_laws.proofs.OneGameScaled.{no_scales_refusal}
use Rattle.run_laws.proofs.OneRecall.{no_recall_refusal}
use Rattle.run_laws.proofs.OneSize.{no_size}
use Rattle.run_laws.proofs.OneTriangle.{no_triangle_refusal}
use Rattle.run_laws.proofs.refusals.no_refusal_of_a_game.Goals as goal

pub returns-clause-syntax : goal.returns-clause-syntax
returns-clause-syntax c = λ bytes raw at say stops. no_file_there bytes at stops say.read.has_file

pub returns-clause-lines : goal.returns-clause-lines
returns-clause-lines c = no_lines_refusal

pub returns-clause-recall : goal.returns-clause-recall
returns-clause-recall c = λ bytes g p refusal say of. no_recall_refusal g say.rules say.recall refusal of

pub returns-clause-triangle : goal.returns-clause-triangle
returns-clause-triangle c = λ bytes g p refusal game of. no_triangle_refusal g p game.no_triangle refusal of

pub returns-clause-sizes : goal.returns-clause-sizes
returns-clause-sizes c = λ notions bytes g p refusal game of. no_size g p notions refusal game.fit of

pub returns-clause-scales : goal.returns-clause-scales
returns-clause-scales c = no_scales_refusal

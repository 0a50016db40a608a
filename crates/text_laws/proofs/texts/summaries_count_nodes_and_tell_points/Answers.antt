use Rattle.text_laws.proofs.BlockTexts.{more_nodes, one_node_at_least, summaries_of_points}
use Rattle.text_laws.proofs.GameLines.{lines_are_nodes}
use Rattle.text_laws.proofs.texts.summaries_count_nodes_and_tell_points.Goals as goal

pub returns-clause-more : goal.returns-clause-more
returns-clause-more c = more_nodes

pub returns-clause-root : goal.returns-clause-root
returns-clause-root c = one_node_at_least

pub returns-clause-lines : goal.returns-clause-lines
returns-clause-lines c = lines_are_nodes

pub returns-clause-points : goal.returns-clause-points
returns-clause-points c = summaries_of_points

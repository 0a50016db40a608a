use Rattle.efg_reader.proofs.OneParent.{kid_once, kid_behind}
use Rattle.efg_reader.proofs.laws.each_node_has_one_parent.Goals as goal

pub returns-clause-once : goal.returns-clause-once
returns-clause-once c = kid_once

pub returns-clause-behind : goal.returns-clause-behind
returns-clause-behind c = kid_behind

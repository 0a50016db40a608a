-- The node that is taken is the next of the file.
use Rattle.std.proofs.Common.{◌≡◌, ℕ, drop, length, subst, ap, ◌∙◌, sym, arith}
use Rattle.std.proofs.lemmas.List.{length_push}
use Rattle.game_scale.specs.Amounts.{scale_in}
use Rattle.game_scale.specs.Refusal.{IsAmountTooLarge}
use Rattle.game_scale.proofs.ScaledNodes.{front, found, within, too_large, bare_scaled, tree_more, each_more}
use Rattle.game_scale.proofs.amounts.scaled_nodes.Goals as goal

pub scaled_node-requires-clause-whole : goal.scaled_node-requires-clause-whole
scaled_node-requires-clause-whole c =
    let n = length c.loop-node.scaled.items in
    let next = front c.args.nodes.items n c.in-Some.node c.next.new.self.rest.items (c.loop-node.invariant.rest ∙ c.in-Some.ensures.steps.0) in
    let path = found c.args.paths.now c.len-n.result n c.index-paths-n.result (omega arith) (omega (arith, within c.args.nodes.items n c.in-Some.node next.0)) c.index-paths-n.is in
    λ leaf side. c.requires.whole side n c.in-Some.node c.index-paths-n.result (within c.args.nodes.items n c.in-Some.node next.0) next.0 leaf path

pub loop-node-preserved : goal.loop-node-preserved
loop-node-preserved c =
    let before = c.loop-node.invariant in
    let n = length c.loop-node.scaled.items in
    let next = front c.args.nodes.items n c.in-Some.node c.next.new.self.rest.items (before.rest ∙ c.in-Some.ensures.steps.0) in
    let path = found c.args.paths.now c.len-n.result n c.index-paths-n.result (omega arith) (omega (arith, within c.args.nodes.items n c.in-Some.node next.0)) c.index-paths-n.is in
    let is = c.in-Some-scaled_node.ensures.some in
    let push = c.in_ok-push.ensures.items in
    record {
      next = tt;
      finite = tt;
      rest = subst (λ (k : ℕ). drop k c.args.nodes.items ≡ c.next.new.self.rest.items) (sym (ap length push ∙ length_push c.loop-node.scaled.items c.in-Some-scaled_node.node)) next.1;
      tree = tree_more c.args.nodes.items c.next.new.self.rest.items c.in-Some.node c.loop-node.scaled.items c.push.new.self.items c.in-Some-scaled_node.node c.loop-node.node-iterator.rest.items before.tree c.in-Some.ensures.steps.0 push (bare_scaled (scale_in c.args.scales) c.index-paths-n.result c.in-Some.node.shape c.in-Some-scaled_node.node is);
      each = each_more (scale_in c.args.scales) c.args.nodes.items c.args.paths.now c.loop-node.scaled.items c.push.new.self.items c.in-Some.node c.index-paths-n.result c.in-Some-scaled_node.node before.each push next.0 path is;
    }

pub returns-in_default-clause-err : goal.returns-in_default-clause-err
returns-in_default-clause-err c =
    let n = length c.loop-node.scaled.items in
    let next = front c.args.nodes.items n c.in-Some.node c.next.new.self.rest.items (c.loop-node.invariant.rest ∙ c.in-Some.ensures.steps.0) in
    let path = found c.args.paths.now c.len-n.result n c.index-paths-n.result (omega arith) (omega (arith, within c.args.nodes.items n c.in-Some.node next.0)) c.index-paths-n.is in
    let same : n ≡ c.len-n.result = omega arith in
    let over = c.scaled_node.ensures.none c.in_default.is in
    subst (λ (k : ℕ). IsAmountTooLarge (scale_in c.args.scales) c.args.nodes.items c.args.paths.now k) same
    (too_large (scale_in c.args.scales) c.args.nodes.items c.args.paths.now c.loop-node.scaled.items c.in-Some.node c.index-paths-n.result c.loop-node.invariant.each next.0 path over.0 over.1)

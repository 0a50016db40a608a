-- Each node's path is that at the end of its way, and leads on to its kids.
use Rattle.std.proofs.Common.{rules, ℕ, ◌+◌, List, length, refl, ap, sym, subst, ◌∙◌, arith}
use Rattle.std.proofs.lemmas.List.{length_push, length-replicate}
use lib.ListN.{replicate}
use Rattle.game_scale.specs.Paths.{PathView, IsPath}
use Rattle.game_scale.specs.Refusal.{IsPathTooFine}
use Rattle.game_scale.specs.declared.ways.Way.{Way}
use Rattle.game_scale.proofs.PathsSoFar.{ways_start, ways_more, arrived, paths_more, too_fine}
use Rattle.game_scale.proofs.RawTree.{kids_are_behind}
use Rattle.game_scale.proofs.ScaledNodes.{found}
use Rattle.game_scale.proofs.paths.paths_of.Goals as goal

pub to-requires-clause-one : goal.to-requires-clause-one
to-requires-clause-one c = (c.node-node.ensures.rules.payoffs c.loop-n.n c.node-node.result.now c.node-node.ensures.item).0

pub to-requires-clause-two : goal.to-requires-clause-two
to-requires-clause-two c = (c.node-node.ensures.rules.payoffs c.loop-n.n c.node-node.result.now c.node-node.ensures.item).1

pub pass_on-requires-clause-within : goal.pass_on-requires-clause-within
pass_on-requires-clause-within c = λ k d h.
    let behind = kids_are_behind c.args.game.now c.node-node.ensures.rules c.loop-n.n c.node-node.result.now c.node-node.ensures.item k d h in
    omega (arith, behind.1, c.loop-n.invariant.room)

pub loop-n-init : goal.loop-n-init
loop-n-init c =
    let all = c.in_ok-ways.ensures.items_if_clones_equal (λ y h. search rules) ∙ ap (λ (n : ℕ). replicate n c.to_root.result) c.len.ensures.count in
    record {
      room = ap (λ (ws : List Way). length ws) all ∙ length-replicate (length c.args.game.now.nodes) c.to_root.result;
      count = ap (λ (ps : List PathView). length ps) c.new-paths.ensures.items;
      ways = ways_start c.args.game.now (length c.args.game.now.nodes) c.to_root.result c.in_ok-ways.ways.items all c.to_root.ensures.chance c.to_root.ensures.one c.to_root.ensures.two;
      paths = rw c.new-paths.ensures.items (λ n path h. absurd (cc));
    }

pub returns-in_default-clause-err : goal.returns-in_default-clause-err
returns-in_default-clause-err c =
    let before = c.loop-n.invariant in
    let none = c.to.ensures.none c.in_default.is in
    let at = found c.loop-n.ways.items c.loop-n.n c.loop-n.n c.index.result.now refl (omega (arith, before.room)) c.index.ensures in
    let is = arrived c.args.game.now c.node-node.ensures.rules c.loop-n.n c.node-node.result.now c.loop-n.ways.items c.index.result.now none.0 before.ways c.node-node.ensures.item at none.1 in
    let there : IsPath c.args.game.now (length c.loop-n.paths.items) none.0 = subst (λ (k : ℕ). IsPath c.args.game.now k none.0) (sym before.count) is in
    subst (λ (k : ℕ). IsPathTooFine c.args.game.now k) before.count (too_fine c.args.game.now c.loop-n.paths.items none.0 before.paths there none.2)

pub loop-n-preserved : goal.loop-n-preserved
loop-n-preserved c =
    let before = c.loop-n.invariant in
    let some = c.in-Some.ensures.some in
    let at = found c.loop-n.ways.items c.loop-n.n c.loop-n.n c.index.result.now refl (omega (arith, before.room)) c.index.ensures in
    let is = arrived c.args.game.now c.node-node.ensures.rules c.loop-n.n c.node-node.result.now c.loop-n.ways.items c.index.result.now c.in-Some.path before.ways c.node-node.ensures.item at some.0 in
    let there : IsPath c.args.game.now (length c.loop-n.paths.items) c.in-Some.path = subst (λ (k : ℕ). IsPath c.args.game.now k c.in-Some.path) (sym before.count) is in
    let push = c.in_ok-push.ensures.items in
    record {
      room = c.pass_on.ensures.count ∙ before.room;
      count = ap (λ (ps : List PathView). length ps) push ∙ length_push c.loop-n.paths.items c.in-Some.path ∙ ap (λ (k : ℕ). k + 1) before.count;
      ways = ways_more c.args.game.now c.loop-n.n c.node-node.result.now c.in-Some.path c.loop-n.ways.items c.pass_on.new.ways.items before.ways c.node-node.ensures.item is c.pass_on.ensures.each;
      paths = paths_more c.args.game.now c.loop-n.paths.items c.push.new.self.items c.in-Some.path before.paths push there some.1;
    }

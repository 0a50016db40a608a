-- Each arm keeps that the nodes so far have the numbers of their last own moves.
use Rattle.std.proofs.Common.{ℕ, ◌<◌, List, ◌∙◌, length, get_or, ap, sym, refl, inr, rules, arith}
use lib.ListN.{replicate}
use Rattle.std.proofs.lemmas.List.{get_or-replicate, length-replicate}
use Rattle.corr_game.specs.declared.nodes.Node.TheVariants.{Leaf, Chance, Choice}
use Rattle.tree_recall.proofs.Progress.{eq-same_side, same_from_side, other_set}
use Rattle.sequences.proofs.NodeSeqs.{number_first, number_passed, number_moved, numbers_all, numbers_low, has_place, moves_fit}
use Rattle.sequences.proofs.nodes.node_seqs.Goals as goal
use Rattle.sequences.proofs.nodes.node_seqs.Goals.{in-Leaf, in-Chance, in-Choice+then-eq, in-Choice+else-eq}

pub pass_on-requires : goal.pass_on-requires
pass_on-requires c =
    let kids = c.node.ensures.rules.each_node c.loop-n.n (Chance c.in-Chance.kids) (rw c.in-Chance.is at c.node.ensures.item) in
    λ k d h. let kid = kids.2 k d h in omega (arith, c.loop-n.invariant.room)

pub index-requires : goal.index-requires
index-requires c =
    let same = same_from_side c.in-Choice.mover c.args.side (sym (eq-same_side c.in-Choice.mover c.args.side) ∙ (sym c.eq.ensures ∙ c.if-eq.true)) in
    let room = has_place c.args.game.now c.node.ensures.rules c.args.side c.loop-n.n c.in-Choice.set c.in-Choice.kids c.args.numbers.now.places.items c.args.numbers.now.lasts.items c.requires (rw (c.in-Choice.is, same) at c.node.ensures.item) in
    omega (arith, c.args.numbers.now.places.ok.0)

pub pass_moves-requires-clause-behind : goal.pass_moves-requires-clause-behind
pass_moves-requires-clause-behind c =
    let kids = c.node.ensures.rules.each_node c.loop-n.n (Choice c.in-Choice.mover c.in-Choice.set c.in-Choice.kids) (rw c.in-Choice.is at c.node.ensures.item) in
    λ k d h. let kid = kids.2 k d h in omega (arith, c.loop-n.invariant.room)

pub pass_moves-requires-clause-few : goal.pass_moves-requires-clause-few
pass_moves-requires-clause-few c =
    let same = same_from_side c.in-Choice.mover c.args.side (sym (eq-same_side c.in-Choice.mover c.args.side) ∙ (sym c.eq.ensures ∙ c.if-eq.true)) in
    let fit = moves_fit c.args.game.now c.node.ensures.rules c.args.side c.loop-n.n c.in-Choice.set c.in-Choice.kids c.args.numbers.now.places.items c.args.numbers.now.lasts.items c.requires (rw (c.in-Choice.is, same) at c.node.ensures.item) c.index.result.now c.index.ensures in
    omega (arith, c.requires.few)

pub pass_on-requires-else-eq : goal.pass_on-requires-else-eq
pass_on-requires-else-eq c =
    let kids = c.node.ensures.rules.each_node c.loop-n.n (Choice c.in-Choice.mover c.in-Choice.set c.in-Choice.kids) (rw c.in-Choice.is at c.node.ensures.item) in
    λ k d h. let kid = kids.2 k d h in omega (arith, c.loop-n.invariant.room)

pub loop-n-init : goal.loop-n-init
loop-n-init c =
    let g = c.args.game.now in
    let start = c.in_ok-seqs.ensures.items_if_clones_equal (λ y h. search rules) ∙ ap (λ (n : ℕ). replicate n 0) c.len.ensures.count in
    record {
      room = ap length start ∙ length-replicate (length g.nodes) 0;
      down = number_first c.args.side g c.len.ensures.rules c.args.numbers.now.places.items c.in_ok-seqs.seqs.items (ap (λ (xs : List ℕ). get_or xs 0 0) start ∙ get_or-replicate (length g.nodes) 0 0 0 c.len.ensures.rules.has_root);
    }

pub loop-n-preserved : goal.loop-n-preserved
loop-n-preserved c =
    let side = c.args.side in
    let g = c.args.game.now in
    let n = c.loop-n.n in
    let places = c.args.numbers.now.places.items in
    let old = c.loop-n.seqs.items in
    let p = c.loop-n.invariant in
    let rules = c.node.ensures.rules in
    let low : n < length g.nodes = omega arith in
    let read = c.index-here.ensures in
    elim c.match-node.branch [
      | in-Leaf w ↦
          let node = rw w.in-Leaf.is at c.node.ensures.item in
          rw w.seqs-is record {
            room = p.room;
            down = number_passed side g rules places n (Leaf w.in-Leaf.pay) old old _ p.down low p.room node refl read (λ k. inr (λ action less. absurd (omega arith), refl));
          }
      | in-Chance w ↦
          let node = rw w.in-Chance.is at c.node.ensures.item in
          rw w.seqs-is record {
            room = w.pass_on.ensures.count ∙ p.room;
            down = number_passed side g rules places n (Chance w.in-Chance.kids) old _ _ p.down low p.room node refl read w.pass_on.ensures.each;
          }
      | in-Choice+then-eq w ↦
          let same = same_from_side w.in-Choice.mover side (sym (eq-same_side w.in-Choice.mover side) ∙ (sym w.eq.ensures ∙ w.if-eq.true)) in
          let node = rw (w.in-Choice.is, same) at c.node.ensures.item in
          rw w.seqs-is record {
            room = w.pass_moves.ensures.count ∙ p.room;
            down = number_moved side g rules places c.args.numbers.now.lasts.items n w.in-Choice.set w.in-Choice.kids old _ w.index.result.now c.requires p.down low node w.index.ensures w.pass_moves.ensures.each;
          }
      | in-Choice+else-eq w ↦
          let apart = other_set side w.in-Choice.mover w.in-Choice.set w.in-Choice.kids (sym (eq-same_side w.in-Choice.mover side) ∙ (sym w.eq.ensures ∙ w.if-eq.false)) in
          let node = rw w.in-Choice.is at c.node.ensures.item in
          rw w.seqs-is record {
            room = w.pass_on-else-eq.ensures.count ∙ p.room;
            down = number_passed side g rules places n (Choice w.in-Choice.mover w.in-Choice.set w.in-Choice.kids) old _ _ p.down low p.room node apart read w.pass_on-else-eq.ensures.each;
          }
    ]

pub returns-clause-of_tree : goal.returns-clause-of_tree
returns-clause-of_tree c =
    let p = c.loop-n.invariant in
    numbers_all c.args.side c.args.game.now c.len-n-end.ensures.rules c.args.numbers.now.places.items c.loop-n.n c.loop-n.seqs.items p.down p.room (omega arith)

pub returns-clause-in_range : goal.returns-clause-in_range
returns-clause-in_range c =
    let p = c.loop-n.invariant in
    let rules = c.len-n-end.ensures.rules in
    let places = c.args.numbers.now.places.items in
    let at = numbers_all c.args.side c.args.game.now rules places c.loop-n.n c.loop-n.seqs.items p.down p.room (omega arith) in
    numbers_low c.args.side c.args.game.now rules places c.args.numbers.now.lasts.items c.loop-n.seqs.items c.requires at p.room

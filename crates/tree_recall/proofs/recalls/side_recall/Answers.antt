-- Each arm takes the progress one node on.
use Rattle.std.proofs.Common.{◌≡◌, Some, ℕ, ◌<◌, List, Option, None, map, get_or, ap, ◌∙◌, length, sym, refl, inr, rules, arith}
use lib.ListN.{replicate}
use Rattle.std.proofs.lemmas.List.{get_or-replicate}
use Rattle.corr_game.specs.declared.nodes.SetId.{SetId}
use Rattle.corr_game.specs.declared.nodes.Node.TheVariants.{Leaf, Chance, Choice}
use Rattle.tree_recall.proofs.Progress.{last_of, same_side-refl, eq-same_side, same_from_side, other_set, met_or_next, passed_on, moved_on, few_kids, started, all_met, error_named}
use Rattle.tree_recall.proofs.Firsts.{firsts_none, firsts_passed, firsts_moved, mismatch_least, none_at_all}
use Rattle.tree_recall.specs.Tree.{set_of}
use Rattle.tree_recall.proofs.Told.{told_first, told_all, alike, recall_all}
use Rattle.tree_recall.proofs.ToldSteps.{read_here, told_passed, told_moved}
use Rattle.tree_recall.specs.Forgetting.{NamesSet, IsLeastOf}
use Rattle.tree_recall.proofs.recalls.side_recall.Goals as goal
use Rattle.tree_recall.proofs.recalls.side_recall.Goals.{in-Leaf, in-Chance, in-Choice+then-eq+in_ok-meet-in-Choice, in-Choice+else-eq}

pub pass_on-requires : goal.pass_on-requires
pass_on-requires c =
    let node = rw c.in-Chance.is at c.node.ensures.item in
    let kids = c.node.ensures.rules.each_node c.loop-n.n (Chance c.in-Chance.kids) node in
    λ k d h. let kid = kids.2 k d h in omega (arith, c.loop-n.invariant.numbers.room)

pub meet-requires : goal.meet-requires
meet-requires c =
    let node = rw c.in-Choice.is at c.node.ensures.item in
    let same = same_from_side c.in-Choice.mover c.args.side (sym (eq-same_side c.in-Choice.mover c.args.side) ∙ (sym c.eq.ensures ∙ c.if-eq.true)) in
    met_or_next c.args.side c.args.game.now c.loop-n.n c.in-Choice.set c.in-Choice.kids c.loop-n.above.items c.loop-n.met.items c.loop-n.invariant.numbers (rw same at node)

pub pass_moves-requires-clause-behind : goal.pass_moves-requires-clause-behind
pass_moves-requires-clause-behind c =
    let node = rw c.in-Choice.is at c.node.ensures.item in
    let kids = c.node.ensures.rules.each_node c.loop-n.n (Choice c.in-Choice.mover c.in-Choice.set c.in-Choice.kids) node in
    λ k d h. let kid = kids.2 k d h in omega (arith, c.loop-n.invariant.numbers.room)

pub pass_moves-requires-clause-few : goal.pass_moves-requires-clause-few
pass_moves-requires-clause-few c =
    few_kids c.args.game.now c.node.ensures.rules c.loop-n.n c.in-Choice.mover c.in-Choice.set c.in-Choice.kids (rw c.in-Choice.is at c.node.ensures.item)

pub pass_on-requires-else-eq : goal.pass_on-requires-else-eq
pass_on-requires-else-eq c =
    let node = rw c.in-Choice.is at c.node.ensures.item in
    let kids = c.node.ensures.rules.each_node c.loop-n.n (Choice c.in-Choice.mover c.in-Choice.set c.in-Choice.kids) node in
    λ k d h. let kid = kids.2 k d h in omega (arith, c.loop-n.invariant.numbers.room)

pub loop-n-init : goal.loop-n-init
loop-n-init c =
    let g = c.args.game.now in
    let start = c.in_ok-above.ensures.items_if_clones_equal (λ y h. search rules) ∙ ap (λ (n : ℕ). replicate n None) c.len.ensures.count in
    rw c.new-met.ensures.items record {
      numbers = started c.args.side g c.len.ensures.rules c.in_ok-above.above.items start;
      firsts = firsts_none c.args.side g;
      tree = told_first c.args.side g c.in_ok-above.above.items (ap (λ (xs : List (Option (SetId × ℕ))). get_or xs 0 None) start ∙ get_or-replicate (length g.nodes) 0 None None c.len.ensures.rules.has_root);
    }

pub loop-n-preserved : goal.loop-n-preserved
loop-n-preserved c =
    let side = c.args.side in
    let g = c.args.game.now in
    let n = c.loop-n.n in
    let above = c.loop-n.above.items in
    let met = c.loop-n.met.items in
    let p = c.loop-n.invariant.numbers in
    let t = c.loop-n.invariant.tree in
    let low : n < length g.nodes = omega arith in
    let read = c.index-here.ensures in
    elim c.match-node.branch [
      | in-Leaf w ↦
          let node = rw w.in-Leaf.is at c.node.ensures.item in
          rw (w.above-is, w.met-is) record {
            numbers = passed_on side g n (Leaf w.in-Leaf.pay) above above met _ p low node refl read refl (λ k none. inr (λ action less. absurd (omega arith), refl));
            firsts = firsts_passed side g n met c.loop-n.invariant.firsts;
            tree = told_passed side g c.node.ensures.rules n (Leaf w.in-Leaf.pay) above above (map last_of met) _ t low p.room node refl read (λ k none. inr (λ action less. absurd (omega arith), refl));
          }
      | in-Chance w ↦
          let node = rw w.in-Chance.is at c.node.ensures.item in
          rw (w.above-is, w.met-is) record {
            numbers = passed_on side g n (Chance w.in-Chance.kids) above _ met _ p low node refl read w.pass_on.ensures.count w.pass_on.ensures.each;
            firsts = firsts_passed side g n met c.loop-n.invariant.firsts;
            tree = told_passed side g c.node.ensures.rules n (Chance w.in-Chance.kids) above _ (map last_of met) _ t low p.room node refl read w.pass_on.ensures.each;
          }
      | in-Choice+then-eq+in_ok-meet-in-Choice w ↦
          let same = same_from_side w.in-Choice.mover side (sym (eq-same_side w.in-Choice.mover side) ∙ (sym w.eq.ensures ∙ w.if-eq.true)) in
          let node = rw (w.in-Choice.is, same) at c.node.ensures.item in
          rw (w.above-is, w.met-is) record {
            numbers = moved_on side g c.node.ensures.rules n w.in-Choice.set w.in-Choice.kids above _ met _ _ p low node read w.pass_moves.ensures.count w.in_ok-meet-in-Choice.ensures.known w.in_ok-meet-in-Choice.ensures.added w.pass_moves.ensures.each;
            firsts = firsts_moved side g n above met _ w.in-Choice.set _ t c.loop-n.invariant.firsts (rw (node, same_side-refl side) refl) refl (met_or_next side g n w.in-Choice.set w.in-Choice.kids above met p node)
                w.in_ok-meet-in-Choice.ensures.known w.in_ok-meet-in-Choice.ensures.added;
            tree = told_moved side g c.node.ensures.rules n w.in-Choice.set w.in-Choice.kids above _ met _ _ t low p.room node read (met_or_next side g n w.in-Choice.set w.in-Choice.kids above met p node)
                w.in_ok-meet-in-Choice.ensures.known w.in_ok-meet-in-Choice.ensures.added w.in_ok-meet-in-Choice.ensures.alike w.pass_moves.ensures.each;
          }
      | in-Choice+else-eq w ↦
          let apart = other_set side w.in-Choice.mover w.in-Choice.set w.in-Choice.kids (sym (eq-same_side w.in-Choice.mover side) ∙ (sym w.eq.ensures ∙ w.if-eq.false)) in
          let node = rw w.in-Choice.is at c.node.ensures.item in
          rw (w.above-is, w.met-is) record {
            numbers = passed_on side g n (Choice w.in-Choice.mover w.in-Choice.set w.in-Choice.kids) above _ met _ p low node apart read w.pass_on-else-eq.ensures.count w.pass_on-else-eq.ensures.each;
            firsts = firsts_passed side g n met c.loop-n.invariant.firsts;
            tree = told_passed side g c.node.ensures.rules n (Choice w.in-Choice.mover w.in-Choice.set w.in-Choice.kids) above _ (map last_of met) _ t low p.room node apart read w.pass_on-else-eq.ensures.each;
          }
    ]

pub returns-clause-count : goal.returns-clause-count
returns-clause-count c = all_met c.args.side c.args.game.now c.loop-n.n c.loop-n.above.items c.loop-n.met.items c.loop-n.invariant.numbers (omega arith)

pub returns-clause-earlier : goal.returns-clause-earlier
returns-clause-earlier c = c.loop-n.invariant.numbers.earlier

pub returns-clause-of_tree : goal.returns-clause-of_tree
returns-clause-of_tree c =
    told_all c.args.side c.args.game.now c.len-n-end.ensures.rules c.loop-n.n c.loop-n.above.items (map last_of c.loop-n.met.items) c.loop-n.invariant.tree (omega arith)

pub returns-clause-perfect : goal.returns-clause-perfect
returns-clause-perfect c =
    let like = alike c.args.side c.args.game.now c.len-n-end.ensures.rules c.loop-n.n c.loop-n.above.items (map last_of c.loop-n.met.items) c.loop-n.invariant.tree in
    recall_all c.args.side c.args.game.now c.len-n-end.ensures.rules c.loop-n.n like (omega arith)

pub returns-in_err-meet-in-Choice-clause-named : goal.returns-in_err-meet-in-Choice-clause-named
returns-in_err-meet-in-Choice-clause-named c =
    let node = rw c.in-Choice.is at c.node.ensures.item in
    let here = c.node.ensures.rules.each_node c.loop-n.n (Choice c.in-Choice.mover c.in-Choice.set c.in-Choice.kids) node in
    error_named _ _ (NamesSet c.args.game.now) c.from_residual-in_err-meet-in-Choice.ensures.1 (c.in_err-meet-in-Choice.ensures.named c.args.game.now here.0)

pub returns-in_err-meet-in-Choice-clause-least : goal.returns-in_err-meet-in-Choice-clause-least
returns-in_err-meet-in-Choice-clause-least c =
    let side = c.args.side in
    let g = c.args.game.now in
    let n = c.loop-n.n in
    let above = c.loop-n.above.items in
    let met = c.loop-n.met.items in
    let p = c.loop-n.invariant in
    let rules = c.node.ensures.rules in
    let same = same_from_side c.in-Choice.mover side (sym (eq-same_side c.in-Choice.mover side) ∙ (sym c.eq.ensures ∙ c.if-eq.true)) in
    let node = rw (c.in-Choice.is, same) at c.node.ensures.item in
    let own : set_of g side n ≡ Some c.in-Choice.set.0 = rw (node, same_side-refl side) refl in
    let here = read_here side g rules n above (map last_of met) c.index-here.result.now p.tree (omega arith) p.numbers.room c.index-here.ensures in
    error_named _ _ (IsLeastOf side g) c.from_residual-in_err-meet-in-Choice.ensures.1
    (mismatch_least side g rules n above met c.in-Choice.set _ _ p.tree p.firsts own refl here (rw same at c.in_err-meet-in-Choice.ensures.differs))

pub returns-clause-none : goal.returns-clause-none
returns-clause-none c = λ n.
    let g = c.args.game.now in
    let rules = c.len-n-end.ensures.rules in
    let like = alike c.args.side g rules c.loop-n.n c.loop-n.above.items (map last_of c.loop-n.met.items) c.loop-n.invariant.tree in
    none_at_all g c.args.side n rules (recall_all c.args.side g rules c.loop-n.n like (omega arith))

-- Each answer is the step of the walk at a kid.
use Rattle.std.proofs.Common.{◌≡◌, Bool, true, false, ◌||◌, Some, refl, sym, ap, ◌∙◌, arith}
use Rattle.std.proofs.lemmas.Bool.{or_left, or_right}
use Rattle.corr_game.specs.declared.nodes.Node.{Node}
use Rattle.corr_game.specs.Node.{kids_of}
use Rattle.equilibrium.specs.Reach.{comes_to, some_kid}
use Rattle.plain_programs.proofs.Leading.{comes_or_kids, kid_found, kid_inside, kid_passed}
use Rattle.plain_programs.proofs.grafts.+holds_below.Goals as goal
use Rattle.plain_programs.proofs.grafts.+holds_below.Goals.{then-is_of_set-via-then-is_of_set}
use Rattle.plain_programs.proofs.grafts.+holds_below.Goals.{then-is_of_set-via-else-is_of_set+then-holds_below}

same_node : (x y : Node) → Some x ≡ Some y → x ≡ y
same_node x y e = cc

neither : (a b : Bool) → a ≡ false → b ≡ false → (a || b) ≡ false
neither a b e f = rw (e, f) refl

pub node-requires-in-loop-k : goal.node-requires-in-loop-k
node-requires-in-loop-k t c =
    let kid = kid_inside c.args.game.now c.node.ensures.rules c.args.n _ c.node.ensures.item c.in-Some.kids.now c.in-Some.ensures.some c.loop-k.k (omega arith) in
    omega arith

pub holds_below-requires : goal.holds_below-requires
holds_below-requires t c =
    let kid = kid_inside c.args.game.now c.node.ensures.rules c.args.n _ c.node.ensures.item c.in-Some.kids.now c.in-Some.ensures.some c.loop-k.k (omega arith) in
    (omega arith, omega arith)

pub returns-then-is_of_set : goal.returns-then-is_of_set
returns-then-is_of_set t c = λ node there.
    let comes = comes_to (λ at action. true) c.args.side c.args.game.now c.args.set.0 in
    let same : c.node.result.now ≡ node = same_node _ _ (sym c.node.ensures.item ∙ there) in
    let kid = comes_or_kids (λ at action. true) c.args.side c.args.game.now c.node.ensures.rules c.args.set.0 c.at-kid.result.now _ c.node-in-loop-k.ensures.item in
    let here : comes c.at-kid.result.now ≡ true = kid ∙ elim c.then-is_of_set.branch [
      | then-is_of_set-via-then-is_of_set w ↦ or_left _ _ (sym c.is_of_set.ensures ∙ w.if-is_of_set.true)
      | then-is_of_set-via-else-is_of_set+then-holds_below w ↦ or_right _ _
          (sym (w.holds_below.ensures _ c.node-in-loop-k.ensures.item) ∙ w.if-holds_below.true)
    ] in
    kid_found (λ action. true) comes c.in-Some.kids.now c.loop-k.k (omega arith) c.loop-k.invariant refl (rw c.at-kid.ensures.item at here)
    ∙ ap (some_kid (λ action. true) comes 0) (c.in-Some.ensures.some ∙ ap kids_of same)

pub loop-k-preserved : goal.loop-k-preserved
loop-k-preserved t c =
    let comes = comes_to (λ at action. true) c.args.side c.args.game.now c.args.set.0 in
    let kid = comes_or_kids (λ at action. true) c.args.side c.args.game.now c.node.ensures.rules c.args.set.0 c.at-kid.result.now _ c.node-in-loop-k.ensures.item in
    let none : comes c.at-kid.result.now ≡ false = kid ∙ neither _ _ (sym c.is_of_set.ensures ∙ c.if-is_of_set.false)
    (sym (c.holds_below.ensures _ c.node-in-loop-k.ensures.item) ∙ c.if-holds_below.false) in
    kid_passed (λ action. true) comes c.in-Some.kids.now c.loop-k.k (omega arith) c.loop-k.invariant (rw c.at-kid.ensures.item at none)

-- The way down begins at a kid, which is the node or above it.
use Rattle.std.proofs.Common.{◌≤◌, inl, inr, length, refl, arith}
use Rattle.std.proofs.lemmas.Bool.{false≢true}
use Rattle.corr_game.specs.Node.{kids_of}
use Rattle.tree_recall.proofs.Kids.{kid_below}
use Rattle.plain_trees.proofs.Ways.{IsFrom, by_kid, kid_is, none_below}
use Rattle.plain_trees.proofs.connections.+is_above.Goals as goal
use Rattle.plain_trees.proofs.connections.+is_above.Goals.{then-kid-n-via-then-kid-n, then-kid-n-via-else-kid-n+then-is_above}

pub returns-in_default : goal.returns-in_default
returns-in_default t c =
    let node = c.node.result.now in
    let none : length (kids_of node) ≤ 0 = rw c.in_default.ensures.none (omega arith) in (
      λ h. absurd (false≢true h),
      λ above. absurd (none_below c.args.game.now c.args.m node c.args.n 0 c.node.ensures.item none (λ j h. absurd (omega arith)) above),
    )

pub is_above-requires : goal.is_above-requires
is_above-requires t c =
    let g = c.args.game.now in
    let e = kid_is g c.args.m c.node.result.now c.in-Some.kids.now c.loop-k.k c.at-kid.result.now c.node.ensures.item c.in-Some.ensures.some
    (omega arith) c.at-kid.ensures.item in
    let kid = kid_below g c.node.ensures.rules c.args.m c.loop-k.k c.at-kid.result.now e in
    (omega (arith, kid.0, kid.1), kid.1)

pub returns-then-kid-n : goal.returns-then-kid-n
returns-then-kid-n t c =
    let g = c.args.game.now in
    let kid = c.at-kid.result.now in
    let e = kid_is g c.args.m c.node.result.now c.in-Some.kids.now c.loop-k.k kid c.node.ensures.item c.in-Some.ensures.some (omega arith)
    c.at-kid.ensures.item in
    let from : IsFrom g kid c.args.n = elim c.then-kid-n.branch [
      | then-kid-n-via-then-kid-n w ↦ inl w.if-kid-n.true
      | then-kid-n-via-else-kid-n+then-is_above w ↦ inr (w.is_above.ensures.0 w.if-is_above.true)
    ] in
    (λ h. by_kid g c.node.ensures.rules c.args.m c.loop-k.k kid c.args.n e from, λ above. refl)

pub returns : goal.returns
returns t c =
    let node = c.node.result.now in
    let all : length (kids_of node) ≤ c.loop-k.k = rw (← c.in-Some.ensures.some) (omega arith) in (
      λ h. absurd (false≢true h),
      λ above. absurd (none_below c.args.game.now c.args.m node c.args.n c.loop-k.k c.node.ensures.item all
          (rw c.in-Some.ensures.some at c.loop-k.invariant) above),
    )

use Rattle.std.proofs.Common.{◌≡◌, inl, inr, refl, arith}
use Rattle.std.proofs.lemmas.Bool.{cases_lt}
use Rattle.tree_recall.proofs.Kids.{set_node}
use Rattle.plain_trees.proofs.own_moves.is_alike_from.Goals as goal

pub loop-n-preserved : goal.loop-n-preserved
loop-n-preserved c = λ k h. elim (cases_lt k c.loop-n.n) [
  | inl less ↦ c.loop-n.invariant k less
  | inr last ↦
      let here : k ≡ c.loop-n.n = omega arith in
      rw here (c.in_ok-are_alike_at.ensures.0 c.if-not-branch.false)
]

pub returns : goal.returns
returns c = (
  λ h n a b one.
      let low = (set_node c.args.game.now c.args.side n one.0 one.2).0 in
      c.loop-n.invariant n (omega arith) a b one,
  λ all. refl,
)

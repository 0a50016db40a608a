use Rattle.std.proofs.Common.{refl, sym, ◌∙◌, arith}
use Rattle.std.proofs.lemmas.Bool.{false≢true}
use Rattle.tree_recall.proofs.Kids.{set_node}
use Rattle.plain_trees.proofs.Sequences.{alike_recall, recall_alike}
use Rattle.plain_trees.proofs.own_moves.has_recall.Goals as goal

pub returns-then-not-branch : goal.returns-then-not-branch
returns-then-not-branch c = (
  λ h. absurd (false≢true h),
  λ recall. sym c.if-not-branch.true
      ∙ c.in_ok-is_alike_from.ensures.1 (recall_alike c.args.game.now c.args.side recall c.loop-m.m),
)

pub returns : goal.returns
returns c = (
  λ h. alike_recall c.args.game.now c.args.side (λ m n set at.
      let low = (set_node c.args.game.now c.args.side m set at).0 in
      c.loop-m.invariant m n (omega arith)),
  λ recall. refl,
)

use Rattle.std.proofs.Common.{refl, arith}
use Rattle.plain_trees.proofs.Sequences.{same_moves}
use Rattle.plain_trees.proofs.own_moves.are_same.Goals as goal

pub returns : goal.returns
returns c = (
  λ h. same_moves c.args.a.now c.args.b.now (omega arith) (λ j d low. c.loop-k.invariant j d (omega arith)),
  λ same. refl,
)

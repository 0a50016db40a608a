-- Where two nodes of a set part, some two in a row of it do.
use Rattle.std.proofs.Common.{below_more, refl, arith}
use Rattle.std.proofs.lemmas.Bool.{false≢true}
use Rattle.triangle_test.proofs.Partings.{parted, public_in_row}
use Rattle.triangle_test.proofs.Ruled.{ruled_out}
use Rattle.triangle_test.proofs.chances.public_chance.Goals as goal

pub returns-then-parts_from_next : goal.returns-then-parts_from_next
returns-then-parts_from_next c = (
  λ h. absurd (false≢true h),
  λ public. absurd (parted c.args.game.now c.loop-n.n (c.parts_from_next.ensures.0 c.if-parts_from_next.true) public),
)

pub loop-n-preserved : goal.loop-n-preserved
loop-n-preserved c = below_more _ _ c.loop-n.invariant
    (λ parts. ruled_out _ c.if-parts_from_next.false (c.parts_from_next.ensures.1 parts))

pub returns : goal.returns
returns c = (
  λ h. public_in_row c.args.game.now c.len-n-end.ensures.rules (λ k low. c.loop-n.invariant k (omega arith)),
  λ public. refl,
)

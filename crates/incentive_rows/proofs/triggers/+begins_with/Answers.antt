-- By the sequence's last move and its own part.
use Rattle.std.proofs.Common.{refl, sym}
use Rattle.sequences.specs.Number.{side_of}
use Rattle.sequences.proofs.Holding.{set_in}
use Rattle.connected_pairs.specs.Connected.{itself, longer}
use Rattle.incentive_rows.proofs.Following.{prefix_back}
use Rattle.incentive_rows.proofs.triggers.+begins_with.Goals as goal

pub returns-then-seq-part : goal.returns-then-seq-part
returns-then-seq-part t c = (λ h. rw c.if-seq-part.true itself, λ h. refl)

pub own-requires : goal.own-requires
own-requires t c = set_in _ c.last.ensures.rules c.args.seq c.in-Some.taken (sym c.in-Some.ensures.taken)

pub returns-in-Some : goal.returns-in-Some
returns-in-Some t c =
    let v = side_of c.args.side c.args.seqs.now in
    let e = sym c.in-Some.ensures.taken in (
      λ h. longer c.args.seq c.own.result c.in-Some.taken e c.own.ensures.number (c.begins_with.ensures.0 h),
      λ h. c.begins_with.ensures.1 (prefix_back v c.args.part c.args.seq h c.if-seq-part.false c.in-Some.taken c.own.result e c.own.ensures.number),
    )

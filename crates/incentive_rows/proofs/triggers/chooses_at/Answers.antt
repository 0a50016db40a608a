-- A choice at a set is the last move, or one before it.
use Rattle.std.proofs.Common.{sym}
use Rattle.sequences.specs.Number.{side_of}
use Rattle.incentive_rows.proofs.Following.{holds_under, under_holds}
use Rattle.incentive_rows.proofs.triggers.chooses_at.Goals as goal

pub returns-in-Some : goal.returns-in-Some
returns-in-Some c =
    let v = side_of c.args.side c.args.seqs.now in
    let e = sym c.in-Some.ensures.taken in (
      λ h. holds_under v c.args.set.0 c.args.seq c.in-Some.taken e (c.under.ensures.0 h),
      λ h. c.under.ensures.1 (under_holds v c.args.set.0 c.args.seq h c.in-Some.taken e),
    )

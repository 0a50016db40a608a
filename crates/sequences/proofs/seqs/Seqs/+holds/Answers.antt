-- By the sequence's last move and its own part.
use Rattle.std.proofs.Common.{sym, arith, eq-eqb}
use Rattle.sequences.specs.Number.{side_of, last}
use Rattle.sequences.proofs.Holding.{set_in, own_lower, holds-none, holds-back, holds-on}
use Rattle.sequences.proofs.seqs.Seqs.+holds.Goals as goal

pub own-requires : goal.own-requires
own-requires t c = set_in _ c.last.ensures.rules c.args.seq c.in-Some.taken (sym c.in-Some.ensures.taken)

pub holds-requires : goal.holds-requires
holds-requires t c =
    let lower = own_lower _ c.last.ensures.rules c.args.seq c.in-Some.taken c.own.result (sym c.in-Some.ensures.taken) c.own.ensures.number in
    (omega arith, omega arith)

pub returns-in-None : goal.returns-in-None
returns-in-None t c = (λ h. absurd (cc), λ h. absurd (holds-none _ _ c.args.seq h (sym c.in-None.ensures.taken)))

pub returns-then-taken-above : goal.returns-then-taken-above
returns-then-taken-above t c =
    (λ h. last c.args.seq c.in-Some.taken (sym c.in-Some.ensures.taken) c.if-taken-above.true, λ h. eq-eqb _ _ c.if-taken-above.true)

pub returns-else-taken-above : goal.returns-else-taken-above
returns-else-taken-above t c =
    let v = side_of c.args.side c.args.self.now in
    let e = sym c.in-Some.ensures.taken in (
      λ h. holds-on v c.args.above.0 c.args.seq c.in-Some.taken c.own.result e c.own.ensures.number (c.holds.ensures.0 h),
      λ h. c.holds.ensures.1 (holds-back v c.args.above.0 c.args.seq h c.in-Some.taken c.own.result e c.if-taken-above.false c.own.ensures.number),
    )

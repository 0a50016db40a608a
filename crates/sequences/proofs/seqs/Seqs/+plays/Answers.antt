-- By the sequence's last move and its own part.
use Rattle.std.proofs.Common.{sym, refl, arith}
use Rattle.sequences.specs.Number.{side_of, nothing}
use Rattle.sequences.proofs.Holding.{set_in, own_lower, none-empty, plays-on, plays-named, plays-back}
use Rattle.sequences.proofs.seqs.Seqs.+plays.Goals as goal

pub names-requires : goal.names-requires
names-requires t c =
    let low = set_in _ c.last.ensures.rules c.args.seq c.in-Some.taken (sym c.in-Some.ensures.taken) in
    omega (arith, c.requires.per_set)

pub own-requires : goal.own-requires
own-requires t c = set_in _ c.last.ensures.rules c.args.seq c.in-Some.taken (sym c.in-Some.ensures.taken)

pub plays-requires : goal.plays-requires
plays-requires t c =
    let lower = own_lower _ c.last.ensures.rules c.args.seq c.in-Some.taken c.own.result (sym c.in-Some.ensures.taken) c.own.ensures.number in
    (omega arith, (omega arith, c.requires.per_set))

pub returns-in-None : goal.returns-in-None
returns-in-None t c =
    let empty = none-empty (side_of c.args.side c.args.self.now) c.args.seq c.requires.known (sym c.in-None.ensures.taken) in
    (λ h. rw empty nothing, λ h. refl)

pub returns-then-names : goal.returns-then-names
returns-then-names t c =
    let v = side_of c.args.side c.args.self.now in
    let e = sym c.in-Some.ensures.taken in
    let named = c.names.ensures.0 c.if-names.true in (
      λ h. plays-on v c.args.plan.now c.args.seq c.in-Some.taken c.own.result e c.own.ensures.number named (c.plays.ensures.0 h),
      λ h. c.plays.ensures.1 (plays-back v c.args.plan.now c.args.seq h c.in-Some.taken c.own.result e c.own.ensures.number),
    )

pub returns-else-names : goal.returns-else-names
returns-else-names t c =
    let v = side_of c.args.side c.args.self.now in
    let e = sym c.in-Some.ensures.taken in
    (λ h. absurd (cc), λ h. c.names.ensures.1 (plays-named v c.args.plan.now c.args.seq h c.in-Some.taken e))

-- A sequence is past a set where its last move's set is under it.
use Rattle.std.proofs.Common.{sym}
use Rattle.sequences.specs.Number.{side_of}
use Rattle.deviation_gains.proofs.GainPast.{past_by_last}
use Rattle.deviation_gains.proofs.deviations.is_past.Goals as goal

pub returns-in-Some-last : goal.returns-in-Some-last
returns-in-Some-last c =
    let v = side_of c.args.trigger.now.side c.args.seqs.now in
    let past = past_by_last v c.in-Some.set.0 c.args.seq c.in-Some-last.taken (sym c.in-Some-last.ensures.taken) in
    record {
      exact = rw c.in-Some.is (λ h. past.0 (c.under.ensures.0 h), λ held. c.under.ensures.1 (past.1 held));
    }

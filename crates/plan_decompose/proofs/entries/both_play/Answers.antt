-- A relevant pair is of sequences that are there.
use Rattle.plan_decompose.proofs.entries.both_play.Goals as goal

pub plays-requires-clause-known : goal.plays-requires-clause-known
plays-requires-clause-known c =
    let pair = c.pair-first.ensures.rules.listed.each_pair c.args.k c.pair-first.result c.pair-first.ensures.item in
    rw c.seqs-seqs.ensures pair.0

pub plays-requires-then-plays-clause-known : goal.plays-requires-then-plays-clause-known
plays-requires-then-plays-clause-known c =
    let pair = c.pair-first.ensures.rules.listed.each_pair c.args.k c.pair-first.result c.pair-first.ensures.item in
    rw c.seqs-seqs.ensures pair.1

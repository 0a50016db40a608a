-- Payoffs are within 2^40.
use Rattle.std.proofs.Common.{◌^◌, arith}
use Rattle.cert_check.proofs.sides.reduced.Goals as goal

pub add_row-requires-clause-room : goal.add_row-requires-clause-room
add_row-requires-clause-room c =
    (2 ^ 116, 2 ^ 102, c.in_ok-sums.ensures.bound, λ k. rw c.payoffs.ensures.entries (omega (arith, c.requires.bounded.amounts c.args.side k)), omega arith)

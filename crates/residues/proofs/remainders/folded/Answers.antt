use Rattle.std.proofs.Common.{arith}
use Rattle.residues.proofs.Folding.{remainder_low, remainder_high, twice_below}
use Rattle.residues.proofs.remainders.folded.Goals as goal

pub returns-then-twice-prime : goal.returns-then-twice-prime
returns-then-twice-prime c = remainder_low c.args.value 2305843009213693952 c.args.short (omega arith) (omega arith)

pub returns-else-twice-prime : goal.returns-else-twice-prime
returns-else-twice-prime c =
    remainder_high c.args.value 2305843009213693952 c.args.short (omega arith) (omega arith)
    (twice_below c.args.value 2305843009213693952 c.args.short c.requires.short (omega arith) (omega arith))

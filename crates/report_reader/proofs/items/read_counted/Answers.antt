-- The number that was read is 0.
use Rattle.std.proofs.Common.{◌≤◌, ◌<◌, arith}
use Rattle.report_reader.proofs.Stopping.{stop_number}
use Rattle.report_reader.proofs.CutReading.{piece_of}
use Rattle.report_reader.proofs.Numerals.{decimal_some}
use Rattle.std.specs.Fmt.{decimal}
use Rattle.report_reader.proofs.items.read_counted.Goals as goal

pub returns-then-count-lt1-clause-refused : goal.returns-then-count-lt1-clause-refused
returns-then-count-lt1-clause-refused c =
    stop_number (λ n. (1 ≤ n) × (n < c.args.limit)) c.args.pieces.now c.in-Some.count c.next.ensures.first c.in-Some.ensures.text
    (omega (arith, c.if-count-lt1.true))
    (λ n good. (omega (arith, good, c.ranges.limit.fits), λ same. absurd (omega (arith, good, same, c.if-count-lt1.true))))

pub returns-clause-piece : goal.returns-clause-piece
returns-clause-piece c =
    piece_of (decimal c.in-Some.count) c.next.ensures.first c.in-Some.ensures.text
    (decimal_some c.in-Some.count (omega (arith, c.in-Some.ensures.below, c.ranges.limit.fits))) c.pass.ensures.piece

-- The column that was read is below the least one.
use Rattle.std.proofs.Common.{◌≤◌, ◌<◌, ◌^◌, arith}
use Rattle.report_reader.proofs.Stopping.{stop_number}
use Rattle.report_reader.proofs.CutReading.{piece_of}
use Rattle.report_reader.proofs.Numerals.{decimal_some}
use Rattle.std.specs.Fmt.{decimal}
use Rattle.report_reader.proofs.items.read_column.Goals as goal

pub returns-then-column-from-clause-refused : goal.returns-then-column-from-clause-refused
returns-then-column-from-clause-refused c =
    stop_number (λ n. (c.args.least ≤ n) × (n < 2 ^ 32)) c.args.pieces.now c.in-Some.column c.next.ensures.first c.in-Some.ensures.text
    (omega (arith, c.in-Some.ensures.below))
    (λ n good. (omega (arith, good), λ same. absurd (omega (arith, good, same, c.if-column-from.true, c.from.ensures))))

pub returns-clause-piece : goal.returns-clause-piece
returns-clause-piece c =
    piece_of (decimal c.in-Some.column) c.next.ensures.first c.in-Some.ensures.text
    (decimal_some c.in-Some.column (omega (arith, c.in-Some.ensures.below))) c.pass.ensures.piece

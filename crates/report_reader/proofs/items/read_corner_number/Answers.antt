-- The number's text is one piece.
use Rattle.report_reader.proofs.CutReading.{piece_of}
use Rattle.report_reader.proofs.Numerals.{decimal_some}
use Rattle.std.specs.Fmt.{decimal}
use Rattle.std.proofs.Common.{arith}
use Rattle.report_reader.proofs.items.read_corner_number.Goals as goal

pub returns-clause-piece : goal.returns-clause-piece
returns-clause-piece c =
    piece_of (decimal c.in-Some.number) c.next.ensures.first c.in-Some.ensures.text
    (decimal_some c.in-Some.number (omega (arith, c.in-Some.ensures.below, c.ranges.corners.fits))) c.pass.ensures.piece

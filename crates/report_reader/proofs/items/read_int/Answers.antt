-- The number's text is one piece.
use Rattle.report_reader.proofs.CutReading.{piece_of}
use Rattle.report_reader.proofs.Numerals.{signed_some}
use Rattle.std.specs.Fmt.{signed_decimal}
use Rattle.corr_num.proofs.PrintedTerms.{narrow_returned}
use Rattle.std.proofs.Common.{arith}
use Rattle.report_reader.proofs.items.read_int.Goals as goal

pub returns-clause-piece : goal.returns-clause-piece
returns-clause-piece c =
    rw (narrow_returned c.in-Some.value c.in-Some.ensures.below)
    (piece_of (signed_decimal c.in-Some.value) c.next.ensures.first c.in-Some.ensures.text
    (signed_some c.in-Some.value (omega (arith, c.in-Some.ensures.below))) c.pass.ensures.piece)

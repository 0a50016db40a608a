-- The number that was read is below 1.
use Rattle.std.proofs.Common.{arith}
use Rattle.std.proofs.lemmas.Int.{ints}
use Rattle.corr_num.proofs.PrintedTerms.{narrow_returned}
use Rattle.report_form.specs.Ranges.{IsPositive}
use Rattle.report_reader.proofs.Stopping.{stop_signed}
use Rattle.report_reader.proofs.CutReading.{piece_of}
use Rattle.report_reader.proofs.Numerals.{signed_some}
use Rattle.std.specs.Fmt.{signed_decimal}
use Rattle.report_reader.proofs.items.read_positive.Goals as goal

pub returns-then-value-lt1-clause-refused : goal.returns-then-value-lt1-clause-refused
returns-then-value-lt1-clause-refused c =
    let low = rw (narrow_returned c.in-Some.value c.in-Some.ensures.below) at c.if-value-lt1.true in
    stop_signed (λ z. IsPositive z) c.args.pieces.now c.in-Some.value c.next.ensures.first c.in-Some.ensures.text
    (omega (arith, c.in-Some.ensures.below))
    (λ z good. (omega (arith, good.1), λ same. absurd (omega (arith, ints, good.0, same, low))))

pub returns-clause-piece : goal.returns-clause-piece
returns-clause-piece c =
    rw (narrow_returned c.in-Some.value c.in-Some.ensures.below)
    (piece_of (signed_decimal c.in-Some.value) c.next.ensures.first c.in-Some.ensures.text
    (signed_some c.in-Some.value (omega (arith, c.in-Some.ensures.below))) c.pass.ensures.piece)

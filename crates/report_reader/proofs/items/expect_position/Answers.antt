-- The number that was read isn't the position.
use Rattle.std.proofs.Common.{◌≡◌, arith}
use Rattle.report_reader.proofs.Stopping.{stop_number}
use Rattle.report_reader.proofs.CutReading.{piece_of}
use Rattle.report_reader.proofs.Numerals.{decimal_some}
use Rattle.std.specs.Fmt.{decimal}
use Rattle.std.proofs.Common.{ap, ◌∙◌}
use Rattle.report_reader.proofs.items.expect_position.Goals as goal

pub returns-then-number-position-clause-refused : goal.returns-then-number-position-clause-refused
returns-then-number-position-clause-refused c =
    stop_number (λ n. n ≡ c.args.position) c.args.pieces.now c.in-Some.number c.next.ensures.first c.in-Some.ensures.text
    (omega (arith, c.in-Some.ensures.below))
    (λ n good. (omega (arith, good, c.ranges.position.fits), λ same. absurd (omega (arith, good, same, c.if-number-position.true))))

pub returns-clause-piece : goal.returns-clause-piece
returns-clause-piece c =
    piece_of (decimal c.args.position) c.next.ensures.first (c.in-Some.ensures.text ∙ ap decimal c.if-number-position.false)
    (decimal_some c.args.position (omega (arith, c.ranges.position.fits))) c.pass.ensures.piece

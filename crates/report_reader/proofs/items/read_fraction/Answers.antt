-- The fraction's text is one piece.
use Rattle.report_reader.proofs.CutReading.{piece_of}
use Rattle.report_text.specs.PartText.{frac_text}
use Rattle.report_reader.proofs.Slashes.{frac_some}
use Rattle.report_reader.proofs.items.read_fraction.Goals as goal

pub returns-clause-piece : goal.returns-clause-piece
returns-clause-piece c =
    piece_of (frac_text c.in-Some.value) c.next.ensures.first c.in-Some.ensures.text (frac_some c.in-Some.value c.in-Some.ensures.payoff)
    c.pass.ensures.piece

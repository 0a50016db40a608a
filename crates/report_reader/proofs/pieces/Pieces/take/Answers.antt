-- The next piece, where it is this text, is read.
use Rattle.std.proofs.Common.{sym, ◌∙◌}
use Rattle.report_reader.proofs.CutReading.{piece_cut}
use Rattle.report_reader.proofs.Reading.{not_other, piece_read, same_text}
use Rattle.report_reader.proofs.pieces.Pieces.take.Goals as goal

pub returns-clause-text : goal.returns-clause-text
returns-clause-text c = λ t.
    let same = same_text _ _ (not_other _ c.if-ne.ensures) in
    piece_read c.self.inside.bytes.now c.self.inside.at c.next-piece.result.now c.args.text.now same c.self.view_is
    c.next-piece.ensures.first

pub returns-clause-piece : goal.returns-clause-piece
returns-clause-piece c = λ t some.
    let same = same_text _ _ (not_other _ c.if-ne.ensures) in
    piece_cut c.args.text.now (sym same ∙ c.next-piece.ensures.first) some (returns-clause-text c t)

-- What is passed is the first piece.
use Rattle.std.proofs.Common.{refl}
use Rattle.report_reader.specs.Reading.{first_piece, left_of}
use Rattle.report_reader.proofs.CutReading.{piece_cut}
use Rattle.report_reader.proofs.Reading.{piece_read}
use Rattle.report_reader.proofs.pieces.Pieces.pass.Goals as goal

pub returns-clause-piece : goal.returns-clause-piece
returns-clause-piece c some =
    let piece = first_piece (left_of c.args.self.now) in
    piece_cut piece refl some
    (piece_read c.self.inside.bytes.now c.self.inside.at c.next.result.now piece c.next.ensures.first c.self.view_is c.next.ensures.first)

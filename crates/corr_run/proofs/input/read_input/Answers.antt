use Rattle.std.proofs.Common.{arith}
use Rattle.corr_run.proofs.Reading.{TakesAtMost-behind}
use Rattle.corr_run.proofs.input.read_input.Goals as goal

pub returns-in_err-take_piece-clause-taken : goal.returns-in_err-take_piece-clause-taken
returns-in_err-take_piece-clause-taken g c =
    TakesAtMost-behind _ _ _ c.loop-bytes.bytes.items _ _ c.loop-bytes.invariant.read c.in_err-take_piece.ensures.taken
    (omega (arith, c.loop-bytes.bytes.ok.0, c.len-in-loop-bytes.ensures, c.loop-bytes.invariant.size))

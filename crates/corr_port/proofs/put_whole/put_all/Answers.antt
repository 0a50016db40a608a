use Rattle.std.proofs.Common.{arith, length-drop}
use Rattle.std.proofs.lemmas.List.{take_rest}
use Rattle.corr_port.proofs.Fronts.{OnErr-always, Appends-more, AppendsFront-kept}
use Rattle.corr_port.proofs.put_whole.put_all.Goals as goal

pub returns-in_err-done-clause-front : goal.returns-in_err-done-clause-front
returns-in_err-done-clause-front g c =
    OnErr-always _ (AppendsFront-kept _ _ _ c.args.piece.now c.loop-done.done c.loop-done.invariant.added c.in_err-done.ensures.kept)

pub loop-done-preserved : goal.loop-done-preserved
loop-done-preserved g c = record {
  within = omega (arith, rw (take_rest, length-drop) at c.in_ok-done.ensures.within);
  added = Appends-more _ _ _ c.args.piece.now c.loop-done.done c.in_ok-done.field-0 c.loop-done.invariant.added (rw take_rest at c.in_ok-done.ensures.added);
  start = λ none. absurd (omega (arith, c.in_ok-done.ensures.some));
  count = omega (arith, c.loop-done.invariant.count, c.in_ok-done.ensures.count);
}

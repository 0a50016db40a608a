-- The loop has added the items before this one.
use Rattle.std.proofs.Common.{Some, sym, ap, ◌∙◌, pos, arith}
use Rattle.std.proofs.lemmas.Option.{slice_get-get_or}
use Rattle.report_text.specs.PartText.{int_text}
use Rattle.report_text.proofs.Items.{Adds-item, AddsFront-item, Adds-all, at_exit}
use Rattle.report_text.proofs.lists.add_numbers.Goals as goal

pub loop-k-preserved : goal.loop-k-preserved
loop-k-preserved c = Adds-item (λ k. int_text) c.args.numbers.now c.loop-k.k _ (slice_get-get_or c.args.numbers.now c.loop-k.k (pos 0) (omega (arith, c.len-k-end.ensures.count)) ∙ ap Some (sym c.at.ensures.item)) c.loop-k.invariant c.in_ok-add_spaced.ensures.ok

pub returns-clause-ok : goal.returns-clause-ok
returns-clause-ok c = Adds-all (λ k. int_text) c.args.numbers.now c.loop-k.k (omega arith) c.loop-k.invariant

pub returns-in_err-add_spaced-clause-err : goal.returns-in_err-add_spaced-clause-err
returns-in_err-add_spaced-clause-err c = at_exit _ (AddsFront-item (λ k. int_text) c.args.numbers.now c.loop-k.k _ (slice_get-get_or c.args.numbers.now c.loop-k.k (pos 0) (omega (arith, c.len-k-end.ensures.count)) ∙ ap Some (sym c.at.ensures.item)) c.loop-k.invariant c.in_err-add_spaced.ensures.err)

-- The loop has added the items before this one.
use Rattle.std.proofs.Common.{◌≡◌, Some, length, slice_get, ap, ◌<◌, ℕ, List, Option, None, slice_index_or, arith}
use Rattle.std.proofs.lemmas.Option.{slice_get-get_or}
use Rattle.report_text.specs.PartText.{action_text}
use Rattle.report_text.proofs.Items.{Adds-item, AddsFront-item, Adds-all, at_exit}
use Rattle.report_text.proofs.lists.add_plan.Goals as goal

read : {lent plan : List (Option ℕ)} {k : ℕ} → lent ≡ plan → k < length lent → slice_get plan k ≡ Some (slice_index_or lent k None)
read {lent} {plan} {k} same inside = rw (← same) (slice_get-get_or lent k None inside)

pub loop-entry-preserved : goal.loop-entry-preserved
loop-entry-preserved c = Adds-item (λ k. action_text) c.args.plan.now c.loop-entry.entry-index _ (read c.entries-entry-items.ensures.all c.loop-entry-test.true) c.loop-entry.invariant c.in_ok-add_action.ensures.ok

pub returns-clause-ok : goal.returns-clause-ok
returns-clause-ok c = Adds-all (λ k. action_text) c.args.plan.now c.loop-entry.entry-index (omega (arith, ap length c.entries-entry-items.ensures.all)) c.loop-entry.invariant

pub returns-in_err-add_action-clause-err : goal.returns-in_err-add_action-clause-err
returns-in_err-add_action-clause-err c = at_exit _ (AddsFront-item (λ k. action_text) c.args.plan.now c.loop-entry.entry-index _ (read c.entries-entry-items.ensures.all c.loop-entry-test.true) c.loop-entry.invariant c.in_err-add_action.ensures.err)

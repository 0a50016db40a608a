-- A marked column stands behind those that are listed.
use Rattle.std.proofs.Common.{◌<◌, ◌^◌, ◌∙◌, ap, Some, false, arith}
use Rattle.std.proofs.lemmas.Option.{slice_get-get_or}
use Rattle.notion_solve.proofs.Marking.{all_with, all_without, ascends_on, only_with, ascends_with, ascends_from}
use Rattle.notion_solve.proofs.wide.marked.Goals as goal
use Rattle.notion_solve.proofs.wide.marked.Goals.{then-mark+in_ok-push, else-mark}

pub loop-col-preserved : goal.loop-col-preserved
loop-col-preserved c =
    let small : c.loop-col.col < 2 ^ 32 = omega (arith, c.loop-col-test.true, c.requires) in
    elim c.if-mark.branch [
      | then-mark+in_ok-push w ↦ (
        rw (w.columns-is, w.in_ok-push.ensures.ok) (ascends_with 0 c.loop-col.col c.loop-col.columns small c.loop-col.invariant.0),
        rw (w.columns-is, w.in_ok-push.ensures.ok) (all_with c.args.marks.now c.loop-col.col c.loop-col.columns c.loop-col.invariant.1),
        rw (w.columns-is, w.in_ok-push.ensures.ok) (only_with c.args.marks.now c.loop-col.col c.loop-col.columns
            (slice_get-get_or c.args.marks.now c.loop-col.col false c.loop-col-test.true ∙ ap (λ b. Some b) w.if-mark.true)
            c.loop-col.invariant.2),
      )
      | else-mark w ↦ (
        rw w.columns-is (ascends_on 0 c.loop-col.col c.loop-col.columns c.loop-col.invariant.0),
        rw w.columns-is (all_without c.args.marks.now c.loop-col.col c.loop-col.columns
            (slice_get-get_or c.args.marks.now c.loop-col.col false c.loop-col-test.true ∙ ap (λ b. Some b) w.if-mark.false)
            c.loop-col.invariant.1),
        rw w.columns-is c.loop-col.invariant.2,
      )
    ]

pub returns-clause-ascend : goal.returns-clause-ascend
returns-clause-ascend c = ascends_from 0 c.loop-col.col c.loop-col.columns c.loop-col.invariant.0

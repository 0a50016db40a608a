-- One entry more is put behind those before.
use Rattle.std.proofs.Common.{sym, ◌∙◌, arith}
use Rattle.equilibrium.specs.FullChoice.{graft, is_under}
use Rattle.plain_programs.proofs.Grafting.{entry_chosen, entry_kept}
use Rattle.plain_programs.proofs.grafts.graft.Goals as goal
use Rattle.plain_programs.proofs.grafts.graft.Goals.{then-is_under+in_ok-push, else-is_under+in_ok-push-2}

pub loop-set-preserved : goal.loop-set-preserved
loop-set-preserved c =
    let anew = is_under c.args.side c.args.game.now c.args.above.0 in
    let whole = graft c.args.side c.args.game.now c.args.above.0 c.args.choice.now c.args.plan.now in
    elim c.if-is_under.branch [
      | then-is_under+in_ok-push w ↦
          rw (w.entries-is, w.in_ok-push.ensures.items)
          (entry_chosen anew c.args.choice.now c.loop-set.set c.args.plan.now c.loop-set.entries.items w.at.result.now whole
          (omega arith) c.loop-set.invariant
          (sym c.is_under.ensures ∙ w.if-is_under.true) w.at.ensures.item)
      | else-is_under+in_ok-push-2 w ↦
          rw (w.entries-is, w.in_ok-push-2.ensures.items)
          (entry_kept anew c.args.choice.now c.loop-set.set c.args.plan.now c.loop-set.entries.items w.at-else-is_under.result whole (omega arith) c.loop-set.invariant
          (sym c.is_under.ensures ∙ w.if-is_under.false) w.at-else-is_under.ensures.entry)
    ]

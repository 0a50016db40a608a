-- The pivot's row is passed over, and each other row is what `eliminate` says.
use Rattle.std.proofs.Common.{◌<◌, [], length, ◌∙◌, arith}
use Rattle.std.proofs.lemmas.List.{get_or_default}
use Rattle.int_tableau.proofs.Eliminating.{no_row_passed, next_row, pivot_passed}
use Rattle.int_tableau.proofs.dense.eliminate_others.Goals as goal
use Rattle.int_tableau.proofs.dense.eliminate_others.Goals.{then-i-at+in_default, else-i-at}

pub loop-i-init : goal.loop-i-init
loop-i-init c = no_row_passed _ _ _ _ _

pub loop-i-preserved : goal.loop-i-preserved
loop-i-preserved c =
    elim c.if-i-at.branch [
      | then-i-at+in_default w ↦
          let inside : c.loop-i.i < length c.loop-i.rows = omega (arith, c.loop-i.auto.rows) in
          let read = get_or_default c.loop-i.rows c.loop-i.i w.index-rows-i.result [] inside ∙ c.loop-i.invariant.rest c.loop-i.i (omega arith) in
          next_row c.args.rows.now c.loop-i.rows c.if-i-at.rows c.args.at c.args.chosen.now c.args.col _ c.loop-i.i w.eliminate.new.self c.loop-i.invariant inside w.rows-is (rw read at w.in_default.ensures)
      | else-i-at w ↦
          pivot_passed c.args.rows.now c.loop-i.rows c.if-i-at.rows c.args.at c.args.chosen.now c.args.col _ c.loop-i.i c.loop-i.invariant w.rows-is w.if-i-at.false
    ]

-- A row more is filled, and all are in the end.
use Rattle.std.proofs.Common.{rules, arith}
use Rattle.std.proofs.lemmas.Option.{slice_get-get_or, slice_get_within}
use Rattle.plan_polytope.proofs.Filling.{row_more}
use Rattle.plan_polytope.proofs.polytopes.fill_rows.Goals as goal

pub loop-k-preserved : goal.loop-k-preserved
loop-k-preserved c = (
  search rules,
  search rules,
  c.in_ok-fill_row.ensures.units,
  row_more c.args.pairs.now c.args.rows.now c.loop-k.k _ c.args.lp.now c.loop-k.lp c.fill_row.new.lp (slice_get-get_or c.args.rows.now c.loop-k.k _ (omega arith)) c.loop-k.invariant.3 c.in_ok-fill_row.ensures.row c.in_ok-fill_row.ensures.other_rows,
)

pub returns-clause-filled : goal.returns-clause-filled
returns-clause-filled c = λ r row e.
    c.loop-k.invariant.3.done r row (omega (arith, slice_get_within c.args.rows.now r row e)) e

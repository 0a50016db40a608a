-- A column that doesn't improve has its bound ahead, and none passed before is left behind.
use Rattle.std.proofs.Common.{ℕ, ◌<◌, pos, ◌≤ℤ◌, inl, inr, arith, below_more}
use Rattle.corr_num.proofs.PrintedTerms.{narrow_returned}
use Rattle.bland_simplex.specs.Improving.{reduced}
use Rattle.polygon_sweep.proofs.Angles.{bound_ahead, costs_between, costs_up_to, stays_over}
use Rattle.polygon_sweep.proofs.bearings.next_direction.Goals as goal

pub loop-col-preserved : goal.loop-col-preserved
loop-col-preserved g c =
    let t = g.T.Tableau.content c.args.table.now in
    let one = narrow_returned c.entry-first.result c.entry-first.ensures.narrow in
    let two = narrow_returned c.entry-second.result c.entry-second.ensures.narrow in
    let bound = rw (one, two, c.entry-first.ensures.value, c.entry-second.ensures.value) at c.bound_of.ensures.bound in
    let stays = c.requires.optimal c.loop-col.col (omega (arith, c.loop-col-test.true)) in
    let ahead = bound_ahead c.args.dir.now _ _ _ bound (λ low. stays (inl low)) (λ level low. stays (inr (level, low))) in
    let turns = c.first_met-next.ensures.turns c.args.dir.now ahead c.loop-col.invariant.1 in
    let before : (k : ℕ) → k < c.loop-col.col → pos 0 ≤ℤ reduced t c.args.shape.rows c.first_met-next.result k = λ k h.
    costs_between c.args.dir.now c.loop-col.next c.first_met-next.result _ _ c.loop-col.invariant.1.left turns.left c.first_met-next.ensures.sooner
    (stays_over _ (λ low. c.requires.optimal k (omega (arith, c.loop-col-test.true)) (inl low))) (c.loop-col.invariant.2 k h) in (
      c.first_met-next.ensures.coprime,
      turns,
      below_more (λ k. pos 0 ≤ℤ reduced t c.args.shape.rows c.first_met-next.result k) c.loop-col.col before
          (costs_up_to c.first_met-next.result _ _ _ bound c.first_met-next.ensures.not_behind),
    )

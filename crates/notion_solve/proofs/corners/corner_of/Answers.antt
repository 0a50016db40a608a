-- The decomposition's entries are in range, and they are no more than the relevant pairs.
use Rattle.std.proofs.Common.{◌≤◌, ◌≤ℤ◌, pos, length, arith}
use Rattle.std.proofs.lemmas.Int.{ints}
use Rattle.corr_num.proofs.PrintedTerms.{narrow_returned}
use Rattle.notion_solve.proofs.Cutting.{cut_solution, cut_total}
use Rattle.std.proofs.lemmas.Option.{slice_get_within}
use Rattle.polygon_sweep.specs.Swept.{number_in}
use Rattle.notion_solve.proofs.Points.{cut_value, paid_narrow}
use Rattle.notion_solve.proofs.Weighing.{entry_pairs}
use Rattle.notion_solve.proofs.corners.corner_of.Goals as goal

pub decompose-requires-clause-solution : goal.decompose-requires-clause-solution
decompose-requires-clause-solution c =
    let corner = c.requires.corner in
    cut_solution c.args.pairs.now corner.0 c.args.corner.now c.in_ok-values.values corner.2 corner.1 (rw c.len.ensures.count at c.in_ok-values.ensures.front) c.requires.no_triangle

pub returns-clause-ranges : goal.returns-clause-ranges
returns-clause-ranges c =
    let corner = c.requires.corner.1 in
    let above = corner.positive in
    let at_most : length c.in_ok-pairs.pairs ≤ 65535 = omega (arith, c.in_ok-pairs.ensures.few, c.requires.few) in
    let positive : pos 1 ≤ℤ c.args.corner.now.den = omega (arith, ints) in
    rw (narrow_returned c.args.corner.now.den corner.den)
    ((positive, corner.den), c.in_ok-pairs.ensures.some, at_most, entry_pairs c.args.game.now c.args.pairs.now.seqs c.in_ok-pairs.pairs c.point_of-point.ensures.rules c.in_ok-pairs.ensures.entries, c.point_of-point.ensures.ranges)

pub returns-clause-spread : goal.returns-clause-spread
returns-clause-spread c =
    let needs = c.requires.corner in
    let corner = needs.1 in
    let p = c.args.pairs.now in
    let cut = rw c.len.ensures.count at c.in_ok-values.ensures.front in
    let values = c.in_ok-values.values in
    let s = cut_solution p needs.0 c.args.corner.now values needs.2 corner cut c.requires.no_triangle in
    rw (narrow_returned c.args.corner.now.den corner.den) (record {
      values = values;
      meets = s.rows;
      total = cut_total p needs.0 c.args.corner.now values needs.2 corner cut;
      sums = c.in_ok-pairs.ensures.sums;
    })

pub returns-clause-reached : goal.returns-clause-reached
returns-clause-reached c = λ lp at.
    let p = c.args.pairs.now in
    let values = c.in_ok-values.values in
    let cut = rw c.len.ensures.count at c.in_ok-values.ensures.front in
    rw (narrow_returned c.args.corner.now.den at.den) (record {
      entries = c.in_ok-pairs.ensures.entries;
      few = c.in_ok-pairs.ensures.few;
      x = number_in c.args.corner.now.values;
      solution = at.solution;
      narrow = paid_narrow lp c.args.corner.now at;
      point = rw (← at.pays_one, ← at.pays_two) c.point_of-point.ensures.point;
      sums = λ k pair here. rw (← cut_value c.args.corner.now.values values (length p.pairs) k cut (slice_get_within p.pairs k pair here)) (c.in_ok-pairs.ensures.sums k pair here);
    })

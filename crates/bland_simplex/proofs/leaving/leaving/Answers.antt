-- A row is passed over, takes the first one's place, or leaves it there.
use Rattle.std.proofs.Common.{◌≡◌, ◌+◌, sym, ◌∙◌, arith}
use Rattle.std.proofs.lemmas.Int.{ints}
use Rattle.bland_simplex.proofs.Ratios.{option_passed, option_first, option_taken, option_kept, leaving_at_last}
use Rattle.bland_simplex.proofs.leaving.leaving.Goals as goal
use Rattle.bland_simplex.proofs.leaving.leaving.Goals.{then-entry-gt0+then-is_first, in-None, in-Some, then-entry-gt0+else-is_first, else-entry-gt0}

pub loop-row-preserved : goal.loop-row-preserved
loop-row-preserved g c =
    let cols = c.args.shape.cols in
    let side = c.args.shape.cols + c.args.shape.rows in
    let t = g.T.Tableau.content c.args.table.now in
    elim c.if-entry-gt0.branch [
      | then-entry-gt0+then-is_first w ↦ elim w.match-first.branch [
        | in-None v ↦ option_first cols side t c.args.col c.loop-row.row c.loop-row.first _ c.entry.result c.loop-row.invariant v.in-None.is c.entry.ensures.value (omega (arith, ints, w.if-entry-gt0.true)) w.first-is
        | in-Some v ↦ option_taken cols side t c.args.col c.loop-row.row c.loop-row.first _ v.in-Some.other c.entry.result c.loop-row.invariant v.in-Some.is c.entry.ensures.value (omega (arith, ints, w.if-entry-gt0.true)) (v.leaves_before-is_first.ensures.0 (sym v.is_first-is ∙ w.if-is_first.true)) w.first-is
      ]
      | then-entry-gt0+else-is_first w ↦ elim w.match-first.branch [
        | in-None v ↦ absurd (cc)
        | in-Some v ↦ option_kept cols side t c.args.col c.loop-row.row c.loop-row.first _ v.in-Some.other c.loop-row.invariant v.in-Some.is (λ leaves. let said = v.leaves_before-is_first.ensures.1 leaves in let not = sym v.is_first-is ∙ w.if-is_first.false in absurd (cc)) (w.first-is ∙ v.first-is ∙ sym v.in-Some.is)
      ]
      | else-entry-gt0 w ↦ option_passed cols side t c.args.col c.loop-row.row c.loop-row.first _ c.entry.result c.loop-row.invariant c.entry.ensures.value (omega (arith, ints, w.if-entry-gt0.false)) w.first-is
    ]

pub returns : goal.returns
returns g c =
    let end : c.loop-row.row ≡ c.args.shape.rows = omega arith in
    leaving_at_last c.args.shape.cols (c.args.shape.cols + c.args.shape.rows) (g.T.Tableau.content c.args.table.now)
    c.args.col c.args.shape.rows c.loop-row.first c.unwrap.result (rw end at c.loop-row.invariant) c.unwrap.ensures

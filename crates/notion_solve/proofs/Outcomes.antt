-- A polygon is of a program that has solutions, and multipliers are of one that has none, so that a program has one kind of outcome.
use Rattle.std.proofs.Common.{List, ℤ, arith}
use Rattle.lp_form.proofs.Certified.{shown_empty}
use Rattle.lp_form.specs.Program.{IsProgram, LpView}
use Rattle.lp_form.specs.Solutions.{HasSolution}
use Rattle.sequences.proofs.Adding.{within}
use Rattle.polygon_sweep.specs.declared.corners.Swept.{Swept}
use Rattle.polygon_sweep.specs.Swept.{number_in}
use Rattle.notion_solve.specs.declared.blocks.Outcome.TheVariants.{Polygon, Empty}
use Rattle.notion_solve.specs.Outcome.{IsOutcome}

pub polygons_have_solutions : (lp : LpView) (swept : Swept) → IsOutcome lp (Polygon swept) → HasSolution lp
polygons_have_solutions lp swept is =
    let there = within swept.corners 0 (omega (arith, is.0.a_corner)) in
    let corner = is.0.corners 0 there.0 (omega (arith, is.0.a_corner)) in
    (_, number_in _, corner.positive, corner.solution)

pub empty_ones_have_none : (lp : LpView) (multipliers : List ℤ) → IsProgram lp → IsOutcome lp (Empty multipliers) → HasSolution lp → ⊥
empty_ones_have_none lp multipliers program is = shown_empty lp program multipliers is.1

pub one_kind : (lp : LpView) (swept : Swept) (multipliers : List ℤ) → IsProgram lp → IsOutcome lp (Polygon swept)
    → IsOutcome lp (Empty multipliers) → ⊥
one_kind lp swept multipliers program polygon empty =
    empty_ones_have_none lp multipliers program empty (polygons_have_solutions lp swept polygon)

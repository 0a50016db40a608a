-- Values in a list are read by their columns, so that a solution in a list meets the rows as they are written for lists.
-- No number of a solution is above its total, so that what is paid is bounded.
use Rattle.std.proofs.Common.{◌≡◌, ℕ, ◌+◌, ℤ, pos, List, Option, Some, None, length, slice_index_or, refl, sym, ◌∙◌, inl, inr, arith}
use Rattle.std.proofs.lemmas.Bool.{cases_lt}
use Rattle.std.proofs.lemmas.Int.{ints}
use Rattle.std.proofs.lemmas.List.{get_or_past}
use Rattle.exact_algebra.proofs.Sums.{sum_to-same}
use Rattle.corr_game.specs.declared.sides.Side.{Side}
use Rattle.corr_game.specs.declared.sides.Side.TheVariants.{One, Two}
use Rattle.corr_game.specs.Game.{GameView}
use Rattle.lp_form.specs.Program.{LpView}
use Rattle.lp_form.specs.Solutions.{HasBoundedPayoffs}
use Rattle.connected_pairs.specs.Connected.{PairsView}
use Rattle.connected_pairs.specs.CorrelationRows.{value_at, value_of}
use Rattle.plan_polytope.specs.CorrelationRow.{column_of}
use Rattle.plan_polytope.specs.Solutions.{SolutionsMeetRows}
use Rattle.lp_form.proofs.Bounding.{bounded_by_total}
use Rattle.plan_polytope.proofs.Equations.{IsPolytope, meets_equations, number_at}
use Rattle.plan_polytope.proofs.NoneAbove.{at_most_total}
use Rattle.plan_polytope.proofs.Units.{at}

value_at_column : (values : List ℤ) (found : Option ℕ) → value_at values found ≡ at found (λ k. slice_index_or values k (pos 0))
value_at_column values None = refl
value_at_column values (Some k) = refl

value_of_column : (p : PairsView) (values : List ℤ) (side : Side) (own beside : ℕ)
    → value_of p values side own beside ≡ number_at p (λ k. slice_index_or values k (pos 0)) side own beside
value_of_column p values One own beside = value_at_column values (column_of p One own beside)
value_of_column p values Two own beside = value_at_column values (column_of p Two own beside)

pub solutions_meet : (g : GameView) (p : PairsView) (lp : LpView) → IsPolytope g p lp → SolutionsMeetRows p lp
solutions_meet g p lp is values total count s =
    let x = λ (k : ℕ). slice_index_or values k (pos 0) in
    let m = meets_equations g p lp total x is s in (
      record {
        row = λ side set place beside here low touched.
            sum_to-same place.actions _ _ (λ a h. value_of_column p values side (place.first + a) beside)
            ∙ m.row side set place beside (record { here = here; in_range = low; touched = touched })
            ∙ sym (value_of_column p values side place.own beside);
        not_negative = λ k. (elim (cases_lt k (length values)) [
          | inl low ↦ s.not_negative k (omega (arith, low, count, is.columns))
          | inr high ↦ rw (get_or_past values k (pos 0) high) (omega (arith, ints))
        ]);
      },
      value_of_column p values One 0 0 ∙ m.whole,
    )

pub polytope_bounded : (g : GameView) (p : PairsView) (lp : LpView) → IsPolytope g p lp → HasBoundedPayoffs lp
polytope_bounded g p lp is = bounded_by_total lp (λ total x some s k low.
    at_most_total p total x is.rules (meets_equations g p lp total x is s) k (omega (arith, low, is.columns)))

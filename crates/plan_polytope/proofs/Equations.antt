-- A solution meets each correlation row as an equation, since the row's right side is 0 and its product is that of its moves
-- less that of the own sequence. The total row says what the pair of empty sequences has.
use Rattle.std.proofs.Common.{◌≡◌, ℕ, ◌+◌, ◌<◌, ℤ, pos, ◌-ℤ◌, ◌*ℤ◌, ◌≤ℤ◌, Option, Some, None, slice_get, length, refl, sym, ap, ◌∙◌, inl, inr, arith}
use Rattle.std.proofs.lemmas.Int.{ints}
use Rattle.std.proofs.lemmas.Option.{slice_get_within}
use Rattle.exact_algebra.specs.Sums.{sum_to}
use Rattle.exact_algebra.proofs.RingLaws.{*ℤ-one, *ℤ-zero}
use Rattle.exact_algebra.proofs.Sums.{sum_to-same}
use Rattle.corr_game.specs.declared.sides.Side.{Side}
use Rattle.corr_game.specs.declared.sides.Side.TheVariants.{One}
use Rattle.corr_game.specs.Game.{GameView}
use Rattle.sequences.specs.declared.places.Place.{Place}
use Rattle.sequences.specs.Number.{count_of, last_of, side_of}
use Rattle.lp_form.specs.Program.{LpView, coefficient, right_of}
use Rattle.lp_form.specs.Solutions.{IsSolution}
use Rattle.connected_pairs.specs.Connected.{PairsView, IsPairs, IsPairsOf, IsTouched, index_of, other}
use Rattle.plan_polytope.specs.declared.rows.Row.{Row}
use Rattle.plan_polytope.specs.CorrelationRow.{IsRowOf, IsTotalRow, column_of}
use Rattle.plan_polytope.specs.Rows.{AreCorrelationRows}
use Rattle.plan_polytope.proofs.Columns.{column_in, some_or_not}
use Rattle.plan_polytope.proofs.Ordering.{row_at}
use Rattle.plan_polytope.proofs.Units.{IsAtPlace, at, row_product, unit, unit-apart, unit-here, unit_product}

-- the number at a sequence of this player and one of the other
abbrev pub number_at : PairsView → (ℕ → ℤ) → Side → ℕ → ℕ → ℤ
number_at p x side own beside = at (column_of p side own beside) x

-- a set with this place has a row beside a sequence of the other player
pub record HasRow (p : PairsView) (side : Side) (set : ℕ) (place : Place) (beside : ℕ) : Type 0 where
  pub here : slice_get (side_of side p.seqs).places set ≡ Some place
  pub in_range : beside < count_of (side_of (other side) p.seqs)
  pub touched : IsTouched p (other side) set (last_of (side_of (other side) p.seqs) beside)

-- its moves have in all what its own sequence has
abbrev pub PassesOn : PairsView → (ℕ → ℤ) → Side → Place → ℕ → Type 0
PassesOn p x side place beside = sum_to place.actions (λ a. number_at p x side (place.first + a) beside) ≡ number_at p x side place.own beside

-- the rows as equations of numbers for the columns
pub record MeetsEquations (p : PairsView) (total : ℤ) (x : ℕ → ℤ) : Type 0 where
  pub row : (side : Side) (set : ℕ) (place : Place) (beside : ℕ) → HasRow p side set place beside → PassesOn p x side place beside
  pub whole : at (index_of p 0 0) x ≡ total
  pub not_negative : (side : Side) (own beside : ℕ) → pos 0 ≤ℤ number_at p x side own beside

-- a program over the pairs of a game that has exactly the correlation rows, with 1 at the total row and 0 behind it
pub record IsPolytope (g : GameView) (p : PairsView) (lp : LpView) : Type 0 where
  pub rules : IsPairs p
  pub whose : IsPairsOf g p
  pub columns : lp.cols ≡ length p.pairs
  pub rows : AreCorrelationRows g p lp
  pub one : right_of lp 0 ≡ pos 1
  pub zeros : (r : ℕ) → right_of lp (r + 1) ≡ pos 0

alike : (a b : ℤ) → a -ℤ b ≡ pos 0 → a ≡ b
alike a b e = omega (arith, ints, e)

row_equation : (g : GameView) (p : PairsView) (lp : LpView) (total : ℤ) (x : ℕ → ℤ) → IsPolytope g p lp → IsSolution lp total x
    → (side : Side) (set : ℕ) (place : Place) (beside : ℕ) → HasRow p side set place beside → PassesOn p x side place beside
row_equation g p lp total x is s side set place beside has =
    let row : Row = row_at side (record { 0 = set }) beside in
    let set_in = slice_get_within (side_of side p.seqs).places set place has.here in
    let known : IsRowOf g p row = (omega (arith, (is.whose.sides side).per_set, set_in), has.in_range, has.touched) in
    let listed = is.rows.listed.all row known in
    let filled = is.rows.filled listed.0 row listed.1 in
    let at_place : IsAtPlace p row place = record { here = has.here; in_range = has.in_range } in
    let product = row_product p is.rules row place lp (listed.0 + 1) lp.cols x (omega (arith, is.columns)) at_place filled in
    let met = s.meets (listed.0 + 1) (omega (arith, is.rows.count, slice_get_within is.rows.rows listed.0 row listed.1)) in
    alike _ _ (sym product ∙ met ∙ ap (λ (r : ℤ). total *ℤ r) (is.zeros listed.0) ∙ *ℤ-zero total)

at_not_negative : (n : ℕ) (x : ℕ → ℤ) → ((k : ℕ) → k < n → pos 0 ≤ℤ x k) → (found : Option ℕ) → ((k : ℕ) → found ≡ Some k → k < n)
    → pos 0 ≤ℤ at found x
at_not_negative n x each None low = omega (arith, ints)
at_not_negative n x each (Some k) low = each k (low k refl)

total_unit : (p : PairsView) (lp : LpView) → IsTotalRow p lp 0 → (k : ℕ) → coefficient lp 0 k ≡ unit (index_of p 0 0) k
total_unit p lp row k = elim (some_or_not (index_of p 0 0) k) [
  | inl here ↦ row.empty k here ∙ sym (unit-here (index_of p 0 0) k here)
  | inr apart ↦ row.elsewhere k apart ∙ sym (unit-apart (index_of p 0 0) k apart)
]

total_row : (g : GameView) (p : PairsView) (lp : LpView) (total : ℤ) (x : ℕ → ℤ) → IsPolytope g p lp → IsSolution lp total x
    → at (index_of p 0 0) x ≡ total
total_row g p lp total x is s =
    let inside : (k : ℕ) → index_of p 0 0 ≡ Some k → k < lp.cols = λ k e. omega (arith, column_in p is.rules One 0 0 k e, is.columns) in
    sym (unit_product lp.cols (index_of p 0 0) x inside)
    ∙ sym (sum_to-same lp.cols _ _ (λ k low. ap (λ (c : ℤ). c *ℤ x k) (total_unit p lp is.rows.total k)))
    ∙ s.meets 0 (omega (arith, is.rows.count)) ∙ ap (λ (r : ℤ). total *ℤ r) is.one ∙ *ℤ-one total

pub meets_equations : (g : GameView) (p : PairsView) (lp : LpView) (total : ℤ) (x : ℕ → ℤ) → IsPolytope g p lp → IsSolution lp total x
    → MeetsEquations p total x
meets_equations g p lp total x is s = record {
  row = row_equation g p lp total x is s;
  whole = total_row g p lp total x is s;
  not_negative = λ side own beside.
      at_not_negative lp.cols x s.not_negative (column_of p side own beside)
      (λ k e. omega (arith, column_in p is.rules side own beside k e, is.columns));
}

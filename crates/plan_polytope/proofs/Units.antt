-- The product with a unit vector is the number at its column. A row is the sum of the unit vectors of its moves' columns
-- less that of the own sequence's, so that its product is the sum of the moves' numbers less the own sequence's.
use Rattle.std.proofs.Common.{◌≡◌, ◌≢◌, ◌⊎◌, ℕ, zero, suc, ◌+◌, ◌<◌, ◌≤◌, nat_eq, cond, ℤ, pos, ◌-ℤ◌, ◌*ℤ◌, Option, Some, None, slice_get, length, refl, sym, ap, ◌∙◌, inl, inr, arith}
use Rattle.std.proofs.lemmas.Bool.{cases_eq}
use Rattle.std.proofs.lemmas.Bool.Decides.{nat_tests}
use Rattle.exact_algebra.specs.Sums.{sum_to}
use Rattle.exact_algebra.proofs.RingLaws.{zero-*ℤ}
use Rattle.exact_algebra.proofs.RingTactic.{ring_laws, linear}
use Rattle.exact_algebra.proofs.Sums.{sum_to-difference, sum_to-exchange, sum_to-nothing, sum_to-one, sum_to-same, sum_to-scale_right}
use Rattle.sequences.specs.declared.places.Place.{Place}
use Rattle.sequences.specs.Number.{count_of, side_of}
use Rattle.lp_form.specs.Program.{LpView, coefficient}
use Rattle.connected_pairs.specs.Connected.{PairsView, IsPairs, other}
use Rattle.plan_polytope.specs.declared.rows.Row.{Row}
use Rattle.plan_polytope.specs.CorrelationRow.{IsCorrelationRow, IsOfMove, column_of}
use Rattle.plan_polytope.proofs.Columns.{column_in, column_one, some_or_not}
use Rattle.plan_polytope.proofs.Filling.{own_apart}

-- the number at a column, and 0 where there is none
abbrev pub at : Option ℕ → (ℕ → ℤ) → ℤ
at None x = pos 0
at (Some col) x = x col

-- 1 at a column, if there is one, and 0 elsewhere
abbrev pub unit : Option ℕ → ℕ → ℤ
unit None k = pos 0
unit (Some col) k = cond (nat_eq col k) (pos 1) (pos 0)

pub unit-here : (found : Option ℕ) (k : ℕ) → found ≡ Some k → unit found k ≡ pos 1
unit-here None k e = absurd (cc)
unit-here (Some col) k e = let same : col ≡ k = cc in grind (arith, nat_tests)

pub unit-apart : (found : Option ℕ) (k : ℕ) → found ≢ Some k → unit found k ≡ pos 0
unit-apart None k apart = refl
unit-apart (Some col) k apart = let other : col ≢ k = λ e. apart (ap Some e) in grind (arith, nat_tests)

pub unit_product : (n : ℕ) (found : Option ℕ) (x : ℕ → ℤ) → ((k : ℕ) → found ≡ Some k → k < n)
    → sum_to n (λ k. unit found k *ℤ x k) ≡ at found x
unit_product n None x low = sum_to-nothing n (λ k. pos 0 *ℤ x k) (λ k h. zero-*ℤ (x k))
unit_product n (Some col) x low =
    let found : Option ℕ = Some col in
    let f = λ (k : ℕ). unit found k *ℤ x k in
    let here : unit found col *ℤ x col ≡ x col = rw (unit-here found col refl) (simp ring_laws (omega (arith, linear))) in
    sum_to-one n col f (low col refl) (λ k h apart. rw (unit-apart found k (λ e. apart (cc))) (zero-*ℤ (x k))) ∙ here

-- one of the first columns is this one, or none is
one_or_none : (f : ℕ → Option ℕ) (k n : ℕ) → ((a : ℕ) × (a < n) × (f a ≡ Some k)) ⊎ ((a : ℕ) → a < n → f a ≢ Some k)
one_or_none f k zero = inr (λ a h. absurd (omega arith))
one_or_none f k (suc n) = elim (some_or_not (f n) k) [
  | inl here ↦ inl (n, omega arith, here)
  | inr apart ↦ elim (one_or_none f k n) [
    | inl m ↦ inl (m.0, omega (arith, m.1), m.2)
    | inr none_there ↦ inr (λ a h. elim (cases_eq a n) [
      | inl same ↦ rw same apart
      | inr lower ↦ none_there a (omega (arith, lower))
    ])
  ]
]

-- the columns of the moves at a row's set, beside its sequence
abbrev move_column : PairsView → Row → Place → ℕ → Option ℕ
move_column p row place a = column_of p row.side (place.first + a) row.beside

-- the column of the own sequence
abbrev own_column : PairsView → Row → Place → Option ℕ
own_column p row place = column_of p row.side place.own row.beside

-- a row is for a set with this place and a sequence that is there
pub record IsAtPlace (p : PairsView) (row : Row) (place : Place) : Type 0 where
  pub here : slice_get (side_of row.side p.seqs).places row.set.0 ≡ Some place
  pub in_range : row.beside < count_of (side_of (other row.side) p.seqs)

move_in_range : (p : PairsView) → IsPairs p → (row : Row) (place : Place) → IsAtPlace p row place → (a : ℕ) → a < place.actions
    → place.first + a < count_of (side_of row.side p.seqs)
move_in_range p rules row place is a low = omega (arith, (rules.sides row.side).numbered.in_range row.set.0 place is.here)

units_of_move : (p : PairsView) → IsPairs p → (row : Row) (place : Place) → IsAtPlace p row place → (a k : ℕ) → a < place.actions
    → move_column p row place a ≡ Some k
    → sum_to place.actions (λ b. unit (move_column p row place b) k) ≡ pos 1
units_of_move p rules row place is a k low e =
    let within : (b : ℕ) → b < place.actions → place.first + b < count_of (side_of row.side p.seqs) = move_in_range p rules row place is in
    let same : (b : ℕ) → b < place.actions → move_column p row place b ≡ Some k → b ≡ a = λ b h f.
    (let one = column_one p rules row.side (place.first + b) (place.first + a) row.beside k (within b h) (within a low) is.in_range f e in
    omega (arith, one)) in
    sum_to-one place.actions a (λ b. unit (move_column p row place b) k) low
    (λ b h apart. unit-apart (move_column p row place b) k (λ f. apart (same b h f)))
    ∙ unit-here (move_column p row place a) k e

units_of_none : (p : PairsView) (row : Row) (place : Place) (k : ℕ) → ((a : ℕ) → a < place.actions → move_column p row place a ≢ Some k)
    → sum_to place.actions (λ b. unit (move_column p row place b) k) ≡ pos 0
units_of_none p row place k none_there =
    sum_to-nothing place.actions (λ b. unit (move_column p row place b) k) (λ b h. unit-apart (move_column p row place b) k (none_there b h))

-- a move of the row's set, by its column
of_move : (p : PairsView) (row : Row) (place : Place) → IsAtPlace p row place → (a k : ℕ) → a < place.actions
    → move_column p row place a ≡ Some k → IsOfMove p row k
of_move p row place is a k low e = (a, place.first + a, (place, is.here, low, refl), e)

no_move : (p : PairsView) (row : Row) (place : Place) → IsAtPlace p row place → (k : ℕ)
    → ((a : ℕ) → a < place.actions → move_column p row place a ≢ Some k) → IsOfMove p row k → ⊥
no_move p row place is k none_there m =
    let same : m.2.0 ≡ place = cc (m.2.1, is.here) in
    let actions = ap (λ (q : Place). q.actions) same in
    let firsts = ap (λ (q : Place). q.first) same in
    let seq : m.1 ≡ place.first + m.0 = omega (arith, firsts, m.2.3) in
    none_there m.0 (omega (arith, actions, m.2.2)) (ap (λ (s : ℕ). column_of p row.side s row.beside) (sym seq) ∙ m.3)

-- a coefficient of a row is that of the sum of its moves' unit vectors less the own sequence's
pub coefficient_units : (p : PairsView) → IsPairs p → (row : Row) (place : Place) (lp : LpView) (r : ℕ) → IsAtPlace p row place
    → IsCorrelationRow p row lp r → (k : ℕ)
    → coefficient lp r k ≡ sum_to place.actions (λ a. unit (move_column p row place a) k) -ℤ unit (own_column p row place) k
coefficient_units p rules row place lp r is h k =
    elim (some_or_not (own_column p row place) k) [
      | inl own ↦ (
          let apart : IsOfMove p row k → ⊥ = own_apart p rules row place.own k is.in_range (place, is.here, refl) own in
          let none_there = units_of_none p row place k (λ a low e. apart (of_move p row place is a k low e)) in
          rw (none_there, unit-here (own_column p row place) k own) (h.own k (place.own, (place, is.here, refl), own)))
      | inr apart ↦ (elim (one_or_none (move_column p row place) k place.actions) [
        | inl m ↦ rw (units_of_move p rules row place is m.0 k m.1 m.2, unit-apart (own_column p row place) k apart)
            (h.moves k (of_move p row place is m.0 k m.1 m.2))
        | inr none_there ↦ rw (units_of_none p row place k none_there, unit-apart (own_column p row place) k apart)
            (h.elsewhere k (no_move p row place is k none_there) (λ m. apart (
            let same : m.1.0 ≡ place = cc (m.1.1, is.here) in
            let own : place.own ≡ m.0 = ap (λ (q : Place). q.own) (sym same) ∙ m.1.2 in
            ap (λ (s : ℕ). column_of p row.side s row.beside) own ∙ m.2)))
      ])
    ]

spread : (s u x : ℤ) → (s -ℤ u) *ℤ x ≡ s *ℤ x -ℤ u *ℤ x
spread s u x = simp ring_laws (omega (arith, linear))

-- a row's product is the sum of its moves' numbers less the own sequence's
pub row_product : (p : PairsView) → IsPairs p → (row : Row) (place : Place) (lp : LpView) (r n : ℕ) (x : ℕ → ℤ) → length p.pairs ≤ n
    → IsAtPlace p row place → IsCorrelationRow p row lp r
    → sum_to n (λ k. coefficient lp r k *ℤ x k)
    ≡ sum_to place.actions (λ a. at (column_of p row.side (place.first + a) row.beside) x) -ℤ at (column_of p row.side place.own row.beside) x
row_product p rules row place lp r n x wide is h =
    let move = λ (a k : ℕ). unit (move_column p row place a) k *ℤ x k in
    let own = λ (k : ℕ). unit (own_column p row place) k *ℤ x k in
    let moves = λ (k : ℕ). sum_to place.actions (λ a. move a k) in
    let inside : (seq k : ℕ) → column_of p row.side seq row.beside ≡ Some k → k < n = λ seq k e.
    omega (arith, column_in p rules row.side seq row.beside k e) in
    let each : (k : ℕ) → k < n → coefficient lp r k *ℤ x k ≡ moves k -ℤ own k = λ k low.
    ap (λ (c : ℤ). c *ℤ x k) (coefficient_units p rules row place lp r is h k)
    ∙ spread (sum_to place.actions (λ a. unit (move_column p row place a) k)) (unit (own_column p row place) k) (x k)
    ∙ ap (λ (s : ℤ). s -ℤ own k) (sym (sum_to-scale_right place.actions (x k) (λ a. unit (move_column p row place a) k))) in
    let crossed : sum_to n moves ≡ sum_to place.actions (λ a. at (move_column p row place a) x) =
    sum_to-exchange n place.actions (λ k a. move a k)
    ∙ sum_to-same place.actions _ _ (λ a low. unit_product n (move_column p row place a) x (inside (place.first + a))) in
    sum_to-same n _ _ each ∙ sum_to-difference n moves own
    ∙ ap (λ (s : ℤ). s -ℤ sum_to n own) crossed
    ∙ ap (λ (s : ℤ). sum_to place.actions (λ a. at (move_column p row place a) x) -ℤ s)
    (unit_product n (own_column p row place) x (inside place.own))

-- Numbers that stand at the relevant pairs and are the column sums of reduced plans meet the total row and each correlation row.
use Rattle.std.proofs.Common.{◌≡◌, ℕ, zero, suc, ◌+◌, ◌<◌, ◌≤◌, inl, inr, ℤ, pos, ◌+ℤ◌, ◌-ℤ◌, ◌*ℤ◌, List, [], ◌∷◌, Option, Some, None}
use Rattle.std.proofs.Common.{length, All, refl, sym, ap, ◌∙◌, arith}
use Rattle.std.proofs.lemmas.Int.{ints}
use Rattle.std.proofs.lemmas.Option.{get_or_from_slice_get, slice_get_within}
use Rattle.exact_algebra.specs.Sums.{sum_over, sum_to}
use Rattle.exact_algebra.proofs.RingLaws.{*ℤ-one, *ℤ-zero}
use Rattle.exact_algebra.proofs.Sums.{sum_to-same}
use Rattle.corr_game.specs.declared.sides.Side.{Side}
use Rattle.corr_game.specs.declared.sides.Side.TheVariants.{One, Two}
use Rattle.corr_game.specs.Game.{GameView}
use Rattle.sequences.specs.Number.{SeqsView, nothing, side_of}
use Rattle.sequences.proofs.Adding.{within}
use Rattle.connected_pairs.specs.Connected.{IsPairs, IsPairsOf, PairsView, index_of}
use Rattle.connected_pairs.specs.CorrelationRows.{value_at, value_of}
use Rattle.lp_form.specs.Program.{LpView, coefficient}
use Rattle.equilibrium.specs.Distribution.{Entry, total}
use Rattle.plan_polytope.specs.CorrelationRow.{IsTotalRow, column_of}
use Rattle.plan_polytope.specs.Rows.{AreCorrelationRows}
use Rattle.plan_polytope.proofs.Columns.{column_in, some_or_not}
use Rattle.plan_polytope.proofs.Units.{IsAtPlace, at, row_product, unit, unit-apart, unit-here, unit_product}
use Rattle.equilibrium_solutions.specs.ColumnSums.{AreColumnSums, IsWeightAt, SumsTo}
use Rattle.equilibrium_solutions.proofs.SumRows.{IsReducedEntry, listed, listed-at, sums_meet_rows}

-- the weights sum up where every entry plays
all_weights : (s : SeqsView) (list : List Entry) (v : ℤ) → SumsTo s (0, 0) list v → v ≡ total list
unfolding sum_over
all_weights s [] v e = e
all_weights s (entry ∷ rest) v sums = by sums.2 (all_weights s rest sums.1 sums.3)
  where
    first : (a w b c t : ℤ) → a ≡ w → b ≡ t → c ≡ a +ℤ b → c ≡ w +ℤ t
    first a w b c t e f h = omega (arith, ints)

    by : IsWeightAt s (0, 0) entry sums.0 → sums.1 ≡ total rest → v ≡ pos entry.weight +ℤ total rest
    by (inl plays) others = first sums.0 (pos entry.weight) sums.1 v (total rest) plays.1 others sums.4
    by (inr apart) others = absurd (apart.0 (nothing, nothing))

module _ (g : GameView) (p : PairsView) (rules : IsPairs p) (of : IsPairsOf g p) (x y : ℕ → ℤ)
    (same : (k : ℕ) → k < length p.pairs → y k ≡ x k) where
  column_alike : (found : Option ℕ) → ((k : ℕ) → found ≡ Some k → k < length p.pairs)
      → at found y ≡ value_at (listed (length p.pairs) x) found
  column_alike None low = refl
  column_alike (Some k) low = same k (low k refl) ∙ sym (listed-at (length p.pairs) x k (low k refl))

  value_alike : (side : Side) (own beside : ℕ) → at (column_of p side own beside) y ≡ value_of p (listed (length p.pairs) x) side own beside
  value_alike One own beside = column_alike (column_of p One own beside) (column_in p rules One own beside)
  value_alike Two own beside = column_alike (column_of p Two own beside) (column_in p rules Two own beside)

  total_unit : (lp : LpView) → IsTotalRow p lp 0 → (k : ℕ) → coefficient lp 0 k ≡ unit (index_of p 0 0) k
  total_unit lp row k = elim (some_or_not (index_of p 0 0) k) [
    | inl here ↦ row.empty k here ∙ sym (unit-here (index_of p 0 0) k here)
    | inr apart ↦ row.elsewhere k apart ∙ sym (unit-apart (index_of p 0 0) k apart)
  ]

  first_column : index_of p 0 0 ≡ Some 0
  first_column = get_or_from_slice_get p.places _ (Some 0) None (rules.listed.each_index 0 (0, 0) of.first_pair)

  module _ (list : List Entry) (are : All (IsReducedEntry g p.seqs) list) (sums : AreColumnSums p list x)
      (lp : LpView) (rows : AreCorrelationRows g p lp) (n : ℕ) (wide : length p.pairs ≤ n) where
    pub total_row_met : sum_to n (λ k. coefficient lp 0 k *ℤ y k) ≡ total list *ℤ pos 1
    total_row_met =
        let inside : (k : ℕ) → index_of p 0 0 ≡ Some k → k < n = λ k e. omega (arith, column_in p rules One 0 0 k e) in
        let some : 0 < length p.pairs = slice_get_within p.pairs 0 (0, 0) of.first_pair in
        sum_to-same n _ _ (λ k low. ap (λ (c : ℤ). c *ℤ y k) (total_unit lp rows.total k))
        ∙ unit_product n (index_of p 0 0) y inside
        ∙ ap (λ (found : Option ℕ). at found y) first_column
        ∙ same 0 some
        ∙ all_weights p.seqs list (x 0) (sums 0 (0, 0) of.first_pair)
        ∙ sym (*ℤ-one (total list))

    pub set_row_met : (r : ℕ) → r < length rows.rows → sum_to n (λ k. coefficient lp (r + 1) k *ℤ y k) ≡ pos 0
    set_row_met r low =
        let row = within rows.rows r low in
        let known = rows.listed.each r row.0 row.1 in
        let met = sums_meet_rows g p of rules list x are sums in
        let place = within (side_of row.0.side p.seqs).places row.0.set.0 (omega (arith, (of.sides row.0.side).per_set, known.0)) in
        let at_place : IsAtPlace p row.0 place.0 = record { here = place.1; in_range = known.1 } in
        let moved : ℕ → ℤ = λ a. at (column_of p row.0.side (place.0.first + a) row.0.beside) y in
        let passed : ℤ = at (column_of p row.0.side place.0.own row.0.beside) y in
        let alike : sum_to place.0.actions moved ≡ passed =
        sum_to-same place.0.actions _ _ (λ a h. value_alike row.0.side (place.0.first + a) row.0.beside)
        ∙ met.row row.0.side row.0.set.0 place.0 row.0.beside place.1 known.1 known.2
        ∙ sym (value_alike row.0.side place.0.own row.0.beside) in
        row_product p rules row.0 place.0 lp (r + 1) n y wide at_place (rows.filled r row.0 row.1)
        ∙ nothing_left (sum_to place.0.actions moved) passed alike
      where
        nothing_left : (a b : ℤ) → a ≡ b → a -ℤ b ≡ pos 0
        nothing_left a b e = omega (arith, ints)

    -- each row, with 1 at the right of the first and 0 at the right of the others
    pub base_rows_met : (r : ℕ) (right : ℤ) → r < length lp.rows → (r ≡ 0 → right ≡ pos 1) → (0 < r → right ≡ pos 0)
        → sum_to n (λ k. coefficient lp r k *ℤ y k) ≡ total list *ℤ right
    base_rows_met zero right low one none = rw (one refl) total_row_met
    base_rows_met (suc r) right low one none =
        rw (none (omega arith)) (rw (← add_one r) (set_row_met r (omega (arith, rows.count))) ∙ sym (*ℤ-zero (total list)))
      where
        add_one : (k : ℕ) → k + 1 ≡ suc k
        add_one k = omega arith

-- The row that leaves among the rows passed. A row more is passed over, takes the place of the first one, or leaves it there:
-- ratios are compared across, so that the order by ratio and then by rank goes on from row to row.
use Rattle.std.proofs.Common.{◌≡◌, ◌≢◌, ◌⊎◌, ℕ, ◌+◌, ◌<◌, ◌≤◌, Bool, ℤ, pos, ◌*ℤ◌, ◌<ℤ◌, ◌≤ℤ◌, Option, Some, None, MatchOption, IsTrue, Less, Equal, Greater, int_cmp, to_z, of_z, inl, inr, sym, ap, ◌∙◌, ⊎_elim, arith, below_more}
use Rattle.std.proofs.lemmas.Bool.{cases_lt}
use Rattle.std.proofs.lemmas.Int.{ints}
use Rattle.std.specs.Bool.{◌==◌}
use Rattle.std.specs.Ordering.{MatchOrdering, nat_cmp, ordering_index, ordering_then}
use Rattle.std.specs.declared.cmp.Ordering.{Ordering}
use Rattle.std.specs.Int.{w128}
use Rattle.std.proofs.lemmas.Cmp.{int_ranked, ranked}
use lib.Signed.{≤ℤ_refl}
use Rattle.corr_num.specs.Narrow.{Narrow}
use Rattle.corr_num.proofs.PrintedTerms.{narrow_returned}
use Rattle.exact_algebra.proofs.Fractions.{fraction_trans, fraction_trans_below, fraction_trans_same}
use Rattle.exact_algebra.proofs.Order.{below_or_at_least}
use Rattle.int_tableau.specs.Content.{Content}
use Rattle.bland_simplex.specs.Order.{rank, LeavesBefore, IsLeaving}

-- What the two comparisons tell, of ratios x and y and ranks p and q.
pub order_tells : (x y : ℤ) (p q : ℕ) (r s : Ordering) (t : Bool) → t ≡ (ordering_index (ordering_then r s) == 0) →
    MatchOrdering r (x <ℤ y) (x ≡ y) (y <ℤ x) → MatchOrdering s (p < q) (p ≡ q) (q < p) →
    (IsTrue t → (x <ℤ y) ⊎ ((x ≡ y) × (p < q))) × ((x <ℤ y) ⊎ ((x ≡ y) × (p < q)) → IsTrue t)
order_tells x y p q Less s t e h g = (λ i. inl h, λ k. e)
order_tells x y p q Equal Less t e h g = (λ i. inr (h, g), λ k. e)
order_tells x y p q Equal Equal t e h g = (λ i. absurd (cc), back)
  where
    back : (x <ℤ y) ⊎ ((x ≡ y) × (p < q)) → IsTrue t
    back (inl low) = absurd (omega (arith, ints))
    back (inr (same, low)) = absurd (omega arith)
order_tells x y p q Equal Greater t e h g = (λ i. absurd (cc), back)
  where
    back : (x <ℤ y) ⊎ ((x ≡ y) × (p < q)) → IsTrue t
    back (inl low) = absurd (omega (arith, ints))
    back (inr (same, low)) = absurd (omega arith)
order_tells x y p q Greater s t e h g = (λ i. absurd (cc), back)
  where
    back : (x <ℤ y) ⊎ ((x ≡ y) × (p < q)) → IsTrue t
    back (inl low) = absurd (omega (arith, ints))
    back (inr (same, low)) = absurd (omega (arith, ints))

-- The same of the entries, read at the last column, and of the ranks of the basic columns.
pub ratios_tell : (t : Content) (cols side row other col right : ℕ) (a b x y : ℤ) (p q bp bq : ℕ) (r s : Ordering) (v : Bool) →
    right ≡ side → Narrow a → Narrow b → Narrow x → Narrow y → a ≡ t.entry row right → b ≡ t.entry other col → x ≡ t.entry other right →
    y ≡ t.entry row col →
    bp ≡ t.basic row → bq ≡ t.basic other → p ≡ rank cols bp → q ≡ rank cols bq →
    r ≡ int_cmp (to_z w128 (of_z w128 a) *ℤ to_z w128 (of_z w128 b))
    (to_z w128 (of_z w128 x) *ℤ to_z w128 (of_z w128 y)) → s ≡ nat_cmp p q → v ≡ (ordering_index (ordering_then r s) == 0) →
    (IsTrue v → LeavesBefore cols side t col row other) × (LeavesBefore cols side t col row other → IsTrue v)
ratios_tell t cols side row other col right a b x y p q bp bq r s v at_side na nb nx ny ea eb ex ey ebp ebq ep eq e f is =
    let said = rw (narrow_returned a na, narrow_returned b nb, narrow_returned x nx, narrow_returned y ny) at e in
    let told = order_tells (a *ℤ b) (x *ℤ y) p q r s v is (int_ranked (a *ℤ b) (x *ℤ y) r said) (ranked p q s f) in
    let first : rank cols (t.basic row) ≡ p = sym (ep ∙ ap (rank cols) ebp) in
    let second : rank cols (t.basic other) ≡ q = sym (eq ∙ ap (rank cols) ebq) in
    rw (first, second, ← at_side, ← ea, ← eb, ← ex, ← ey) told

-- A row that doesn't leave before another one comes behind it, or stands at the same place.
pub not_before : (cols side : ℕ) (t : Content) (col row other : ℕ) → (LeavesBefore cols side t col row other → ⊥) →
    ((t.entry other side *ℤ t.entry row col) <ℤ (t.entry row side *ℤ t.entry other col)) ⊎
    ((t.entry other side *ℤ t.entry row col ≡ t.entry row side *ℤ t.entry other col) ×
    (rank cols (t.basic other) ≤ rank cols (t.basic row)))
not_before cols side t col row other none =
    ⊎_elim
    (λ (l : (t.entry row side *ℤ t.entry other col) <ℤ (t.entry other side *ℤ t.entry row col)). absurd (none (inl l)))
    (λ (l : (t.entry other side *ℤ t.entry row col) ≤ℤ (t.entry row side *ℤ t.entry other col)).
    ⊎_elim
    (λ (g : (t.entry other side *ℤ t.entry row col) <ℤ (t.entry row side *ℤ t.entry other col)). inl g)
    (λ (g : (t.entry row side *ℤ t.entry other col) ≤ℤ (t.entry other side *ℤ t.entry row col)). inr
    (omega (arith, ints), tie (omega (arith, ints))))
    (below_or_at_least (t.entry other side *ℤ t.entry row col) (t.entry row side *ℤ t.entry other col)))
    (below_or_at_least (t.entry row side *ℤ t.entry other col) (t.entry other side *ℤ t.entry row col))
  where
    tie : t.entry row side *ℤ t.entry other col ≡ t.entry other side *ℤ t.entry row col →
        rank cols (t.basic other) ≤ rank cols (t.basic row)
    tie same = ⊎_elim
        (λ (l : rank cols (t.basic row) < rank cols (t.basic other)). absurd (none (inr (same, l))))
        (λ (l : rank cols (t.basic other) ≤ rank cols (t.basic row)). l)
        (cases_lt (rank cols (t.basic row)) (rank cols (t.basic other)))

module _ (cols side : ℕ) (t : Content) (col n : ℕ) where
  -- none of the rows passed may leave, or the one that leaves of them
  abbrev pub IsLeavingSoFar : Option ℕ → Type 0
  IsLeavingSoFar first = MatchOption first ((i : ℕ) → i < n → t.entry i col ≤ℤ pos 0) (λ r. IsLeaving n cols side t col r)

  -- the same with one row more
  abbrev pub IsLeavingThen : Option ℕ → Type 0
  IsLeavingThen first = MatchOption first ((i : ℕ) → i < n + 1 → t.entry i col ≤ℤ pos 0) (λ r. IsLeaving (n + 1) cols side t col r)

  -- whether the ratio of row r is at most that of row i, and ties go to row r
  abbrev Least : ℕ → ℕ → Type 0
  Least r i = pos 0 <ℤ t.entry i col → (t.entry r side *ℤ t.entry i col) ≤ℤ (t.entry i side *ℤ t.entry r col)

  abbrev First : ℕ → ℕ → Type 0
  First r i = pos 0 <ℤ t.entry i col → t.entry i side *ℤ t.entry r col ≡ t.entry r side *ℤ t.entry i col → rank cols (t.basic r)
      ≤ rank cols (t.basic i)

  row_passed : (first : Option ℕ) → IsLeavingSoFar first → t.entry n col ≤ℤ pos 0 → IsLeavingThen first
  row_passed None before low = below_more (λ i. t.entry i col ≤ℤ pos 0) n before low
  row_passed (Some r) before low = record {
    ratio = record {
      within = omega (arith, before.ratio.within);
      positive = before.ratio.positive;
      least = below_more (Least r) n before.ratio.least (λ over. absurd (omega (arith, ints)));
    };
    first = below_more (First r) n before.first (λ over tie. absurd (omega (arith, ints)));
  }

  first_taken : IsLeavingSoFar None → pos 0 <ℤ t.entry n col → IsLeaving (n + 1) cols side t col n
  first_taken before over = record {
    ratio = record {
      within = omega arith;
      positive = over;
      least = below_more (Least n) n (λ i h above. let low = before i h in absurd (omega (arith, ints)))
          (λ above. ≤ℤ_refl (t.entry n side *ℤ t.entry n col));
    };
    first = below_more (First n) n (λ i h above tie. let low = before i h in absurd (omega (arith, ints))) (λ above tie. omega arith);
  }

  place_taken : (r : ℕ) → IsLeaving n cols side t col r → pos 0 <ℤ t.entry n col → LeavesBefore cols side t col n r →
      IsLeaving (n + 1) cols side t col n
  place_taken r before over leaves = record {
    ratio = record {
      within = omega arith;
      positive = over;
      least = below_more (Least n) n (λ i h above. fraction_trans (t.entry n side) (t.entry n col) (t.entry r side) (t.entry r col)
          (t.entry i side) (t.entry i col) over before.ratio.positive above (low leaves) (before.ratio.least i h above))
          (λ above. ≤ℤ_refl (t.entry n side *ℤ t.entry n col));
    };
    first = below_more (First n) n (λ i h above tie. ranks i h above tie leaves) (λ above tie. omega arith);
  }
    where
      low : LeavesBefore cols side t col n r → (t.entry n side *ℤ t.entry r col) ≤ℤ (t.entry r side *ℤ t.entry n col)
      low (inl l) = omega (arith, ints)
      low (inr (same, l)) = omega (arith, ints)

      ranks : (i : ℕ) → i < n → pos 0 <ℤ t.entry i col → t.entry i side *ℤ t.entry n col ≡ t.entry n side *ℤ t.entry i col →
          LeavesBefore cols side t col n r → rank cols (t.basic n) ≤ rank cols (t.basic i)
      ranks i h above tie (inl l) =
          let below = fraction_trans_below (t.entry n side) (t.entry n col) (t.entry r side) (t.entry r col) (t.entry i side)
          (t.entry i col) over before.ratio.positive above l (before.ratio.least i h above) in
          absurd (omega (arith, ints))
      ranks i h above tie (inr (same, l)) =
          let other : t.entry n col ≢ pos 0 = λ e. omega (arith, ints) in
          let level = fraction_trans_same (t.entry i side) (t.entry i col) (t.entry n side) (t.entry n col) (t.entry r side)
          (t.entry r col) other tie same in
          let lower = before.first i h above level in
          omega arith

  -- row n comes behind row r, or stands at the same place
  abbrev Behind : ℕ → Type 0
  Behind r = ((t.entry r side *ℤ t.entry n col) <ℤ (t.entry n side *ℤ t.entry r col)) ⊎
      ((t.entry r side *ℤ t.entry n col ≡ t.entry n side *ℤ t.entry r col) × (rank cols (t.basic r) ≤ rank cols (t.basic n)))

  place_kept : (r : ℕ) → IsLeaving n cols side t col r → (LeavesBefore cols side t col n r → ⊥) → IsLeaving (n + 1) cols side t col r
  place_kept r before none = record {
    ratio = record {
      within = omega (arith, before.ratio.within);
      positive = before.ratio.positive;
      least = below_more (Least r) n before.ratio.least (λ above. low (not_before cols side t col n r none));
    };
    first = below_more (First r) n before.first (λ above tie. ranks tie (not_before cols side t col n r none));
  }
    where
      low : Behind r → (t.entry r side *ℤ t.entry n col) ≤ℤ (t.entry n side *ℤ t.entry r col)
      low (inl l) = omega (arith, ints)
      low (inr (same, l)) = omega (arith, ints)

      ranks : t.entry n side *ℤ t.entry r col ≡ t.entry r side *ℤ t.entry n col → Behind r → rank cols (t.basic r) ≤ rank cols (t.basic n)
      ranks tie (inl l) = absurd (omega (arith, ints))
      ranks tie (inr (same, l)) = l

  -- The same of options that stand for these rows.
  pub option_passed : (old new : Option ℕ) (e : ℤ) → IsLeavingSoFar old → e ≡ t.entry n col → e ≤ℤ pos 0 → new ≡ old → IsLeavingThen new
  option_passed old new e before is low same = rw same (row_passed old before (rw is at low))

  pub option_first : (old new : Option ℕ) (e : ℤ) → IsLeavingSoFar old → old ≡ None → e ≡ t.entry n col → pos 0 <ℤ e → new ≡ Some n →
      IsLeavingThen new
  option_first old new e before none is over same = rw same (first_taken (rw none at before) (rw is at over))

  pub option_taken : (old new : Option ℕ) (r : ℕ) (e : ℤ) → IsLeavingSoFar old → old ≡ Some r → e ≡ t.entry n col → pos 0 <ℤ e →
      LeavesBefore cols side t col n r → new ≡ Some n → IsLeavingThen new
  option_taken old new r e before some is over leaves same = rw same (place_taken r (rw some at before) (rw is at over) leaves)

  pub option_kept : (old new : Option ℕ) (r : ℕ) → IsLeavingSoFar old → old ≡ Some r → (LeavesBefore cols side t col n r → ⊥) →
      new ≡ old → IsLeavingThen new
  option_kept old new r before some none same = rw (same, some) (place_kept r (rw some at before) none)

-- The row that was found at last.
pub leaving_at_last : (cols side : ℕ) (t : Content) (col n : ℕ) (first : Option ℕ) (row : ℕ) → IsLeavingSoFar cols side t col n first →
    first ≡ Some row → IsLeaving n cols side t col row
leaving_at_last cols side t col n first row found is = rw is at found

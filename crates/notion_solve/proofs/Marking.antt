-- Columns that are listed in ascending order go on ascending; which are marked and listed.
use Rattle.std.proofs.Common.{◌≡◌, ◌≢◌, ◌⊎◌, ⊎_elim, inl, inr, ℕ, zero, suc, ◌+◌, ◌^◌, ◌<◌, ◌≤◌, List, [], ◌∷◌, ◌++◌, arith}
use Rattle.std.proofs.Common.{Bool, true, false, Some, length, slice_get, slice_set, refl, sym, ap, subst, ◌∙◌}
use Rattle.std.proofs.lemmas.Bool.{cases_eq, cases_lt}
use Rattle.tree_recall.proofs.Progress.{slice_get-push}
use Rattle.plan_decompose.proofs.Walking.{set_other, set_same}
use Rattle.report_form.specs.Ranges.{AscendFrom}

-- columns in ascending order from `low` on, all below `high`
abbrev pub AscendsTo : ℕ → ℕ → List ℕ → Type 0
AscendsTo low high [] = low ≤ high
AscendsTo low high (column ∷ rest) = (low ≤ column) × (column < 2 ^ 32) × AscendsTo (column + 1) high rest

pub ascends_on : (low high : ℕ) (columns : List ℕ) → AscendsTo low high columns → AscendsTo low (high + 1) columns
ascends_on low high [] h = omega (arith, h)
ascends_on low high (column ∷ rest) h = (h.0, h.1, ascends_on (column + 1) high rest h.2)

pub ascends_with : (low high : ℕ) (columns : List ℕ) → high < 2 ^ 32 → AscendsTo low high columns
    → AscendsTo low (high + 1) (columns ++ high ∷ [])
ascends_with low high [] small h = (h, small, omega arith)
ascends_with low high (column ∷ rest) small h = (h.0, h.1, ascends_with (column + 1) high rest small h.2)

pub ascends_from : (low high : ℕ) (columns : List ℕ) → AscendsTo low high columns → AscendFrom low columns
ascends_from low high [] h = tt
ascends_from low high (column ∷ rest) h = (h.0, h.1, ascends_from (column + 1) high rest h.2)

-- ---- which columns are listed

-- each marked column below `high` is listed, and no other
abbrev pub AllListed : List Bool → ℕ → List ℕ → Type 0
AllListed marks high columns = (col : ℕ) → col < high → slice_get marks col ≡ Some true → (k : ℕ) × (slice_get columns k ≡ Some col)

abbrev pub OnlyListed : List Bool → List ℕ → Type 0
OnlyListed marks columns = (k col : ℕ) → slice_get columns k ≡ Some col → slice_get marks col ≡ Some true

still : (xs : List ℕ) (y k x : ℕ) → slice_get xs k ≡ Some x → slice_get (xs ++ y ∷ []) k ≡ Some x
still [] y k x h = absurd (cc)
still (z ∷ zs) y zero x h = h
still (z ∷ zs) y (suc k) x h = still zs y k x h

pushed : (xs : List ℕ) (y : ℕ) → slice_get (xs ++ y ∷ []) (length xs) ≡ Some y
pushed [] y = refl
pushed (z ∷ zs) y = pushed zs y

pub all_with : (marks : List Bool) (high : ℕ) (columns : List ℕ) → AllListed marks high columns
    → AllListed marks (high + 1) (columns ++ high ∷ [])
all_with marks high columns all col below marked = ⊎_elim
    (λ (before : col < high). let found = all col before marked in (found.0, still columns high found.0 col found.1))
    (λ (there : high ≤ col). let same : high ≡ col = omega arith in (length columns, pushed columns high ∙ ap (λ c. Some c) same))
    (cases_lt col high)

pub all_without : (marks : List Bool) (high : ℕ) (columns : List ℕ) → slice_get marks high ≡ Some false → AllListed marks high columns
    → AllListed marks (high + 1) columns
all_without marks high columns unmarked all col below marked = ⊎_elim
    (λ (before : col < high). all col before marked)
    (λ (there : high ≤ col). let same : high ≡ col = omega arith in let too = subst (λ c. slice_get marks c ≡ Some false) same
    unmarked in absurd (cc))
    (cases_lt col high)

pub only_with : (marks : List Bool) (high : ℕ) (columns : List ℕ) → slice_get marks high ≡ Some true → OnlyListed marks columns
    → OnlyListed marks (columns ++ high ∷ [])
only_with marks high columns marked only k col at = by (slice_get-push columns high col k at)
  where
    by : (slice_get columns k ≡ Some col) ⊎ ((k ≡ length columns) × (high ≡ col)) → slice_get marks col ≡ Some true
    by (inl before) = only k col before
    by (inr (last, same)) = subst (λ c. slice_get marks c ≡ Some true) same marked

-- columns that ascend from one to the next do so from each to each behind it
pub ascend_low : (low : ℕ) (columns : List ℕ) → AscendFrom low columns → (k col : ℕ) → slice_get columns k ≡ Some col → low ≤ col
ascend_low low [] up k col at = absurd (cc)
ascend_low low (column ∷ rest) up zero col at = let same : column ≡ col = cc in omega (arith, same, up.0)
ascend_low low (column ∷ rest) up (suc k) col at = let above = ascend_low (column + 1) rest up.2 k col at in omega (arith, above, up.0)

pub ascend_apart : (low : ℕ) (columns : List ℕ) → AscendFrom low columns → (j k one other : ℕ) → j < k → slice_get columns j ≡ Some one
    → slice_get columns k ≡ Some other → one < other
ascend_apart low [] up j k one other before at there = absurd (cc)
ascend_apart low (column ∷ rest) up zero zero one other before at there = absurd (omega arith)
ascend_apart low (column ∷ rest) up zero (suc k) one other before at there =
    let same : column ≡ one = cc in let above = ascend_low (column + 1) rest up.2 k other there in omega (arith, same, above)
ascend_apart low (column ∷ rest) up (suc j) zero one other before at there = absurd (omega arith)
ascend_apart low (column ∷ rest) up (suc j) (suc k) one other before at there = ascend_apart (column + 1) rest up.2 j k one other
    (omega arith) at there

-- ---- which columns are marked

-- the columns of the first rows are marked, and no other
abbrev pub AllMarked : (ℕ → ℕ) → ℕ → List Bool → Type 0
AllMarked basic rows marks = (row : ℕ) → row < rows → slice_get marks (basic row) ≡ Some true

abbrev pub OnlyMarked : (ℕ → ℕ) → ℕ → List Bool → Type 0
OnlyMarked basic rows marks = (col : ℕ) → slice_get marks col ≡ Some true → (row : ℕ) × (row < rows) × (basic row ≡ col)

pub all_marked : (basic : ℕ → ℕ) (rows : ℕ) (marks : List Bool) → basic rows < length marks → AllMarked basic rows marks
    → AllMarked basic (rows + 1) (slice_set marks (basic rows) true)
all_marked basic rows marks inside all row below = ⊎_elim
    (λ (same : basic row ≡ basic rows). rw same (set_same marks (basic rows) true inside))
    (λ (apart : basic row ≢ basic rows). set_other marks (basic rows) (basic row) true apart ∙ all row (⊎_elim
    (λ (before : row < rows). before)
    (λ (there : rows ≤ row). let same : row ≡ rows = omega arith in absurd (apart (ap basic same)))
    (cases_lt row rows)))
    (cases_eq (basic row) (basic rows))

pub only_marked : (basic : ℕ → ℕ) (rows : ℕ) (marks : List Bool) → OnlyMarked basic rows marks
    → OnlyMarked basic (rows + 1) (slice_set marks (basic rows) true)
only_marked basic rows marks only col marked = ⊎_elim
    (λ (same : col ≡ basic rows). (rows, omega arith, sym same))
    (λ (apart : col ≢ basic rows). let found = only col (sym (set_other marks (basic rows) col true apart) ∙ marked) in
    (found.0, omega (arith, found.1), found.2))
    (cases_eq col (basic rows))

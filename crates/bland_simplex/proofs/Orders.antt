-- The fixed order of the columns: no two columns have one place, and the first column that may enter is the one at which a search
-- through the program's columns from the last to the first, and then through the artificial ones, stops.
use Rattle.std.proofs.Common.{◌≡◌, ⊎_elim, ℕ, ◌+◌, ◌-◌, ◌<◌, ◌≤◌, nat_lt, lt-ltb, le-ltb, sym, subst, ◌∙◌, arith}
use Rattle.std.proofs.lemmas.Bool.{cases_lt, cond-true, cond-false}
use Rattle.bland_simplex.specs.Order.{rank, IsFirst, AreNone}

pub rank_program : (cols col : ℕ) → col < cols → rank cols col ≡ cols - 1 - col
rank_program cols col h = cond-true (nat_lt col cols) (cols - 1 - col) col (lt-ltb col cols h)

pub rank_behind : (cols col : ℕ) → cols ≤ col → rank cols col ≡ col
rank_behind cols col h = cond-false (nat_lt col cols) (cols - 1 - col) col (le-ltb col cols h)

-- Two columns of one place are one.
pub rank_once : (cols i j : ℕ) → rank cols i ≡ rank cols j → i ≡ j
rank_once cols i j same =
    ⊎_elim
    (λ (h : i < cols). ⊎_elim
    (λ (l : j < cols). let one = sym (rank_program cols i h) ∙ (same ∙ rank_program cols j l) in omega arith)
    (λ (l : cols ≤ j). let one = sym (rank_program cols i h) ∙ (same ∙ rank_behind cols j l) in absurd (omega arith))
    (cases_lt j cols))
    (λ (h : cols ≤ i). ⊎_elim
    (λ (l : j < cols). let one = sym (rank_behind cols i h) ∙ (same ∙ rank_program cols j l) in absurd (omega arith))
    (λ (l : cols ≤ j). let one = sym (rank_behind cols i h) ∙ (same ∙ rank_behind cols j l) in one)
    (cases_lt j cols))
    (cases_lt i cols)

module _ (cols : ℕ) (May : ℕ → Type 0) where
  -- Counted from the other end, each column of the program was passed.
  pub none_of_program : ((k : ℕ) → k < cols → May (cols - 1 - k) → ⊥) → AreNone cols May
  none_of_program passed col h may = let same : cols - 1 - (cols - 1 - col) ≡ col = omega arith in passed (cols - 1 - col) (omega arith)
      (subst May (sym same) may)

  -- The column at which the search from the last column on stops.
  pub first_of_program : (behind : ℕ) → behind < cols → ((k : ℕ) → k < behind → May (cols - 1 - k) → ⊥) → May (cols - 1 - behind) →
      IsFirst cols cols May (cols - 1 - behind)
  first_of_program behind h passed may = record {
    offered_is = omega arith;
    may = may;
    before = λ other l low may_too.
        let same : cols - 1 - (cols - 1 - other) ≡ other = omega arith in
        let own = rank_program cols other l in
        let mine = rank_program cols (cols - 1 - behind) (omega arith) in
        passed (cols - 1 - other) (omega arith) (subst May (sym same) may_too);
  }

  module _ (rows : ℕ) where
    -- It is the first one of all columns.
    pub first_of_all : (col : ℕ) → IsFirst cols cols May col → IsFirst cols (cols + rows) May col
    first_of_all col first = record {
      offered_is = omega (arith, first.offered_is);
      may = first.may;
      before = λ other l low may_too.
          let mine = rank_program cols col first.offered_is in
          ⊎_elim
          (λ (h : other < cols). first.before other h low may_too)
          (λ (h : cols ≤ other). let own = rank_behind cols other h in let within = first.offered_is in absurd (omega arith))
          (cases_lt other cols);
    }

    -- Where none of the program's columns may enter the artificial ones come.
    pub none_of_all : AreNone cols May → ((k : ℕ) → k < rows → May (cols + k) → ⊥) → AreNone (cols + rows) May
    none_of_all program passed col l may =
        ⊎_elim
        (λ (h : col < cols). program col h may)
        (λ (h : cols ≤ col). let same : cols + (col - cols) ≡ col = omega arith in passed (col - cols) (omega arith)
        (subst May (sym same) may))
        (cases_lt col cols)

    pub first_of_artificial : AreNone cols May → (n : ℕ) → n < rows → ((k : ℕ) → k < n → May (cols + k) → ⊥) → May (cols + n) →
        IsFirst cols (cols + rows) May (cols + n)
    first_of_artificial program n h passed may = record {
      offered_is = omega arith;
      may = may;
      before = λ other l low may_too.
          ⊎_elim
          (λ (g : other < cols). program other g may_too)
          (λ (g : cols ≤ other).
          let same : cols + (other - cols) ≡ other = omega arith in
          let own = rank_behind cols other g in
          let mine = rank_behind cols (cols + n) (omega arith) in
          passed (other - cols) (omega arith) (subst May (sym same) may_too))
          (cases_lt other cols);
    }

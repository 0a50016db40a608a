-- Contents of states, read within m rows and n columns, and the pivot of a content at a positive entry: by the exact quotients it
-- is the tableau of the basis after the pivot, with its row of reduced costs.
use Rattle.std.proofs.Common.{◌≡◌, ◌≢◌, cond, ltb, eqb, eq-eqb, ne_eqb, lt-ltb, le-ltb, ℕ, ◌<◌, ◌≤◌, ℤ, pos, ◌-ℤ◌, ◌*ℤ◌, ◌≤ℤ◌, ◌<ℤ◌, refl, sym, ap, ap₂, subst, ◌∙◌, ⊎_elim, arith}
use Rattle.std.proofs.lemmas.Bool.{cases_lt, cond-true, cond-false}
use Rattle.std.proofs.lemmas.Int.{ints}
use Rattle.exact_algebra.proofs.Families.{put}
use Rattle.exact_linear.proofs.Alike.{same_tableau, same_costs}
use Rattle.exact_linear.specs.Content.{Content, IsPricedTableau}
use Rattle.exact_linear.proofs.CostRows.{cost_exact, cost_keeps, priced}
use Rattle.exact_linear.proofs.ExactQuotients.{exact_quotient, exact_quotient_is}
use Rattle.exact_linear.proofs.Exactness.{quotient, numerator_exact}
use Rattle.exact_linear.proofs.Feasibility.{feasible_kept}
use Rattle.exact_linear.proofs.PivotKeeps.{pivot_keeps}
use Rattle.exact_linear.proofs.Turns.{turned_positive}
use Rattle.exact_linear.specs.Pivot.{pivot_row, IsPivot}
use Rattle.exact_linear.specs.Simplex.{IsLeastRatio}

-- Two contents are the same within m rows and n columns.
pub record AlikeContents (m n : ℕ) (first second : Content) : Type 0 where
  pub basis : (k : ℕ) → k < m → first.basis k ≡ second.basis k
  pub den : first.den ≡ second.den
  pub matrix : (i j : ℕ) → i < m → j < n → first.matrix i j ≡ second.matrix i j
  pub row : (j : ℕ) → j < n → first.row j ≡ second.row j

-- A content with 0 past m rows and n columns.
pub trimmed : ℕ → ℕ → Content → Content
trimmed m n c = record {
  basis = λ k. cond (ltb k m) (c.basis k) 0;
  den = c.den;
  matrix = λ i j. cond (ltb i m) (cond (ltb j n) (c.matrix i j) (pos 0)) (pos 0);
  row = λ j. cond (ltb j n) (c.row j) (pos 0);
}

inside_of : {A : Type 0} (k m : ℕ) (x y : A) → k < m → cond (ltb k m) x y ≡ x
inside_of k m x y h = cond-true (ltb k m) x y (lt-ltb k m h)

past : {A : Type 0} (k m : ℕ) (x y : A) → m ≤ k → cond (ltb k m) x y ≡ y
past k m x y h = cond-false (ltb k m) x y (le-ltb k m h)

pub trimmed_alike : (m n : ℕ) (c : Content) → AlikeContents m n (trimmed m n c) c
unfolding trimmed
trimmed_alike m n c = record {
  basis = λ k h. inside_of k m (c.basis k) 0 h;
  den = refl;
  matrix = λ i j h l. inside_of i m (cond (ltb j n) (c.matrix i j) (pos 0)) (pos 0) h ∙ inside_of j n (c.matrix i j) (pos 0) l;
  row = λ j l. inside_of j n (c.row j) (pos 0) l;
}

cut : {A : Type 0} (k m : ℕ) (x y z : A) → (k < m → x ≡ y) → cond (ltb k m) x z ≡ cond (ltb k m) y z
cut k m x y z same = ⊎_elim (λ (h : k < m). inside_of k m x z h ∙ (same h ∙ sym (inside_of k m y z h))) (λ (h : m ≤ k). past k m x z h ∙ sym (past k m y z h)) (cases_lt k m)

-- Contents that are the same there have one trimmed content.
pub trimmed_same : (m n : ℕ) (first second : Content) → AlikeContents m n first second → trimmed m n first ≡ trimmed m n second
unfolding trimmed
trimmed_same m n first second same = λ d. record { basis = λ k. basis k d; den = same.den d; matrix = λ i j. matrix i j d; row = λ j. row j d }
  where
    basis : (k : ℕ) → cond (ltb k m) (first.basis k) 0 ≡ cond (ltb k m) (second.basis k) 0
    basis k = cut k m (first.basis k) (second.basis k) 0 (same.basis k)

    matrix : (i j : ℕ) → cond (ltb i m) (cond (ltb j n) (first.matrix i j) (pos 0)) (pos 0) ≡ cond (ltb i m) (cond (ltb j n) (second.matrix i j) (pos 0)) (pos 0)
    matrix i j = cut i m (cond (ltb j n) (first.matrix i j) (pos 0)) (cond (ltb j n) (second.matrix i j) (pos 0)) (pos 0) (λ h. cut j n (first.matrix i j) (second.matrix i j) (pos 0) (λ l. same.matrix i j h l))

    row : (j : ℕ) → cond (ltb j n) (first.row j) (pos 0) ≡ cond (ltb j n) (second.row j) (pos 0)
    row j = cut j n (first.row j) (second.row j) (pos 0) (same.row j)

pub priced_alike : {m n side : ℕ} {columns : ℕ → ℕ → ℤ} {costs : ℕ → ℤ} {first second : Content} → side < n → AlikeContents m n first second → IsPricedTableau m n side columns costs second → IsPricedTableau m n side columns costs first
priced_alike {side = side} right same t = record {
  tableau = same_tableau same.basis same.den same.matrix t.tableau;
  priced = same_costs same.basis same.den same.matrix same.row t.priced;
  feasible = record { at = λ i h. subst (λ x. pos 0 ≤ℤ x) (sym (same.matrix i side h right)) (t.feasible.at i h) };
}

-- The content after a pivot at (r, s), where the entry is positive.
pub pivoted : Content → ℕ → ℕ → Content
pivoted c r s = record {
  basis = put c.basis r s;
  den = c.matrix r s;
  matrix = λ i j. cond (eqb i r) (c.matrix r j) (exact_quotient (c.matrix i j *ℤ c.matrix r s -ℤ c.matrix i s *ℤ c.matrix r j) c.den);
  row = λ j. exact_quotient (c.row j *ℤ c.matrix r s -ℤ c.row s *ℤ c.matrix r j) c.den;
}

pub pivoted_basis : (c : Content) (r s k : ℕ) → (pivoted c r s).basis k ≡ put c.basis r s k
unfolding pivoted
pivoted_basis c r s k = refl

-- A quotient that there is, is the exact one.
divided : (x d : ℤ) → pos 0 <ℤ d → (q : ℤ) → q *ℤ d ≡ x → exact_quotient x d *ℤ d ≡ x
divided x d over q is = ap (λ y. y *ℤ d) (ap (λ y. exact_quotient y d) (sym is) ∙ exact_quotient_is q d over) ∙ is

pub pivoted_priced : {m n side : ℕ} {columns : ℕ → ℕ → ℤ} {costs : ℕ → ℤ} (c : Content) (r s : ℕ) → side < n → s < n → IsLeastRatio m side c.matrix r s → IsPricedTableau m n side columns costs c → IsPricedTableau m n side columns costs (pivoted c r s)
unfolding pivoted
pivoted_priced {m} {n} {side} {columns} {costs} c r s right entering ratio t = record {
  tableau = same_tableau (λ k h. refl) (sym corner) (λ i j h l. refl) (pivot_keeps t.tableau r s ratio.within entering other pivot);
  priced = same_costs (λ k h. refl) (sym corner) (λ i j h l. refl) (λ j l. refl) (cost_keeps t.priced r s ratio.within entering pivot (λ j. exact_quotient (c.row j *ℤ c.matrix r s -ℤ c.row s *ℤ c.matrix r j) c.den) row_divides t.tableau.positive);
  feasible = feasible_kept side right (λ i h. h) t.tableau.positive pivot ratio t.feasible;
}
  where
    corner : pivot_row c.matrix r s s ≡ c.matrix r s
    corner = turned_positive (c.matrix r s) (c.matrix r s) ratio.positive

    across : (j : ℕ) → pivot_row c.matrix r s j ≡ c.matrix r j
    across j = turned_positive (c.matrix r s) (c.matrix r j) ratio.positive

    other : c.matrix r s ≢ pos 0
    other none = let over = ratio.positive in omega (arith, ints)

    plain : (a b : ℤ) (j : ℕ) → a *ℤ pivot_row c.matrix r s s -ℤ b *ℤ pivot_row c.matrix r s j ≡ a *ℤ c.matrix r s -ℤ b *ℤ c.matrix r j
    plain a b j = ap₂ (λ x y. a *ℤ x -ℤ b *ℤ y) corner (across j)

    pivot : IsPivot m n r s c.den c.matrix (λ i j. cond (eqb i r) (c.matrix r j) (exact_quotient (c.matrix i j *ℤ c.matrix r s -ℤ c.matrix i s *ℤ c.matrix r j) c.den))
    pivot = record {
      keeps = λ j l. cond-true (eqb r r) (c.matrix r j) (exact_quotient (c.matrix r j *ℤ c.matrix r s -ℤ c.matrix r s *ℤ c.matrix r j) c.den) (eq-eqb r r refl) ∙ sym (across j);
      divides = λ i j h d l.
          ap (λ x. x *ℤ c.den) (cond-false (eqb i r) (c.matrix r j) (exact_quotient (c.matrix i j *ℤ c.matrix r s -ℤ c.matrix i s *ℤ c.matrix r j) c.den) (ne_eqb i r d))
          ∙ (divided (c.matrix i j *ℤ c.matrix r s -ℤ c.matrix i s *ℤ c.matrix r j) c.den t.tableau.positive (quotient t.tableau r s ratio.within entering i j) (numerator_exact t.tableau r s ratio.within entering i j h d l ∙ plain (c.matrix i j) (c.matrix i s) j)
          ∙ sym (plain (c.matrix i j) (c.matrix i s) j));
    }

    row_divides : (j : ℕ) → j < n → exact_quotient (c.row j *ℤ c.matrix r s -ℤ c.row s *ℤ c.matrix r j) c.den *ℤ c.den ≡ c.row j *ℤ pivot_row c.matrix r s s -ℤ c.row s *ℤ pivot_row c.matrix r s j
    row_divides j l =
        divided (c.row j *ℤ c.matrix r s -ℤ c.row s *ℤ c.matrix r j) c.den t.tableau.positive (priced t.priced r s ratio.within entering pivot j) (cost_exact t.priced r s ratio.within entering pivot j l ∙ plain (c.row j) (c.row s) j)
        ∙ sym (plain (c.row j) (c.row s) j)

-- The values of a basic solution, put in row by row: no two rows have one basic column.
use Rattle.std.proofs.Common.{◌≡◌, ◌≢◌, ⊎_elim, ℕ, ◌+◌, ◌<◌, List, length, ℤ, pos, ◌+ℤ◌, All, cond, nat_eq, true, false, eq-eqb, ne_eqb, slice_index_or, replicate, sym, ◌∙◌, arith}
use Rattle.std.proofs.lemmas.Bool.{cases_eq, cond-true, cond-false}
use Rattle.std.proofs.lemmas.Int.{ints}
use Rattle.std.proofs.lemmas.List.{get_or-replicate, length-replicate}
use Rattle.exact_algebra.proofs.Sums.{sum_to-zero, sum_to-add_one, sum_to-nothing}
use Rattle.exact_algebra.specs.Sums.{sum_to}
use Rattle.corr_num.specs.Narrow.{Narrow}
use Rattle.int_tableau.specs.Content.{Content}
use Rattle.exact_linear.specs.Simplex.{basic_value}

pub no_value : (basis : ℕ → ℕ) (values : ℕ → ℤ) (col : ℕ) → basic_value 0 basis values col ≡ pos 0
unfolding basic_value
no_value basis values col = sum_to-zero (λ k. cond (nat_eq (basis k) col) (values k) (pos 0))

pub next_value : (n m : ℕ) (basis : ℕ → ℕ) (values : ℕ → ℤ) (col : ℕ) (old new : ℤ) → m < n → ((k l : ℕ) → k < n → l < n → basis k ≡ basis l → k ≡ l) →
    old ≡ basic_value m basis values col → new ≡ cond (nat_eq (basis m) col) (values m) old → new ≡ basic_value (m + 1) basis values col
unfolding basic_value
next_value n m basis values col old new within once before after =
    sym (sum_to-add_one m term ∙ ⊎_elim own other (cases_eq (basis m) col))
  where
    term : ℕ → ℤ
    term k = cond (nat_eq (basis k) col) (values k) (pos 0)

    own : basis m ≡ col → sum_to m term +ℤ term m ≡ new
    own e =
        let here : nat_eq (basis m) col ≡ true = eq-eqb (basis m) col e in
        let none = sum_to-nothing m term (λ k h. cond-false (nat_eq (basis k) col) (values k) (pos 0) (ne_eqb (basis k) col (λ f. let same = once k m (omega arith) within (f ∙ sym e) in absurd (omega arith)))) in
        let last = cond-true (nat_eq (basis m) col) (values m) (pos 0) here in
        let put = after ∙ cond-true (nat_eq (basis m) col) (values m) old here in
        omega (arith, ints)

    other : basis m ≢ col → sum_to m term +ℤ term m ≡ new
    other d =
        let apart : nat_eq (basis m) col ≡ false = ne_eqb (basis m) col d in
        let last = cond-false (nat_eq (basis m) col) (values m) (pos 0) apart in
        let put = after ∙ cond-false (nat_eq (basis m) col) (values m) old apart in
        omega (arith, ints)

-- one narrow value a column, as the first n rows of the tableau have put them in
pub record ArePut (t : Content) (rows cols n : ℕ) (values : List ℤ) : Type 0 where
  pub count : length values ≡ cols
  pub narrow : All Narrow values
  pub basic : (col : ℕ) → col < cols → slice_index_or values col (pos 0) ≡ basic_value n t.basic (λ k. t.entry k (cols + rows)) col

pub more_put : (t : Content) (rows cols n : ℕ) (old new : List ℤ) → ((k l : ℕ) → k < rows → l < rows → t.basic k ≡ t.basic l → k ≡ l) → n < rows → ArePut t rows cols n old → length new ≡ length old → All Narrow new →
    ((col : ℕ) → col < cols → slice_index_or new col (pos 0) ≡ cond (nat_eq (t.basic n) col) (t.entry n (cols + rows)) (slice_index_or old col (pos 0))) → ArePut t rows cols (n + 1) new
more_put t rows cols n old new once within before count narrow put = record {
  count = count ∙ before.count;
  narrow = narrow;
  basic = λ col h. next_value rows n t.basic (λ k. t.entry k (cols + rows)) col _ _ within once (before.basic col h) (put col h);
}

pub none_put : (t : Content) (rows cols : ℕ) (values : List ℤ) → values ≡ replicate cols (pos 0) → ArePut t rows cols 0 values
none_put t rows cols values zeros =
    rw zeros (record {
      count = length-replicate cols (pos 0);
      narrow = λ k d within. let low : k < cols = rw (length-replicate cols (pos 0)) at within in rw (get_or-replicate cols k (pos 0) d low) (omega arith);
      basic = λ col h. get_or-replicate cols col (pos 0) (pos 0) h ∙ sym (no_value t.basic (λ k. t.entry k (cols + rows)) col);
    })

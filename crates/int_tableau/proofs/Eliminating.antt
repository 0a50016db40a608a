-- Elimination column by column and row by row: what is passed holds the quotients, what is ahead is as it was.
use Rattle.std.proofs.Common.{◌≡◌, ◌≢◌, ℕ, ◌+◌, ◌<◌, ◌≤◌, List, [], length, ℤ, ◌*ℤ◌, ◌-ℤ◌, set, slice_index_or, to_z, of_z, arith, get_or-set_same, get_or-set_other, below_more, refl}
use Rattle.std.specs.Int.{w64}
use Rattle.std.proofs.lemmas.Int.{to_z-of_z}
use Rattle.corr_num.specs.Narrow.{Narrow}
use Rattle.corr_num.specs.Quotient.{IsQuotient}
use Rattle.int_tableau.specs.Elimination.{at, eliminated, IsEliminated}
use Rattle.int_tableau.proofs.ExactEntries.{narrow_fits_word}

-- the first k columns hold the quotients
pub record Passed (row chosen : List ℤ) (col : ℕ) (denom : ℤ) (k : ℕ) (now : List ℤ) : Type 0 where
  pub narrow : (j : ℕ) → j < k → Narrow (at now j)
  pub exact : (j : ℕ) (q : ℤ) → j < k → IsQuotient (eliminated row chosen col j) denom q → at now j ≡ q
  pub rest : (j : ℕ) → k ≤ j → at now j ≡ at row j

pub none_passed : (row chosen : List ℤ) (col : ℕ) (denom : ℤ) → Passed row chosen col denom 0 row
none_passed row chosen col denom = record {
  narrow = λ j h. absurd (omega arith);
  exact = λ j q h e. absurd (omega arith);
  rest = λ j h. refl;
}

word : (z : ℤ) → Narrow z → to_z w64 (of_z w64 z) ≡ z
word z h = to_z-of_z w64 z (narrow_fits_word z h)

-- what is said of the numbers' bits holds of the numbers
pub told : (P : ℤ → Type 0) (a p b x d row : ℤ) → a ≡ row → Narrow row → Narrow p → Narrow b → Narrow x → Narrow d → ((q : ℤ) → IsQuotient (to_z w64 (of_z w64 a) *ℤ to_z w64 (of_z w64 p) -ℤ to_z w64 (of_z w64 b) *ℤ to_z w64 (of_z w64 x)) (to_z w64 (of_z w64 d)) q → P q) → (q : ℤ) → IsQuotient (row *ℤ p -ℤ b *ℤ x) d q → P q
told P a p b x d row same n np nb nx nd h q e = h q (rw (same, word row n, word p np, word b nb, word x nx, word d nd) e)

pub next_passed : (row chosen now : List ℤ) (col k : ℕ) (denom x bits : ℤ) → Passed row chosen col denom k now → k < length now → bits ≡ x → Narrow x → ((q : ℤ) → IsQuotient (eliminated row chosen col k) denom q → x ≡ q) → Passed row chosen col denom (k + 1) (set now k bits)
next_passed row chosen now col k denom x bits p inside same n is = record {
  narrow = below_more (λ j. Narrow (at (set now k bits) j)) k
      (λ j h. let other : j ≢ k = omega arith in rw get_or-set_other (p.narrow j h))
      (rw (get_or-set_same, same) n);
  exact = λ j q h e.
      below_more (λ i. (q : ℤ) → IsQuotient (eliminated row chosen col i) denom q → at (set now k bits) i ≡ q) k
      (λ i below z f. let other : i ≢ k = omega arith in rw get_or-set_other (p.exact i z below f))
      (λ z f. rw (get_or-set_same, same) (is z f))
      j h q e;
  rest = λ j h. let other : j ≢ k = omega arith in rw get_or-set_other (p.rest j (omega arith));
}

-- the first rows are eliminated, but for the pivot's
pub record PassedRows (rows : List (List ℤ)) (pivot : ℕ) (chosen : List ℤ) (col : ℕ) (denom : ℤ) (n : ℕ) (now : List (List ℤ)) : Type 0 where
  pub done : (i : ℕ) → i < n → i ≢ pivot → IsEliminated (slice_index_or rows i []) chosen col denom (slice_index_or now i [])
  pub rest : (i : ℕ) → n ≤ i → slice_index_or now i [] ≡ slice_index_or rows i []

pub no_row_passed : (rows : List (List ℤ)) (pivot : ℕ) (chosen : List ℤ) (col : ℕ) (denom : ℤ) → PassedRows rows pivot chosen col denom 0 rows
no_row_passed rows pivot chosen col denom = record { done = λ i h other. absurd (omega arith); rest = λ i h. refl }

pub next_row : (rows now new : List (List ℤ)) (pivot : ℕ) (chosen : List ℤ) (col : ℕ) (denom : ℤ) (n : ℕ) (row : List ℤ) → PassedRows rows pivot chosen col denom n now → n < length now → new ≡ set now n row → IsEliminated (slice_index_or rows n []) chosen col denom row → PassedRows rows pivot chosen col denom (n + 1) new
next_row rows now new pivot chosen col denom n row p inside e is = rw e (record {
  done = below_more (λ i. i ≢ pivot → IsEliminated (slice_index_or rows i []) chosen col denom (slice_index_or (set now n row) i [])) n
      (λ i h apart. let other : i ≢ n = omega arith in rw get_or-set_other (p.done i h apart))
      (λ apart. rw get_or-set_same is);
  rest = λ i h. let other : i ≢ n = omega arith in rw get_or-set_other (p.rest i (omega arith));
})

pub pivot_passed : (rows now new : List (List ℤ)) (pivot : ℕ) (chosen : List ℤ) (col : ℕ) (denom : ℤ) (n : ℕ) → PassedRows rows pivot chosen col denom n now → new ≡ now → n ≡ pivot → PassedRows rows pivot chosen col denom (n + 1) new
pivot_passed rows now new pivot chosen col denom n p e same = rw e (record {
  done = λ i h apart. p.done i (omega arith) apart;
  rest = λ i h. p.rest i (omega arith);
})

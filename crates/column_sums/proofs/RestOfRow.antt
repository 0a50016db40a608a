-- The entries of a row that are still to come: they ascend, so that a column's entry is met once.
use Rattle.std.proofs.Common.{◌≡◌, ◌≢◌, ℕ, ◌+◌, ◌^◌, ◌<◌, ◌≤◌, suc, zero, List, [], ◌∷◌, length, drop, get_or, ℤ, pos, ◌+ℤ◌, ◌*ℤ◌, unsigned_abs, to_z, of_z, FitsSigned, refl, sym, ap, ◌∙◌, arith}
use Rattle.std.specs.Int.{w64, w128}
use Rattle.std.proofs.lemmas.Bool.Decides.{nat_tests}
use Rattle.std.proofs.lemmas.Int.{ints}
use Rattle.std.proofs.lemmas.List.{drop_all}
use Rattle.corr_num.specs.Narrow.{Narrow}
use Rattle.corr_num.proofs.PrintedTerms.{returned, word_passed}
use Rattle.lp_form.specs.declared.entries.Entry.{Entry}
use Rattle.lp_form.specs.Row.{value_at, Ascends}
use Rattle.column_sums.proofs.ProductSizes.{product_size}
use Rattle.corr_num.proofs.MagnitudeBounds.{sum_magnitude}

pub value_at-hit : (entry : Entry) (rest : List Entry) (col : ℕ) → entry.col ≡ col → value_at (entry ∷ rest) col ≡ entry.value
value_at-hit entry rest col e = grind (arith, nat_tests)

pub value_at-miss : (entry : Entry) (rest : List Entry) (col : ℕ) → entry.col ≢ col → value_at (entry ∷ rest) col ≡ value_at rest col
value_at-miss entry rest col e = grind (arith, nat_tests)

value_below : (entries : List Entry) (low cols col : ℕ) → Ascends low cols entries → col < low → value_at entries col ≡ pos 0
value_below [] low cols col up h = refl
value_below (entry ∷ rest) low cols col up h =
    let behind : low ≤ entry.col = up.0 in
    let miss : entry.col ≢ col = λ same. omega arith in
    rw (value_at-miss entry rest col miss) (value_below rest (entry.col + 1) cols col up.3 (omega arith))

-- an entry's column and value, and that nothing of its column comes behind it
pub record Met (cols low i : ℕ) (entries : List Entry) (entry : Entry) : Type 0 where
  pub above : low ≤ entry.col
  pub inside : entry.col < cols
  pub word : FitsSigned w64 entry.value
  pub value : value_at entries entry.col ≡ entry.value
  pub ahead : value_at (drop i entries) entry.col ≡ entry.value
  pub other : (k : ℕ) → k ≢ entry.col → value_at (drop i entries) k ≡ value_at (drop (suc i) entries) k
  pub rest : value_at (drop (suc i) entries) entry.col ≡ pos 0

pub met : (cols low i : ℕ) (entries : List Entry) (d : Entry) → Ascends low cols entries → i < length entries → Met cols low i entries (get_or entries i d)
met cols low i [] d up h = absurd (omega arith)
met cols low zero (entry ∷ rest) d up h = record {
  above = up.0;
  inside = up.1;
  word = up.2;
  value = value_at-hit entry rest entry.col refl;
  ahead = value_at-hit entry rest entry.col refl;
  other = λ k apart. value_at-miss entry rest k (λ same. apart (sym same));
  rest = value_below rest (entry.col + 1) cols entry.col up.3 (omega arith);
}
met cols low (suc i) (entry ∷ rest) d up h =
    let later = met cols (entry.col + 1) i rest d up.3 (omega arith) in
    let miss : entry.col ≢ (get_or rest i d).col = λ same. omega (arith, later.above) in
    record {
      above = omega (arith, later.above, up.0);
      inside = later.inside;
      word = later.word;
      value = value_at-miss entry rest _ miss ∙ later.value;
      ahead = later.ahead;
      other = later.other;
      rest = later.rest;
    }

pub entry_passed : (r x f w n : ℤ) → unsigned_abs x ≤ 2 ^ 125 → Narrow f → unsigned_abs n ≤ 2 ^ 62 → FitsSigned w64 n → w ≡ to_z w64 (of_z w64 n)
    → r ≡ to_z w128 (of_z w128 x) +ℤ to_z w128 (of_z w128 f) *ℤ to_z w128 (of_z w128 w) → to_z w128 (of_z w128 r) ≡ x +ℤ f *ℤ n
entry_passed r x f w n before narrow small fits e g =
    let size : unsigned_abs (f *ℤ n) ≤ 2 ^ 124 = omega (arith, product_size f n narrow) in
    rw (g, word_passed w n fits e, returned x (omega arith), returned f (omega arith)) (returned (x +ℤ f *ℤ n) (omega (arith, sum_magnitude x (f *ℤ n))))

pub get_default : (xs : List ℤ) (k : ℕ) (x : ℤ) → k < length xs → x ≡ get_or xs k x → x ≡ get_or xs k (pos 0)
get_default [] k x h e = absurd (omega arith)
get_default (y ∷ xs) zero x h e = e
get_default (y ∷ xs) (suc k) x h e = get_default xs k x (omega arith) e

nothing : (f : ℤ) → f *ℤ pos 0 ≡ pos 0
nothing f = omega (arith, ints)

-- where the rest and the whole have the same entry, the sum is as it was
pub unmoved : (s o f a b v : ℤ) → s +ℤ f *ℤ a ≡ o +ℤ f *ℤ b → a ≡ v → b ≡ v → s ≡ o
unmoved s o f a b v e p q = let same = rw (p, q) at e in omega (arith, ints, same)

-- the entry's multiple goes from the rest to the sum
pub moved : (s o f a b x v : ℤ) → s +ℤ f *ℤ a ≡ o +ℤ f *ℤ b → a ≡ v → x ≡ s → x +ℤ f *ℤ v +ℤ f *ℤ pos 0 ≡ o +ℤ f *ℤ b
moved s o f a b x v e p q = let same = rw p at e in omega (arith, ints, same, q, nothing f)

pub all_moved : (s o f a b : ℤ) → s +ℤ f *ℤ a ≡ o +ℤ f *ℤ b → a ≡ pos 0 → s ≡ o +ℤ f *ℤ b
all_moved s o f a b e p = let same = rw p at e in omega (arith, ints, same, nothing f)

pub none_left : (i : ℕ) (entries : List Entry) (k : ℕ) → length entries ≤ i → value_at (drop i entries) k ≡ pos 0
none_left i entries k h = ap (λ (rest : List Entry). value_at rest k) (drop_all i entries h)

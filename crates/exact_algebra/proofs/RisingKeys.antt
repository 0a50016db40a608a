-- The end of a loop whose key rises and always stands in one finite list: how many keys of the list stand above it falls.
-- Each key above the new one stood above the old one, and the new one itself no longer counts.
use Rattle.std.proofs.Common.{◌≡◌, ℕ, zero, suc, ◌+◌, ◌<◌, ◌≤◌, Bool, true, false, cond, ltb, ltb-true, lt-ltb, le-ltb, List, [], ◌∷◌, length, get_or, Contains, ℤ, ◌<ℤ◌, refl, sym, arith}
use Rattle.std.proofs.lemmas.Int.{ints}
use lib.Signed.{lt_z}

-- How many of the keys stand above k, by a test of which of two keys is the lower.
unfoldable pub keys_above : {A : Type 0} → (A → A → Bool) → List A → A → ℕ
keys_above below [] k = 0
keys_above below (x ∷ xs) k = cond (below k x) 1 0 + keys_above below xs k

counted : (s t : Bool) → (s ≡ true → t ≡ true) → cond s 1 0 ≤ cond t 1 0
counted true true h = omega arith
counted true false h = absurd (cc (h refl))
counted false t h = omega arith

counted_more : (s t : Bool) → s ≡ false → t ≡ true → cond s 1 0 < cond t 1 0
counted_more true t h k = absurd (cc)
counted_more false true h k = omega arith
counted_more false false h k = absurd (cc)

module _ {A : Type 0} (below : A → A → Bool) (trans : (a b c : A) → below a b ≡ true → below b c ≡ true → below a c ≡ true) (irreflexive : (a : A) → below a a ≡ false) where
  no_more : (keys : List A) (a b : A) → below a b ≡ true → keys_above below keys b ≤ keys_above below keys a
  unfolding keys_above
  no_more [] a b rises = omega arith
  no_more (x ∷ xs) a b rises = omega (arith, no_more xs a b rises, counted (below b x) (below a x) (trans a b x rises))

  fewer : (keys : List A) (a b : A) (i : ℕ) → i < length keys → get_or keys i b ≡ b → below a b ≡ true → keys_above below keys b < keys_above below keys a
  unfolding keys_above
  fewer [] a b i within here rises = absurd (omega arith)
  fewer (x ∷ xs) a b zero within here rises =
      omega (arith, no_more xs a b rises, counted_more (below b x) (below a x) (rw here (irreflexive b)) (rw here rises))
  fewer (x ∷ xs) a b (suc i) within here rises =
      omega (arith, fewer xs a b i (omega arith) here rises, counted (below b x) (below a x) (trans a b x rises))

  -- The measure falls where the key rises from a to b.
  pub keys_above_fall : (keys : List A) (a b : A) → Contains keys b → below a b ≡ true → keys_above below keys b < keys_above below keys a
  keys_above_fall keys a b held rises = fewer keys a b held.0 held.1 held.2 rises

-- The same at natural and at whole numbers.
pub naturals_above : List ℕ → ℕ → ℕ
naturals_above keys k = keys_above ltb keys k

pub naturals_above_fall : (keys : List ℕ) (a b : ℕ) → Contains keys b → a < b → naturals_above keys b < naturals_above keys a
unfolding naturals_above
naturals_above_fall keys a b held rises =
    keys_above_fall ltb (λ m n o h k. lt-ltb m o (omega (arith, ltb-true m n h, ltb-true n o k))) (λ n. le-ltb n n (omega arith)) keys a b held (lt-ltb a b rises)

pub numbers_above : List ℤ → ℤ → ℕ
numbers_above keys k = keys_above lt_z keys k

pub numbers_above_fall : (keys : List ℤ) (a b : ℤ) → Contains keys b → a <ℤ b → numbers_above keys b < numbers_above keys a
unfolding numbers_above
numbers_above_fall keys a b held rises =
    keys_above_fall lt_z (λ m n o h k. sym (omega (arith, ints))) (λ n. sym (omega (arith, ints))) keys a b held (sym (omega (arith, ints)))

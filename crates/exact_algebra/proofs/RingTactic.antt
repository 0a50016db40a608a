-- Two rulesets that prove polynomial identities and inequalities over ℤ: `simp ring_laws (omega (arith, linear))`.
-- `ring_laws` multiplies out, moves signs outward and sorts the factors of each product; `linear` then reads each product
-- as one unknown. A hypothesis is brought to the same form by `let given = simp ring_laws at h in`.
-- `simp` is refused where no product is to be rewritten: write `omega (arith, linear)` there. State the identity over plain
-- variables, since two spellings of one term can be sorted apart. It serves up to about thirty products of four factors.
use Rattle.std.proofs.Common.{◌≡◌, ℕ, suc, ◌*◌, ℤ, pos, negsuc, ◌+ℤ◌, ◌*ℤ◌, neg_ℤ, refl, sym, ◌∙◌, arith}
use borrow.Author.Differences.{up, down, fits_out, same_out, Apart-out, lt_T, le_T, lt_not, le_not, lt-true, lt-false, le-true, le-false, true-lt, false-lt, true-le, false-le, not_negative_out, lt_out, le_out, fits_in, same_in, lt_in, le_in, below_in, at_most_in, not_negative_in, true_is_lt, false_is_lt, true_is_le, false_is_le, sum_is_lem, neg_is, product_is, quot_is, rem_is, abs_is, mag_is, back_is, small_is, read_fits, bits_is}
use Rattle.exact_algebra.proofs.RingLaws.{*ℤ_assoc, *ℤ_comm, *ℤ_left_comm, *ℤ-+ℤ, +ℤ-*ℤ, neg_ℤ-*ℤ, *ℤ-neg_ℤ, neg_ℤ-neg_ℤ, neg_ℤ-+ℤ, zero-*ℤ, *ℤ-zero, one-*ℤ, *ℤ-one}

-- k times a. It stands apart from the product, so that a numeral leaves the row of sorted factors.
pub multiple : ℕ → ℤ → ℤ
multiple k a = pos k *ℤ a

pub numeral_left : (k : ℕ) (a : ℤ) → pos k *ℤ a ≡ multiple k a
unfolding multiple
numeral_left k a = refl

pub numeral_right : (a : ℤ) (k : ℕ) → a *ℤ pos k ≡ multiple k a
unfolding multiple
numeral_right a k = *ℤ_comm a (pos k)

pub negative_left : (k : ℕ) (a : ℤ) → negsuc k *ℤ a ≡ neg_ℤ (multiple (suc k) a)
unfolding multiple
negative_left k a = neg_ℤ-*ℤ (pos (suc k)) a

pub negative_right : (a : ℤ) (k : ℕ) → a *ℤ negsuc k ≡ neg_ℤ (multiple (suc k) a)
unfolding multiple
negative_right a k = *ℤ_comm a (negsuc k) ∙ neg_ℤ-*ℤ (pos (suc k)) a

pub multiple-mul : (k : ℕ) (a b : ℤ) → multiple k a *ℤ b ≡ multiple k (a *ℤ b)
unfolding multiple
multiple-mul k a b = *ℤ_assoc (pos k) a b

pub mul-multiple : (a : ℤ) (k : ℕ) (b : ℤ) → a *ℤ multiple k b ≡ multiple k (a *ℤ b)
unfolding multiple
mul-multiple a k b = *ℤ_left_comm a (pos k) b

pub multiple-add : (k : ℕ) (a b : ℤ) → multiple k (a +ℤ b) ≡ multiple k a +ℤ multiple k b
unfolding multiple
multiple-add k a b = *ℤ-+ℤ (pos k) a b

pub multiple-neg : (k : ℕ) (a : ℤ) → multiple k (neg_ℤ a) ≡ neg_ℤ (multiple k a)
unfolding multiple
multiple-neg k a = *ℤ-neg_ℤ (pos k) a

pub multiple-multiple : (j k : ℕ) (a : ℤ) → multiple j (multiple k a) ≡ multiple (j * k) a
unfolding multiple
multiple-multiple j k a = sym (*ℤ_assoc (pos j) (pos k) a)

pub multiple-pos : (j k : ℕ) → multiple j (pos k) ≡ pos (j * k)
unfolding multiple
multiple-pos j k = refl

pub multiple_is : (k : ℕ) (a : ℤ) → (up (multiple k a) ≡ k * up a) × (down (multiple k a) ≡ k * down a)
unfolding multiple
multiple_is k a = omega (arith, product_is (pos k) a)

-- The same of a product with a numeral, where no product was multiplied out.
pub positive_left_is : (k : ℕ) (a : ℤ) → (up (pos k *ℤ a) ≡ k * up a) × (down (pos k *ℤ a) ≡ k * down a)
positive_left_is k a = omega (arith, product_is (pos k) a)

pub positive_right_is : (k : ℕ) (a : ℤ) → (up (a *ℤ pos k) ≡ k * up a) × (down (a *ℤ pos k) ≡ k * down a)
positive_right_is k a = omega (arith, product_is a (pos k))

pub negative_left_is : (k : ℕ) (a : ℤ) → (up (negsuc k *ℤ a) ≡ suc k * down a) × (down (negsuc k *ℤ a) ≡ suc k * up a)
negative_left_is k a = omega (arith, product_is (negsuc k) a)

pub negative_right_is : (k : ℕ) (a : ℤ) → (up (a *ℤ negsuc k) ≡ suc k * down a) × (down (a *ℤ negsuc k) ≡ suc k * up a)
negative_right_is k a = omega (arith, product_is a (negsuc k))

-- Multiplies out, moves signs and numerals outward, and sorts the factors of each product.
pub ruleset ring_laws = (zero-*ℤ, *ℤ-zero, one-*ℤ, *ℤ-one, neg_ℤ-neg_ℤ, neg_ℤ-*ℤ, *ℤ-neg_ℤ, +ℤ-*ℤ, *ℤ-+ℤ, numeral_left, numeral_right, negative_left, negative_right, multiple-mul, mul-multiple, multiple-add, multiple-neg, multiple-multiple, multiple-pos, *ℤ_assoc, *ℤ_comm, *ℤ_left_comm)

-- std's `ints` with multiples in place of its rule for products, so that any other product is an unknown.
pub ruleset linear = (fits_out, same_out, Apart-out, lt_T, le_T, lt_not, le_not, lt-true, lt-false, le-true, le-false, true-lt, false-lt, true-le, false-le, not_negative_out, lt_out, le_out, fits_in, same_in, lt_in, le_in, below_in, at_most_in, not_negative_in, true_is_lt, false_is_lt, true_is_le, false_is_le, sum_is_lem, neg_is, multiple_is, positive_left_is, positive_right_is, negative_left_is, negative_right_is, quot_is, rem_is, abs_is, mag_is, back_is, small_is, read_fits, bits_is)

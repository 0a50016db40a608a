-- A greatest and a least of f 0 .. f n: by induction on n, where the new number is compared with the one so far.
use Rattle.std.proofs.Common.{◌≡◌, ℕ, zero, suc, ◌<◌, ◌≤◌, ℤ, neg_ℤ, ◌≤ℤ◌, ◌<ℤ◌, ⊎_elim, arith}
use Rattle.std.proofs.lemmas.Int.{ints}
use lib.Signed.{≤ℤ_refl}
use Rattle.exact_algebra.proofs.FiniteChoice.{each_more}
use Rattle.exact_algebra.proofs.Order.{at_most_or_above}

-- A greatest of f 0 .. f n, the first of them where there are several.
pub record Greatest (f : ℕ → ℤ) (n : ℕ) : Type 0 where
  pub at : ℕ
  pub within : at ≤ n
  pub over : (k : ℕ) → k ≤ n → f k ≤ℤ f at
  pub over_earlier : (k : ℕ) → k < at → f k <ℤ f at

only_zero : (f : ℕ → ℤ) (k : ℕ) → k ≤ 0 → f k ≤ℤ f 0
only_zero f k h = let e : k ≡ 0 = omega arith in rw e (≤ℤ_refl (f 0))

pub greatest_of : (n : ℕ) (f : ℕ → ℤ) → Greatest f n
greatest_of zero f = record { at = 0; within = omega arith; over = only_zero f; over_earlier = λ k h. absurd (omega arith) }
greatest_of (suc n) f = by (greatest_of n f)
  where
    by : Greatest f n → Greatest f (suc n)
    by g = ⊎_elim kept replaced (at_most_or_above (f (suc n)) (f g.at))
      where
        kept : f (suc n) ≤ℤ f g.at → Greatest f (suc n)
        kept h = record {
          at = g.at;
          within = omega (arith, g.within);
          over = λ k l. each_more (λ j. f j ≤ℤ f g.at) (suc n) (λ j m. g.over j (omega arith)) h k (omega arith);
          over_earlier = g.over_earlier;
        }

        replaced : f g.at <ℤ f (suc n) → Greatest f (suc n)
        replaced h =
            let under : (j : ℕ) → j < suc n → f j <ℤ f (suc n) = λ j m. let o = g.over j (omega arith) in omega (arith, ints) in
            record {
              at = suc n;
              within = omega arith;
              over = λ k l. each_more (λ j. f j ≤ℤ f (suc n)) (suc n) (λ j m. let u = under j m in omega (arith, ints)) (≤ℤ_refl (f (suc n))) k (omega arith);
              over_earlier = under;
            }

-- A least of f 0 .. f n, the first of them where there are several.
pub record Least (f : ℕ → ℤ) (n : ℕ) : Type 0 where
  pub at : ℕ
  pub within : at ≤ n
  pub under : (k : ℕ) → k ≤ n → f at ≤ℤ f k
  pub under_earlier : (k : ℕ) → k < at → f at <ℤ f k

pub least_of : (n : ℕ) (f : ℕ → ℤ) → Least f n
least_of n f = by (greatest_of n (λ k. neg_ℤ (f k)))
  where
    by : Greatest (λ k. neg_ℤ (f k)) n → Least f n
    by g = record {
      at = g.at;
      within = g.within;
      under = λ k h. let o = g.over k h in omega (arith, ints);
      under_earlier = λ k h. let o = g.over_earlier k h in omega (arith, ints);
    }

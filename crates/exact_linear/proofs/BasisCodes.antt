-- The numbers below n that stand at m places, as one number below n ^ m: its digits in base n. Equal codes have equal digits,
-- from the last place to the first.
use Rattle.std.proofs.Common.{◌≡◌, ◌⊎◌, ℕ, zero, suc, ◌+◌, ◌*◌, ◌^◌, ◌<◌, ◌≤◌, sym, ⊎_elim, inl, inr, arith}
use Rattle.std.proofs.lemmas.Bool.{cases_lt, cases_order}
use Rattle.std.proofs.Math.Nat.{mul-le-mul_right, pow-suc, pow-zero}

-- The code of the columns at the places 0 .. m - 1.
unfoldable pub basis_code : ℕ → ℕ → (ℕ → ℕ) → ℕ
basis_code n zero basis = 0
basis_code n (suc m) basis = basis_code n m basis * n + basis m

not_lower : (n a b x y : ℕ) → x < n → a * n + x ≡ b * n + y → a < b → ⊥
not_lower n a b x y h same low = let more = mul-le-mul_right n low in omega arith

digits : (n a b x y : ℕ) → x < n → y < n → a * n + x ≡ b * n + y → (a ≡ b) × (x ≡ y)
digits n a b x y h k same = by (cases_order a b)
  where
    by : (a ≡ b) ⊎ ((a < b) ⊎ (b < a)) → (a ≡ b) × (x ≡ y)
    by (inl e) = (e, rest e)
      where
        rest : a ≡ b → x ≡ y
        rest f = let given : b * n + x ≡ b * n + y = rw f at same in omega arith
    by (inr (inl l)) = absurd (not_lower n a b x y h same l)
    by (inr (inr l)) = absurd (not_lower n b a y x k (sym same) l)

pub basis_code_bounded : (n m : ℕ) (basis : ℕ → ℕ) → ((k : ℕ) → k < m → basis k < n) → basis_code n m basis < n ^ m
unfolding basis_code
basis_code_bounded n zero basis within = rw pow-zero (omega arith)
basis_code_bounded n (suc m) basis within =
    let before = basis_code_bounded n m basis (λ k h. within k (omega arith)) in
    let last = within m (omega arith) in
    let more = mul-le-mul_right n before in
    rw pow-suc (omega arith)

pub basis_code_same : (n m : ℕ) (first second : ℕ → ℕ) → ((k : ℕ) → k < m → first k < n) → ((k : ℕ) → k < m → second k < n) → basis_code n m first ≡ basis_code n m second → (k : ℕ) → k < m → first k ≡ second k
unfolding basis_code
basis_code_same n zero first second within within' same k h = absurd (omega arith)
basis_code_same n (suc m) first second within within' same k h = ⊎_elim
    (λ (l : k < m). basis_code_same n m first second (λ i p. within i (omega arith)) (λ i p. within' i (omega arith)) parts.0 k l)
    (λ (l : m ≤ k). let e : k ≡ m = omega arith in rw e (parts.1))
    (cases_lt k m)
  where
    parts : (basis_code n m first ≡ basis_code n m second) × (first m ≡ second m)
    parts = digits n (basis_code n m first) (basis_code n m second) (first m) (second m) (within m (omega arith)) (within' m (omega arith)) same

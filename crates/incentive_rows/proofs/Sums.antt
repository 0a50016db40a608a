-- A sum is known by its terms: one term more, a bound, one value where each term has one, and room for any term.
use Rattle.std.proofs.Common.{◌≡◌, ℕ, ◌+◌, ◌*◌, ◌<◌, ◌≤◌, zero, suc, subst, inl, inr, arith}
use Rattle.std.proofs.Math.Numerals.{add-one}
use Rattle.std.proofs.lemmas.Bool.{cases_lt}
use Rattle.incentive_rows.specs.Sum.{IsSum, IsWhere}

-- each term has one value at most
pub record HasOne (term : ℕ → ℕ → Type 0) : Type 0 where
  pub same : (k a b : ℕ) → term k a → term k b → a ≡ b

pub sum_more : (term : ℕ → ℕ → Type 0) (k rest last total : ℕ) → IsSum term k rest → term k last → total ≡ rest + last → IsSum term (k + 1) total
sum_more term k rest last total s t e = rw add-one (rest, last, s, t, e)

-- the last term apart
pub sum_split : (term : ℕ → ℕ → Type 0) (k total : ℕ) → IsSum term (k + 1) total → (rest : ℕ) × (last : ℕ) × IsSum term k rest × term k last × (total ≡ rest + last)
sum_split term k total s =
    let P : ℕ → Type 0 = λ n. IsSum term n total in
    subst P (add-one k) s

pub sum_bound : (term : ℕ → ℕ → Type 0) (bound k total : ℕ) → IsSum term k total → ((i v : ℕ) → i < k → term i v → v ≤ bound) → total ≤ k * bound
sum_bound term bound zero total s each = omega (arith, s)
sum_bound term bound (suc k) total s each =
    let rest = sum_bound term bound k s.0 s.2 (λ i v low t. each i v (omega arith) t) in
    omega (arith, rest, each k s.1 (omega arith) s.3, s.4)

pub sum_one : (term : ℕ → ℕ → Type 0) → HasOne term → (k a b : ℕ) → IsSum term k a → IsSum term k b → a ≡ b
sum_one term one zero a b s t = omega (arith, s, t)
sum_one term one (suc k) a b s t =
    omega (arith, s.4, t.4, sum_one term one k s.0 t.0 s.2 t.2, one.same k s.1 t.1 s.3 t.3)

-- the sum of the terms before one, and that one, are within the whole
pub sum_room : (term : ℕ → ℕ → Type 0) (n total k : ℕ) → IsSum term n total → k < n → (part : ℕ) × (v : ℕ) × IsSum term k part × term k v × (part + v ≤ total)
sum_room term zero total k s low = absurd (omega arith)
sum_room term (suc n) total k s low =
    elim (cases_lt k n) [
      | inl below ↦
          let inner = sum_room term n s.0 k s.2 below in
          (inner.0, inner.1, inner.2, inner.3, omega (arith, inner.4, s.4))
      | inr above ↦
          let last : n ≡ k = omega arith in
          rw (← last) (s.0, s.1, s.2, s.3, omega (arith, s.4))
    ]

pub where_one : {Holds : Type 0} (full a b : ℕ) → IsWhere Holds full a → IsWhere Holds full b → a ≡ b
where_one full a b (inl p) (inl q) = omega (arith, p.1, q.1)
where_one full a b (inl p) (inr q) = absurd (q.0 p.0)
where_one full a b (inr p) (inl q) = absurd (p.0 q.0)
where_one full a b (inr p) (inr q) = omega (arith, p.1, q.1)

pub where_bound : {Holds : Type 0} (full a : ℕ) → IsWhere Holds full a → a ≤ full
where_bound full a (inl p) = omega (arith, p.1)
where_bound full a (inr p) = omega (arith, p.1)

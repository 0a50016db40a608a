-- The greatest number from a place on, one number after the other.
use Rattle.std.proofs.Common.{◌≡◌, ◌⊎◌, ℕ, ◌+◌, ◌<◌, ◌≤◌, inl, inr, List, ℤ, pos, ◌≤ℤ◌, refl, ◌∙◌, arith}
use Rattle.std.specs.Prelude.{slice_index_or}
use Rattle.std.proofs.lemmas.Bool.{cases_lt}
use Rattle.std.proofs.lemmas.Int.{ints}
use lib.Signed.{≤ℤ_refl}

-- no number from `first` to before `end` is greater, and it is one of them
abbrev pub Best : List ℤ → ℕ → ℕ → ℤ → Type 0
Best xs first end best =
    ((k : ℕ) → first ≤ k → k < end → slice_index_or xs k (pos 0) ≤ℤ best)
    × ((k : ℕ) × (first ≤ k) × (k < end) × (best ≡ slice_index_or xs k (pos 0)))

pub best_first : (xs : List ℤ) (first : ℕ) → Best xs first (first + 1) (slice_index_or xs first (pos 0))
best_first xs first = (
  λ k low high. (let same : k ≡ first = omega arith in rw same (≤ℤ_refl (slice_index_or xs first (pos 0)))),
  (first, omega arith, omega arith, refl),
)

up : (a b c : ℤ) → a ≤ℤ b → b ≤ℤ c → a ≤ℤ c
up a b c h k = omega (arith, ints)

pub best_next : (xs : List ℤ) (first n : ℕ) (best next : ℤ) → first ≤ n → Best xs first n best
    → (next ≡ best) ⊎ (next ≡ slice_index_or xs n (pos 0)) → (best ≤ℤ next) × (slice_index_or xs n (pos 0) ≤ℤ next)
    → Best xs first (n + 1) next
best_next xs first n best next from before one_of over = (
  λ k low high. elim (cases_lt k n) [
    | inl earlier ↦ up (slice_index_or xs k (pos 0)) best next (before.0 k low earlier) over.0
    | inr later ↦ let same : k ≡ n = omega arith in rw same over.1
  ],
  elim one_of [
    | inl kept ↦ (before.1.0, before.1.1, omega (arith, before.1.2), kept ∙ before.1.3)
    | inr here ↦ (n, from, omega arith, here)
  ],
)

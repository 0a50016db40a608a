-- Terms that fall on one place of a matrix add up: a term stands there where its condition holds.
use Rattle.std.specs.Prelude.{◌≡◌, ℕ, zero, suc, ◌⊎◌, ℤ, pos, ◌+ℤ◌}
use Rattle.lp_form.specs.Program.{LpView, coefficient}

-- this number where the condition holds, and 0 where it doesn't
abbrev pub IsTerm : Type 0 → ℤ → ℤ → Type 0
IsTerm Stands full value = (Stands × (value ≡ full)) ⊎ ((Stands → ⊥) × (value ≡ pos 0))

-- the sum of the terms with numbers below `count`
abbrev pub AreTerms : (ℕ → ℤ → Type 0) → ℕ → ℤ → Type 0
AreTerms term zero total = total ≡ pos 0
AreTerms term (suc k) total = (rest : ℤ) × (last : ℤ) × AreTerms term k rest × term k last × (total ≡ rest +ℤ last)

-- two terms together
abbrev pub Both : (ℤ → Type 0) → (ℤ → Type 0) → ℤ → Type 0
Both First Second value = (first : ℤ) × (second : ℤ) × First first × Second second × (value ≡ first +ℤ second)

-- each coefficient changes by the terms of its row and column
pub record Changes (part : ℕ → ℕ → ℤ → Type 0) (before after : LpView) : Type 0 where
  pub each : (r k : ℕ) → (v : ℤ) × part r k v × (coefficient after r k ≡ coefficient before r k +ℤ v)

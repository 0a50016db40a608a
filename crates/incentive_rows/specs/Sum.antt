-- A finite sum as a relation, for terms that are known by a condition.
use Rattle.std.specs.Prelude.{◌≡◌, ℕ, ◌+◌, zero, suc, ◌⊎◌}

-- this number where the condition holds, and 0 where it doesn't
abbrev pub IsWhere : Type 0 → ℕ → ℕ → Type 0
IsWhere Holds full value = (Holds × (value ≡ full)) ⊎ ((Holds → ⊥) × (value ≡ 0))

-- the sum of the terms with numbers below `count`
abbrev pub IsSum : (ℕ → ℕ → Type 0) → ℕ → ℕ → Type 0
IsSum term zero total = total ≡ 0
IsSum term (suc k) total = (rest : ℕ) × (last : ℕ) × IsSum term k rest × term k last × (total ≡ rest + last)

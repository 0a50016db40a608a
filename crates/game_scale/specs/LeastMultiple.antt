-- The least number that two numbers divide (Euclid, Elements, book VII, proposition 34).
use Rattle.std.specs.Prelude.{ℕ}
use Rattle.std.specs.Int.{◌∣◌}

-- a and b divide m, and m divides each number that they divide
abbrev pub IsLcm : ℕ → ℕ → ℕ → Type 0
IsLcm a b m = (a ∣ m) × (b ∣ m) × ((k : ℕ) → a ∣ k → b ∣ k → m ∣ k)

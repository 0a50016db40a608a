-- Counts that stand still at the last value of their type: linear facts.
use Rattle.std.proofs.Common.{◌≡◌, ◌⊎◌, ◌↔◌, ℕ, ◌-◌, ◌^◌, ◌<◌, ◌≤◌, inl, inr, arith}
use Rattle.std.proofs.lemmas.Bool.{cases_lt}
use Rattle.corr_port.specs.Count.{Rose, next_count}

pub counts_higher : (n : ℕ) → n < 2 ^ 64 - 1 → n < next_count n
counts_higher n h = omega arith

pub counts_last : (n : ℕ) → n < 2 ^ 64 → (next_count n ≡ n) ↔ (n ≡ 2 ^ 64 - 1)
counts_last n h = (λ e. omega (arith, e), λ e. omega (arith, e))

pub counts_within : (n : ℕ) → next_count n < 2 ^ 64
counts_within n = omega arith

pub counts_ordered : (m n : ℕ) → m ≤ n → next_count m ≤ next_count n
counts_ordered m n h = omega arith

pub rose_before : (a b c : ℕ) → a ≤ b → Rose b c → Rose a c
rose_before a b c h rose = omega (arith, rose)

pub rose_behind : (a b c : ℕ) → Rose a b → b ≤ c → Rose a c
rose_behind a b c rose h = omega (arith, rose)

pub rose_higher : (a b : ℕ) → Rose a b → (a < b) ⊎ (2 ^ 64 - 1 ≤ b)
rose_higher a b rose = elim (cases_lt a b) [
  | inl less ↦ inl less
  | inr more ↦ inr (omega (arith, rose, more))
]

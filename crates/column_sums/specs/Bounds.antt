-- How large narrow multiples of coefficients are, and sums of columns (the theory of linear programs; Gale, Kuhn and
-- Tucker 1951).
use Rattle.std.specs.Prelude.{ℕ, ◌*◌, ◌^◌, ◌≤◌, List, ℤ, pos, slice_index_or, unsigned_abs}
use Rattle.lp_form.specs.declared.entries.Entry.{Entry}
use Rattle.lp_form.specs.Row.{value_at}
use Rattle.lp_form.specs.Program.{LpView, coefficient}

-- each number is within this bound
abbrev pub AreWithin : ℕ → List ℤ → Type 0
AreWithin bound sums = (k : ℕ) → unsigned_abs (slice_index_or sums k (pos 0)) ≤ bound

-- a narrow multiple of a row's entry is within this bound
abbrev pub IsStep : ℕ → List Entry → Type 0
IsStep step entries = (k : ℕ) → 2 ^ 62 * unsigned_abs (value_at entries k) ≤ step

-- a narrow multiple of a coefficient is within this bound
abbrev pub AreSteps : ℕ → LpView → Type 0
AreSteps step lp = (r k : ℕ) → 2 ^ 62 * unsigned_abs (coefficient lp r k) ≤ step

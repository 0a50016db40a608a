-- Division that leaves nothing over, as in fraction-free elimination (Bareiss 1968).
use Rattle.std.specs.Prelude.{◌≡◌, ℤ, ◌*ℤ◌}

-- q is n divided by d, with nothing left over
abbrev pub IsQuotient : ℤ → ℤ → ℤ → Type 0
IsQuotient n d q = q *ℤ d ≡ n

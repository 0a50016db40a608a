-- The whole numbers of which a product fits 128 bits, and those that are too wide for that.
use Rattle.std.specs.Prelude.{ℤ, ◌^◌, ◌<◌, ◌≤◌, unsigned_abs}

-- a magnitude below 2^62
abbrev pub Narrow : ℤ → Type 0
Narrow z = unsigned_abs z < 2 ^ 62

-- a magnitude of 2^62 or more
abbrev pub Wide : ℤ → Type 0
Wide z = 2 ^ 62 ≤ unsigned_abs z

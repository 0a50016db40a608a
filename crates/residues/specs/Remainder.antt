-- Modular arithmetic: Knuth, The Art of Computer Programming 2, section 4.3.2.
use Rattle.std.specs.Prelude.{ℕ, ℤ, pos, unsigned_abs}
use Rattle.std.specs.Int.{int_rem_euclid}

-- the remainder of a whole number, from 0 up to the modulus
abbrev pub remainder : ℤ → ℕ → ℕ
remainder z modulus = unsigned_abs (int_rem_euclid z (pos modulus))

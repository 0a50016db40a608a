-- Random numbers by a linear congruential generator with modulus 2^64, whose low digits are dropped (Knuth 1997, The Art of
-- Computer Programming, volume 2, 3.2.1 and 3.3.4).
use Rattle.std.specs.Prelude.{ℕ, zero, suc, ◌+◌, ◌*◌, ◌/◌, ◌%◌, ◌^◌}

-- the state behind this one
unfoldable pub next_state : ℕ → ℕ
next_state state = (state * 6364136223846793005 + 1442695040888963407) % 2 ^ 64

-- the state after so many draws, which is the seed before the first
unfoldable pub state_after : ℕ → ℕ → ℕ
state_after zero seed = seed
state_after (suc drawn) seed = next_state (state_after drawn seed)

-- the draw with this number, counted from 0: a digit from 0 to 9
unfoldable pub draw : ℕ → ℕ → ℕ
draw seed number = state_after (number + 1) seed / 2 ^ 33 % 10

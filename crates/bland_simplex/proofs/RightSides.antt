-- Right sides of which the first alone was set.
use Rattle.std.proofs.Common.{◌≡◌, ℕ, ◌<◌, zero, suc, pos, slice_index_or, refl, arith}
use Rattle.std.specs.Prelude.{replicate, slice_set}

all_0 : (n row : ℕ) → slice_index_or (replicate n (pos 0)) row (pos 0) ≡ pos 0
all_0 zero row = refl
all_0 (suc n) zero = refl
all_0 (suc n) (suc row) = all_0 n row

pub first_is_1 : (n : ℕ) → 0 < n → slice_index_or (slice_set (replicate n (pos 0)) 0 (pos 1)) 0 (pos 0) ≡ pos 1
first_is_1 zero h = absurd (omega arith)
first_is_1 (suc n) h = refl

pub others_are_0 : (n row : ℕ) → 0 < row → slice_index_or (slice_set (replicate n (pos 0)) 0 (pos 1)) row (pos 0) ≡ pos 0
others_are_0 zero row h = refl
others_are_0 (suc n) zero h = absurd (omega arith)
others_are_0 (suc n) (suc row) h = all_0 n row

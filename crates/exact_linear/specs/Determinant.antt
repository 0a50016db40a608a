-- The determinant of a family of vectors of whole numbers (Laplace expansion along the last coordinate).
use Rattle.std.specs.Prelude.{ℕ, zero, suc, ℤ, pos, ◌-ℤ◌, ◌*ℤ◌}
use Rattle.exact_algebra.proofs.Families.{put}
use Rattle.exact_algebra.specs.Sums.{sum_to}

-- the determinant of the vectors 0 .. n - 1 in the coordinates 0 .. n - 1, where `vectors k c` is coordinate c of vector k:
-- expanded along coordinate n - 1, with the last vector put in the place of the one whose coordinate is taken
unfoldable pub det : ℕ → (ℕ → ℕ → ℤ) → ℤ
det zero vectors = pos 1
det (suc n) vectors = vectors n n *ℤ det n vectors -ℤ sum_to n (λ k. vectors k n *ℤ det n (put vectors k (vectors n)))

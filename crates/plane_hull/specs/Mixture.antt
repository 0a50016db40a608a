-- Mixtures of points: means with weights of 0 or more, as barycentric coordinates (Möbius 1827). A corner that is taken
-- so many times, numerators and denominator, has that number times its denominator for its weight.
use Rattle.std.specs.Prelude.{◌≡◌, ℕ, List, length, ℤ, pos, ◌*ℤ◌, ◌<ℤ◌}
use Rattle.exact_algebra.specs.Sums.{sum_to}
use Rattle.plane_hull.specs.declared.sides.Point.{Point}
use Rattle.plane_hull.specs.Inside.{PlanePoint, corner_at}

-- a number of each corner, summed as often as the corner is taken
abbrev pub summed : List Point → (ℕ → ℕ) → (PlanePoint → ℤ) → ℤ
summed points times part = sum_to (length points) (λ k. pos (times k) *ℤ part (corner_at points k))

-- the point is the mean of the corners, each taken so many times, and their total weight is above 0
pub record IsMeanOf (points : List Point) (times : ℕ → ℕ) (p : PlanePoint) : Type 0 where
  pub total : pos 0 <ℤ summed points times (λ q. q.den)
  pub x : p.x *ℤ summed points times (λ q. q.den) ≡ p.den *ℤ summed points times (λ q. q.x)
  pub y : p.y *ℤ summed points times (λ q. q.den) ≡ p.den *ℤ summed points times (λ q. q.y)

-- the point is a mixture of the corners
abbrev pub IsMixture : List Point → PlanePoint → Type 0
IsMixture points p = (times : ℕ → ℕ) × IsMeanOf points times p

-- the point is a mixture of the corners other than the one with this number
abbrev pub IsMixtureOfOthers : List Point → ℕ → PlanePoint → Type 0
IsMixtureOfOthers points k p = (times : ℕ → ℕ) × (times k ≡ 0) × IsMeanOf points times p

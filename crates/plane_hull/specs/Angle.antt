-- The order of directions by angle, as sweeps of computational geometry use it: by half plane, and within one half plane
-- by the sign of the cross product (Preparata and Shamos 1985, chapter 2).
use Rattle.std.specs.Prelude.{ℕ, pos, ◌*ℤ◌}
use Rattle.std.specs.Ordering.{int_cmp, nat_cmp, ordering_then}
use Rattle.std.specs.declared.cmp.Ordering.{Ordering}
use Rattle.std.specs.declared.cmp.Ordering.TheVariants.{Less, Equal, Greater}
use Rattle.plane_hull.specs.declared.directions.Dir.{Dir}

-- 0 for the angles from 0 to below a half turn, by the order of b and of a against 0; 1 for the others
abbrev pub half_by : Ordering → Ordering → ℕ
half_by Greater a = 0
half_by Equal Greater = 0
half_by Equal Equal = 1
half_by Equal Less = 1
half_by Less a = 1

abbrev pub half_of : Dir → ℕ
half_of dir = half_by (int_cmp dir.b (pos 0)) (int_cmp dir.a (pos 0))

-- in one half plane x comes before y where the cross product of x and y is above 0
abbrev pub angle_cmp : Dir → Dir → Ordering
angle_cmp x y = ordering_then (nat_cmp (half_of x) (half_of y)) (int_cmp (x.b *ℤ y.a) (x.a *ℤ y.b))

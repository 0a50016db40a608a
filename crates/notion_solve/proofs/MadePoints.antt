-- Points that were put one by one are those of the corners.
use Rattle.std.proofs.Common.{◌≡◌, ℕ, ◌<◌, suc, List, [], ◌∷◌, length, map, refl, ap₂, ◌∙◌, arith}
use Rattle.std.specs.Prelude.{Some, slice_get}
use Rattle.plane_hull.specs.declared.sides.Point.{Point}
use Rattle.report_form.specs.declared.reports.Corner.{Corner}
use Rattle.report_form.specs.Points.{points_of}

all_points : (f : Corner → Point) (corners : List Corner) (points : List Point) → length points ≡ length corners
    → ((k : ℕ) (corner : Corner) → k < length corners → slice_get corners k ≡ Some corner → slice_get points k ≡ Some (f corner))
    → points ≡ map f corners
all_points f [] [] count each = refl
all_points f [] (point ∷ points) count each = absurd (omega arith)
all_points f (corner ∷ corners) [] count each = absurd (omega arith)
all_points f (corner ∷ corners) (point ∷ points) count each =
    let here : Some point ≡ Some (f corner) = each 0 corner (omega arith) refl in
    let head : point ≡ f corner = cc in
    ap₂ (λ (x : Point) (xs : List Point). x ∷ xs) head
    (all_points f corners points (omega arith) (λ k c low at. each (suc k) c (omega arith) at))

pub made_points : (corners : List Corner) (points : List Point) (n : ℕ) → length points ≡ n → n ≡ length corners
    → ((k : ℕ) (corner : Corner) → k < n → slice_get corners k ≡ Some corner → slice_get points k ≡ Some corner.point)
    → points ≡ points_of corners
made_points corners points n count all each =
    all_points (λ corner. corner.point) corners points (count ∙ all) (λ k corner low at. each k corner (omega arith) at)

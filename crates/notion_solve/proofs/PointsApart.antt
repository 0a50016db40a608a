-- Where swept corners are two points of the plane, the corners made of them have two points: equal points would be one place. So sides that
-- are a belt round any such points are one round the corners made.
use Rattle.std.proofs.Common.{◌≡◌, ◌≢◌, ℕ, List, All, length, slice_get, ℤ, pos, ◌*ℤ◌, ◌-ℤ◌, ◌<ℤ◌, ◌∙◌, arith}
use Rattle.std.proofs.lemmas.List.{length-map}
use Rattle.exact_algebra.proofs.Combinations.{same_by_two}
use Rattle.exact_algebra.proofs.Order.{cancel_positive, product_positive}
use Rattle.exact_algebra.proofs.RingTactic.{ring_laws, linear}
use Rattle.corr_game.specs.declared.sides.Side.TheVariants.{One, Two}
use Rattle.corr_game.specs.Game.{GameView, IsGame, scale_of}
use Rattle.plane_hull.specs.declared.sides.Point.{Point}
use Rattle.plane_hull.specs.declared.sides.SideRow.{SideRow}
use Rattle.plane_hull.specs.Belt.{IsBelt}
use Rattle.plane_hull.specs.StrictPolygon.{AreFractions}
use Rattle.polygon_sweep.specs.declared.corners.SweptCorner.{SweptCorner}
use Rattle.polygon_sweep.specs.Round.{AreApart, IsOnePoint}
use Rattle.report_form.specs.Certified.{IsPointIn}
use Rattle.report_form.specs.declared.reports.Corner.{Corner}
use Rattle.report_form.specs.Points.{points_of}
use Rattle.report_form.specs.Ranges.{IsCorner}
use Rattle.notion_solve.proofs.Inside.{over_one}
use Rattle.notion_solve.proofs.ExactPolygons.{points_are_fractions}
use Rattle.notion_solve.proofs.Rightness.{point_there}
use Rattle.notion_solve.specs.Shown.{ArePointsOf}

-- n/d is both a/(t s) and b/(u s), so a/t is b/u
one_payoff : (n d s a t b u : ℤ) → pos 0 <ℤ d → pos 0 <ℤ s → n *ℤ (t *ℤ s) ≡ a *ℤ d → n *ℤ (u *ℤ s) ≡ b *ℤ d → a *ℤ u ≡ b *ℤ t
one_payoff n d s a t b u d_over s_over first second =
    cancel_positive (d *ℤ s) (product_positive d_over s_over)
    (same_by_two (pos 0 -ℤ u *ℤ s) (t *ℤ s) first second (simp ring_laws (omega (arith, linear))))

one_point : (g : GameView) (point : Point) (a b : SweptCorner) → IsGame g → pos 0 <ℤ point.one.den → pos 0 <ℤ point.two.den
    → IsPointIn g point a.one a.two a.den → IsPointIn g point b.one b.two b.den → IsOnePoint a b
one_point g point a b rules one_over two_over first second = record {
  one = one_payoff point.one.num point.one.den (scale_of One g) a.one a.den b.one b.den one_over
      (over_one (rules.each_scale One).0) first.first second.first;
  two = one_payoff point.two.num point.two.den (scale_of Two g) a.two a.den b.two b.den two_over
      (over_one (rules.each_scale Two).0) first.second second.second;
}

pub points_apart : (g : GameView) (swept : List SweptCorner) (corners : List Corner) → IsGame g → AreFractions (points_of corners)
    → ArePointsOf g swept corners → (j k : ℕ) → AreApart swept j k → slice_get (points_of corners) j ≢ slice_get (points_of corners) k
points_apart g swept corners rules fractions points j k apart alike =
    let (a, b, at_a, at_b, two_points) = apart in
    let (one, at_one, first) = points j a at_a in
    let (other, at_other, second) = points k b at_b in
    let there = point_there corners j one at_one in
    let same : one.point ≡ other.point = cc (there, point_there corners k other at_other, alike) in
    let lowest = fractions j one.point there in
    two_points (one_point g one.point a b rules lowest.0.positive lowest.1.positive first (rw same second))

-- what is a belt round any points that differ where these swept corners do is one round the made corners' points
pub made_belt : (g : GameView) (swept : List SweptCorner) (corners : List Corner) (sides : List SideRow) → IsGame g → All IsCorner corners
    → length corners ≡ length swept → ArePointsOf g swept corners
    → ((points : List Point) → length points ≡ length swept
    → ((j k : ℕ) → AreApart swept j k → slice_get points j ≢ slice_get points k) → IsBelt points sides)
    → IsBelt (points_of corners) sides
made_belt g swept corners sides rules ranges count made belt =
    belt (points_of corners) (length-map corners (λ (c : Corner). c.point) ∙ count)
    (points_apart g swept corners rules (points_are_fractions corners ranges) made)

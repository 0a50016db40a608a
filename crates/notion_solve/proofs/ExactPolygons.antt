-- A polygon is exact where its sides are certified and a belt, and each corner is paid by an equilibrium list: what solutions pay lies inside,
-- so does what equilibrium lists pay, the corners too; and what lies inside is a mixture of the corners, which a list of their lists pays.
use Rattle.std.proofs.Common.{◌≡◌, ℕ, ◌<◌, ℤ, pos, ◌+ℤ◌, ◌*ℤ◌, ◌≤ℤ◌, ◌<ℤ◌, List, All, Some, length, slice_get}
use Rattle.std.proofs.Common.{sym, subst, arith}
use Rattle.std.proofs.lemmas.Int.{ints}
use Rattle.std.proofs.lemmas.List.{length-map}
use Rattle.std.proofs.lemmas.Option.{slice_get_within}
use Rattle.exact_algebra.proofs.Combinations.{same_by_one, same_by_two}
use Rattle.exact_algebra.proofs.Order.{cancel_at_most, product_positive, times_at_most}
use Rattle.exact_algebra.proofs.RingTactic.{ring_laws, linear}
use Rattle.corr_game.specs.declared.notions.Notion.{Notion}
use Rattle.corr_game.specs.declared.sides.Side.TheVariants.{One, Two}
use Rattle.corr_game.specs.Game.{GameView, IsGame, scale_of}
use Rattle.sequences.proofs.Adding.{within}
use Rattle.connected_pairs.specs.Connected.{IsPairs, IsPairsOf, PairsView}
use Rattle.equilibrium.specs.Deviation.{following}
use Rattle.equilibrium.specs.Distribution.{Entry, entries_of, total}
use Rattle.lp_form.specs.Program.{LpView}
use Rattle.lp_form.specs.Solutions.{IsSolution}
use Rattle.plan_polytope.specs.NotionProgram.{IsProgramOf}
use Rattle.plane_hull.specs.declared.sides.Point.{Point}
use Rattle.plane_hull.specs.declared.sides.SideRow.{SideRow}
use Rattle.plane_hull.specs.Belt.{IsBelt, StandAtCorners}
use Rattle.plane_hull.specs.Inside.{IsInside, PlanePoint, corner_at, plane_point}
use Rattle.plane_hull.specs.StrictPolygon.{AreCornersInside, AreFractions}
use Rattle.plane_hull.proofs.PolygonOfBelt.{corner_is, den_over}
use Rattle.plane_hull.proofs.StrictPolygons.{inside_is_mixture, strict}
use Rattle.report_form.specs.Certified.{IsCertified}
use Rattle.report_form.specs.declared.reports.Block.TheVariants.{Found}
use Rattle.report_form.specs.declared.reports.Corner.{Corner}
use Rattle.report_form.specs.Points.{points_of}
use Rattle.report_form.specs.Ranges.{IsBlock, IsCorner, IsSide}
use Rattle.equilibrium_solutions.specs.ColumnSums.{AreColumnSums, SumsTo}
use Rattle.equilibrium_solutions.proofs.Same.{pays, same}
use Rattle.equilibrium_solutions.proofs.SumsThere.{lists_have_sums}
use Rattle.notion_solve.proofs.Inside.{inside, over_one}
use Rattle.notion_solve.proofs.MeansPaid.{both_means, mean_is_paid}
use Rattle.notion_solve.proofs.Rightness.{element, point_there}
use Rattle.notion_solve.specs.Exact.{IsExactPolygon, IsPaidCorner}
use Rattle.notion_solve.specs.Paid.{point_paid}
use Rattle.notion_solve.specs.Right.{InsideIsPaid, IsPaid}

-- ---- one place over two denominators

-- two points of the plane are one
record IsOnePlace (p q : PlanePoint) : Type 0 where
  x : p.x *ℤ q.den ≡ q.x *ℤ p.den
  y : p.y *ℤ q.den ≡ q.y *ℤ p.den

-- the same in a direction (a, b), once payoffs are scaled
same_along : (a b s t px py pd qx qy qd r : ℤ) → px *ℤ qd ≡ qx *ℤ pd → py *ℤ qd ≡ qy *ℤ pd
    → qd *ℤ ((a *ℤ (s *ℤ px) +ℤ b *ℤ (t *ℤ py)) *ℤ r) ≡ pd *ℤ ((a *ℤ (s *ℤ qx) +ℤ b *ℤ (t *ℤ qy)) *ℤ r)
same_along a b s t px py pd qx qy qd r first second =
    same_by_two (a *ℤ s *ℤ r) (b *ℤ t *ℤ r) first second (simp ring_laws (omega (arith, linear)))

moved_over : (a b s t px py pd qx qy qd w r : ℤ) → pos 0 <ℤ pd → pos 0 ≤ℤ qd → px *ℤ qd ≡ qx *ℤ pd → py *ℤ qd ≡ qy *ℤ pd
    → ((a *ℤ (s *ℤ px) +ℤ b *ℤ (t *ℤ py)) *ℤ r) ≤ℤ (w *ℤ pd) → ((a *ℤ (s *ℤ qx) +ℤ b *ℤ (t *ℤ qy)) *ℤ r) ≤ℤ (w *ℤ qd)
moved_over a b s t px py pd qx qy qd w r over low first second h =
    cancel_at_most pd over (rw (← same_along a b s t px py pd qx qy qd r first second, turned pd w qd) (times_at_most qd low h))
  where
    turned : (u v z : ℤ) → u *ℤ (v *ℤ z) ≡ z *ℤ (v *ℤ u)
    turned u v z = simp ring_laws (omega (arith, linear))

inside_too : (one two : ℤ) (points : List Point) (sides : List SideRow) (p q : PlanePoint) → pos 0 <ℤ p.den → pos 0 <ℤ q.den
    → IsOnePlace p q → IsInside one two points sides p → IsInside one two points sides q
inside_too one two points sides p q p_over q_over is h k side at =
    let r = corner_at points side.corner in
    moved_over side.dir.a side.dir.b one two p.x p.y p.den q.x q.y q.den _ r.den p_over (weakly q.den q_over) is.x is.y (h k side at)
  where
    weakly : (z : ℤ) → pos 0 <ℤ z → pos 0 ≤ℤ z
    weakly z h = omega (arith, ints)

-- the mean that a list pays, in the file's units
mean_over : (x d t s u f : ℤ) → x *ℤ (s *ℤ t) ≡ d *ℤ f → f *ℤ u *ℤ d ≡ x *ℤ (t *ℤ (s *ℤ u))
mean_over x d t s u f is = same_by_one u (sym is) (simp ring_laws (omega (arith, linear)))

mean_over_second : (x d t s u f : ℤ) → x *ℤ (s *ℤ t) ≡ d *ℤ f → f *ℤ u *ℤ d ≡ x *ℤ (t *ℤ (u *ℤ s))
mean_over_second x d t s u f is = same_by_one u (sym is) (simp ring_laws (omega (arith, linear)))

-- and the corner's point is the mean of its list
corner_mean : (n d e t s m f : ℤ) → m ≡ t → n *ℤ (t *ℤ s) ≡ f *ℤ d → n *ℤ e *ℤ (s *ℤ m) ≡ d *ℤ e *ℤ f
corner_mean n d e t s m f all is = rw all (same_by_one e is (simp ring_laws (omega (arith, linear))))

corner_mean_second : (n d e t s m f : ℤ) → m ≡ t → n *ℤ (t *ℤ s) ≡ f *ℤ d → n *ℤ e *ℤ (s *ℤ m) ≡ e *ℤ d *ℤ f
corner_mean_second n d e t s m f all is = rw all (same_by_one e is (simp ring_laws (omega (arith, linear))))

-- ---- corners of a block in its ranges

corner_there : (corners : List Corner) (k : ℕ) → k < length (points_of corners) → (corner : Corner) × (slice_get corners k ≡ Some corner)
corner_there corners k low = within corners k (omega (arith, length-map corners (λ (c : Corner). c.point)))

-- a point of a block in its ranges has coordinates in lowest terms
pub points_are_fractions : (corners : List Corner) → All IsCorner corners → AreFractions (points_of corners)
points_are_fractions corners each k point at =
    let found = corner_there corners k (slice_get_within (points_of corners) k point at) in
    let ranges = (element IsCorner corners k found.0 each found.1).4 in
    let same : found.0.point ≡ point = cc (point_there corners k found.0 found.1, at) in
    rw (← same) (ranges.0.lowest, ranges.1.lowest)

pub sides_stand : (corners : List Corner) (sides : List SideRow) → All (IsSide (length corners)) sides
    → StandAtCorners (length (points_of corners)) sides
sides_stand corners sides each k side at =
    rw (length-map corners (λ (c : Corner). c.point)) (element (IsSide (length corners)) sides k side each at).1

module _ (notion : Notion) (g : GameView) (p : PairsView) (lp : LpView) (rules : IsGame g) (pairs : IsPairs p) (of : IsPairsOf g p)
    (program : IsProgramOf g p notion lp) (corners : List Corner) (sides : List SideRow) (block : IsBlock (Found corners sides))
    (certified : (k : ℕ) (side : SideRow) → slice_get sides k ≡ Some side → IsCertified g lp corners side)
    (met : All (IsPaidCorner notion g) corners) (belt : IsBelt (points_of corners) sides) where
  abbrev one : ℤ
  one = scale_of One g

  abbrev two : ℤ
  two = scale_of Two g

  abbrev points : List Point
  points = points_of corners

  one_over : pos 0 <ℤ one
  one_over = over_one (rules.each_scale One).0

  two_over : pos 0 <ℤ two
  two_over = over_one (rules.each_scale Two).0

  fractions : AreFractions points
  fractions = points_are_fractions corners block.2

  -- what a solution pays lies inside
  solution_inside : (t : ℤ) (x : ℕ → ℤ) → IsSolution lp t x → IsInside one two points sides (point_paid g lp t x)
  solution_inside t x solution k side at =
      inside g lp corners side t x rules program.right_sides fractions (certified k side at) solution

  paid_over : (t : ℤ) → pos 0 <ℤ t → pos 0 <ℤ (t *ℤ (one *ℤ two))
  paid_over t over = product_positive over (product_positive one_over two_over)

  corner_paid : (k : ℕ) → k < length points → IsPaid notion g (corner_at points k)
  corner_paid k low =
      let found = corner_there corners k low in
      let corner = found.0 in
      let right = element (IsPaidCorner notion g) corners k corner met found.1 in
      let list : List Entry = entries_of corner.pairs in
      let is = corner_is points k corner.point (point_there corners k corner found.1) in
      let fraction = fractions k corner.point (point_there corners k corner found.1) in
      let P : PlanePoint → Type 0 = λ q. IsPaid notion g q in
      subst P (sym is)
      (record {
        positive = product_positive fraction.0.positive fraction.1.positive;
        list = list;
        equilibrium = right.equilibrium;
        mean = both_means g list (plane_point corner.point)
            (corner_mean corner.point.one.num corner.point.one.den corner.point.two.den corner.total one (total list) (following One g list)
            right.total_is right.point.first)
            (corner_mean_second corner.point.two.num corner.point.two.den corner.point.one.den corner.total two (total list)
            (following Two g list) right.total_is right.point.second);
      })

  -- what an equilibrium list pays lies inside
  paid_inside : (q : PlanePoint) → pos 0 <ℤ q.den → IsPaid notion g q → IsInside one two points sides q
  paid_inside q over paid_by =
      let list = paid_by.list in
      let eq = paid_by.equilibrium in
      let sums = lists_have_sums g p rules pairs of list in
      let solved = (same notion g p lp list sums.0 rules pairs of program eq.entries eq.some_weight sums.1).0 eq in
      let y = solved.0 in
      let sums_too : AreColumnSums p list y = λ k pair at.
      (let P : ℤ → Type 0 = SumsTo p.seqs pair list in
      subst P (sym (solved.1 k (slice_get_within p.pairs k pair at))) (sums.1 k pair at)) in
      let paid_is = pays notion g p lp list y rules pairs of program eq.entries sums_too in
      inside_too one two points sides (point_paid g lp (total list) y) q (paid_over (total list) eq.some_weight) over
      (record {
        x = rw (paid_is One) (mean_over q.x q.den (total list) one two (following One g list) (paid_by.mean One));
        y = rw (paid_is Two) (mean_over_second q.y q.den (total list) two one (following Two g list) (paid_by.mean Two));
      })
      (solution_inside (total list) y solved.2)

  given : AreCornersInside one two points sides
  given = record {
    first_scale = one_over;
    second_scale = two_over;
    fractions = fractions;
    some = omega (arith, block.0.0, length-map corners (λ (c : Corner). c.point));
    stand = sides_stand corners sides block.3;
    belt = belt;
    inside = λ k low. paid_inside (corner_at points k) (den_over points fractions k low) (corner_paid k low);
  }

  exactly : InsideIsPaid notion g corners sides
  exactly q over = (
    λ within_sides.
        let mixed = (inside_is_mixture one two points sides given q over).0 within_sides in
        mean_is_paid notion g points mixed.0 q corner_paid over mixed.1,
    paid_inside q over,
  )

  pub exact_polygon : IsExactPolygon notion g corners sides
  exact_polygon = record { strict = strict one two points sides given; exactly = exactly; each_corner = met }

-- What solutions pay lies inside the sides of a polygon: no solution lies further along a certified direction than its multipliers reach, and
-- these reach as far as the side's corner.
use Rattle.std.proofs.Common.{◌≡◌, ℕ, List, [], ◌∷◌, All, Some, option_map, slice_get, slice_index_or, refl, sym, subst, ◌∙◌, ap, ℤ, pos, ◌+ℤ◌, ◌*ℤ◌, ◌≤ℤ◌, ◌<ℤ◌, arith}
use Rattle.std.proofs.lemmas.Int.{ints}
use Rattle.std.proofs.lemmas.Option.{get_or_from_slice_get, slice_get-map, slice_get_within}
use Rattle.exact_algebra.proofs.Combinations.{same_by_two}
use Rattle.exact_algebra.proofs.Identities.{unknown, ◌⊕◌, ◌⊖◌, ◌⊗◌, identity}
use Rattle.exact_algebra.proofs.Order.{cancel_at_most, product_positive, times_at_most}
use Rattle.corr_num.specs.Fraction.{IsLowest}
use Rattle.corr_game.specs.declared.sides.Side.TheVariants.{One, Two}
use Rattle.corr_game.specs.Game.{GameView, IsGame, scale_of}
use Rattle.lp_form.proofs.Certified.{bounded_along}
use Rattle.lp_form.specs.Program.{IsProgram, LpView}
use Rattle.lp_form.specs.Solutions.{IsSolution, paid}
use Rattle.plane_hull.proofs.PolygonOfBelt.{corner_is}
use Rattle.plane_hull.specs.declared.sides.Point.{Point}
use Rattle.plane_hull.specs.declared.sides.SideRow.{SideRow}
use Rattle.plane_hull.specs.Inside.{NoFurther, PlanePoint, corner_at}
use Rattle.plane_hull.specs.StrictPolygon.{AreFractions}
use Rattle.report_form.specs.Certified.{IsCertified}
use Rattle.report_form.specs.declared.reports.Corner.{Corner}
use Rattle.report_form.specs.Points.{points_of}
use Rattle.notion_solve.specs.Paid.{point_paid}
use Rattle.notion_solve.specs.Shown.{IsShownSide}

-- the pay of a solution in direction (a, b), taken den times
pay_over : (a b den p q s t od td : ℤ) → den *ℤ ((a *ℤ (s *ℤ (p *ℤ t)) +ℤ b *ℤ (t *ℤ (q *ℤ s))) *ℤ (od *ℤ td)) ≡ s *ℤ t *ℤ (od *ℤ td) *ℤ (den *ℤ (a *ℤ p +ℤ b *ℤ q))
pay_over a b den p q s t od td =
    let u = unknown in
    identity
    (u 2 ⊗ ((u 0 ⊗ (u 5 ⊗ (u 3 ⊗ u 6)) ⊕ u 1 ⊗ (u 6 ⊗ (u 4 ⊗ u 5))) ⊗ (u 7 ⊗ u 8)))
    (u 5 ⊗ u 6 ⊗ (u 7 ⊗ u 8) ⊗ (u 2 ⊗ (u 0 ⊗ u 3 ⊕ u 1 ⊗ u 4)))
    (a ∷ b ∷ den ∷ p ∷ q ∷ s ∷ t ∷ od ∷ td ∷ []) refl

-- the corner in that direction, taken den times, is where the multipliers f and h reach
corner_over : (a b den total f h s t on od tn td : ℤ) → on *ℤ (den *ℤ s) ≡ f *ℤ od → tn *ℤ (den *ℤ t) ≡ h *ℤ td
    → den *ℤ ((a *ℤ (s *ℤ (on *ℤ td)) +ℤ b *ℤ (t *ℤ (tn *ℤ od))) *ℤ (total *ℤ (s *ℤ t))) ≡ s *ℤ t *ℤ (od *ℤ td) *ℤ (total *ℤ (a *ℤ f +ℤ b *ℤ h))
corner_over a b den total f h s t on od tn td first second =
    let u = unknown in
    same_by_two (a *ℤ td *ℤ (total *ℤ (s *ℤ t))) (b *ℤ od *ℤ (total *ℤ (s *ℤ t))) first second
    (identity
    (u 2 ⊗ ((u 0 ⊗ (u 6 ⊗ (u 8 ⊗ u 11)) ⊕ u 1 ⊗ (u 7 ⊗ (u 10 ⊗ u 9))) ⊗ (u 3 ⊗ (u 6 ⊗ u 7))) ⊖ u 6 ⊗ u 7 ⊗ (u 9 ⊗ u 11) ⊗ (u 3 ⊗ (u 0 ⊗ u 4 ⊕ u 1 ⊗ u 5)))
    (u 0 ⊗ u 11 ⊗ (u 3 ⊗ (u 6 ⊗ u 7)) ⊗ (u 8 ⊗ (u 2 ⊗ u 6) ⊖ u 4 ⊗ u 9) ⊕ u 1 ⊗ u 9 ⊗ (u 3 ⊗ (u 6 ⊗ u 7)) ⊗ (u 10 ⊗ (u 2 ⊗ u 7) ⊖ u 5 ⊗ u 11))
    (a ∷ b ∷ den ∷ total ∷ f ∷ h ∷ s ∷ t ∷ on ∷ od ∷ tn ∷ td ∷ []) refl)

-- a solution that lies no further than the multipliers reach lies no further than their corner
no_further : (a b den total p q f h s t on od tn td : ℤ) → pos 0 <ℤ den → pos 0 <ℤ s → pos 0 <ℤ t → pos 0 <ℤ od → pos 0 <ℤ td
    → on *ℤ (den *ℤ s) ≡ f *ℤ od → tn *ℤ (den *ℤ t) ≡ h *ℤ td → (den *ℤ (a *ℤ p +ℤ b *ℤ q)) ≤ℤ (total *ℤ (a *ℤ f +ℤ b *ℤ h))
    → ((a *ℤ (s *ℤ (p *ℤ t)) +ℤ b *ℤ (t *ℤ (q *ℤ s))) *ℤ (od *ℤ td)) ≤ℤ ((a *ℤ (s *ℤ (on *ℤ td)) +ℤ b *ℤ (t *ℤ (tn *ℤ od))) *ℤ (total *ℤ (s *ℤ t)))
no_further a b den total p q f h s t on od tn td over s_over t_over od_over td_over first second bounded =
    cancel_at_most den over
    (subst (λ l. l ≤ℤ (den *ℤ ((a *ℤ (s *ℤ (on *ℤ td)) +ℤ b *ℤ (t *ℤ (tn *ℤ od))) *ℤ (total *ℤ (s *ℤ t))))) (sym (pay_over a b den p q s t od td))
    (subst (λ r. (s *ℤ t *ℤ (od *ℤ td) *ℤ (den *ℤ (a *ℤ p +ℤ b *ℤ q))) ≤ℤ r) (sym (corner_over a b den total f h s t on od tn td first second))
    (times_at_most (s *ℤ t *ℤ (od *ℤ td)) (weakly (product_positive (product_positive s_over t_over) (product_positive od_over td_over))) bounded)))
  where
    weakly : {x : ℤ} → pos 0 <ℤ x → pos 0 ≤ℤ x
    weakly h = omega (arith, ints)

-- two whole numbers above 0 are at least 1
pub over_one : {n : ℤ} → pos 1 ≤ℤ n → pos 0 <ℤ n
over_one h = omega (arith, ints)

pub inside : (g : GameView) (lp : LpView) (corners : List Corner) (side : SideRow) (total : ℤ) (x : ℕ → ℤ) → IsGame g → IsProgram lp → AreFractions (points_of corners)
    → IsCertified g lp corners side → IsSolution lp total x
    → NoFurther (scale_of One g) (scale_of Two g) side.dir (point_paid g lp total x) (corner_at (points_of corners) side.corner)
inside g lp corners side total x game program fractions certified solution =
    subst (λ (q : PlanePoint). NoFurther (scale_of One g) (scale_of Two g) side.dir (point_paid g lp total x) q) (sym (corner_is (points_of corners) side.corner point there))
    (no_further side.dir.a side.dir.b side.den total (paid lp One x) (paid lp Two x) (slice_index_or side.first 0 (pos 0)) (slice_index_or side.second 0 (pos 0))
    (scale_of One g) (scale_of Two g) point.one.num point.one.den point.two.num point.two.den certified.multipliers.positive
    (over_one (game.each_scale One).0) (over_one (game.each_scale Two).0) lowest.0.positive lowest.1.positive certified.point.first certified.point.second
    (bounded_along lp program total x solution side.dir.a side.dir.b side.den side.first side.second certified.multipliers))
  where
    point : Point
    point = certified.corner.point

    there : slice_get (points_of corners) side.corner ≡ Some point
    there = slice_get-map (λ (corner : Corner). corner.point) corners side.corner ∙ ap (λ c. option_map (λ (corner : Corner). corner.point) c) certified.at

    lowest : IsLowest point.one × IsLowest point.two
    lowest = fractions side.corner point there

pub shown_at : (g : GameView) (lp : LpView) (corners : List Corner) (sides : List SideRow) (k : ℕ) (side : SideRow) → All (IsShownSide g lp corners) sides
    → slice_get sides k ≡ Some side → IsCertified g lp corners side
shown_at g lp corners sides k side all at =
    let shown = all k side (slice_get_within sides k side at) in
    subst (λ s. IsCertified g lp corners s) (get_or_from_slice_get sides k side side at) shown.certified

-- The points of corners and sides in the file's units.
use Rattle.std.proofs.Common.{◌≡◌, ◌⊎◌, inl, inr, ℕ, ◌+◌, ◌<◌, ◌≤◌, List, [], ◌∷◌, ◌++◌, length, All, Some, slice_get, slice_index_or, take, ℤ, pos, ◌*ℤ◌, ◌<ℤ◌, sym, subst, ◌∙◌, ap, arith}
use Rattle.std.proofs.lemmas.Bool.{cases_lt}
use Rattle.std.proofs.lemmas.List.{get_or-take}
use Rattle.std.proofs.lemmas.Option.{get_or_from_slice_get, slice_get_within}
use Rattle.sequences.proofs.Adding.{pushed, still}
use Rattle.exact_algebra.proofs.Order.{cancel_positive}
use Rattle.exact_algebra.proofs.RingTactic.{ring_laws, linear}
use Rattle.corr_game.specs.declared.sides.Side.{Side}
use Rattle.corr_game.specs.declared.sides.Side.TheVariants.{One, Two}
use Rattle.corr_game.specs.Game.{GameView, scale_of}
use Rattle.corr_num.specs.Narrow.{Narrow}
use Rattle.lp_form.specs.Program.{IsProgram, LpView}
use Rattle.lp_form.specs.Solutions.{paid}
use Rattle.plane_hull.specs.declared.sides.SideRow.{SideRow}
use Rattle.polygon_sweep.specs.declared.corners.SweptCorner.{SweptCorner}
use Rattle.polygon_sweep.specs.Swept.{IsCornerOf, IsSideAmong, number_in}
use Rattle.report_form.specs.declared.reports.Corner.{Corner}
use Rattle.report_form.specs.Certified.{IsPointIn}
use Rattle.notion_solve.specs.Shown.{ArePointsOf, IsShownSide}

-- p over q is one over den times the scale, and first over made is one over den: so p over q is first over made times the scale
same_point : (p q one den scale first made : ℤ) → pos 0 <ℤ den → p *ℤ (den *ℤ scale) ≡ one *ℤ q → first *ℤ den ≡ one *ℤ made → p *ℤ (made *ℤ scale) ≡ first *ℤ q
same_point p q one den scale first made positive corner side =
    cancel_positive den positive
    (apart den p made scale
    ∙ (ap (λ e. made *ℤ e) corner ∙ (turned made one q ∙ (ap (λ e. q *ℤ e) (sym side) ∙ together q first den))))
  where
    apart : (d p m s : ℤ) → d *ℤ (p *ℤ (m *ℤ s)) ≡ m *ℤ (p *ℤ (d *ℤ s))
    apart d p m s = simp ring_laws (omega (arith, linear))

    turned : (m o q : ℤ) → m *ℤ (o *ℤ q) ≡ q *ℤ (o *ℤ m)
    turned m o q = simp ring_laws (omega (arith, linear))

    together : (q f d : ℤ) → q *ℤ (f *ℤ d) ≡ d *ℤ (f *ℤ q)
    together q f d = simp ring_laws (omega (arith, linear))

pub corner_among : (lp : LpView) (swept : List SweptCorner) (k : ℕ) (found : SweptCorner) → All (IsCornerOf lp) swept → slice_get swept k ≡ Some found → IsCornerOf lp found
corner_among lp swept k found all at =
    subst (λ c. IsCornerOf lp c) (get_or_from_slice_get swept k found found at) (all k found (slice_get_within swept k found at))

pub certified_side : (g : GameView) (lp : LpView) (swept : List SweptCorner) (corners : List Corner) (side : SideRow) → IsProgram lp → All (IsCornerOf lp) swept → ArePointsOf g swept corners
    → IsSideAmong lp swept side → IsShownSide g lp corners side
certified_side g lp swept corners side program all points h =
    let (corner, at, point) = points side.corner h.corner h.at in
    let own = h.point program in
    let positive = (corner_among lp swept side.corner h.corner all h.at).positive in
    record {
      certified = record {
        multipliers = h.certified.certified;
        corner = corner;
        at = at;
        point = record {
          first = same_point _ _ h.corner.one h.corner.den (scale_of One g) (number_in side.first 0) side.den positive point.first own.one;
          second = same_point _ _ h.corner.two h.corner.den (scale_of Two g) (number_in side.second 0) side.den positive point.second own.two;
        };
      };
      narrow = h.certified.narrow;
    }

pub certified_sides : (g : GameView) (lp : LpView) (swept : List SweptCorner) (corners : List Corner) (sides : List SideRow) → IsProgram lp → All (IsCornerOf lp) swept → ArePointsOf g swept corners
    → All (IsSideAmong lp swept) sides → All (IsShownSide g lp corners) sides
certified_sides g lp swept corners sides program all points among k d inside = certified_side g lp swept corners _ program all points (among k d inside)

-- what a swept corner's values pay is narrow
pub paid_narrow : (lp : LpView) (corner : SweptCorner) → IsCornerOf lp corner → (side : Side) → Narrow (paid lp side (number_in corner.values))
paid_narrow lp corner at One = subst (λ (z : ℤ). Narrow z) at.pays_one at.one
paid_narrow lp corner at Two = subst (λ (z : ℤ). Narrow z) at.pays_two at.two

-- the corners that belong to the first n swept ones
abbrev pub ArePointsBelow : GameView → List SweptCorner → ℕ → List Corner → Type 0
ArePointsBelow g swept n corners = (k : ℕ) (found : SweptCorner) → k < n → slice_get swept k ≡ Some found
    → (corner : Corner) × (slice_get corners k ≡ Some corner) × IsPointIn g corner.point found.one found.two found.den

pub points_more : (g : GameView) (swept : List SweptCorner) (n : ℕ) (corners : List Corner) (made : Corner) (from : SweptCorner) → length corners ≡ n → ArePointsBelow g swept n corners
    → slice_get swept n ≡ Some from → IsPointIn g made.point from.one from.two from.den → ArePointsBelow g swept (n + 1) (corners ++ made ∷ [])
points_more g swept n corners made from count before at point k found low here = by (cases_lt k n)
  where
    by : (k < n) ⊎ (n ≤ k) → (corner : Corner) × (slice_get (corners ++ made ∷ []) k ≡ Some corner) × IsPointIn g corner.point found.one found.two found.den
    by (inl within) = let (corner, there, is) = before k found within here in (corner, still corners (made ∷ []) k corner there, is)
    by (inr behind) =
        let last : k ≡ n = omega arith in
        let both : Some found ≡ Some from = sym here ∙ (ap (λ (j : ℕ). slice_get swept j) last ∙ at) in
        let same : found ≡ from = cc in
        (made, pushed corners made k (last ∙ sym count), subst (λ (f : SweptCorner). IsPointIn g made.point f.one f.two f.den) (sym same) point)

-- the numbers that were cut off a corner's values
pub cut_value : (xs values : List ℤ) (n k : ℕ) → values ≡ take n xs → k < n → slice_index_or values k (pos 0) ≡ number_in xs k
cut_value xs values n k cut low = rw cut (get_or-take n xs k (pos 0) low)

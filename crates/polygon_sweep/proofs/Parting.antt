-- Corners of which a tableau reaches one and not the other are two points.
use Rattle.std.proofs.Common.{◌≡◌, ℕ, zero, suc, ◌+◌, ◌<◌, List, ℤ, pos, ◌<ℤ◌, Some, slice_get, All, subst, sym, arith}
use Rattle.std.proofs.lemmas.Int.{ints}
use Rattle.std.proofs.lemmas.Option.{get_or_from_slice_get, slice_get_within}
use Rattle.exact_algebra.proofs.Fractions.{fraction_trans_same}
use Rattle.int_tableau.specs.Content.{Content}
use Rattle.lp_form.specs.Program.{LpView}
use Rattle.polygon_sweep.specs.declared.corners.SweptCorner.{SweptCorner}
use Rattle.polygon_sweep.specs.Round.{AreApart, IsOnePoint}
use Rattle.polygon_sweep.specs.Swept.{IsCornerOf, IsGrown, Reaches}

pub corner_of : (lp : LpView) (corners : List SweptCorner) (number : ℕ) (corner : SweptCorner) → All (IsCornerOf lp) corners
    → slice_get corners number ≡ Some corner → IsCornerOf lp corner
corner_of lp corners number corner all at =
    subst (λ c. IsCornerOf lp c) (get_or_from_slice_get corners number corner corner at)
    (all number corner (slice_get_within corners number corner at))

over_nothing : (d : ℤ) → pos 0 <ℤ d → d ≡ pos 0 → ⊥
over_nothing d over none = omega (arith, ints)

-- a tableau that reaches a corner reaches each other one that is the same point
pub same_reached : (t : Content) (rows right : ℕ) (a b : SweptCorner) → pos 0 <ℤ b.den → IsOnePoint a b
    → Reaches t rows right b → Reaches t rows right a
same_reached t rows right a b over same there = record {
  one = fraction_trans_same (t.entry rows right) t.denom b.one b.den a.one a.den (over_nothing b.den over) there.one (sym same.one);
  two = fraction_trans_same (t.entry (rows + 1) right) t.denom b.two b.den a.two a.den (over_nothing b.den over) there.two (sym same.two);
}

-- the corner with the first number isn't reached, that with the second one is
pub apart : (t : Content) (rows right : ℕ) (corners : List SweptCorner) (j k : ℕ) (a b : SweptCorner) → slice_get corners j ≡ Some a
    → slice_get corners k ≡ Some b → pos 0 <ℤ b.den → (Reaches t rows right a → ⊥) → Reaches t rows right b → AreApart corners j k
apart t rows right corners j k a b a_at b_at over not_there there =
    (a, b, a_at, b_at, λ same. not_there (same_reached t rows right a b over same there))

pub one_point_turned : (a b : SweptCorner) → IsOnePoint a b → IsOnePoint b a
one_point_turned a b same = record { one = sym same.one; two = sym same.two }

pub apart_turned : (corners : List SweptCorner) (j k : ℕ) → AreApart corners j k → AreApart corners k j
apart_turned corners j k two = (two.1, two.0, two.3, two.2, λ same. two.4 (one_point_turned _ _ same))

pub apart_grown : (corners more : List SweptCorner) → IsGrown corners more → (j k : ℕ) → AreApart corners j k → AreApart more j k
apart_grown corners more g j k two = (two.0, two.1, g j two.0 two.2, g k two.1 two.3, two.4)

-- where the first corner is reached and the present one isn't, another one is present
pub elsewhere : (t : Content) (rows right : ℕ) (corners : List SweptCorner) (present : ℕ) (a b : SweptCorner)
    → slice_get corners present ≡ Some a → slice_get corners 0 ≡ Some b
    → (Reaches t rows right a → ⊥) → Reaches t rows right b → 0 < present
elsewhere t rows right corners zero a b a_at b_at not_there there =
    let same : b ≡ a = cc (a_at, b_at) in absurd (not_there (subst (λ c. Reaches t rows right c) same there))
elsewhere t rows right corners (suc k) a b a_at b_at not_there there = omega arith

-- A turn without an axis between leads to a greater angle, unless it is the full turn.
use Rattle.std.proofs.Common.{◌≡◌, ◌⊎◌, inl, inr, ℤ, pos, ◌<ℤ◌, ◌≤ℤ◌, unsigned_abs, length, refl, sym, ◌∙◌, Less, arith}
use Rattle.std.specs.Int.{IsGcd}
use Rattle.std.proofs.lemmas.Int.{ints}
use Rattle.exact_algebra.proofs.Order.{product_not_positive, at_most_or_above}
use Rattle.lp_form.specs.Program.{LpView}
use Rattle.int_tableau.specs.Content.{Content}
use Rattle.bland_simplex.specs.Improving.{IsOptimal}
use Rattle.bland_simplex.specs.Reachable.{MayReach, turning, turns}
use Rattle.bland_simplex.specs.Ready.{IsReady}
use Rattle.polygon_sweep.specs.Swept.{IsCoprime}
use Rattle.plane_hull.proofs.AngleOrder.{IsBefore, IsLower, IsUpper, half_cases, less, lower, other_half, same_half, upper}
use Rattle.plane_hull.specs.Angle.{angle_cmp, half_of}
use Rattle.plane_hull.specs.declared.directions.Dir.{Dir}
use Rattle.polygon_sweep.proofs.Ranks.{one_of_gcd}
use Rattle.polygon_sweep.specs.Turning.{IsFullTurn, TurnsFrom, TurnsTo}

-- from the lower half plane a turn leads to the upper one by the first axis alone
not_up : (a b c d : ℤ) → TurnsFrom a b c d → IsLower a b → IsUpper c d → (pos 0 <ℤ c → d ≡ pos 0 → ⊥) → (b ≡ pos 0) ⊎ (b <ℤ pos 0) → ⊥
not_up a b c d turned from to short (inl level) =
    let left = rw level at turned.left in
    let product = product_not_positive to.0 (from.1 level) in
    omega (arith, ints)
not_up a b c d turned from to short (inr below) =
    let there = turned.no_axis (pos 1) (pos 0) (inl (refl, refl)) (omega (arith, ints)) in
    let high = to.0 in
    let level : d ≡ pos 0 = omega (arith, ints) in
    short (to.1 level) level

level_or_below : (b : ℤ) → b ≤ℤ pos 0 → (b ≡ pos 0) ⊎ (b <ℤ pos 0)
level_or_below b low = by (at_most_or_above (pos 0) b)
  where
    by : (pos 0 ≤ℤ b) ⊎ (b <ℤ pos 0) → (b ≡ pos 0) ⊎ (b <ℤ pos 0)
    by (inl high) = inl (omega (arith, ints))
    by (inr below) = inr below

pub turns_greater : (dir next : Dir) → TurnsTo dir next → IsGcd (unsigned_abs next.a) (unsigned_abs next.b) 1 → (IsFullTurn next → ⊥)
    → angle_cmp dir next ≡ Less
turns_greater dir next turned coprime short = less dir next (by (half_cases dir) (half_cases next))
  where
    by : (half_of dir ≡ 0) ⊎ (half_of dir ≡ 1) → (half_of next ≡ 0) ⊎ (half_of next ≡ 1) → IsBefore dir next
    by (inl first) (inl second) = same_half (first ∙ sym second) turned.left
    by (inl first) (inr second) = other_half first second
    by (inr first) (inr second) = same_half (first ∙ sym second) turned.left
    by (inr first) (inl second) =
        let from = lower dir first in
        absurd (not_up dir.a dir.b next.a next.b turned from (upper next second)
        (λ over level. short (one_of_gcd next.a over (rw level at coprime), level)) (level_or_below dir.b from.0))

-- At an optimal tableau the heading may turn on there.
pub turned_on : (lp : LpView) (dir next : Dir) (t : Content) → IsReady lp t → IsOptimal t (length lp.rows) lp.cols dir
    → TurnsTo dir next → IsCoprime next → (IsFullTurn next → ⊥) → MayReach lp (turning dir) t → MayReach lp (turning next) t
turned_on lp dir next t ready optimal turned coprime short may =
    turns (turning dir) (turning next) dir t may refl ready optimal (turns_greater dir next turned coprime short)

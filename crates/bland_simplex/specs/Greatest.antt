-- What solutions pay in a direction, and the tableaus at which it is greatest (Dantzig 1963).
use Rattle.std.specs.Prelude.{◌≡◌, ℕ, ◌+◌, ℤ, pos, ◌+ℤ◌, ◌-ℤ◌, ◌*ℤ◌, ◌≤ℤ◌, ◌<ℤ◌, length}
use Rattle.corr_game.specs.declared.sides.Side.TheVariants.{One, Two}
use Rattle.lp_form.specs.Program.{LpView}
use Rattle.lp_form.specs.Solutions.{IsSolution, paid}
use Rattle.plane_hull.specs.declared.directions.Dir.{Dir}
use Rattle.int_tableau.specs.Content.{Content}
use Rattle.bland_simplex.specs.Improving.{reduced, reduced_left}

-- what numbers pay along a direction, and along its left turn
abbrev pub paid_along : LpView → Dir → (ℕ → ℤ) → ℤ
paid_along lp dir x = dir.a *ℤ paid lp One x +ℤ dir.b *ℤ paid lp Two x

abbrev pub paid_left : LpView → Dir → (ℕ → ℤ) → ℤ
paid_left lp dir x = dir.a *ℤ paid lp Two x -ℤ dir.b *ℤ paid lp One x

-- the tableau's own solution, over its denominator, pays along the direction and its left turn what the right sides say; no solution
-- pays more along the direction, and of those that pay as much none pays more along its left turn
pub record IsGreatest (lp : LpView) (t : Content) (dir : Dir) : Type 0 where
  pub own : ℕ → ℤ
  pub solution : IsSolution lp t.denom own
  pub own_along : paid_along lp dir own ≡ reduced t (length lp.rows) dir (lp.cols + length lp.rows)
  pub own_left : paid_left lp dir own ≡ reduced_left t (length lp.rows) dir (lp.cols + length lp.rows)
  pub along : (total : ℤ) (x : ℕ → ℤ) → pos 0 <ℤ total → IsSolution lp total x →
      (t.denom *ℤ paid_along lp dir x) ≤ℤ (total *ℤ paid_along lp dir own)
  pub left : (total : ℤ) (x : ℕ → ℤ) → pos 0 <ℤ total → IsSolution lp total x →
      t.denom *ℤ paid_along lp dir x ≡ total *ℤ paid_along lp dir own → (t.denom *ℤ paid_left lp dir x) ≤ℤ (total *ℤ paid_left lp dir own)

-- Programs and multipliers whose products stay within 62 bits, so that a plain program multiplies them without a limit in sight.
use Rattle.std.specs.Prelude.{ℕ, ◌^◌, ◌<◌, ◌≤◌, List, ℤ, pos, ◌+ℤ◌, ◌*ℤ◌, length, slice_index_or, unsigned_abs}
use Rattle.corr_game.specs.declared.sides.Side.{Side}
use Rattle.corr_game.specs.declared.sides.Side.TheVariants.{One, Two}
use Rattle.lp_form.specs.Certificates.{left_over}
use Rattle.lp_form.specs.Program.{LpView, coefficient, payoff_of}
use Rattle.plane_hull.specs.declared.directions.Dir.{Dir}

-- at most 256 rows, with coefficients and payoffs up to 2^30
pub record IsModerate (lp : LpView) : Type 0 where
  pub few : length lp.rows ≤ 256
  pub coefficients : (row col : ℕ) → row < length lp.rows → col < lp.cols → unsigned_abs (coefficient lp row col) ≤ 2 ^ 30
  pub payoffs : (side : Side) (col : ℕ) → col < lp.cols → unsigned_abs (payoff_of side lp col) ≤ 2 ^ 30

-- each multiplier is up to 2^20
abbrev pub AreModerate : List ℤ → Type 0
AreModerate multipliers = (k : ℕ) → k < length multipliers → unsigned_abs (slice_index_or multipliers k (pos 0)) ≤ 2 ^ 20

-- what multipliers over a denominator leave of a column for both players, weighed with a direction
unfoldable pub left_along : LpView → Dir → ℤ → List ℤ → List ℤ → ℕ → ℤ
left_along lp dir den first second col = dir.a *ℤ left_over lp One den first col +ℤ dir.b *ℤ left_over lp Two den second col

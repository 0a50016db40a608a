-- What numbers of a program's rows show, checked column by column (Farkas 1902; the duality of linear programs, Dantzig 1963).
use Rattle.std.specs.Prelude.{◌≡◌, ℕ, ◌<◌, List, length, ℤ, pos, ◌+ℤ◌, ◌-ℤ◌, ◌*ℤ◌, ◌≤ℤ◌, ◌<ℤ◌, slice_index_or}
use Rattle.exact_algebra.specs.Sums.{sum_to}
use Rattle.corr_game.specs.declared.sides.Side.{Side}
use Rattle.corr_game.specs.declared.sides.Side.TheVariants.{One, Two}
use Rattle.lp_form.specs.Program.{LpView, coefficient, payoff_of}

-- the multipliers times a column of the program
abbrev pub times_column : LpView → List ℤ → ℕ → ℤ
times_column lp multipliers col = sum_to (length lp.rows) (λ row. slice_index_or multipliers row (pos 0) *ℤ coefficient lp row col)

-- multipliers that show that a program whose right sides are 1 in the first row and 0 in the others has no solution: what they make
-- of each column is 0 or less, and the first row's multiplier is above 0
pub record ShowEmpty (lp : LpView) (multipliers : List ℤ) : Type 0 where
  pub one_each : length multipliers ≡ length lp.rows
  pub above : pos 0 <ℤ slice_index_or multipliers 0 (pos 0)
  pub not_above : (col : ℕ) → col < lp.cols → times_column lp multipliers col ≤ℤ pos 0

-- what multipliers over a denominator leave of a column when a player's payoff there is taken away
abbrev pub left_over : LpView → Side → ℤ → List ℤ → ℕ → ℤ
left_over lp side den multipliers col = times_column lp multipliers col -ℤ den *ℤ payoff_of side lp col

-- multipliers for each player's payoffs, over one denominator, certify a direction (a, b): what they leave of each column, weighed
-- with the direction, is 0 or more
pub record Certify (lp : LpView) (a b den : ℤ) (first second : List ℤ) : Type 0 where
  pub positive : pos 0 <ℤ den
  pub first_each : length first ≡ length lp.rows
  pub second_each : length second ≡ length lp.rows
  pub not_below : (col : ℕ) → col < lp.cols → pos 0 ≤ℤ (a *ℤ left_over lp One den first col +ℤ b *ℤ left_over lp Two den second col)

-- how far along the direction (a, b) the multipliers' first numbers reach, times their denominator
abbrev pub reach : ℤ → ℤ → List ℤ → List ℤ → ℤ
reach a b first second = a *ℤ slice_index_or first 0 (pos 0) +ℤ b *ℤ slice_index_or second 0 (pos 0)

-- Programs with small numbers: thousands of them add up to less than 64 bits hold.
use Rattle.std.specs.Prelude.{◌≡◌, ◌⊎◌, ℕ, ◌^◌, ◌<◌, pos, unsigned_abs}
use Rattle.corr_game.specs.declared.sides.Side.{Side}
use Rattle.lp_form.specs.Program.{LpView, coefficient, right_of, payoff_of}

-- each coefficient and payoff coefficient is below 2^51 in magnitude, and each right side is 0 or 1
pub record IsSmall (lp : LpView) : Type 0 where
  pub coefficients : (row col : ℕ) → unsigned_abs (coefficient lp row col) < 2 ^ 51
  pub payoffs : (side : Side) (col : ℕ) → unsigned_abs (payoff_of side lp col) < 2 ^ 51
  pub rights : (row : ℕ) → (right_of lp row ≡ pos 0) ⊎ (right_of lp row ≡ pos 1)

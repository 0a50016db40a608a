-- Solutions of a linear program over a common denominator, and what they pay (Dantzig 1963).
use Rattle.std.specs.Prelude.{◌≡◌, ℕ, ◌<◌, length, ℤ, pos, ◌*ℤ◌, ◌≤ℤ◌, ◌<ℤ◌, neg_ℤ}
use Rattle.exact_algebra.specs.Sums.{sum_to}
use Rattle.corr_game.specs.declared.sides.Side.{Side}
use Rattle.lp_form.specs.Program.{LpView, coefficient, right_of, payoff_of}

-- each column has a number of 0 or more, and each row's product with them is `total` times its right side
pub record IsSolution (lp : LpView) (total : ℤ) (x : ℕ → ℤ) : Type 0 where
  pub not_negative : (col : ℕ) → col < lp.cols → pos 0 ≤ℤ x col
  pub meets : (row : ℕ) → row < length lp.rows → sum_to lp.cols (λ col. coefficient lp row col *ℤ x col) ≡ total *ℤ right_of lp row

-- the program has a solution, over some total above 0
abbrev pub HasSolution : LpView → Type 0
HasSolution lp = (total : ℤ) × (x : ℕ → ℤ) × (pos 0 <ℤ total) × IsSolution lp total x

-- what a player gets from such numbers, times their total
abbrev pub paid : LpView → Side → (ℕ → ℤ) → ℤ
paid lp side x = sum_to lp.cols (λ col. payoff_of side lp col *ℤ x col)

-- each solution of a program solves this base too
abbrev pub SolvesToo : LpView → LpView → Type 0
SolvesToo lp base = (total : ℤ) (x : ℕ → ℤ) → IsSolution lp total x → IsSolution base total x

-- a program pays what this base does
abbrev pub PaysAlike : LpView → LpView → Type 0
PaysAlike lp base = (side : Side) (x : ℕ → ℤ) → paid lp side x ≡ paid base side x

-- no solution pays a player more than `bound`, or less than its opposite
pub record IsBoundedBy (lp : LpView) (bound : ℤ) : Type 0 where
  pub at_most : (side : Side) (total : ℤ) (x : ℕ → ℤ) → pos 0 <ℤ total → IsSolution lp total x → paid lp side x ≤ℤ (bound *ℤ total)
  pub at_least : (side : Side) (total : ℤ) (x : ℕ → ℤ) → pos 0 <ℤ total → IsSolution lp total x → neg_ℤ (bound *ℤ total) ≤ℤ paid lp side x

-- what the solutions pay is bounded
abbrev pub HasBoundedPayoffs : LpView → Type 0
HasBoundedPayoffs lp = (bound : ℤ) × IsBoundedBy lp bound

-- What numbers of a program's columns pay, as points of the plane of payoffs (von Stengel and Forges 2008).
use Rattle.std.specs.Prelude.{ℤ, ◌*ℤ◌, ℕ}
use Rattle.corr_game.specs.declared.sides.Side.TheVariants.{One, Two}
use Rattle.corr_game.specs.Game.{GameView, scale_of}
use Rattle.lp_form.specs.Program.{LpView}
use Rattle.lp_form.specs.Solutions.{paid}
use Rattle.plane_hull.specs.Inside.{PlanePoint}

-- what numbers with a total pay both players on average, in the file's units
abbrev pub point_paid : GameView → LpView → ℤ → (ℕ → ℤ) → PlanePoint
point_paid g lp total x = record {
  x = paid lp One x *ℤ scale_of Two g;
  y = paid lp Two x *ℤ scale_of One g;
  den = total *ℤ (scale_of One g *ℤ scale_of Two g);
}

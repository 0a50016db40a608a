-- Reached points: the expected payoffs of equilibrium lists (von Stengel and Forges 2008), and mixtures of points.
use Rattle.std.specs.Prelude.{◌≡◌, ℕ, List, ℤ, pos, ◌+ℤ◌, ◌*ℤ◌, ◌<ℤ◌}
use Rattle.corr_game.specs.declared.notions.Notion.{Notion}
use Rattle.corr_game.specs.declared.sides.Side.{Side}
use Rattle.corr_game.specs.declared.sides.Side.TheVariants.{One, Two}
use Rattle.corr_game.specs.Game.{GameView, scale_of}
use Rattle.equilibrium.specs.Deviation.{following}
use Rattle.equilibrium.specs.Distribution.{Entry, total}
use Rattle.equilibrium.specs.Equilibrium.{IsEquilibriumList, Slack}

-- a point of the plane: x/den and y/den
pub record Point : Type 0 where
  pub x : ℤ
  pub y : ℤ
  pub den : ℤ

-- a player's coordinate of a point
abbrev pub coordinate : Side → Point → ℤ
coordinate One point = point.x
coordinate Two point = point.y

-- a player's coordinate is what following a list pays the player on average, in the file's units
abbrev pub IsMeanOf : Side → GameView → List Entry → Point → Type 0
IsMeanOf side g list point = coordinate side point *ℤ (scale_of side g *ℤ total list) ≡ point.den *ℤ following side g list

-- some equilibrium list pays a point
pub record IsReached (notion : Notion) (g : GameView) (slack : Slack) (point : Point) : Type 0 where
  pub positive : pos 0 <ℤ point.den
  pub list : List Entry
  pub equilibrium : IsEquilibriumList notion g slack list
  pub mean : (side : Side) → IsMeanOf side g list point

-- the mean of two points at these weights
abbrev pub mixture : ℕ → Point → ℕ → Point → Point
mixture a p b q = record {
  x = pos a *ℤ p.x *ℤ q.den +ℤ pos b *ℤ q.x *ℤ p.den;
  y = pos a *ℤ p.y *ℤ q.den +ℤ pos b *ℤ q.y *ℤ p.den;
  den = (pos a +ℤ pos b) *ℤ (p.den *ℤ q.den);
}

-- What scaling a game answers: the game with whole amounts, or why there is none within the limits of this project.
use Rattle.std.specs.Prelude.{ℕ, List, ℤ}
use Rattle.corr_game.specs.declared.sides.Side.{Side}
use Rattle.corr_game.specs.Game.{GameView, scale_of}
use Rattle.efg_reader.specs.RawGame.{RawGameView}
use Rattle.game_scale.specs.declared.refusal.ScaleRefusal.{ScaleRefusal}
use Rattle.game_scale.specs.declared.refusal.ScaleRefusal.TheVariants.{PathTooFine, ScaleTooLarge, AmountTooLarge, NoMemory}
use Rattle.game_scale.specs.Amounts.{AreScaledNodes}
use Rattle.game_scale.specs.Paths.{PathView, ArePaths}
use Rattle.game_scale.specs.Refusal.{IsPathTooFine, IsScaleRefusal, IsAmountTooLarge}
use Rattle.game_scale.specs.Scales.{AreScales}
use Rattle.game_scale.specs.Tree.{HasTreeOf}

-- the tree and the sets are those of the file, each scale is the least, and each leaf has what its path pays, weighed and scaled
pub record IsScaled (raw : RawGameView) (g : GameView) : Type 0 where
  pub paths : List PathView
  pub reached : ArePaths raw paths
  pub tree : HasTreeOf raw g
  pub scales : AreScales raw.nodes paths (λ side. scale_of side g)
  pub nodes : AreScaledNodes (λ side. scale_of side g) raw.nodes paths g.nodes

-- all paths are within the limits, and a player has no scale within 2^24, player 1 before player 2
pub record HasNoScale (raw : RawGameView) (refusal : ScaleRefusal) : Type 0 where
  pub paths : List PathView
  pub reached : ArePaths raw paths
  pub refused : IsScaleRefusal raw.nodes paths refusal

-- all paths and scales are within the limits, and node n is the first leaf where an amount isn't
pub record HasNoAmount (raw : RawGameView) (n : ℕ) : Type 0 where
  pub paths : List PathView
  pub reached : ArePaths raw paths
  pub scale : Side → ℤ
  pub scales : AreScales raw.nodes paths scale
  pub refused : IsAmountTooLarge scale raw.nodes paths n

-- why a game can't be scaled, the first reason of three; memory may run out
abbrev pub IsRefused : RawGameView → ScaleRefusal → Type 0
IsRefused raw (PathTooFine node) = IsPathTooFine raw node
IsRefused raw (ScaleTooLarge side) = HasNoScale raw (ScaleTooLarge side)
IsRefused raw (AmountTooLarge node) = HasNoAmount raw node
IsRefused raw NoMemory = Unit {0}

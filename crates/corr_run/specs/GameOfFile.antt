-- The game that some bytes say, step by step as a file is accepted: each record has the one before.
use Rattle.std.specs.Prelude.{◌≡◌, ℕ, List, None}
use Rattle.connected_pairs.specs.Connected.{IsPairs, IsPairsOf, PairsView}
use Rattle.corr_game.specs.declared.sides.Side.{Side}
use Rattle.corr_game.specs.Game.{GameView, IsGame}
use Rattle.efg_lines.specs.File.{FileView}
use Rattle.efg_lines.specs.FileTokens.{IsFileOf}
use Rattle.efg_reader.specs.FileGame.{IsGameOf}
use Rattle.efg_reader.specs.FirstRefusal.{file_refusal}
use Rattle.efg_reader.specs.RawGame.{RawGameView}
use Rattle.game_scale.specs.Scaled.{IsScaled}
use Rattle.tree_recall.specs.OwnSequence.{HasRecall}
use Rattle.triangle_test.specs.Triangle.{HasNoTriangle}

-- the bytes are a file whose lines break no rule, and this is the game that they say
pub record SayGame (bytes : List ℕ) (raw : RawGameView) : Type 0 where
  pub file : FileView
  pub read : IsFileOf bytes file
  pub no_refusal : file_refusal file ≡ None
  pub said : IsGameOf file raw

-- so they do, and this is that game with whole amounts within the limits
pub record SayScaled (bytes : List ℕ) (g : GameView) : Type 0 where
  pub raw : RawGameView
  pub say : SayGame bytes raw
  pub scaled : IsScaled raw g

-- so they do, no player forgets, and these are the relevant pairs of the game's sequences
pub record SayRecalled (bytes : List ℕ) (g : GameView) (p : PairsView) : Type 0 where
  pub say : SayScaled bytes g
  pub rules : IsGame g
  pub recall : (side : Side) → HasRecall g side
  pub pairs : IsPairsOf g p
  pub rules_of_pairs : IsPairs p

-- so they do, and there is no triangle: a game that can be solved
pub record IsGameOfBytes (bytes : List ℕ) (g : GameView) (p : PairsView) : Type 0 where
  pub say : SayRecalled bytes g p
  pub no_triangle : HasNoTriangle p

-- What a player gets who plays another plan than that of an entry.
use Rattle.std.specs.Prelude.{ℕ, List, Option, ℤ}
use Rattle.corr_game.specs.declared.sides.Side.{Side}
use Rattle.corr_game.specs.declared.sides.Side.TheVariants.{One, Two}
use Rattle.corr_game.specs.Game.{GameView}
use Rattle.corr_game.specs.Walk.{walk}
use Rattle.equilibrium.specs.Distribution.{Entry}

-- what a player gets who plays this plan where the other one follows an entry
abbrev pub paid_with : Side → GameView → List (Option ℕ) → Entry → ℤ
paid_with One g plan entry = walk One g plan entry.two 0
paid_with Two g plan entry = walk Two g entry.one plan 0

-- How many correlation rows there are (von Stengel and Forges 2008): those at both players' sets.
use Rattle.std.specs.Prelude.{◌≡◌, ℕ, ◌+◌}
use Rattle.corr_game.specs.declared.sides.Side.TheVariants.{One, Two}
use Rattle.corr_game.specs.Game.{GameView}
use Rattle.connected_pairs.specs.Connected.{PairsView}
use Rattle.incentive_rows.specs.Size.{HasCorrelationRows}

-- a length has grown by a number that is counted in this way
abbrev pub IsLonger : (ℕ → Type 0) → ℕ → ℕ → Type 0
IsLonger Counted before after = (n : ℕ) × Counted n × (after ≡ before + n)

-- the correlation rows at the first player's sets and those at the second's
abbrev pub HasBothCounts : GameView → PairsView → ℕ → Type 0
HasBothCounts g p count = (one : ℕ) × (two : ℕ) × HasCorrelationRows g p One one × HasCorrelationRows g p Two two × (count ≡ one + two)

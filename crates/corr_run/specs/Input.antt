-- What a run takes from its source.
use Rattle.std.specs.Prelude.{◌≡◌, ℕ, ◌≤◌, List, length, Option, ◌++◌}
use Rattle.std.specs.Io.KnownBytes.{Consumes}

-- some bytes were taken, and no more than this many
pub record TakesAtMost (most : ℕ) (old new : Option (List ℕ)) : Type 0 where
  pub taken : List ℕ
  pub within : length taken ≤ most
  pub consumed : Consumes old new taken

-- the bytes that were taken stand behind those that were there
pub record Moves (most : ℕ) (left_old left_new : Option (List ℕ)) (old new : List ℕ) : Type 0 where
  pub taken : List ℕ
  pub within : length taken ≤ most
  pub consumed : Consumes left_old left_new taken
  pub added : new ≡ old ++ taken

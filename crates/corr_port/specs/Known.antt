-- What a call adds to bytes that may be known, in words that std lacks.
use Rattle.std.specs.Prelude.{◌≡◌, ℕ, List, ◌++◌, Option}
use Rattle.std.specs.Io.KnownBytes.{Appends}

-- the known bytes have a front of this piece behind them, which may be none or all of it
pub record AppendsFront (old new : Option (List ℕ)) (piece : List ℕ) : Type 0 where
  pub front : List ℕ
  pub missing : List ℕ
  pub whole : piece ≡ front ++ missing
  pub added : Appends old new front

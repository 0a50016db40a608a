-- Text that is written behind what stands already.
use Rattle.std.specs.Prelude.{◌≡◌, ℕ, List, ◌++◌}

-- the new text is the old one with this piece behind it
pub record Adds (old new piece : List ℕ) : Type 0 where
  pub added : new ≡ old ++ piece

-- the new text is the old one with a front of this piece behind it, which may be none or all of it
pub record AddsFront (old new piece : List ℕ) : Type 0 where
  pub front : List ℕ
  pub missing : List ℕ
  pub whole : piece ≡ front ++ missing
  pub added : new ≡ old ++ front

-- A place in some bytes, up to which they are cut into tokens.
use Rattle.std.specs.Prelude.{ℕ, List, drop}

-- some bytes, and how many of them are behind the reader
pub record Cursor : Type 0 where
  pub bytes : List ℕ
  pub at : ℕ

-- the bytes that are not yet cut
abbrev pub left : Cursor → List ℕ
left cursor = drop cursor.at cursor.bytes

-- Some bytes and a place among them.
use Rattle.std.specs.Prelude.{ℕ, List}

pub record Cursor : Type 0 where
  pub bytes : List ℕ
  pub at : ℕ

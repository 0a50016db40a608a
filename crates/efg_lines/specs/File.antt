-- A file by its tokens.
use Rattle.std.specs.Prelude.{ℕ, List}
use Rattle.efg_lines.specs.declared.node_line.NodeLine.{NodeLine}

-- how many players it names, and its node lines in order
pub record FileView : Type 0 where
  pub players : ℕ
  pub lines : List NodeLine

-- The numbers of a line that says who moves.
use Rattle.std.specs.Prelude.{◌≡◌, ◌<◌, ◌^◌, List, length, Option, None, IfSome}
use Rattle.efg_reader.specs.declared.entry.Turn.{Turn}
use Rattle.efg_reader.specs.declared.entry.Turn.TheVariants as turn
use Rattle.efg_lines.specs.declared.node_line.ActLine.{ActLine}
use Rattle.efg_lines.specs.declared.node_line.LineKind.{LineKind}
use Rattle.efg_lines.specs.declared.node_line.LineKind.TheVariants as kind

-- the actions that a line lists
abbrev pub acts_in : LineKind → Option (List ActLine)
acts_in (kind.Chance set acts) = acts
acts_in (kind.Player player set acts) = acts
acts_in kind.Leaf = None

-- a chance line has a probability for each action that it lists, the number of a player's set is within its limit, and a
-- leaf's line lists no actions
abbrev pub IsTurnOf : LineKind → Turn → Type 0
IsTurnOf line (turn.Chance set probs) = IfSome (acts_in line) (λ acts. length probs.items ≡ length acts)
IsTurnOf line (turn.Player player set) = set < 2 ^ 31
IsTurnOf line turn.Leaf = acts_in line ≡ None

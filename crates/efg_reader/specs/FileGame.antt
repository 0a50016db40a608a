-- The game that the lines of a file say.
use Rattle.std.specs.Prelude.{◌≡◌, ℕ, ◌+◌, nat_eq, ◌==◌, if◌then◌else◌, Option, Some, None, unwrap_or, Ok}
use Rattle.std.specs.Prelude.{List, [], ◌∷◌, length, map, take, drop, slice_index_or}
use Rattle.std.specs.List.{position_or_len}
use Rattle.std.specs.Map.{keys_of}
use Rattle.corr_game.specs.declared.nodes.SetInfo.{SetInfo}
use Rattle.corr_game.specs.declared.sides.Side.{Side}
use Rattle.corr_game.specs.declared.sides.Side.TheVariants.{One, Two}
use Rattle.corr_num.specs.Fraction.{Fraction}
use Rattle.number_words.specs.Number.{NumberView, fraction_of}
use Rattle.efg_lines.specs.File.{FileView}
use Rattle.efg_reader.specs.declared.raw_game.RawNode.{RawNode}
use Rattle.efg_reader.specs.declared.raw_game.Shape.{Shape}
use Rattle.efg_reader.specs.declared.raw_game.Shape.TheVariants as shape
use Rattle.efg_reader.specs.Entry.{Mover, draws, moves, nobody}
use Rattle.efg_reader.specs.FirstRefusal.{file_lines}
use Rattle.efg_reader.specs.RawGame.{RawGameView}
use Rattle.efg_reader.specs.Told.{Told, Listed, player, sets, first_list, first_payoffs, nothing}
use Rattle.efg_reader.specs.TreeSoFar.{kid_count}

-- the side of a player's number
abbrev pub side_of : ℕ → Side
side_of who = if who == 1 then One else Two

-- where a set stands among its player's sets
abbrev pub set_place : List Told → ℕ → ℕ → ℕ
set_place lines who set = position_or_len (nat_eq set) (keys_of (sets (player who) lines))

-- the probabilities of a set's first list
abbrev pub first_probs : Option Listed → List Fraction
first_probs None = []
first_probs (Some list) = map fraction_of list.probs

-- what happens at a line's node: nothing more, a draw, or a choice at a set
abbrev pub shape_at : List Told → Mover → List ℕ → Shape
shape_at lines nobody kids = shape.Leaf
shape_at lines (draws set probs) kids = shape.Chance kids (first_probs (first_list lines (draws set probs)))
shape_at lines (moves who set) kids = shape.Choice (side_of who) (record { 0 = set_place lines who set }) kids

-- the payoffs of a line's outcome
abbrev pub payoffs_at : List Told → Told → List NumberView
payoffs_at lines told = unwrap_or (first_payoffs lines told.numbers.outcome) []

-- a node with what happens there and the payoffs of its outcome
abbrev pub node_of : Shape → List NumberView → RawNode
node_of happening pays = record {
  shape = happening;
  one = fraction_of (slice_index_or pays 0 nothing);
  two = fraction_of (slice_index_or pays 1 nothing);
}

-- the node of a line with its kids
abbrev pub node_at : List Told → Told → List ℕ → RawNode
node_at lines told kids = node_of (shape_at lines told.numbers.mover kids) (payoffs_at lines told)

-- From the last line to the first: the nodes with their kids, and where the subtrees begin that stand in a row. A node's
-- kids are the first of the subtrees behind it. The first line of the list has the number `at`.
unfoldable pub nodes_from : List Told → ℕ → List Told → List RawNode × List ℕ
nodes_from lines at [] = ([], [])
nodes_from lines at (told ∷ rest) =
    let behind = nodes_from lines (at + 1) rest in
    let count = kid_count lines told in
    (node_at lines told (take count behind.1) ∷ behind.0, at ∷ drop count behind.1)

-- a set by its number in the file, and how many actions its first list has
abbrev pub set_info : ℕ × Listed → SetInfo
set_info entry = record { file = entry.0; actions = length entry.1.names }

-- the game that lines say
abbrev pub game_of : List Told → RawGameView
game_of lines = record {
  nodes = (nodes_from lines 0 lines).0;
  one = map set_info (sets (player 1) lines);
  two = map set_info (sets (player 2) lines);
}

-- the game is what the lines of the file say, which break no rule
pub record IsGameOf (file : FileView) (game : RawGameView) : Type 0 where
  pub lines : List Told
  pub are_lines : file_lines file ≡ Ok lines
  pub game_is : game ≡ game_of lines

-- The tree of the lines so far, which stand in preorder.
use Rattle.std.specs.Prelude.{ℕ, Bool, not, ◌&&◌, ◌==◌, List, [], ◌∷◌, length, map, Option, Some, None}
use Rattle.efg_reader.specs.Above.{above_next}
use Rattle.efg_reader.specs.Told.{Told, Listed, first_list}

-- how many actions a list has; a leaf has no list
abbrev pub action_count : Option Listed → ℕ
action_count None = 0
action_count (Some list) = length list.names

-- how many kids a line's node has: as many as its set's first list has actions
abbrev pub kid_count : List Told → Told → ℕ
kid_count lines told = action_count (first_list lines told.numbers.mover)

-- the nodes above the place behind nodes with so many kids each, nearest first, where `above` are above the first node
abbrev pub above_behind : List ℕ → List ℕ → List ℕ
above_behind above [] = above
above_behind above (kids ∷ rest) = above_behind (above_next above kids) rest

-- the nodes above the next line's node, each by how many kids it waits for
abbrev pub above_lines : List Told → List ℕ
above_lines lines = above_behind [] (map (kid_count lines) lines)

-- the depth of the next line's node
abbrev pub depth : List Told → ℕ
depth lines = length (above_lines lines)

-- every action of every node has its subtree
abbrev pub is_closed : List Told → Bool
is_closed lines = not (length lines == 0) && length (above_lines lines) == 0

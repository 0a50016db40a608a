-- How many subtrees are waited for, and by which nodes.
use Rattle.std.specs.Prelude.{ℕ, Bool, ◌&&◌, ◌==◌, List, length, if◌then◌else◌, reverse, sum}
use Rattle.efg_reader.specs.declared.outline.Outline.{Outline}

-- before the first node the whole tree, and else the kids that the nodes above wait for
abbrev pub places : Outline → ℕ
places outline = if outline.begun then sum outline.awaited.items else 1

-- the nodes above the next one, each by how many kids it waits for, the nearest first
abbrev pub above : Outline → List ℕ
above outline = reverse outline.awaited.items

-- some node has been placed
abbrev pub has_begun : Outline → Bool
has_begun outline = outline.begun

-- some node has been placed, and none waits for a kid
abbrev pub is_whole : Outline → Bool
is_whole outline = outline.begun && length (above outline) == 0

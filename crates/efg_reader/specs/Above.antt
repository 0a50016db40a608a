-- How many nodes are above each node of a tree whose nodes stand in preorder.
use Rattle.std.specs.Prelude.{◌≡◌, ℕ, zero, suc, ◌-◌, ◌≤◌, List, [], ◌∷◌, length}
use Rattle.efg_reader.specs.declared.events.Bare.{Bare}

-- the nodes above a place, each by how many kids it still waits for, the nearest first: those below which all is listed go
abbrev pub without_complete : List ℕ → List ℕ
without_complete [] = []
without_complete (zero ∷ above) = without_complete above
without_complete (suc waits ∷ above) = suc waits ∷ above

-- the nodes above the place behind a node with so many kids
abbrev pub above_next : List ℕ → ℕ → List ℕ
above_next [] kids = without_complete (kids ∷ [])
above_next (waits ∷ above) kids = without_complete (kids ∷ (waits - 1) ∷ above)

-- at most 256 nodes are above each of these nodes, where `above` are above the first; `last` are above the next
abbrev pub AreShallow : List ℕ → List Bare → List ℕ → Type 0
AreShallow above [] last = above ≡ last
AreShallow above (bare ∷ rest) last = (length above ≤ 256) × AreShallow (above_next above bare.kids) rest last

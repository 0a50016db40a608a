-- How many subtrees the nodes of a tree still wait for.
use Rattle.std.specs.Prelude.{ℕ, ◌+◌, ◌-◌, ◌==◌, if◌then◌else◌, List, [], ◌∷◌, Option, Some, None}
use Rattle.efg_reader.specs.declared.events.Bare.{Bare}

-- Behind these nodes in preorder, where `places` subtrees were waited for before them; none where a node stands that
-- nothing waits for.
abbrev pub awaited : ℕ → List Bare → Option ℕ
awaited places [] = Some places
awaited places (bare ∷ rest) = if places == 0 then None else awaited (places - 1 + bare.kids) rest

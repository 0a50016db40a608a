-- What the program keeps of the lines so far.
use Rattle.std.specs.Prelude.{◌≡◌, ℕ, ◌==◌, not, List, [], ◌∷◌, ◌++◌, length, map, All, Option, Some, Ok}
use Rattle.efg_lines.specs.declared.node_line.NodeLine.{NodeLine}
use Rattle.efg_lines.specs.declared.node_line.LineKind.{LineKind}
use Rattle.efg_reader.specs.declared.builder.Builder.{Builder}
use Rattle.efg_reader.specs.declared.events.Bare.{Bare}
use Rattle.number_words.specs.Number.{NumberView}
use Rattle.efg_reader.specs.declared.first_lists.FirstList.{FirstList}
use Rattle.efg_reader.specs.declared.raw_game.Shape.{Shape}
use Rattle.efg_reader.specs.Assembly.{assembled, node_with}
use Rattle.efg_reader.specs.Entry.{Mover, draws, moves, nobody}
use Rattle.efg_reader.specs.FileGame.{node_at}
use Rattle.efg_reader.specs.FirstRefusal.{next_line}
use Rattle.efg_reader.specs.Lists.{entry_in, list_among, outcome_in, shape_among, with_given}
use Rattle.efg_reader.specs.Outline.{has_begun}
use Rattle.efg_reader.specs.RawGame.{RawGameView}
use Rattle.efg_reader.specs.Sets.{info_of}
use Rattle.efg_reader.specs.Told.{Told, Listed, Owner, chance, player, set_list, sets, first_list, first_payoffs, outcomes}
use Rattle.efg_reader.specs.TreeSoFar.{kid_count}

-- a node has as many kids as the first list of its set has actions, and a leaf none
abbrev pub IsNamed : Mover → Option Listed → ℕ → Type 0
IsNamed nobody list kids = kids ≡ 0
IsNamed (draws set probs) list kids = (first : Listed) × (list ≡ Some first) × (kids ≡ length first.names)
IsNamed (moves who set) list kids = (first : Listed) × (list ≡ Some first) × (kids ≡ length first.names)

-- the lines give the set of a line's node a list, and its outcome payoffs
abbrev pub IsKnown : List Told → Told → Type 0
IsKnown lines told =
    IsNamed told.numbers.mover (first_list lines told.numbers.mover) (kid_count lines told)
    × ((pays : List NumberView) × (first_payoffs lines told.numbers.outcome ≡ Some pays))

-- the list that the program keeps for the set that a line names
abbrev pub kept_list : Builder → Mover → Option Listed
kept_list builder mover = list_among builder.chance.entries builder.one.entries builder.two.entries mover

-- what happens at a node by what the program keeps
abbrev pub kept_shape : Builder → Mover → List ℕ → Shape
kept_shape builder mover kids = shape_among builder.chance.entries builder.one.entries builder.two.entries mover kids

-- the sets of an owner among these lists are those so far and the one that a line gives a list
abbrev pub AreWith : Owner → LineKind → Mover → List (ℕ × FirstList) → List (ℕ × FirstList) → Type 0
AreWith owner line mover old new = map entry_in new ≡ with_given (set_list owner line mover) (map entry_in old)

-- the sets, the outcomes and the nodes are those of these lines
pub record HasTaken (builder : Builder) (lines : List Told) : Type 0 where
  pub sets_of_chance : map entry_in builder.chance.entries ≡ sets chance lines
  pub sets_of_one : map entry_in builder.one.entries ≡ sets (player 1) lines
  pub sets_of_two : map entry_in builder.two.entries ≡ sets (player 2) lines
  pub outcomes_are : map outcome_in builder.outcomes.entries ≡ outcomes lines
  pub nodes_are : map node_with builder.nodes.items ≡ map (node_at lines) lines
  pub kids : map (λ (bare : Bare). bare.kids) builder.nodes.items ≡ map (kid_count lines) lines
  pub known : All (IsKnown lines) lines
  pub begun : has_begun builder.outline ≡ not (length lines == 0)

-- a line more breaks no rule, and is taken
pub record IsNext (lines : List Told) (line : NodeLine) (builder : Builder) : Type 0 where
  pub told : Told
  pub is : next_line lines line ≡ Ok told
  pub taken : HasTaken builder (lines ++ told ∷ [])

-- the game of the nodes and sets that the program keeps
abbrev pub built_game : Builder → RawGameView
built_game builder = record {
  nodes = (assembled 0 builder.nodes.items).0;
  one = map info_of builder.one.entries;
  two = map info_of builder.two.entries;
}

-- The numbers of a line: the values of its words.
use Rattle.std.specs.Prelude.{ℕ, false, List, [], ◌∷◌, Option, Some, None, option_map, option_and_then}
use Rattle.number_words.specs.Number.{NumberView}
use Rattle.number_words.specs.Value.{number_value, whole_value}
use Rattle.efg_reader.specs.declared.entry.Entry.{Entry}
use Rattle.efg_reader.specs.declared.entry.Turn.{Turn}
use Rattle.efg_reader.specs.declared.entry.Turn.TheVariants as turn
use Rattle.efg_lines.specs.declared.node_line.ActLine.{ActLine}
use Rattle.efg_lines.specs.declared.node_line.LineKind.{LineKind}
use Rattle.efg_lines.specs.declared.node_line.LineKind.TheVariants as kind
use Rattle.efg_lines.specs.declared.node_line.NodeLine.{NodeLine}

-- who moves and at which set, and in a chance line the probabilities that it lists
pub data Mover : Type 0 where
  draws : ℕ → List NumberView → Mover
  moves : ℕ → ℕ → Mover
  nobody : Mover

-- the numbers of a line; a list that it doesn't have is empty
pub record Numbers : Type 0 where
  pub mover : Mover
  pub outcome : ℕ
  pub pays : List NumberView

-- the values of a list, in its order; none where one of them passes its limit
abbrev pub values : {A : Type 0} → (A → Option NumberView) → List A → Option (List NumberView)
values value [] = Some []
values value (x ∷ xs) = option_and_then (λ n. option_map (λ ns. n ∷ ns) (values value xs)) (value x)

-- the value of a word, 0 where there is none
abbrev pub value_or_zero : Option (List ℕ) → Option NumberView
value_or_zero None = Some (record { negative = false; num = 0; den = 1 })
value_or_zero (Some word) = number_value word

-- the probability of an action
abbrev pub probability : ActLine → Option NumberView
probability act = value_or_zero act.prob

-- the probabilities that a line lists
abbrev pub probabilities : Option (List ActLine) → Option (List NumberView)
probabilities None = Some []
probabilities (Some acts) = values probability acts

-- the payoffs that a line lists
abbrev pub payoffs : Option (List (List ℕ)) → Option (List NumberView)
payoffs None = Some []
payoffs (Some words) = values number_value words

-- the numbers of who moves; none where one of them passes its limit
abbrev pub mover : LineKind → Option Mover
mover (kind.Chance set acts) = option_and_then (λ number. option_map (λ probs. draws number probs) (probabilities acts)) (whole_value set)
mover (kind.Player player set acts) =
    option_and_then (λ who. option_map (λ number. moves who number) (whole_value set)) (whole_value player)
mover kind.Leaf = Some nobody

-- the numbers of a line; none where one of them passes its limit
abbrev pub numbers : NodeLine → Option Numbers
numbers line =
    option_and_then
    (λ who. option_and_then
    (λ number. option_map (λ amounts. record { mover = who; outcome = number; pays = amounts }) (payoffs line.pays))
    (whole_value line.outcome))
    (mover line.kind)

-- the same of the program's values
abbrev pub mover_of : Turn → Mover
mover_of (turn.Chance set probs) = draws set probs.items
mover_of (turn.Player player set) = moves player set
mover_of turn.Leaf = nobody

abbrev pub numbers_of : Entry → Numbers
numbers_of entry = record { mover = mover_of entry.turn; outcome = entry.outcome; pays = entry.pays.items }

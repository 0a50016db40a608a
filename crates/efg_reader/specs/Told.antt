-- Lines whose numbers are all within their limits, and what they say of sets and outcomes: a set keeps the first list
-- that a line gives for it, and an outcome the first payoffs.
use Rattle.std.specs.Prelude.{ℕ, ◌==◌, nat_eq, not, false, if◌then◌else◌, List, [], ◌∷◌, map, filter, filter_map}
use Rattle.std.specs.Prelude.{Option, Some, None, option_map, option_and_then}
use Rattle.std.specs.Map.{lookup}
use Rattle.number_words.specs.Number.{NumberView}
use Rattle.efg_reader.specs.Entry.{Mover, draws, moves, nobody, Numbers}
use Rattle.efg_reader.specs.Turn.{acts_in}
use Rattle.efg_lines.specs.declared.node_line.ActLine.{ActLine}
use Rattle.efg_lines.specs.declared.node_line.LineKind.{LineKind}
use Rattle.efg_lines.specs.declared.node_line.NodeLine.{NodeLine}

-- a line with the values of its words
pub record Told : Type 0 where
  pub line : NodeLine
  pub numbers : Numbers

-- whose set it is; each owner's sets have numbers of their own
pub data Owner : Type 0 where
  chance : Owner
  player : ℕ → Owner

-- the set of this owner that a line names
abbrev pub set_named : Owner → Mover → Option ℕ
set_named chance (draws set probs) = Some set
set_named chance (moves who set) = None
set_named chance nobody = None
set_named (player own) (draws set probs) = None
set_named (player own) (moves who set) = if own == who then Some set else None
set_named (player own) nobody = None

-- a list of actions: their names, and in a chance line their probabilities
pub record Listed : Type 0 where
  pub names : List (List ℕ)
  pub probs : List NumberView

-- the probabilities that a line lists
abbrev pub probs_in : Mover → List NumberView
probs_in (draws set probs) = probs
probs_in (moves who set) = []
probs_in nobody = []

-- actions with their probabilities
abbrev pub list_of : List ActLine → List NumberView → Listed
list_of acts probs = record { names = map (λ (act : ActLine). act.name) acts; probs = probs }

-- the list that a line gives, if it gives one
abbrev pub listed : LineKind → Mover → Option Listed
listed line mover = option_map (λ (acts : List ActLine). list_of acts (probs_in mover)) (acts_in line)

-- the list that a line gives for a set of this owner, with the set's number
abbrev pub set_list : Owner → LineKind → Mover → Option (ℕ × Listed)
set_list owner line mover =
    option_and_then (λ (set : ℕ). option_map (λ (list : Listed). (set, list)) (listed line mover)) (set_named owner mover)

-- the payoffs that a line gives, if it gives them
abbrev pub paid : Told → Option (List NumberView)
paid told = option_map (λ (words : List (List ℕ)). told.numbers.pays) told.line.pays

-- the payoffs that a line gives for its outcome, with the outcome's number
abbrev pub outcome_paid : Told → Option (ℕ × List NumberView)
outcome_paid told = option_map (λ (pays : List NumberView). (told.numbers.outcome, pays)) (paid told)

-- each number once, with the first of what is given for it, in the order of what is given
unfoldable pub firsts : {A : Type 0} → List (ℕ × A) → List (ℕ × A)
firsts [] = []
firsts {A} (given ∷ later) = given ∷ filter (λ (other : ℕ × A). not (given.0 == other.0)) (firsts later)

-- the sets of an owner, each with its first list, in the order of their first lists
abbrev pub sets : Owner → List Told → List (ℕ × Listed)
sets owner lines = firsts (filter_map (λ (told : Told). set_list owner told.line.kind told.numbers.mover) lines)

-- the first list of the set that a line names, if these lines give one
abbrev pub first_list : List Told → Mover → Option Listed
first_list lines (draws set probs) = lookup (nat_eq set) (sets chance lines)
first_list lines (moves who set) = lookup (nat_eq set) (sets (player who) lines)
first_list lines nobody = None

-- the number 0
abbrev pub nothing : NumberView
nothing = record { negative = false; num = 0; den = 1 }

-- the outcomes with their first payoffs; outcome 0 pays nothing from the start
abbrev pub outcomes : List Told → List (ℕ × List NumberView)
outcomes lines = firsts ((0, nothing ∷ nothing ∷ []) ∷ filter_map outcome_paid lines)

-- the payoffs of an outcome, if these lines give them
abbrev pub first_payoffs : List Told → ℕ → Option (List NumberView)
first_payoffs lines outcome = lookup (nat_eq outcome) (outcomes lines)

-- The maps of the program as lists of what is given for each number.
use Rattle.std.specs.Prelude.{◌≡◌, ℕ, List, [], ◌∷◌, ◌++◌, map, nat_eq, Option, Some, None, option_map, ◌==◌, Bool, if◌then◌else◌}
use Rattle.std.specs.List.{position_or_len}
use Rattle.std.specs.Map.{keys_of, lookup}
use Rattle.number_words.specs.Number.{NumberView}
use Rattle.efg_reader.specs.declared.first_lists.FirstList.{FirstList}
use Rattle.efg_reader.specs.declared.first_lists.OutcomePays.{OutcomePays}
use Rattle.efg_reader.specs.declared.raw_game.Shape.{Shape}
use Rattle.efg_reader.specs.declared.raw_game.Shape.TheVariants as shape
use Rattle.efg_reader.specs.Entry.{Mover, draws, moves, nobody}
use Rattle.efg_reader.specs.FileGame.{first_probs, side_of}
use Rattle.efg_reader.specs.Told.{Listed, list_of, outcomes}

-- behind what is given so far, where that has a value for the number or none
abbrev pub added : {A : Type 0} → Option A → List (ℕ × A) → ℕ → A → List (ℕ × A)
added None known number value = known ++ (number, value) ∷ []
added (Some first) known number value = known

-- behind what is given so far what a line gives, if it gives something: a number keeps its first value
abbrev pub with_given : {A : Type 0} → Option (ℕ × A) → List (ℕ × A) → List (ℕ × A)
with_given None known = known
with_given (Some given) known = added (lookup (nat_eq given.0) known) known given.0 given.1

-- the list of a set
abbrev pub listed_in : FirstList → Listed
listed_in list = list_of list.acts.now list.probs.items

-- a set with its list
abbrev pub entry_in : ℕ × FirstList → ℕ × Listed
entry_in entry = (entry.0, listed_in entry.1)

-- the list that a line gives, with its set's number
abbrev pub list_entry : ℕ → Option FirstList → Option (ℕ × Listed)
list_entry set list = option_map (λ (own : FirstList). (set, listed_in own)) list

-- the two payoffs of an outcome
abbrev pub pays_in : OutcomePays → List NumberView
pays_in pays = pays.one ∷ pays.two ∷ []

-- an outcome with its payoffs
abbrev pub outcome_in : ℕ × OutcomePays → ℕ × List NumberView
outcome_in entry = (entry.0, pays_in entry.1)

-- what is known of outcomes before the first line
abbrev pub AreFirstOutcomes : List (ℕ × OutcomePays) → Type 0
AreFirstOutcomes entries = map outcome_in entries ≡ outcomes []

-- the payoffs of a line, where it lists them
abbrev pub pays_if : Bool → List NumberView → Option (List NumberView)
pays_if is_listed pays = if is_listed then Some pays else None

-- the same with the outcome's number
abbrev pub outcome_entry : ℕ → Bool → List NumberView → Option (ℕ × List NumberView)
outcome_entry outcome is_listed pays = option_map (λ (given : List NumberView). (outcome, given)) (pays_if is_listed pays)

-- the first list of the set that a line names, by the lists of chance and of both players
abbrev pub list_among : List (ℕ × FirstList) → List (ℕ × FirstList) → List (ℕ × FirstList) → Mover → Option Listed
list_among chance one two (draws set probs) = option_map listed_in (lookup (nat_eq set) chance)
list_among chance one two (moves who set) = option_map listed_in (lookup (nat_eq set) (if who == 1 then one else two))
list_among chance one two nobody = None

-- what happens at a node, by the same lists
abbrev pub shape_among : List (ℕ × FirstList) → List (ℕ × FirstList) → List (ℕ × FirstList) → Mover → List ℕ → Shape
shape_among chance one two nobody kids = shape.Leaf
shape_among chance one two (draws set probs) kids = shape.Chance kids (first_probs (option_map listed_in (lookup (nat_eq set) chance)))
shape_among chance one two (moves who set) kids =
    shape.Choice (side_of who) (record { 0 = position_or_len (nat_eq set) (keys_of (if who == 1 then one else two)) }) kids

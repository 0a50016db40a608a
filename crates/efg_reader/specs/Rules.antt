-- The rules at a node, in their order: each gives the refusal of the first that doesn't hold, or none.
use Rattle.std.specs.Prelude.{◌≡◌, ℕ, ◌^◌, Bool, nat_le, nat_lt, nat_eq, ◌==◌, ◌&&◌, ◌||◌, if◌then◌else◌}
use Rattle.std.specs.Prelude.{List, [], ◌∷◌, length, Option, Some, None, Result, Ok, Err}
use Rattle.std.specs.Bool.{beq}
use Rattle.std.specs.Cmp.Lexicographic.{pointwise}
use Rattle.number_words.specs.Number.{NumberView}
use Rattle.number_words.specs.Chances.{has_negative, common_denominator, sum_to_one}
use Rattle.efg_reader.specs.declared.first_lists.FirstList.{FirstList}
use Rattle.efg_lines.specs.declared.node_line.ActLine.{ActLine}
use Rattle.efg_lines.specs.declared.refusal.FileRefusal.{FileRefusal}
use Rattle.efg_lines.specs.declared.refusal.FileRefusal.TheVariants.{ExtraNode, TooManyNodes, TooDeep, PlayerUnknown, NoMemory}
use Rattle.efg_lines.specs.declared.refusal.FileRefusal.TheVariants.{NoActions, TooManyActions, ChanceNegative, ChanceTooFine}
use Rattle.efg_lines.specs.declared.refusal.FileRefusal.TheVariants.{ChanceSum, SetUnknown, SetDiffers}
use Rattle.efg_lines.specs.declared.refusal.FileRefusal.TheVariants.{PayoffCount, OutcomeUnknown, OutcomeDiffers}
use Rattle.efg_reader.specs.Entry.{Mover, draws, moves, nobody}
use Rattle.efg_reader.specs.Told.{Listed}

-- what an answer refuses
abbrev pub refusal_in : {A : Type 0} → Result A FileRefusal → Option FileRefusal
refusal_in (Ok x) = None
refusal_in (Err refusal) = Some refusal

-- the first refusal of several, one behind the other
abbrev pub first_of : List (Option FileRefusal) → Option FileRefusal
first_of [] = None
first_of (None ∷ rest) = first_of rest
first_of (Some refusal ∷ rest) = Some refusal

-- an answer refuses by this rule, or there is none; memory may run out
abbrev pub Refuses : {A : Type 0} → Result A FileRefusal → Option FileRefusal → Type 0
Refuses (Ok x) rule = rule ≡ None
Refuses (Err NoMemory) rule = Unit {0}
Refuses (Err refusal) rule = rule ≡ Some refusal

-- the place in the tree: whether the lines before close it, the node's number, and its depth
abbrev pub place_rules : ℕ → Bool → ℕ → Option FileRefusal
place_rules node closed depth =
    if closed then Some (ExtraNode node)
    else (if nat_le 4096 node then Some (TooManyNodes node)
    else (if nat_lt 256 depth then Some (TooDeep node)
    else None))

-- the number of a player who moves
abbrev pub player_rules : ℕ → Mover → Option FileRefusal
player_rules node (draws set probs) = None
player_rules node (moves who set) = if who == 1 || who == 2 then None else Some (PlayerUnknown node)
player_rules node nobody = None

-- the number of actions, where the line lists them
abbrev pub action_rules : ℕ → Option (List ActLine) → Option FileRefusal
action_rules node None = None
action_rules node (Some acts) =
    if length acts == 0 then Some (NoActions node)
    else (if nat_lt 64 (length acts) then Some (TooManyActions node)
    else None)

-- the probabilities of a list
abbrev pub chance_rules : ℕ → List NumberView → Option FileRefusal
chance_rules node probs =
    if has_negative probs then Some (ChanceNegative node)
    else (if nat_lt (2 ^ 40) (common_denominator probs) then Some (ChanceTooFine node)
    else (if sum_to_one probs then None
    else Some (ChanceSum node)))

-- the same, where the line has a list
abbrev pub list_chance_rules : ℕ → Option FirstList → Option FileRefusal
list_chance_rules node None = None
list_chance_rules node (Some list) = chance_rules node list.probs.items

-- the probabilities of a line, where chance moves and the line lists the actions
abbrev pub draw_rules : ℕ → Mover → Option (List ActLine) → Option FileRefusal
draw_rules node (draws set probs) None = None
draw_rules node (draws set probs) (Some acts) = chance_rules node probs
draw_rules node (moves who set) acts = None
draw_rules node nobody acts = None

-- the same value, both in lowest terms
abbrev pub same_number : NumberView → NumberView → Bool
same_number a b = beq a.negative b.negative && (nat_eq a.num b.num && nat_eq a.den b.den)

-- the same names, byte by byte, and the same probabilities
abbrev pub same_list : Listed → Listed → Bool
same_list a b = pointwise (pointwise nat_eq) a.names b.names && pointwise same_number a.probs b.probs

-- a set that a line names: whether the lines before give a list for it, and the list that the line gives
abbrev pub named_rules : ℕ → Option Listed → Option Listed → Option FileRefusal
named_rules node None None = Some (SetUnknown node)
named_rules node (Some first) None = None
named_rules node None (Some list) = None
named_rules node (Some first) (Some list) = if same_list first list then None else Some (SetDiffers node)

-- the same, where the line names a set
abbrev pub set_rules : ℕ → Mover → Option Listed → Option Listed → Option FileRefusal
set_rules node (draws set probs) first list = named_rules node first list
set_rules node (moves who set) first list = named_rules node first list
set_rules node nobody first list = None

-- payoffs that a line gives beside those that the lines before give
abbrev pub repeat_rules : ℕ → Option (List NumberView) → List NumberView → Option FileRefusal
repeat_rules node None pays = None
repeat_rules node (Some first) pays = if pointwise same_number first pays then None else Some (OutcomeDiffers node)

-- a line's outcome: whether the lines before give payoffs for it, and the payoffs that the line gives
abbrev pub payoff_rules : ℕ → Option (List NumberView) → Option (List NumberView) → Option FileRefusal
payoff_rules node None None = Some (OutcomeUnknown node)
payoff_rules node (Some first) None = None
payoff_rules node first (Some pays) = if length pays == 2 then repeat_rules node first pays else Some (PayoffCount node)

-- The first rule that a file breaks, in the order of the format: the lines from the first to the last, and at each line
-- the rules in their order.
use Rattle.std.specs.Prelude.{◌≡◌, ℕ, ◌==◌, if◌then◌else◌, List, [], ◌∷◌, ◌++◌, length, Option, Some, None, Result, Ok, Err}
use Rattle.efg_lines.specs.File.{FileView}
use Rattle.efg_lines.specs.declared.node_line.LineKind.{LineKind}
use Rattle.efg_lines.specs.declared.node_line.NodeLine.{NodeLine}
use Rattle.efg_lines.specs.declared.refusal.FileRefusal.{FileRefusal}
use Rattle.efg_lines.specs.declared.refusal.FileRefusal.TheVariants.{Players, NumberTooWide, MissingNode, NoMemory}
use Rattle.efg_reader.specs.Entry.{Mover, Numbers, numbers}
use Rattle.efg_reader.specs.Turn.{acts_in}
use Rattle.efg_reader.specs.Told.{Told, Listed, first_list, first_payoffs, listed, paid}
use Rattle.efg_reader.specs.TreeSoFar.{depth, is_closed}
use Rattle.efg_reader.specs.Rules.{first_of, refusal_in, place_rules, player_rules, action_rules, draw_rules, set_rules, payoff_rules}

-- an answer, unless it is refused
abbrev pub unless : {A : Type 0} → Option FileRefusal → Result A FileRefusal → Result A FileRefusal
unless None answer = answer
unless (Some refusal) answer = Err refusal

-- the rules on who moves, on the list and on the set, where `first` is the first list of the set that the line names
abbrev pub turn_rules : ℕ → LineKind → Mover → Option Listed → Option FileRefusal
turn_rules node line mover first =
    first_of (
    player_rules node mover
    ∷ action_rules node (acts_in line)
    ∷ draw_rules node mover (acts_in line)
    ∷ set_rules node mover first (listed line mover)
    ∷ [])

-- the rules behind that on the limits of numbers, at a line behind the lines before
abbrev pub told_refusal : List Told → Told → Option FileRefusal
told_refusal before told =
    let node = length before in
    first_of (
    turn_rules node told.line.kind told.numbers.mover (first_list before told.numbers.mover)
    ∷ payoff_rules node (first_payoffs before told.numbers.outcome) (paid told)
    ∷ [])

-- the numbers of a line, which are none where one passes its limit, and the rules behind that
abbrev pub told_line : List Told → NodeLine → Option Numbers → Result Told FileRefusal
told_line before line None = Err (NumberTooWide (length before))
told_line before line (Some amounts) =
    let told : Told = record { line = line; numbers = amounts } in
    unless (told_refusal before told) (Ok told)

-- a line behind the lines before with its numbers, or the first rule that it breaks
abbrev pub next_line : List Told → NodeLine → Result Told FileRefusal
next_line before line = unless (place_rules (length before) (is_closed before) (depth before)) (told_line before line (numbers line))

-- the lines to the last, unless the tree isn't closed behind them
abbrev pub last_line : List Told → Result (List Told) FileRefusal
last_line lines = if is_closed lines then Ok lines else Err (MissingNode (length lines))

-- what comes behind a line, unless the line is refused
abbrev pub goes_on : {A : Type 0} → Result Told FileRefusal → (Told → Result A FileRefusal) → Result A FileRefusal
goes_on (Ok told) next = next told
goes_on (Err refusal) next = Err refusal

-- the lines of a file with their numbers, behind the lines before, or the first rule that one of them breaks
unfoldable pub lines_behind : List Told → List NodeLine → Result (List Told) FileRefusal
lines_behind before [] = last_line before
lines_behind before (line ∷ rest) = goes_on (next_line before line) (λ (told : Told). lines_behind (before ++ told ∷ []) rest)

-- the lines of a file with their numbers, or the first rule that the file breaks
abbrev pub file_lines : FileView → Result (List Told) FileRefusal
file_lines file = if file.players == 2 then lines_behind [] file.lines else Err (Players file.players)

-- the first rule that a file breaks, or none
abbrev pub file_refusal : FileView → Option FileRefusal
file_refusal file = refusal_in (file_lines file)

-- a refusal is the first rule that the file breaks; memory may run out
abbrev pub IsRefusalOf : FileView → FileRefusal → Type 0
IsRefusalOf file NoMemory = Unit {0}
IsRefusalOf file refusal = file_refusal file ≡ Some refusal

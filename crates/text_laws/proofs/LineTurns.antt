-- Who moves at a line: by cases on the turn.
use Rattle.std.proofs.Common.{◌≡◌, ℕ, ◌<◌, ◌^◌, List, length, Option, Some, None, IfSome, sym, ap, ◌∙◌, subst}
use Rattle.efg_lines.specs.declared.node_line.ActLine.{ActLine}
use Rattle.efg_lines.specs.declared.node_line.LineKind.{LineKind}
use Rattle.efg_reader.specs.declared.entry.Turn.{Turn}
use Rattle.efg_reader.specs.declared.entry.Turn.TheVariants.{Chance, Player, Leaf}
use Rattle.efg_reader.specs.Entry.{draws, mover_of, moves, nobody}
use Rattle.efg_reader.specs.Turn.{IsTurnOf, acts_in}
use Rattle.number_words.specs.Number.{NumberView}

pub same_turns : (a b : LineKind) (it : Turn) → acts_in a ≡ acts_in b → IsTurnOf a it → IsTurnOf b it
same_turns a b (Chance set probs) e h =
    subst (λ (acts : Option (List ActLine)). IfSome acts (λ list. length probs.items ≡ length list)) e h
same_turns a b (Player player set) e h = h
same_turns a b Leaf e h = sym e ∙ h

pub draws_counted : (line : LineKind) (it : Turn) (set : ℕ) (probs : List NumberView) (acts : List ActLine)
    → acts_in line ≡ Some acts → IsTurnOf line it → mover_of it ≡ draws set probs → length probs ≡ length acts
draws_counted line (Chance given list) set probs acts e h is =
    let same : list.items ≡ probs = cc is in
    ap (λ (xs : List NumberView). length xs) (sym same)
    ∙ subst (λ (listed : Option (List ActLine)). IfSome listed (λ lines. length list.items ≡ length lines)) e h
draws_counted line (Player player number) set probs acts e h is = absurd (cc is)
draws_counted line Leaf set probs acts e h is = absurd (cc is)

pub moves_within : (line : LineKind) (it : Turn) (player set : ℕ) → IsTurnOf line it → mover_of it ≡ moves player set → set < 2 ^ 31
moves_within line (Chance given list) player set h is = absurd (cc is)
moves_within line (Player other number) player set h is =
    let same : number ≡ set = cc is in
    subst (λ (n : ℕ). n < 2 ^ 31) same h
moves_within line Leaf player set h is = absurd (cc is)

pub nobody_acts : (line : LineKind) (it : Turn) → IsTurnOf line it → mover_of it ≡ nobody → acts_in line ≡ None
nobody_acts line (Chance given list) h is = absurd (cc is)
nobody_acts line (Player other number) h is = absurd (cc is)
nobody_acts line Leaf h is = h

-- The grammar of files as a machine that reads one token after the other.
use Rattle.std.specs.Prelude.{ℕ, Bool, true, false, nat_eq, if◌then◌else◌, List, [], ◌∷◌, Option, Some, None, codes}
use Rattle.std.specs.Cmp.Lexicographic.{pointwise}
use Rattle.efg_token.specs.Lexeme.{Lexeme, text, brace_left, brace_right, comma, word}
use Rattle.efg_lines.specs.declared.state.Letter.{Letter}
use Rattle.efg_lines.specs.declared.state.Letter.TheVariants as letter
use Rattle.efg_lines.specs.declared.state.Mover.{Mover}
use Rattle.efg_lines.specs.declared.state.Mover.TheVariants as mover
use Rattle.efg_lines.specs.declared.state.State.{State}
use Rattle.efg_lines.specs.declared.state.State.TheVariants.{Format, Version, Numbers, Title, PlayersBrace, Players, Comment, Line, Name, PlayerNumber, Set, SetName, ActionsBrace, Actions, Probability, Outcome, OutcomeName, PayoffsBrace, Payoff, Payoffs}
use Rattle.number_words.specs.Words as words

-- this state, behind this word
abbrev pub behind_word : State → Lexeme → List ℕ → Option State
behind_word next (word bytes) expected = if pointwise nat_eq bytes expected then Some next else None
behind_word next other expected = None

-- behind a text
abbrev pub behind_text : State → Lexeme → Option State
behind_text next (text content) = Some next
behind_text next other = None

-- behind a left brace
abbrev pub behind_brace : State → Lexeme → Option State
behind_brace next brace_left = Some next
behind_brace next other = None

-- behind a whole
abbrev pub behind_whole : State → Lexeme → Option State
behind_whole next (word bytes) = if words.is_whole bytes then Some next else None
behind_whole next other = None

-- behind a number
abbrev pub behind_number : State → Lexeme → Option State
behind_number next (word bytes) = if words.is_number bytes then Some next else None
behind_number next other = None

-- the line that a word begins
abbrev pub behind_line : Lexeme → Option State
behind_line (word bytes) =
    if pointwise nat_eq bytes (codes "c") then Some (Name letter.Chance)
    else (if pointwise nat_eq bytes (codes "p") then Some (Name letter.Player)
    else (if pointwise nat_eq bytes (codes "t") then Some (Name letter.Leaf)
    else None))
behind_line other = None

-- what comes behind the name of a node
abbrev pub behind_name : Letter → State
behind_name letter.Chance = Set mover.Chance
behind_name letter.Player = PlayerNumber
behind_name letter.Leaf = Outcome

-- behind a set, its name apart: an action list or the outcome's number
abbrev pub behind_set : Mover → Lexeme → Option State
behind_set m brace_left = Some (Actions m)
behind_set m (word bytes) = behind_whole OutcomeName (word bytes)
behind_set m other = None

-- what comes behind the name of an action
abbrev pub behind_action : Mover → State
behind_action mover.Chance = Probability
behind_action mover.Player = Actions mover.Player

-- behind an outcome, its name apart: a payoff list or the next line
abbrev pub behind_outcome : Lexeme → Option State
behind_outcome brace_left = Some Payoff
behind_outcome (word bytes) = behind_line (word bytes)
behind_outcome other = None

-- in a list of texts: behind one more text, or behind the brace that ends the list
abbrev pub in_list : State → State → Lexeme → Option State
in_list item end (text content) = Some item
in_list item end brace_right = Some end
in_list item end other = None

-- behind the header: a comment or the first line
abbrev pub behind_comment : Lexeme → Option State
behind_comment (text content) = Some Line
behind_comment (word bytes) = behind_line (word bytes)
behind_comment other = None

-- behind a set: its name, an action list or the outcome's number
abbrev pub behind_set_name : Mover → Lexeme → Option State
behind_set_name m (text content) = Some (ActionsBrace m)
behind_set_name m brace_left = Some (Actions m)
behind_set_name m (word bytes) = behind_set m (word bytes)
behind_set_name m other = None

-- behind an outcome: its name, a payoff list or the next line
abbrev pub behind_outcome_name : Lexeme → Option State
behind_outcome_name (text content) = Some PayoffsBrace
behind_outcome_name brace_left = Some Payoff
behind_outcome_name (word bytes) = behind_line (word bytes)
behind_outcome_name other = None

-- behind a payoff: a comma, another payoff, or the end of the list
abbrev pub behind_payoff : Lexeme → Option State
behind_payoff comma = Some Payoff
behind_payoff brace_right = Some Line
behind_payoff (word bytes) = behind_number Payoffs (word bytes)
behind_payoff other = None

-- the state behind one more token
abbrev pub after : State → Lexeme → Option State
after Format token = behind_word Version token (codes "EFG")
after Version token = behind_word Numbers token (codes "2")
after Numbers token = behind_word Title token (codes "R")
after Title token = behind_text PlayersBrace token
after PlayersBrace token = behind_brace Players token
after Players token = in_list Players Comment token
after Comment token = behind_comment token
after Line token = behind_line token
after (Name l) token = behind_text (behind_name l) token
after PlayerNumber token = behind_whole (Set mover.Player) token
after (Set m) token = behind_whole (SetName m) token
after (SetName m) token = behind_set_name m token
after (ActionsBrace m) token = behind_set m token
after (Actions m) token = in_list (behind_action m) Outcome token
after Probability token = behind_number (Actions mover.Chance) token
after Outcome token = behind_whole OutcomeName token
after OutcomeName token = behind_outcome_name token
after PayoffsBrace token = behind_outcome token
after Payoff token = behind_number Payoffs token
after Payoffs token = behind_payoff token

-- the tokens so far are a file
abbrev pub is_whole : State → Bool
is_whole Comment = true
is_whole Line = true
is_whole OutcomeName = true
is_whole PayoffsBrace = true
is_whole other = false

-- the state to which these tokens lead, or none where one of them doesn't go on
abbrev pub led : Option State → List Lexeme → Option State
led state [] = state
led None (token ∷ tokens) = None
led (Some state) (token ∷ tokens) = led (after state token) tokens

-- the machine may end there
abbrev pub is_end : Option State → Bool
is_end None = false
is_end (Some state) = is_whole state

-- all these tokens lead from the beginning to a state in which a file may end
abbrev pub accepts : List Lexeme → Bool
accepts tokens = is_end (led (Some Format) tokens)

-- What a reader of lines keeps while it goes from token to token.
use Rattle.std.specs.Prelude.{ℕ, ◌+◌, Bool, true, false, if◌then◌else◌, List, [], ◌∷◌, ◌++◌, Option, Some, None, option_map}
use Rattle.efg_token.specs.Lexeme.{Lexeme, text, brace_left, word}
use Rattle.efg_lines.specs.declared.node_line.ActLine.{ActLine}
use Rattle.efg_lines.specs.declared.node_line.LineKind.{LineKind}
use Rattle.efg_lines.specs.declared.node_line.LineKind.TheVariants as kind
use Rattle.efg_lines.specs.declared.node_line.NodeLine.{NodeLine}
use Rattle.efg_lines.specs.declared.state.Letter.{Letter}
use Rattle.efg_lines.specs.declared.state.Letter.TheVariants as letter
use Rattle.efg_lines.specs.declared.state.Mover.{Mover}
use Rattle.efg_lines.specs.declared.state.Mover.TheVariants as mover
use Rattle.efg_lines.specs.declared.state.State.{State}
use Rattle.efg_lines.specs.declared.state.State.TheVariants.{PlayerNumber, Players, Line, Name, Set, SetName, ActionsBrace, Actions, Probability, Outcome, OutcomeName, PayoffsBrace, Payoff, Payoffs}
use Rattle.efg_lines.specs.File.{FileView}

-- the parts of a line that have been read
pub record DraftView : Type 0 where
  pub letter : Letter
  pub player : List ℕ
  pub set : List ℕ
  pub acts : Option (List ActLine)
  pub action : List ℕ
  pub outcome : List ℕ
  pub pays : Option (List (List ℕ))

-- a line of which only the letter has been read
abbrev pub begun : Letter → DraftView
begun l = record { letter = l; player = []; set = []; acts = None; action = []; outcome = []; pays = None }

-- one action more, where a list has begun
abbrev pub with_action : ActLine → DraftView → DraftView
with_action act d = record d { acts = option_map (λ acts. acts ++ act ∷ []) d.acts }

abbrev pub keep_player : Lexeme → DraftView → DraftView
keep_player (word bytes) d = record d { player = bytes }
keep_player other d = d

abbrev pub keep_set : Lexeme → DraftView → DraftView
keep_set (word bytes) d = record d { set = bytes }
keep_set other d = d

-- behind a set's number: the brace before the actions, or the outcome's number
abbrev pub keep_behind_set : Lexeme → DraftView → DraftView
keep_behind_set brace_left d = record d { acts = Some [] }
keep_behind_set (word bytes) d = record d { outcome = bytes }
keep_behind_set other d = d

-- the name of an action, whose probability is still to come in a chance line
abbrev pub keep_name : Mover → List ℕ → DraftView → DraftView
keep_name mover.Chance name d = record d { action = name }
keep_name mover.Player name d = with_action (record { name = name; prob = None }) d

abbrev pub keep_action : Mover → Lexeme → DraftView → DraftView
keep_action m (text name) d = keep_name m name d
keep_action m other d = d

abbrev pub keep_probability : Lexeme → DraftView → DraftView
keep_probability (word bytes) d = with_action (record { name = d.action; prob = Some bytes }) (record d { action = [] })
keep_probability other d = d

abbrev pub keep_outcome : Lexeme → DraftView → DraftView
keep_outcome (word bytes) d = record d { outcome = bytes }
keep_outcome other d = d

abbrev pub keep_brace : Lexeme → DraftView → DraftView
keep_brace brace_left d = record d { pays = Some [] }
keep_brace other d = d

abbrev pub keep_payoff : Lexeme → DraftView → DraftView
keep_payoff (word bytes) d = record d { pays = option_map (λ pays. pays ++ bytes ∷ []) d.pays }
keep_payoff other d = d

-- with what a token says that comes in this state
abbrev pub kept : State → Lexeme → DraftView → DraftView
kept PlayerNumber token d = keep_player token d
kept (Set m) token d = keep_set token d
kept (SetName m) token d = keep_behind_set token d
kept (ActionsBrace m) token d = keep_behind_set token d
kept (Actions m) token d = keep_action m token d
kept Probability token d = keep_probability token d
kept Outcome token d = keep_outcome token d
kept OutcomeName token d = keep_brace token d
kept PayoffsBrace token d = keep_brace token d
kept Payoff token d = keep_payoff token d
kept Payoffs token d = keep_payoff token d
kept other token d = d

-- the kind of a line with these parts
abbrev pub kind_of : Letter → List ℕ → List ℕ → Option (List ActLine) → LineKind
kind_of letter.Chance player set acts = kind.Chance set acts
kind_of letter.Player player set acts = kind.Player player set acts
kind_of letter.Leaf player set acts = kind.Leaf

-- the line, of which all tokens have been read
abbrev pub line_of : DraftView → NodeLine
line_of d = record { kind = kind_of d.letter d.player d.set d.acts; outcome = d.outcome; pays = d.pays }

-- what has been read of a file
pub record Progress : Type 0 where
  pub state : State
  pub players : ℕ
  pub lines : List NodeLine
  pub draft : DraftView

-- nothing has been read
abbrev pub start : State → Progress
start state = record { state = state; players = 0; lines = []; draft = begun letter.Leaf }

-- the token is the name of a player
abbrev pub is_player : State → Lexeme → Bool
is_player Players (text name) = true
is_player other token = false

abbrev pub begins_line : State → Bool
begins_line (Name l) = true
begins_line other = false

abbrev pub is_line : State → Bool
is_line Line = true
is_line other = false

-- behind this token the line that is read has all its tokens
abbrev pub ends_line : State → State → Bool
ends_line OutcomeName next = begins_line next
ends_line PayoffsBrace next = begins_line next
ends_line Payoffs next = is_line next
ends_line other next = false

-- the draft of the line that begins now, if one does
abbrev pub next_draft : State → DraftView → DraftView
next_draft (Name l) d = begun l
next_draft other d = d

-- the token counted where it is the name of a player
abbrev pub counted : Lexeme → Progress → Progress
counted token p = record p { players = if is_player p.state token then p.players + 1 else p.players }

-- the line that is read put behind the others
abbrev pub line_ended : Progress → Progress
line_ended p = record p { lines = p.lines ++ line_of p.draft ∷ []; draft = begun letter.Leaf }

-- the same where it has all its tokens as the next state comes
abbrev pub line_closed : State → Progress → Progress
line_closed next p = record p {
  lines = if ends_line p.state next then p.lines ++ line_of p.draft ∷ [] else p.lines;
  draft = if ends_line p.state next then begun letter.Leaf else p.draft;
}

-- in the next state
abbrev pub gone_to : State → Progress → Progress
gone_to next p = record p { state = next; draft = next_draft next p.draft }

-- behind one more token, which comes in a state and leads to the next one
abbrev pub stepped : State → Lexeme → State → Progress → Progress
stepped state token next p = record {
  state = next;
  players = if is_player state token then p.players + 1 else p.players;
  lines = if ends_line state next then p.lines ++ line_of (kept state token p.draft) ∷ [] else p.lines;
  draft = next_draft next (if ends_line state next then begun letter.Leaf else kept state token p.draft);
}

-- the last line is read to its end by the end of the file
abbrev pub is_last_open : State → Bool
is_last_open OutcomeName = true
is_last_open PayoffsBrace = true
is_last_open other = false

-- the file, of which all tokens have been read
abbrev pub finished : State → Progress → FileView
finished state p = record {
  players = p.players;
  lines = if is_last_open state then p.lines ++ line_of p.draft ∷ [] else p.lines;
}

-- The tokens of a file lead the machine to a state in which a file may end: part by part, from the last line to the first.
use Rattle.std.proofs.Common.{◌≡◌, ℕ, Bool, true, false, cond, List, [], ◌∷◌, ◌++◌, Option, Some, None, refl, ap, ◌∙◌}
use Rattle.efg_token.specs.Lexeme.{Lexeme, text, brace_left, brace_right, comma, word}
use Rattle.efg_lines.specs.declared.state.Mover.{Mover}
use Rattle.efg_lines.specs.declared.state.Mover.TheVariants as mover
use Rattle.efg_lines.specs.declared.state.State.{State}
use Rattle.efg_lines.specs.declared.state.State.TheVariants as state
use Rattle.efg_lines.specs.Grammar.{Whole, Number, Payoff, Payoffs, Outcome, Set, Node, chance, personal, terminal, File, each, or_none, named, draw, payoff, payoffs, outcome, set, node, file}
use Rattle.efg_lines.specs.Machine.{led, is_end, accepts, behind_whole, behind_number}
use Rattle.efg_lines.proofs.FileLeft.{Act, act, acts}

-- these tokens lead from the state to one in which a file may end
abbrev pub Ends : State → List Lexeme → Type 0
Ends s tokens = is_end (led (Some s) tokens) ≡ true

pub nothing_leads : (tokens : List Lexeme) → led None tokens ≡ None
nothing_leads [] = refl
nothing_leads (token ∷ tokens) = refl

pub no_end : (tokens : List Lexeme) → is_end (led None tokens) ≡ true → ⊥
no_end tokens e = absurd (cc (nothing_leads tokens, e))

-- Where a line may begin, the others may, or the end.

behind_name : (tokens : List Lexeme) → Ends state.Line tokens → Ends state.PayoffsBrace tokens
behind_name [] e = refl
behind_name (word b ∷ tokens) e = e
behind_name (text content ∷ tokens) e = absurd (no_end tokens e)
behind_name (brace_left ∷ tokens) e = absurd (no_end tokens e)
behind_name (brace_right ∷ tokens) e = absurd (no_end tokens e)
behind_name (comma ∷ tokens) e = absurd (no_end tokens e)

behind_outcome : (tokens : List Lexeme) → Ends state.Line tokens → Ends state.OutcomeName tokens
behind_outcome [] e = refl
behind_outcome (word b ∷ tokens) e = e
behind_outcome (text content ∷ tokens) e = absurd (no_end tokens e)
behind_outcome (brace_left ∷ tokens) e = absurd (no_end tokens e)
behind_outcome (brace_right ∷ tokens) e = absurd (no_end tokens e)
behind_outcome (comma ∷ tokens) e = absurd (no_end tokens e)

behind_header : (tokens : List Lexeme) → Ends state.Line tokens → Ends state.Comment tokens
behind_header [] e = refl
behind_header (word b ∷ tokens) e = e
behind_header (text content ∷ tokens) e = absurd (no_end tokens e)
behind_header (brace_left ∷ tokens) e = absurd (no_end tokens e)
behind_header (brace_right ∷ tokens) e = absurd (no_end tokens e)
behind_header (comma ∷ tokens) e = absurd (no_end tokens e)

-- a whole leads on, and a number

pub whole_on : (next : State) (w : Whole) → behind_whole next (word w.bytes) ≡ Some next
whole_on next w = rw w.of_digits refl

pub number_on : (next : State) (n : Number) → behind_number next (word n.bytes) ≡ Some next
number_on next n = rw n.well_formed refl

by_whole : (next : State) (w : Whole) (tokens : List Lexeme) → Ends next tokens
    → is_end (led (behind_whole next (word w.bytes)) tokens) ≡ true
by_whole next w tokens e = ap (λ s. is_end (led s tokens)) (whole_on next w) ∙ e

by_number : (next : State) (n : Number) (tokens : List Lexeme) → Ends next tokens
    → is_end (led (behind_number next (word n.bytes)) tokens) ≡ true
by_number next n tokens e = ap (λ s. is_end (led s tokens)) (number_on next n) ∙ e

-- Before lines that end so, the parts of a line do, from the last to the first.
module _ (ts : List Lexeme) (lines : Ends state.Line ts) where
  payoff_end : (has_comma : Bool) (n : Number) (others : List Payoff) → Ends state.Payoffs ((each payoff others ++ brace_right ∷ []) ++ ts)
      → Ends state.Payoffs
      (((cond has_comma (comma ∷ word n.bytes ∷ []) (word n.bytes ∷ []) ++ each payoff others) ++ brace_right ∷ []) ++ ts)
  payoff_end true n others e = by_number state.Payoffs n ((each payoff others ++ brace_right ∷ []) ++ ts) e
  payoff_end false n others e = by_number state.Payoffs n ((each payoff others ++ brace_right ∷ []) ++ ts) e

  payoffs_end : (others : List Payoff) → Ends state.Payoffs ((each payoff others ++ brace_right ∷ []) ++ ts)
  payoffs_end [] = lines
  payoffs_end (p ∷ others) = payoff_end p.has_comma p.amount others (payoffs_end others)

  pays_end : (p : Payoffs) → Ends state.Payoff (((word p.first.bytes ∷ each payoff p.others) ++ brace_right ∷ []) ++ ts)
  pays_end p = by_number state.Payoffs p.first ((each payoff p.others ++ brace_right ∷ []) ++ ts) (payoffs_end p.others)

  name_end : (o : Option Payoffs) → Ends state.PayoffsBrace (or_none payoffs o ++ ts)
  name_end None = behind_name ts lines
  name_end (Some p) = pays_end p

  number_end : (name : Option (List ℕ)) (o : Option Payoffs) → Ends state.OutcomeName ((or_none named name ++ or_none payoffs o) ++ ts)
  number_end None None = behind_outcome ts lines
  number_end None (Some p) = pays_end p
  number_end (Some name) o = name_end o

  outcome_end : (o : Outcome) → Ends state.Outcome (outcome o ++ ts)
  outcome_end o =
      by_whole state.OutcomeName o.number ((or_none named o.name ++ or_none payoffs o.payoffs) ++ ts) (number_end o.name o.payoffs)

  actions_end : (m : Mover) (actions : List (Act m)) (o : Outcome)
      → Ends (state.Actions m) (((each (act m) actions ++ brace_right ∷ []) ++ outcome o) ++ ts)
  actions_end m [] o = outcome_end o
  actions_end mover.Chance (d ∷ actions) o =
      by_number (state.Actions mover.Chance) d.chance (((each draw actions ++ brace_right ∷ []) ++ outcome o) ++ ts)
      (actions_end mover.Chance actions o)
  actions_end mover.Player (name ∷ actions) o = actions_end mover.Player actions o

  set_name_end : (m : Mover) (a : Option (List (Act m))) (o : Outcome) → Ends (state.ActionsBrace m) ((acts m a ++ outcome o) ++ ts)
  set_name_end m None o = outcome_end o
  set_name_end m (Some actions) o = actions_end m actions o

  set_number_end : (m : Mover) (name : Option (List ℕ)) (a : Option (List (Act m))) (o : Outcome)
      → Ends (state.SetName m) (((or_none named name ++ acts m a) ++ outcome o) ++ ts)
  set_number_end m None None o = outcome_end o
  set_number_end m None (Some actions) o = actions_end m actions o
  set_number_end m (Some name) a o = set_name_end m a o

  set_end : (m : Mover) (s : Set (Act m)) (o : Outcome) → Ends (state.Set m) ((set (act m) s ++ outcome o) ++ ts)
  set_end m s o = by_whole (state.SetName m) s.number (((or_none named s.name ++ acts m s.actions) ++ outcome o) ++ ts)
      (set_number_end m s.name s.actions o)

  node_end : (n : Node) → Ends state.Line (node n ++ ts)
  node_end (chance name s o) = set_end mover.Chance s o
  node_end (personal name player s o) =
      by_whole (state.Set mover.Player) player ((set named s ++ outcome o) ++ ts) (set_end mover.Player s o)
  node_end (terminal name o) = outcome_end o

nodes_end : (nodes : List Node) → Ends state.Line (each node nodes)
nodes_end [] = refl
nodes_end (n ∷ nodes) = node_end (each node nodes) (nodes_end nodes) n

players_end : (players : List (List ℕ)) (comment : Option (List ℕ)) (nodes : List Node)
    → Ends state.Players ((each named players ++ brace_right ∷ []) ++ (or_none named comment ++ each node nodes))
players_end [] None nodes = behind_header (each node nodes) (nodes_end nodes)
players_end [] (Some comment) nodes = nodes_end nodes
players_end (name ∷ players) comment nodes = players_end players comment nodes

-- the machine accepts the tokens of a file
pub file_end : (f : File) → accepts (file f) ≡ true
unfolding file
file_end f = players_end f.players f.comment f.nodes

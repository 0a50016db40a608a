-- The tokens of a file are those of one file alone, as far as a file is kept: the machine, which goes one way, keeps of them
-- what is kept of the file. So it does part by part, from the last line to the first.
use Rattle.std.proofs.Common.{◌≡◌, ℕ, ◌+◌, Bool, true, false, List, [], ◌∷◌, ◌++◌, length, map, Option, Some, None, refl, ap, sym, subst, ◌∙◌, arith, append-nil}
use Rattle.std.specs.Prelude.{if◌then◌else◌}
use Rattle.efg_token.specs.Lexeme.{Lexeme, word}
use Rattle.efg_token.specs.Tokens.{AreTokens}
use Rattle.efg_lines.specs.declared.node_line.NodeLine.{NodeLine}
use Rattle.efg_lines.specs.declared.state.Letter.TheVariants as letter
use Rattle.efg_lines.specs.declared.state.Mover.{Mover}
use Rattle.efg_lines.specs.declared.state.Mover.TheVariants as mover
use Rattle.efg_lines.specs.declared.state.State.{State}
use Rattle.efg_lines.specs.declared.state.State.TheVariants as state
use Rattle.efg_lines.specs.Draft.{DraftView, Progress, begun, start, stepped, finished, line_of, keep_payoff, with_action}
use Rattle.efg_lines.specs.File.{FileView}
use Rattle.efg_lines.specs.FileTokens.{IsFileOf, draw_kept, action_kept, node_kept, file_kept}
use Rattle.efg_lines.specs.Grammar.{Number, Payoff, Payoffs, Outcome, Set, Node, chance, personal, terminal, File, each, node, file}
use Rattle.efg_lines.specs.Machine.{after, is_whole}
use Rattle.efg_lines.proofs.FileEnds.{whole_on, number_on}
use Rattle.efg_lines.proofs.FileLeft.{Act, Left, left_tokens, left_file, amounts}
use Rattle.efg_lines.proofs.StepBack.{no_longer, one_longer, line_more, with_lines, with_line, with_acts, with_pays, begun_chance, begun_personal, begun_terminal}

-- what the machine keeps of the tokens to come, where they are the rest of a file

abbrev go_on : Option State → (State → Option FileView) → Option FileView
go_on None next = None
go_on (Some s) next = next s

abbrev run : Progress → List Lexeme → Option FileView
run p [] = if is_whole p.state then Some (finished p.state p) else None
run p (token ∷ tokens) = go_on (after p.state token) (λ next. run (stepped p.state token next p) tokens)

step_on : (p : Progress) (token : Lexeme) (tokens : List Lexeme) (next : State) (kept : FileView) → after p.state token ≡ Some next
    → run (stepped p.state token next p) tokens ≡ Some kept → run p (token ∷ tokens) ≡ Some kept
step_on p token tokens next kept goes more = ap (λ o. go_on o (λ s. run (stepped p.state token s p) tokens)) goes ∙ more

abbrev at : State → ℕ → List NodeLine → DraftView → Progress
at s n ls d = record { state = s; players = n; lines = ls; draft = d }

-- from this state the machine keeps what is kept of what is left of a file
abbrev Keeps : (s : State) → ℕ → List NodeLine → DraftView → Left s → Type 0
Keeps s n ls d l = run (at s n ls d) (left_tokens s l) ≡ Some (left_file s (at s n ls d) l)

-- where a line may begin, the others may, or the end

abbrev KeepsLines : List Node → Type 0
KeepsLines nodes = (n : ℕ) (ls : List NodeLine) (d : DraftView) → Keeps state.Line n ls d nodes

with_last : (n : ℕ) (ls : List NodeLine) (d : DraftView) (nodes : List Node) (s : State)
    → ls ++ line_of d ∷ map node_kept nodes ≡ (ls ++ line_of d ∷ []) ++ map node_kept nodes
with_last n ls d nodes s = line_more (at s n ls d) (line_of d) (map node_kept nodes)

behind_name : (nodes : List Node) → KeepsLines nodes → (n : ℕ) (ls : List NodeLine) (d : DraftView) → Keeps state.PayoffsBrace n ls d (None, nodes)
behind_name [] lines n ls d = refl
behind_name (chance name s o ∷ rest) lines n ls d =
    lines n (ls ++ line_of d ∷ []) d ∙ ap Some (sym (with_lines (at state.Line n ls d) (with_last n ls d (chance name s o ∷ rest) state.Line)))
behind_name (personal name w s o ∷ rest) lines n ls d =
    lines n (ls ++ line_of d ∷ []) d ∙ ap Some (sym (with_lines (at state.Line n ls d) (with_last n ls d (personal name w s o ∷ rest) state.Line)))
behind_name (terminal name o ∷ rest) lines n ls d =
    lines n (ls ++ line_of d ∷ []) d ∙ ap Some (sym (with_lines (at state.Line n ls d) (with_last n ls d (terminal name o ∷ rest) state.Line)))

behind_outcome : (nodes : List Node) → KeepsLines nodes → (n : ℕ) (ls : List NodeLine) (d : DraftView) → Keeps state.OutcomeName n ls d (None, None, nodes)
behind_outcome [] lines n ls d = refl
behind_outcome (chance name s o ∷ rest) lines n ls d =
    lines n (ls ++ line_of d ∷ []) d ∙ ap Some (sym (with_lines (at state.Line n ls d) (with_last n ls d (chance name s o ∷ rest) state.Line)))
behind_outcome (personal name w s o ∷ rest) lines n ls d =
    lines n (ls ++ line_of d ∷ []) d ∙ ap Some (sym (with_lines (at state.Line n ls d) (with_last n ls d (personal name w s o ∷ rest) state.Line)))
behind_outcome (terminal name o ∷ rest) lines n ls d =
    lines n (ls ++ line_of d ∷ []) d ∙ ap Some (sym (with_lines (at state.Line n ls d) (with_last n ls d (terminal name o ∷ rest) state.Line)))

behind_header : (nodes : List Node) (n : ℕ) (ls : List NodeLine) (d : DraftView)
    → run (at state.Comment n ls d) (each node nodes) ≡ run (at state.Line n ls d) (each node nodes)
behind_header [] n ls d = refl
behind_header (chance name s o ∷ rest) n ls d = refl
behind_header (personal name w s o ∷ rest) n ls d = refl
behind_header (terminal name o ∷ rest) n ls d = refl

-- before lines of which that holds, it holds of the parts of a line, from the last to the first
module _ (nodes : List Node) (lines : KeepsLines nodes) (n : ℕ) (ls : List NodeLine) where
  payoff_on : (d : DraftView) (has_comma : Bool) (m : Number) (others : List Payoff)
      → Keeps state.Payoffs n ls (keep_payoff (word m.bytes) d) (others, nodes)
      → Keeps state.Payoffs n ls d (record { has_comma = has_comma; amount = m } ∷ others, nodes)
  payoff_on d true m others more =
      step_on (at state.Payoff n ls d) (word m.bytes) (left_tokens state.Payoffs (others, nodes)) state.Payoffs _ (number_on state.Payoffs m)
      (more ∙ ap Some (sym (with_pays (at state.Payoff n ls d) nodes (one_longer m.bytes (amounts others) d.pays))))
  payoff_on d false m others more =
      step_on (at state.Payoffs n ls d) (word m.bytes) (left_tokens state.Payoffs (others, nodes)) state.Payoffs _ (number_on state.Payoffs m)
      (more ∙ ap Some (sym (with_pays (at state.Payoffs n ls d) nodes (one_longer m.bytes (amounts others) d.pays))))

  payoffs_on : (others : List Payoff) (d : DraftView) → Keeps state.Payoffs n ls d (others, nodes)
  payoffs_on [] d =
      lines n (ls ++ line_of d ∷ []) (begun letter.Leaf)
      ∙ ap Some (sym (with_pays (at state.Payoffs n ls d) nodes (no_longer d.pays) ∙ with_lines (at state.Payoffs n ls d) (with_last n ls d nodes state.Payoffs)))
  payoffs_on (p ∷ others) d = payoff_on d p.has_comma p.amount others (payoffs_on others (keep_payoff (word p.amount.bytes) d))

  pays_on : (d : DraftView) (p : Payoffs) → Keeps state.Payoff n ls d (p, nodes)
  pays_on d p =
      step_on (at state.Payoff n ls d) (word p.first.bytes) (left_tokens state.Payoffs (p.others, nodes)) state.Payoffs _ (number_on state.Payoffs p.first)
      (payoffs_on p.others (keep_payoff (word p.first.bytes) d)
      ∙ ap Some (sym (with_pays (at state.Payoff n ls d) nodes (one_longer p.first.bytes (amounts p.others) d.pays))))

  brace_on : (d : DraftView) (o : Option Payoffs) → Keeps state.PayoffsBrace n ls d (o, nodes)
  brace_on d None = behind_name nodes lines n ls d
  brace_on d (Some p) = pays_on (record d { pays = Some [] }) p

  name_on : (d : DraftView) (name : Option (List ℕ)) (o : Option Payoffs) → Keeps state.OutcomeName n ls d (name, o, nodes)
  name_on d None None = behind_outcome nodes lines n ls d
  name_on d None (Some p) = pays_on (record d { pays = Some [] }) p
  name_on d (Some name) o = brace_on d o

  -- the outcome's number, in a state in which it may come
  number_from : (s : State) (d : DraftView) (o : Outcome) → after s (word o.number.bytes) ≡ Some state.OutcomeName
      → stepped s (word o.number.bytes) state.OutcomeName (at s n ls d) ≡ at state.OutcomeName n ls (record d { outcome = o.number.bytes })
      → run (at s n ls d) (left_tokens state.Outcome (o, nodes)) ≡ Some (left_file state.Outcome (at state.Outcome n ls d) (o, nodes))
  number_from s d o goes same =
      step_on (at s n ls d) (word o.number.bytes) (left_tokens state.OutcomeName (o.name, o.payoffs, nodes)) state.OutcomeName _ goes
      (ap (λ (x : Progress). run x (left_tokens state.OutcomeName (o.name, o.payoffs, nodes))) same ∙ name_on (record d { outcome = o.number.bytes }) o.name o.payoffs)

  outcome_on : (d : DraftView) (o : Outcome) → Keeps state.Outcome n ls d (o, nodes)
  outcome_on d o = number_from state.Outcome d o (whole_on state.OutcomeName o.number) refl

  actions_on : (m : Mover) (actions : List (Act m)) (d : DraftView) (o : Outcome) → Keeps (state.Actions m) n ls d (actions, o, nodes)
  actions_on mover.Chance [] d o = outcome_on d o ∙ ap Some (sym (with_acts (at (state.Actions mover.Chance) n ls d) o nodes (no_longer d.acts)))
  actions_on mover.Player [] d o = outcome_on d o ∙ ap Some (sym (with_acts (at (state.Actions mover.Player) n ls d) o nodes (no_longer d.acts)))
  actions_on mover.Chance (a ∷ actions) d o =
      let named_now : DraftView = record d { action = a.name } in
      step_on (at state.Probability n ls named_now) (word a.chance.bytes) (left_tokens (state.Actions mover.Chance) (actions, o, nodes)) (state.Actions mover.Chance) _
      (number_on (state.Actions mover.Chance) a.chance)
      (actions_on mover.Chance actions (with_action (draw_kept a) (record named_now { action = [] })) o
      ∙ ap Some (sym (with_acts (at state.Probability n ls named_now) o nodes (one_longer (draw_kept a) (map draw_kept actions) d.acts))))
  actions_on mover.Player (name ∷ actions) d o =
      actions_on mover.Player actions (with_action (action_kept name) d) o
      ∙ ap Some (sym (with_acts (at (state.Actions mover.Player) n ls d) o nodes (one_longer (action_kept name) (map action_kept actions) d.acts)))

  set_brace_on : (m : Mover) (d : DraftView) (a : Option (List (Act m))) (o : Outcome) → Keeps (state.ActionsBrace m) n ls d (a, o, nodes)
  set_brace_on m d None o = number_from (state.ActionsBrace m) d o (whole_on state.OutcomeName o.number) refl
  set_brace_on m d (Some actions) o = actions_on m actions (record d { acts = Some [] }) o

  set_name_on : (m : Mover) (d : DraftView) (name : Option (List ℕ)) (a : Option (List (Act m))) (o : Outcome) → Keeps (state.SetName m) n ls d (name, a, o, nodes)
  set_name_on m d None None o = number_from (state.SetName m) d o (whole_on state.OutcomeName o.number) refl
  set_name_on m d None (Some actions) o = actions_on m actions (record d { acts = Some [] }) o
  set_name_on m d (Some name) a o = set_brace_on m d a o

  set_on : (m : Mover) (d : DraftView) (s : Set (Act m)) (o : Outcome) → Keeps (state.Set m) n ls d (s, o, nodes)
  set_on m d s o =
      step_on (at (state.Set m) n ls d) (word s.number.bytes) (left_tokens (state.SetName m) (s.name, s.actions, o, nodes)) (state.SetName m) _
      (whole_on (state.SetName m) s.number) (set_name_on m (record d { set = s.number.bytes }) s.name s.actions o)

  node_on : (d : DraftView) (x : Node) → Keeps state.Line n ls d (x ∷ nodes)
  node_on d (chance name s o) = set_on mover.Chance (begun letter.Chance) s o ∙ ap Some (with_line (at state.Line n ls d) nodes (begun_chance name s o))
  node_on d (personal name w s o) =
      step_on (at state.PlayerNumber n ls (begun letter.Player)) (word w.bytes) (left_tokens (state.Set mover.Player) (s, o, nodes)) (state.Set mover.Player) _
      (whole_on (state.Set mover.Player) w)
      (set_on mover.Player (record (begun letter.Player) { player = w.bytes }) s o ∙ ap Some (with_line (at state.Line n ls d) nodes (begun_personal name w s o)))
  node_on d (terminal name o) = outcome_on (begun letter.Leaf) o ∙ ap Some (with_line (at state.Line n ls d) nodes (begun_terminal name o))

nodes_on : (nodes : List Node) → KeepsLines nodes
nodes_on [] n ls d = ap (λ lines. Some (record { players = n; lines = lines })) (sym (append-nil ls))
nodes_on (x ∷ nodes) n ls d = node_on nodes (nodes_on nodes) n ls d x

with_players : (n m : ℕ) (lines : List NodeLine) → n ≡ m → ◌≡◌ {A = Option FileView} (Some (record { players = n; lines = lines })) (Some (record { players = m; lines = lines }))
with_players n m lines same = ap (λ k. Some (record { players = k; lines = lines })) same

players_on : (title : List ℕ) (players : List (List ℕ)) (comment : Option (List ℕ)) (nodes : List Node) (n : ℕ) (ls : List NodeLine) (d : DraftView)
    → Keeps state.Players n ls d (record { title = title; players = players; comment = comment; nodes = nodes })
players_on title [] None nodes n ls d =
    behind_header nodes n ls d ∙ nodes_on nodes n ls d ∙ with_players n (n + 0) (ls ++ map node_kept nodes) (omega arith)
players_on title [] (Some comment) nodes n ls d = nodes_on nodes n ls d ∙ with_players n (n + 0) (ls ++ map node_kept nodes) (omega arith)
players_on title (name ∷ players) comment nodes n ls d =
    players_on title players comment nodes (n + 1) ls d
    ∙ with_players (n + 1 + length players) (n + length (name ∷ players)) (ls ++ map node_kept nodes) (omega arith)

file_on : (f : File) → run (start state.Format) (file f) ≡ Some (file_kept f)
unfolding file
file_on f =
    players_on f.title f.players f.comment f.nodes 0 [] (begun letter.Leaf)
    ∙ with_players (0 + length f.players) (length f.players) (map node_kept f.nodes) (omega arith)

-- the same tokens

same_tokens : (bytes : List ℕ) (a b : List Lexeme) → AreTokens bytes a → AreTokens bytes b → a ≡ b
same_tokens bytes [] [] x y = refl
same_tokens bytes [] (u ∷ b) x y = absurd (cc (x, y.1))
same_tokens bytes (t ∷ a) [] x y = absurd (cc (x.1, y))
same_tokens bytes (t ∷ a) (u ∷ b) x y =
    let same_rest : y.0 ≡ x.0 = cc (x.1, y.1) in
    let same : t ≡ u = cc (x.1, y.1) in
    cc (same, same_tokens x.0 a b x.2 (subst (λ (r : List ℕ). AreTokens r b) same_rest y.2))

-- bytes are one file
pub one_file : (bytes : List ℕ) (a b : FileView) → IsFileOf bytes a → IsFileOf bytes b → a ≡ b
one_file bytes a b x y =
    let tokens : file x.has_file.parts ≡ file y.has_file.parts = same_tokens bytes (file x.has_file.parts) (file y.has_file.parts) x.has_file.are_tokens y.has_file.are_tokens in
    let kept : Some (file_kept x.has_file.parts) ≡ Some (file_kept y.has_file.parts)
    = sym (file_on x.has_file.parts) ∙ ap (λ ts. run (start state.Format) ts) tokens ∙ file_on y.has_file.parts in
    let same : file_kept x.has_file.parts ≡ file_kept y.has_file.parts = cc (kept) in
    x.kept ∙ same ∙ sym y.kept

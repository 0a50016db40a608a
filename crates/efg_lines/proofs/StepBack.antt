-- One token back: what is left of a file behind a token makes, with that token, what was left before it.
use Rattle.std.proofs.Common.{◌≡◌, ℕ, true, false, List, [], ◌∷◌, ◌++◌, map, Option, Some, None, refl, ap, sym, ◌∙◌, arith, append_assoc, append-nil}
use Rattle.std.specs.Prelude.{codes}
use Rattle.efg_token.specs.Lexeme.{Lexeme, text, brace_left, brace_right, comma, word}
use Rattle.efg_lines.specs.declared.node_line.ActLine.{ActLine}
use Rattle.efg_lines.specs.declared.node_line.NodeLine.{NodeLine}
use Rattle.efg_lines.specs.declared.state.Letter.{Letter}
use Rattle.efg_lines.specs.declared.state.Letter.TheVariants as letter
use Rattle.efg_lines.specs.declared.state.Mover.{Mover}
use Rattle.efg_lines.specs.declared.state.Mover.TheVariants as mover
use Rattle.efg_lines.specs.declared.state.State.{State}
use Rattle.efg_lines.specs.declared.state.State.TheVariants as state
use Rattle.efg_lines.specs.Draft.{Progress, begun, line_of, stepped}
use Rattle.efg_lines.specs.File.{FileView}
use Rattle.efg_lines.specs.FileTokens.{draw_kept, action_kept, node_kept}
use Rattle.efg_lines.specs.Grammar.{Whole, Outcome, Set, Node, chance, personal, terminal, File, each, node}
use Rattle.efg_lines.specs.Machine.{after, in_list, behind_action, behind_comment, behind_line, behind_set_name, behind_set, behind_outcome_name, behind_outcome, behind_payoff}
use Rattle.efg_lines.proofs.ByToken.{moved, by_word, by_text, by_brace, by_whole, by_number, by_list, by_line}
use Rattle.efg_lines.proofs.FileLeft.{Act, Left, left_tokens, left_file, over, longer, with_outcome, with_set, amounts, lined, ended}

pub record Back (s : State) (token : Lexeme) (next : State) (p : Progress) (l : Left next) : Type 0 where
  pub left : Left s
  pub its_tokens : left_tokens s left ≡ token ∷ left_tokens next l
  pub its_file : left_file s p left ≡ left_file next (stepped s token next p) l

-- however a file goes on behind the token, it goes on so before it
abbrev pub GoesBack : State → Progress → Lexeme → State → Type 0
GoesBack s p token next = (l : Left next) → Back s token next p l

over-none : {A : Type 0} (o : Option A) → over o None ≡ o
over-none None = refl
over-none (Some x) = refl

pub no_longer : {A : Type 0} (o : Option (List A)) → longer [] o ≡ o
no_longer None = refl
no_longer (Some items) = ap (λ xs. Some xs) (append-nil items)

pub one_longer : {A : Type 0} (x : A) (more : List A) (o : Option (List A)) → longer (x ∷ more) o ≡ longer more (longer (x ∷ []) o)
one_longer x more None = refl
one_longer x more (Some items) = ap (λ xs. Some xs) (sym (append_assoc items (x ∷ []) more))

-- a line more, then the others
pub line_more : (p : Progress) (line : NodeLine) (lines : List NodeLine) → p.lines ++ line ∷ lines ≡ (p.lines ++ line ∷ []) ++ lines
line_more p line lines = sym (append_assoc p.lines (line ∷ []) lines)

-- a line of which only the letter had been read is the line with all its parts

pub begun_chance : (name : List ℕ) (s : Set (Act mover.Chance)) (o : Outcome)
    → line_of (with_outcome o (with_set mover.Chance s (begun letter.Chance))) ≡ node_kept (chance name s o)
begun_chance name s o = simp over-none refl

pub begun_personal : (name : List ℕ) (w : Whole) (s : Set (Act mover.Player)) (o : Outcome)
    → line_of (with_outcome o (with_set mover.Player s (record (begun letter.Player) {
      player =
          w.bytes;
    }))) ≡ node_kept (personal name w s o)
begun_personal name w s o = simp over-none refl

pub begun_terminal : (name : List ℕ) (o : Outcome) → line_of (with_outcome o (begun letter.Leaf)) ≡ node_kept (terminal name o)
begun_terminal name o = simp over-none refl

-- the file where these lines come behind the lines of p
pub with_lines : (p : Progress) {a b : List NodeLine} → a ≡ b
    → ◌≡◌ {A = FileView} (record { players = p.players; lines = a }) (record { players = p.players; lines = b })
with_lines p same = ap (λ lines. record { players = p.players; lines = lines }) same

-- A state in which a line may begin: then the lines before it have been kept, or the last of them is kept now.
record Begins (s : State) (p : Progress) : Type 0 where
  open_with : List Node → Left s
  its_lines : (nodes : List Node) → left_tokens s (open_with nodes) ≡ each node nodes
  its_file : (l : Letter) (b : List ℕ) (nodes : List Node)
      → left_file s p (open_with nodes) ≡ lined (stepped s (word b) (state.Name l) p) nodes

abbrev no_header : List Node → File
no_header nodes = record { title = []; players = []; comment = None; nodes = nodes }

begins_first : (p : Progress) → Begins state.Comment p
begins_first p = record { open_with = no_header; its_lines = λ nodes. refl; its_file = λ l b nodes. refl }

begins_next : (p : Progress) → Begins state.Line p
begins_next p = record { open_with = λ nodes. nodes; its_lines = λ nodes. refl; its_file = λ l b nodes. refl }

begins_behind_outcome : (p : Progress) → Begins state.OutcomeName p
begins_behind_outcome p = record {
  open_with = λ nodes. (None, None, nodes);
  its_lines = λ nodes. refl;
  its_file = λ l b nodes. with_lines p (line_more p (line_of p.draft) (map node_kept nodes));
}

begins_behind_name : (p : Progress) → Begins state.PayoffsBrace p
begins_behind_name p = record {
  open_with = λ nodes. (None, nodes);
  its_lines = λ nodes. refl;
  its_file = λ l b nodes. with_lines p (line_more p (line_of p.draft) (map node_kept nodes));
}

-- with this line before the others
pub with_line : (p : Progress) {a b : NodeLine} (nodes : List Node) → a ≡ b
    → ◌≡◌ {A = FileView} (record { players = p.players; lines = p.lines ++ a ∷ map node_kept nodes })
    (record { players = p.players; lines = p.lines ++ b ∷ map node_kept nodes })
with_line p nodes same = ap (λ line. record { players = p.players; lines = p.lines ++ line ∷ map node_kept nodes }) same

begin_back : (s : State) (p : Progress) → Begins s p → (token : Lexeme) (next : State) → behind_line token ≡ Some next
    → GoesBack s p token next
begin_back s p b token next e =
    by_line (GoesBack s p) token next
    (λ l. record {
      left = b.open_with (chance l.0 l.1 l.2 ∷ l.3);
      its_tokens = b.its_lines (chance l.0 l.1 l.2 ∷ l.3);
      its_file = b.its_file letter.Chance (codes "c") (chance l.0 l.1 l.2 ∷ l.3)
          ∙ with_line (stepped s (word (codes "c")) (state.Name letter.Chance) p) l.3 (sym (begun_chance l.0 l.1 l.2));
    })
    (λ l. record {
      left = b.open_with (personal l.0 l.1 l.2 l.3 ∷ l.4);
      its_tokens = b.its_lines (personal l.0 l.1 l.2 l.3 ∷ l.4);
      its_file = b.its_file letter.Player (codes "p") (personal l.0 l.1 l.2 l.3 ∷ l.4)
          ∙ with_line (stepped s (word (codes "p")) (state.Name letter.Player) p) l.4 (sym (begun_personal l.0 l.1 l.2 l.3));
    })
    (λ l. record {
      left = b.open_with (terminal l.0 l.1 ∷ l.2);
      its_tokens = b.its_lines (terminal l.0 l.1 ∷ l.2);
      its_file = b.its_file letter.Leaf (codes "t") (terminal l.0 l.1 ∷ l.2)
          ∙ with_line (stepped s (word (codes "t")) (state.Name letter.Leaf) p) l.2 (sym (begun_terminal l.0 l.1));
    })
    e

-- the header

players_back : (p : Progress) (token : Lexeme) (next : State) → in_list state.Players state.Comment token ≡ Some next
    → GoesBack state.Players p token next
players_back p token next e =
    by_list (GoesBack state.Players p) token state.Players state.Comment next
    (λ name l. record {
      left = record l { players = name ∷ l.players };
      its_tokens = refl;
      its_file = ap (λ n. record { players = n; lines = p.lines ++ map node_kept l.nodes }) (omega arith);
    })
    (λ l. record {
      left = record l { players = [] };
      its_tokens = refl;
      its_file = ap (λ n. record { players = n; lines = p.lines ++ map node_kept l.nodes }) (omega arith);
    })
    e

comment_back : (p : Progress) (token : Lexeme) (next : State) → behind_comment token ≡ Some next → GoesBack state.Comment p token next
comment_back p (text content) next e =
    moved (GoesBack state.Comment p (text content)) state.Line next
    (λ l. record { left = record (no_header l) { comment = Some content }; its_tokens = refl; its_file = refl }) e
comment_back p (word b) next e = begin_back state.Comment p (begins_first p) (word b) next e
comment_back p brace_left next e = absurd (cc)
comment_back p brace_right next e = absurd (cc)
comment_back p comma next e = absurd (cc)

-- a set and its actions

set_name_back : (m : Mover) (p : Progress) (token : Lexeme) (next : State) → behind_set_name m token ≡ Some next
    → GoesBack (state.SetName m) p token next
set_name_back m p (text content) next e =
    moved (GoesBack (state.SetName m) p (text content)) (state.ActionsBrace m) next
    (λ l. record { left = (Some content, l.0, l.1, l.2); its_tokens = refl; its_file = refl }) e
set_name_back m p brace_left next e =
    moved (GoesBack (state.SetName m) p brace_left) (state.Actions m) next
    (λ l. record { left = (None, Some l.0, l.1, l.2); its_tokens = refl; its_file = refl }) e
set_name_back m p (word b) next e =
    by_whole (GoesBack (state.SetName m) p) (word b) state.OutcomeName next
    (λ w l. record { left = (None, None, record { number = w; name = l.0; payoffs = l.1 }, l.2); its_tokens = refl; its_file = refl }) e
set_name_back m p brace_right next e = absurd (cc)
set_name_back m p comma next e = absurd (cc)

set_back : (m : Mover) (p : Progress) (token : Lexeme) (next : State) → behind_set m token ≡ Some next
    → GoesBack (state.ActionsBrace m) p token next
set_back m p brace_left next e =
    moved (GoesBack (state.ActionsBrace m) p brace_left) (state.Actions m) next
    (λ l. record { left = (Some l.0, l.1, l.2); its_tokens = refl; its_file = refl }) e
set_back m p (word b) next e =
    by_whole (GoesBack (state.ActionsBrace m) p) (word b) state.OutcomeName next
    (λ w l. record { left = (None, record { number = w; name = l.0; payoffs = l.1 }, l.2); its_tokens = refl; its_file = refl }) e
set_back m p (text content) next e = absurd (cc)
set_back m p brace_right next e = absurd (cc)
set_back m p comma next e = absurd (cc)

-- with these actions, or payoffs, in the line that is read
pub with_acts : (p : Progress) (o : Outcome) (nodes : List Node) {a b : Option (List ActLine)} → a ≡ b
    → ended p (with_outcome o (record p.draft { acts = a })) nodes ≡ ended p (with_outcome o (record p.draft { acts = b })) nodes
with_acts p o nodes same = ap (λ acts. ended p (with_outcome o (record p.draft { acts = acts })) nodes) same

pub with_pays : (p : Progress) (nodes : List Node) {a b : Option (List (List ℕ))} → a ≡ b
    → ended p (record p.draft { pays = a }) nodes ≡ ended p (record p.draft { pays = b }) nodes
with_pays p nodes same = ap (λ pays. ended p (record p.draft { pays = pays }) nodes) same

actions_back : (m : Mover) (p : Progress) (token : Lexeme) (next : State)
    → in_list (behind_action m) state.Outcome token ≡ Some next → GoesBack (state.Actions m) p token next
actions_back mover.Chance p token next e =
    by_list (GoesBack (state.Actions mover.Chance) p) token state.Probability state.Outcome next
    (λ name l. record { left = (record { name = name; chance = l.0 } ∷ l.1, l.2, l.3); its_tokens = refl; its_file = refl })
    (λ l. record { left = ([], l.0, l.1); its_tokens = refl; its_file = with_acts p l.0 l.1 (no_longer p.draft.acts) })
    e
actions_back mover.Player p token next e =
    by_list (GoesBack (state.Actions mover.Player) p) token (state.Actions mover.Player) state.Outcome next
    (λ name l. record {
      left = (name ∷ l.0, l.1, l.2);
      its_tokens = refl;
      its_file = with_acts p l.1 l.2 (one_longer (action_kept name) (map action_kept l.0) p.draft.acts);
    })
    (λ l. record { left = ([], l.0, l.1); its_tokens = refl; its_file = with_acts p l.0 l.1 (no_longer p.draft.acts) })
    e

-- an outcome and its payoffs

outcome_name_back : (p : Progress) (token : Lexeme) (next : State) → behind_outcome_name token ≡ Some next
    → GoesBack state.OutcomeName p token next
outcome_name_back p (text content) next e =
    moved (GoesBack state.OutcomeName p (text content)) state.PayoffsBrace next
    (λ l. record { left = (Some content, l.0, l.1); its_tokens = refl; its_file = refl }) e
outcome_name_back p brace_left next e =
    moved (GoesBack state.OutcomeName p brace_left) state.Payoff next
    (λ l. record { left = (None, Some l.0, l.1); its_tokens = refl; its_file = refl }) e
outcome_name_back p (word b) next e = begin_back state.OutcomeName p (begins_behind_outcome p) (word b) next e
outcome_name_back p brace_right next e = absurd (cc)
outcome_name_back p comma next e = absurd (cc)

outcome_back : (p : Progress) (token : Lexeme) (next : State) → behind_outcome token ≡ Some next → GoesBack state.PayoffsBrace p token next
outcome_back p brace_left next e =
    moved (GoesBack state.PayoffsBrace p brace_left) state.Payoff next
    (λ l. record { left = (Some l.0, l.1); its_tokens = refl; its_file = refl }) e
outcome_back p (word b) next e = begin_back state.PayoffsBrace p (begins_behind_name p) (word b) next e
outcome_back p (text content) next e = absurd (cc)
outcome_back p brace_right next e = absurd (cc)
outcome_back p comma next e = absurd (cc)

payoff_back : (p : Progress) (token : Lexeme) (next : State) → behind_payoff token ≡ Some next → GoesBack state.Payoffs p token next
payoff_back p comma next e =
    moved (GoesBack state.Payoffs p comma) state.Payoff next
    (λ l. record { left = (record { has_comma = true; amount = l.0.first } ∷ l.0.others, l.1); its_tokens = refl; its_file = refl }) e
payoff_back p brace_right next e =
    moved (GoesBack state.Payoffs p brace_right) state.Line next
    (λ l. record {
      left = ([], l);
      its_tokens = refl;
      its_file = with_pays p l (no_longer p.draft.pays) ∙ with_lines p (line_more p (line_of p.draft) (map node_kept l));
    })
    e
payoff_back p (word b) next e =
    by_number (GoesBack state.Payoffs p) (word b) state.Payoffs next
    (λ n l. record {
      left = (record { has_comma = false; amount = n } ∷ l.0, l.1);
      its_tokens = refl;
      its_file = with_pays p l.1 (one_longer n.bytes (amounts l.0) p.draft.pays);
    })
    e
payoff_back p (text content) next e = absurd (cc)
payoff_back p brace_left next e = absurd (cc)

-- every step goes back
pub step_back : (s : State) (p : Progress) (token : Lexeme) (next : State) → after s token ≡ Some next → GoesBack s p token next
step_back state.Format p token next e =
    by_word (GoesBack state.Format p) (codes "EFG") token state.Version next (λ l. record {
      left =
          l;
      its_tokens = refl;
      its_file = refl;
    }) e
step_back state.Version p token next e =
    by_word (GoesBack state.Version p) (codes "2") token state.Numbers next (λ l. record { left = l; its_tokens = refl; its_file = refl }) e
step_back state.Numbers p token next e =
    by_word (GoesBack state.Numbers p) (codes "R") token state.Title next (λ l. record { left = l; its_tokens = refl; its_file = refl }) e
step_back state.Title p token next e =
    by_text (GoesBack state.Title p) token state.PlayersBrace next (λ title l. record {
      left =
          record l { title = title };
      its_tokens = refl;
      its_file = refl;
    }) e
step_back state.PlayersBrace p token next e =
    by_brace (GoesBack state.PlayersBrace p) token state.Players next (λ l. record { left = l; its_tokens = refl; its_file = refl }) e
step_back state.Players p token next e = players_back p token next e
step_back state.Comment p token next e = comment_back p token next e
step_back state.Line p token next e = begin_back state.Line p (begins_next p) token next e
step_back (state.Name letter.Chance) p token next e =
    by_text (GoesBack (state.Name letter.Chance) p) token (state.Set mover.Chance) next
    (λ name l. record { left = (name, l.0, l.1, l.2); its_tokens = refl; its_file = refl }) e
step_back (state.Name letter.Player) p token next e =
    by_text (GoesBack (state.Name letter.Player) p) token state.PlayerNumber next (λ name l. record {
      left =
          (name, l.0, l.1, l.2, l.3);
      its_tokens = refl;
      its_file = refl;
    }) e
step_back (state.Name letter.Leaf) p token next e =
    by_text (GoesBack (state.Name letter.Leaf) p) token state.Outcome next (λ name l. record {
      left =
          (name, l.0, l.1);
      its_tokens = refl;
      its_file = refl;
    }) e
step_back state.PlayerNumber p token next e =
    by_whole (GoesBack state.PlayerNumber p) token (state.Set mover.Player) next (λ w l. record {
      left =
          (w, l.0, l.1, l.2);
      its_tokens = refl;
      its_file = refl;
    }) e
step_back (state.Set m) p token next e =
    by_whole (GoesBack (state.Set m) p) token (state.SetName m) next
    (λ w l. record { left = (record { number = w; name = l.0; actions = l.1 }, l.2, l.3); its_tokens = refl; its_file = refl }) e
step_back (state.SetName m) p token next e = set_name_back m p token next e
step_back (state.ActionsBrace m) p token next e = set_back m p token next e
step_back (state.Actions m) p token next e = actions_back m p token next e
step_back state.Probability p token next e =
    by_number (GoesBack state.Probability p) token (state.Actions mover.Chance) next
    (λ n l. record {
      left = (n, l.0, l.1, l.2);
      its_tokens = refl;
      its_file = with_acts p l.1 l.2 (one_longer (record { name = p.draft.action; prob = Some n.bytes }) (map draw_kept l.0) p.draft.acts);
    })
    e
step_back state.Outcome p token next e =
    by_whole (GoesBack state.Outcome p) token state.OutcomeName next
    (λ w l. record { left = (record { number = w; name = l.0; payoffs = l.1 }, l.2); its_tokens = refl; its_file = refl }) e
step_back state.OutcomeName p token next e = outcome_name_back p token next e
step_back state.PayoffsBrace p token next e = outcome_back p token next e
step_back state.Payoff p token next e =
    by_number (GoesBack state.Payoff p) token state.Payoffs next
    (λ n l. record {
      left = (record { first = n; others = l.0 }, l.1);
      its_tokens = refl;
      its_file = with_pays p l.1 (one_longer n.bytes (amounts l.0) p.draft.pays);
    })
    e
step_back state.Payoffs p token next e = payoff_back p token next e

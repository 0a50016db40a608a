-- What is left of a file in each state of the machine: its parts, the tokens of these, and what is kept of the whole file
-- once they have been read as well. Parts that have been read already aren't looked at.
use Rattle.std.proofs.Common.{ℕ, ◌+◌, List, [], ◌∷◌, ◌++◌, length, map, Option, Some, None}
use Rattle.std.specs.Prelude.{codes, option_map}
use Rattle.efg_token.specs.Lexeme.{Lexeme, text, brace_left, brace_right, word}
use Rattle.efg_lines.specs.declared.node_line.ActLine.{ActLine}
use Rattle.efg_lines.specs.declared.state.Letter.TheVariants as letter
use Rattle.efg_lines.specs.declared.state.Mover.{Mover}
use Rattle.efg_lines.specs.declared.state.Mover.TheVariants as mover
use Rattle.efg_lines.specs.declared.state.State.{State}
use Rattle.efg_lines.specs.declared.state.State.TheVariants as state
use Rattle.efg_lines.specs.Draft.{DraftView, Progress, line_of}
use Rattle.efg_lines.specs.File.{FileView}
use Rattle.efg_lines.specs.FileTokens.{draw_kept, action_kept, payoffs_kept, node_kept}
use Rattle.efg_lines.specs.Grammar.{Whole, Number, Draw, Payoff, Payoffs, Outcome, Set, Node, File, each, or_none, braced, named, draw, payoff, payoffs, outcome, set, node}

-- an action, by who moves
abbrev pub Act : Mover → Type 0
Act mover.Chance = Draw
Act mover.Player = List ℕ

abbrev pub act : (m : Mover) → Act m → List Lexeme
act mover.Chance d = draw d
act mover.Player name = named name

abbrev pub act_kept : (m : Mover) → Act m → ActLine
act_kept mover.Chance d = draw_kept d
act_kept mover.Player name = action_kept name

abbrev pub Left : State → Type 0
Left state.Format = File
Left state.Version = File
Left state.Numbers = File
Left state.Title = File
Left state.PlayersBrace = File
Left state.Players = File
Left state.Comment = File
Left state.Line = List Node
Left (state.Name letter.Chance) = List ℕ × Set Draw × Outcome × List Node
Left (state.Name letter.Player) = List ℕ × Whole × Set (List ℕ) × Outcome × List Node
Left (state.Name letter.Leaf) = List ℕ × Outcome × List Node
Left state.PlayerNumber = Whole × Set (List ℕ) × Outcome × List Node
Left (state.Set m) = Set (Act m) × Outcome × List Node
Left (state.SetName m) = Option (List ℕ) × Option (List (Act m)) × Outcome × List Node
Left (state.ActionsBrace m) = Option (List (Act m)) × Outcome × List Node
Left (state.Actions m) = List (Act m) × Outcome × List Node
Left state.Probability = Number × List Draw × Outcome × List Node
Left state.Outcome = Outcome × List Node
Left state.OutcomeName = Option (List ℕ) × Option Payoffs × List Node
Left state.PayoffsBrace = Option Payoffs × List Node
Left state.Payoff = Payoffs × List Node
Left state.Payoffs = List Payoff × List Node

-- the actions, or none
abbrev pub acts : (m : Mover) → Option (List (Act m)) → List Lexeme
acts m = or_none (λ actions. braced (each (act m) actions))

-- what stands behind the title, and behind the players' brace
abbrev pub behind_brace : File → List Lexeme
behind_brace f = (each named f.players ++ brace_right ∷ []) ++ (or_none named f.comment ++ each node f.nodes)

abbrev pub left_tokens : (s : State) → Left s → List Lexeme
left_tokens state.Format f = word (codes "EFG") ∷ word (codes "2") ∷ word (codes "R") ∷ text f.title ∷ brace_left ∷ behind_brace f
left_tokens state.Version f = word (codes "2") ∷ word (codes "R") ∷ text f.title ∷ brace_left ∷ behind_brace f
left_tokens state.Numbers f = word (codes "R") ∷ text f.title ∷ brace_left ∷ behind_brace f
left_tokens state.Title f = text f.title ∷ brace_left ∷ behind_brace f
left_tokens state.PlayersBrace f = brace_left ∷ behind_brace f
left_tokens state.Players f = behind_brace f
left_tokens state.Comment f = or_none named f.comment ++ each node f.nodes
left_tokens state.Line nodes = each node nodes
left_tokens (state.Name letter.Chance) l = (text l.0 ∷ (set draw l.1 ++ outcome l.2)) ++ each node l.3
left_tokens (state.Name letter.Player) l = (text l.0 ∷ word l.1.bytes ∷ (set named l.2 ++ outcome l.3)) ++ each node l.4
left_tokens (state.Name letter.Leaf) l = (text l.0 ∷ outcome l.1) ++ each node l.2
left_tokens state.PlayerNumber l = (word l.0.bytes ∷ (set named l.1 ++ outcome l.2)) ++ each node l.3
left_tokens (state.Set m) l = (set (act m) l.0 ++ outcome l.1) ++ each node l.2
left_tokens (state.SetName m) l = ((or_none named l.0 ++ acts m l.1) ++ outcome l.2) ++ each node l.3
left_tokens (state.ActionsBrace m) l = (acts m l.0 ++ outcome l.1) ++ each node l.2
left_tokens (state.Actions m) l = ((each (act m) l.0 ++ brace_right ∷ []) ++ outcome l.1) ++ each node l.2
left_tokens state.Probability l = word l.0.bytes ∷ (((each draw l.1 ++ brace_right ∷ []) ++ outcome l.2) ++ each node l.3)
left_tokens state.Outcome l = outcome l.0 ++ each node l.1
left_tokens state.OutcomeName l = (or_none named l.0 ++ or_none payoffs l.1) ++ each node l.2
left_tokens state.PayoffsBrace l = or_none payoffs l.0 ++ each node l.1
left_tokens state.Payoff l = ((word l.0.first.bytes ∷ each payoff l.0.others) ++ brace_right ∷ []) ++ each node l.1
left_tokens state.Payoffs l = (each payoff l.0 ++ brace_right ∷ []) ++ each node l.1

-- the second where there is no first
abbrev pub over : {A : Type 0} → Option A → Option A → Option A
over None old = old
over (Some new) old = Some new

-- what is kept of a line once its last parts have been read

abbrev pub with_payoffs : Option Payoffs → DraftView → DraftView
with_payoffs p d = record d { pays = over (option_map payoffs_kept p) d.pays }

abbrev pub with_outcome : Outcome → DraftView → DraftView
with_outcome o d = with_payoffs o.payoffs (record d { outcome = o.number.bytes })

abbrev pub with_acts : (m : Mover) → Option (List (Act m)) → DraftView → DraftView
with_acts m a d = record d { acts = over (option_map (map (act_kept m)) a) d.acts }

abbrev pub with_set : (m : Mover) → Set (Act m) → DraftView → DraftView
with_set m s d = with_acts m s.actions (record d { set = s.number.bytes })

-- more of a list that has begun
abbrev pub longer : {A : Type 0} → List A → Option (List A) → Option (List A)
longer more list = option_map (λ items. items ++ more) list

abbrev pub more_acts : List ActLine → DraftView → DraftView
more_acts more d = record d { acts = longer more d.acts }

abbrev pub more_pays : List (List ℕ) → DraftView → DraftView
more_pays more d = record d { pays = longer more d.pays }

-- the words of payoffs behind the first one
abbrev pub amounts : List Payoff → List (List ℕ)
amounts others = map (λ (other : Payoff). other.amount.bytes) others

-- what is kept of the file where these lines are left, and where the line that is read comes before them
abbrev pub lined : Progress → List Node → FileView
lined p nodes = record { players = p.players; lines = p.lines ++ map node_kept nodes }

abbrev pub ended : Progress → DraftView → List Node → FileView
ended p d nodes = record { players = p.players; lines = p.lines ++ line_of d ∷ map node_kept nodes }

-- the same where the header is left
abbrev pub headed : Progress → File → FileView
headed p f = record { players = p.players + length f.players; lines = p.lines ++ map node_kept f.nodes }

abbrev pub left_file : (s : State) → Progress → Left s → FileView
left_file state.Format p f = headed p f
left_file state.Version p f = headed p f
left_file state.Numbers p f = headed p f
left_file state.Title p f = headed p f
left_file state.PlayersBrace p f = headed p f
left_file state.Players p f = headed p f
left_file state.Comment p f = lined p f.nodes
left_file state.Line p nodes = lined p nodes
left_file (state.Name letter.Chance) p l = ended p (with_outcome l.2 (with_set mover.Chance l.1 p.draft)) l.3
left_file (state.Name letter.Player) p l =
    ended p (with_outcome l.3 (with_set mover.Player l.2 (record p.draft { player = l.1.bytes }))) l.4
left_file (state.Name letter.Leaf) p l = ended p (with_outcome l.1 p.draft) l.2
left_file state.PlayerNumber p l = ended p (with_outcome l.2 (with_set mover.Player l.1 (record p.draft { player = l.0.bytes }))) l.3
left_file (state.Set m) p l = ended p (with_outcome l.1 (with_set m l.0 p.draft)) l.2
left_file (state.SetName m) p l = ended p (with_outcome l.2 (with_acts m l.1 p.draft)) l.3
left_file (state.ActionsBrace m) p l = ended p (with_outcome l.1 (with_acts m l.0 p.draft)) l.2
left_file (state.Actions m) p l = ended p (with_outcome l.1 (more_acts (map (act_kept m) l.0) p.draft)) l.2
left_file state.Probability p l =
    ended p (with_outcome l.2 (more_acts (record { name = p.draft.action; prob = Some l.0.bytes } ∷ map draw_kept l.1) p.draft)) l.3
left_file state.Outcome p l = ended p (with_outcome l.0 p.draft) l.1
left_file state.OutcomeName p l = ended p (with_payoffs l.1 p.draft) l.2
left_file state.PayoffsBrace p l = ended p (with_payoffs l.0 p.draft) l.1
left_file state.Payoff p l = ended p (more_pays (payoffs_kept l.0) p.draft) l.1
left_file state.Payoffs p l = ended p (more_pays (amounts l.0) p.draft) l.1

-- Bytes whose tokens are those of a file, what is kept of it, and the place at which no file goes on.
use Rattle.std.specs.Prelude.{◌≡◌, ℕ, ◌+◌, ◌-◌, List, [], ◌∷◌, ◌++◌, length, map, Some, None, option_map}
use Rattle.efg_token.specs.Front.{Front, front, found, blank, unended, gap}
use Rattle.efg_token.specs.Lexeme.{Lexeme}
use Rattle.efg_token.specs.Tokens.{AreTokens}
use Rattle.efg_lines.specs.declared.node_line.ActLine.{ActLine}
use Rattle.efg_lines.specs.declared.node_line.LineKind.TheVariants as kind
use Rattle.efg_lines.specs.declared.node_line.NodeLine.{NodeLine}
use Rattle.efg_lines.specs.File.{FileView}
use Rattle.efg_lines.specs.Grammar.{Draw, Payoff, Payoffs, Node, chance, personal, terminal, File, file, IsFile, BeginsFile}

-- what is kept of an action of a chance line: its name and the word of its probability
abbrev pub draw_kept : Draw → ActLine
draw_kept d = record { name = d.name; prob = Some d.chance.bytes }

-- of an action of a player: its name
abbrev pub action_kept : List ℕ → ActLine
action_kept name = record { name = name; prob = None }

-- of payoffs: their words
abbrev pub payoffs_kept : Payoffs → List (List ℕ)
payoffs_kept p = p.first.bytes ∷ map (λ (other : Payoff). other.amount.bytes) p.others

-- of a line: all but the names of the node, of the set and of the outcome
abbrev pub node_kept : Node → NodeLine
node_kept (chance name s o) = record {
  kind = kind.Chance s.number.bytes (option_map (map draw_kept) s.actions);
  outcome = o.number.bytes;
  pays = option_map payoffs_kept o.payoffs;
}
node_kept (personal name player s o) = record {
  kind = kind.Player player.bytes s.number.bytes (option_map (map action_kept) s.actions);
  outcome = o.number.bytes;
  pays = option_map payoffs_kept o.payoffs;
}
node_kept (terminal name o) = record {
  kind = kind.Leaf;
  outcome = o.number.bytes;
  pays = option_map payoffs_kept o.payoffs;
}

-- of a file: how many players it names, and its lines
abbrev pub file_kept : File → FileView
file_kept f = record { players = length f.players; lines = map node_kept f.nodes }

-- the tokens of the bytes are those of a file
pub record HasFile (bytes : List ℕ) : Type 0 where
  pub parts : File
  pub are_tokens : AreTokens bytes (file parts)

-- the same, and this is kept of the file
pub record IsFileOf (bytes : List ℕ) (raw : FileView) : Type 0 where
  pub has_file : HasFile bytes
  pub kept : raw ≡ file_kept has_file.parts

-- these are the first tokens of the bytes, and the rest is what is behind them
abbrev pub StandFirst : List ℕ → List Lexeme → List ℕ → Type 0
StandFirst bytes [] rest = bytes ≡ rest
StandFirst bytes (token ∷ tokens) rest = (behind : List ℕ) × (front bytes ≡ found token behind) × StandFirst behind tokens rest

-- no file goes on with what stands first behind these tokens, nor ends there; a text without end is in no file
abbrev pub StopsBehind : List Lexeme → Front → Type 0
StopsBehind tokens blank = IsFile tokens → ⊥
StopsBehind tokens (found token rest) = BeginsFile (tokens ++ token ∷ []) → ⊥
StopsBehind tokens unended = Unit {0}

-- where the next token begins, and where there is none the number of bytes
abbrev pub place : List ℕ → List ℕ → Front → ℕ
place bytes rest blank = length bytes
place bytes rest (found token behind) = length bytes - length rest + gap rest
place bytes rest unended = length bytes - length rest + gap rest

-- The place of the first token with which no file begins, a text without end among them; where there is no such token
-- and the tokens are no file, the number of bytes.
pub record StopsAt (bytes : List ℕ) (at : ℕ) : Type 0 where
  pub tokens : List Lexeme
  pub rest : List ℕ
  pub stand : StandFirst bytes tokens rest
  pub begins : BeginsFile tokens
  pub stops : StopsBehind tokens (front rest)
  pub at_place : at ≡ place bytes rest (front rest)

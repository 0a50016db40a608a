-- The grammar of files: which parts a file has, and which tokens these are. The format is that of Gambit's files for
-- extensive games (McKelvey, McLennan and Turocy, Gambit), in this project's profile.
use Rattle.std.specs.Prelude.{◌≡◌, ℕ, Bool, true, if◌then◌else◌, List, [], ◌∷◌, ◌++◌, Option, Some, None, codes}
use Rattle.efg_token.specs.Lexeme.{Lexeme, text, brace_left, brace_right, comma, word}
use Rattle.number_words.specs.Words.{is_whole, is_number}

-- a whole: a word of one or more digits
pub record Whole : Type 0 where
  pub bytes : List ℕ
  pub of_digits : is_whole bytes ≡ true

-- a number: a word of digits with a sign or none, and with a point or a divisor or neither
pub record Number : Type 0 where
  pub bytes : List ℕ
  pub well_formed : is_number bytes ≡ true

-- an action of a chance line: its name and its probability
pub record Draw : Type 0 where
  pub name : List ℕ
  pub chance : Number

-- a payoff behind the first one, with a comma before it or none
pub record Payoff : Type 0 where
  pub has_comma : Bool
  pub amount : Number

-- a list of payoffs has one at least
pub record Payoffs : Type 0 where
  pub first : Number
  pub others : List Payoff

-- an outcome: its number, its name or none, its payoffs or none
pub record Outcome : Type 0 where
  pub number : Whole
  pub name : Option (List ℕ)
  pub payoffs : Option Payoffs

-- a set: its number, its name or none, its actions or none
pub record Set (Action : Type 0) : Type 0 where
  pub number : Whole
  pub name : Option (List ℕ)
  pub actions : Option (List Action)

-- a line: the node's name, and at a personal node the player's number; the set; the outcome
pub data Node : Type 0 where
  chance : List ℕ → Set Draw → Outcome → Node
  personal : List ℕ → Whole → Set (List ℕ) → Outcome → Node
  terminal : List ℕ → Outcome → Node

-- a file: its title, the players' names, a comment or none, the lines
pub record File : Type 0 where
  pub title : List ℕ
  pub players : List (List ℕ)
  pub comment : Option (List ℕ)
  pub nodes : List Node

-- the tokens of some parts, one part after the other
abbrev pub each : {Part : Type 0} → (Part → List Lexeme) → List Part → List Lexeme
each tokens [] = []
each tokens (part ∷ parts) = tokens part ++ each tokens parts

-- the tokens of a part that may be missing
abbrev pub or_none : {Part : Type 0} → (Part → List Lexeme) → Option Part → List Lexeme
or_none tokens None = []
or_none tokens (Some part) = tokens part

-- in braces
abbrev pub braced : List Lexeme → List Lexeme
braced tokens = brace_left ∷ (tokens ++ brace_right ∷ [])

-- a name
abbrev pub named : List ℕ → List Lexeme
named name = text name ∷ []

-- a name and a number
abbrev pub draw : Draw → List Lexeme
draw d = text d.name ∷ word d.chance.bytes ∷ []

-- a comma or none, and a number
abbrev pub payoff : Payoff → List Lexeme
payoff p = if p.has_comma then comma ∷ word p.amount.bytes ∷ [] else word p.amount.bytes ∷ []

-- numbers in braces
abbrev pub payoffs : Payoffs → List Lexeme
payoffs p = braced (word p.first.bytes ∷ each payoff p.others)

-- a number, a name or none, payoffs or none
abbrev pub outcome : Outcome → List Lexeme
outcome o = word o.number.bytes ∷ (or_none named o.name ++ or_none payoffs o.payoffs)

-- a number, a name or none, actions in braces or none
abbrev pub set : {Action : Type 0} → (Action → List Lexeme) → Set Action → List Lexeme
set action s = word s.number.bytes ∷ (or_none named s.name ++ or_none (λ actions. braced (each action actions)) s.actions)

-- the letter of its kind, its name, the player's number, the set, the outcome
abbrev pub node : Node → List Lexeme
node (chance name s o) = word (codes "c") ∷ text name ∷ (set draw s ++ outcome o)
node (personal name player s o) = word (codes "p") ∷ text name ∷ word player.bytes ∷ (set named s ++ outcome o)
node (terminal name o) = word (codes "t") ∷ text name ∷ outcome o

-- three words, the title, the players' names in braces, a comment or none, the lines
unfoldable pub file : File → List Lexeme
file f =
    word (codes "EFG") ∷ word (codes "2") ∷ word (codes "R") ∷ text f.title ∷
    (braced (each named f.players) ++ (or_none named f.comment ++ each node f.nodes))

-- these are the tokens of a file
pub record IsFile (tokens : List Lexeme) : Type 0 where
  pub parts : File
  pub are_its : tokens ≡ file parts

-- some file begins with these tokens
pub record BeginsFile (tokens : List Lexeme) : Type 0 where
  pub more : List Lexeme
  pub whole : IsFile (tokens ++ more)

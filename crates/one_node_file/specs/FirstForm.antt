-- Files of one terminal node with an outcome and two amounts.
use Rattle.std.specs.Prelude.{◌≡◌, ℕ, ◌<◌, Bool, if◌then◌else◌, List, [], ◌∷◌, ◌++◌, Option, Some, map, codes}
use Rattle.corr_game.specs.declared.payoffs.Pay.{Pay}
use Rattle.efg_token.specs.Lexeme.{Lexeme, text, brace_left, brace_right, comma, word}
use Rattle.efg_token.specs.Tokens.{AreTokens}
use Rattle.one_node_file.specs.Amount.{short_number, amount}
use Rattle.std.specs.Option.{option_to_list}

-- what such a file leaves open
pub record Parts : Type 0 where
  pub title : List ℕ
  pub name_one : List ℕ
  pub name_two : List ℕ
  pub comment : Option (List ℕ)
  pub node : List ℕ
  pub outcome : List ℕ
  pub outcome_name : Option (List ℕ)
  pub first : List ℕ
  pub has_comma : Bool
  pub second : List ℕ

-- a text, or no token
abbrev pub text_or_none : Option (List ℕ) → List Lexeme
text_or_none content = map text (option_to_list content)

-- a comma, or no token
abbrev pub comma_or_none : Bool → List Lexeme
comma_or_none has_comma = if has_comma then comma ∷ [] else []

-- what stands before the node
abbrev pub header : Parts → List Lexeme
header p =
    word (codes "EFG") ∷ word (codes "2") ∷ word (codes "R") ∷ text p.title ∷
    brace_left ∷ text p.name_one ∷ text p.name_two ∷ brace_right ∷ []

-- the node's payoffs, in braces
abbrev pub pays : Parts → List Lexeme
pays p = brace_left ∷ word p.first ∷ comma_or_none p.has_comma ++ (word p.second ∷ brace_right ∷ [])

-- the whole file
abbrev pub tokens : Parts → List Lexeme
tokens p =
    header p ++ (text_or_none p.comment ++
    (word (codes "t") ∷ text p.node ∷ word p.outcome ∷ text_or_none p.outcome_name ++ pays p))

-- the outcome's number isn't 0, and the amounts are those of the payoffs
pub record Says (p : Parts) (pay : Pay) : Type 0 where
  pub number : ℕ
  pub outcome : short_number p.outcome ≡ Some number
  pub not_null : 0 < number
  pub one : amount p.first ≡ Some pay.one
  pub two : amount p.second ≡ Some pay.two

-- the bytes are such a file, with these payoffs
pub record HasFirstForm (bytes : List ℕ) (pay : Pay) : Type 0 where
  pub parts : Parts
  pub are_tokens : AreTokens bytes (tokens parts)
  pub says : Says parts pay

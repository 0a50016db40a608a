-- How contracts see what the code hands out.
use Rattle.std.specs.Prelude.{ℕ, Option, Some, None, Result, Ok, Err}
use Rattle.efg_token.specs.declared.token.Token.{Token}
use Rattle.efg_token.specs.declared.token.Token.TheVariants.{Text, BraceLeft, BraceRight, Comma, Word}
use Rattle.efg_token.specs.declared.token.Spot.{Spot}
use Rattle.efg_token.specs.declared.token.TokenFault.{TokenFault}
use Rattle.efg_token.specs.declared.token.TokenFault.TheVariants.{Unterminated}
use Rattle.efg_token.specs.Lexeme.{Lexeme, text, brace_left, brace_right, comma, word}

-- the token that a value of the program stands for
abbrev pub lexeme : Token → Lexeme
lexeme (Text content) = text content.now
lexeme BraceLeft = brace_left
lexeme BraceRight = brace_right
lexeme Comma = comma
lexeme (Word bytes) = word bytes.now

-- the fact holds of the token that was handed out, if one was
abbrev pub IfFound : Option (Result Spot TokenFault) → (Spot → Type 0) → Type 0
IfFound None P = Unit {0}
IfFound (Some (Ok spot)) P = P spot
IfFound (Some (Err fault)) P = Unit {0}

-- the fact holds of the place of a text that doesn't end, if there was one
abbrev pub IfUnended : Option (Result Spot TokenFault) → (ℕ → Type 0) → Type 0
IfUnended None P = Unit {0}
IfUnended (Some (Ok spot)) P = Unit {0}
IfUnended (Some (Err (Unterminated at))) P = P at

-- What was handed out: by cases on the answer.
use Rattle.std.proofs.Common.{◌≡◌, ℕ, Option, Some, None, Result, Ok, Err, refl, ap}
use Rattle.efg_token.specs.declared.token.Spot.{Spot}
use Rattle.efg_token.specs.declared.token.Token.{Token}
use Rattle.efg_token.specs.declared.token.Token.TheVariants.{Text, BraceLeft, BraceRight, Comma, Word}
use Rattle.efg_token.specs.declared.token.TokenFault.{TokenFault}
use Rattle.efg_token.specs.declared.token.TokenFault.TheVariants.{Unterminated}
use Rattle.efg_token.specs.Lexeme.{brace_left, brace_right, comma}
use Rattle.efg_token.specs.Seen.{IfFound, IfUnended, lexeme}
use Rattle.efg_lines.specs.Refusal.{place_in}

pub nothing_seen : (r : Option (Result Spot TokenFault)) → IfFound r (λ spot. ⊥) → IfUnended r (λ at. ⊥) → r ≡ None
nothing_seen None found unended = refl
nothing_seen (Some (Ok spot)) found unended = absurd found
nothing_seen (Some (Err (Unterminated at))) found unended = absurd unended

pub brace_left_back : (token : Token) → lexeme token ≡ brace_left → token ≡ BraceLeft
brace_left_back (Text content) e = absurd (cc e)
brace_left_back BraceLeft e = refl
brace_left_back BraceRight e = absurd (cc e)
brace_left_back Comma e = absurd (cc e)
brace_left_back (Word bytes) e = absurd (cc e)

pub brace_right_back : (token : Token) → lexeme token ≡ brace_right → token ≡ BraceRight
brace_right_back (Text content) e = absurd (cc e)
brace_right_back BraceLeft e = absurd (cc e)
brace_right_back BraceRight e = refl
brace_right_back Comma e = absurd (cc e)
brace_right_back (Word bytes) e = absurd (cc e)

pub comma_back : (token : Token) → lexeme token ≡ comma → token ≡ Comma
comma_back (Text content) e = absurd (cc e)
comma_back BraceLeft e = absurd (cc e)
comma_back BraceRight e = absurd (cc e)
comma_back Comma e = refl
comma_back (Word bytes) e = absurd (cc e)

pub one_fault : (a b : TokenFault) → place_in a ≡ place_in b → a ≡ b
one_fault (Unterminated at) (Unterminated other) e = ap Unterminated e

pub unended_at_its_place : (P : ℕ → Type 0) (fault : TokenFault) → IfUnended (Some (Err fault)) P → P (place_in fault)
unended_at_its_place P (Unterminated at) h = h

-- What reading the lines of a file answers.
use Rattle.std.specs.Prelude.{ℕ, Result, Ok, Err}
use Rattle.efg_token.specs.declared.token.TokenFault.{TokenFault}
use Rattle.efg_token.specs.declared.token.TokenFault.TheVariants.{Unterminated}
use Rattle.efg_lines.specs.declared.refusal.FileRefusal.{FileRefusal}
use Rattle.efg_lines.specs.declared.refusal.FileRefusal.TheVariants.{Syntax, NoMemory}

-- a fact for a file, and one for the place of Syntax; memory may run out, and there is no other refusal
abbrev pub MatchSyntax : {A : Type 0} → Result A FileRefusal → (A → Type 0) → (ℕ → Type 0) → Type 0
MatchSyntax (Ok file) P Q = P file
MatchSyntax (Err (Syntax at)) P Q = Q at
MatchSyntax (Err NoMemory) P Q = Unit {0}
MatchSyntax (Err other) P Q = ⊥

-- where the text begins that doesn't end
abbrev pub place_in : TokenFault → ℕ
place_in (Unterminated at) = at

-- A token as lists of bytes, and its bytes in the file. The format is that of Gambit's files for extensive games
-- (McKelvey, McLennan and Turocy, Gambit), in this project's profile.
use Rattle.std.specs.Prelude.{ℕ, List, [], ◌∷◌, ◌++◌}

-- a token, apart from where it lies in memory; a text's content is what stands between its quotes
pub data Lexeme : Type 0 where
  text : List ℕ → Lexeme
  brace_left : Lexeme
  brace_right : Lexeme
  comma : Lexeme
  word : List ℕ → Lexeme

-- the bytes of a token in the file
abbrev pub spelling : Lexeme → List ℕ
spelling (text content) = 34 ∷ content ++ 34 ∷ []
spelling brace_left = 123 ∷ []
spelling brace_right = 125 ∷ []
spelling comma = 44 ∷ []
spelling (word bytes) = bytes

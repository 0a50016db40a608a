-- The first token of some bytes.
use Rattle.std.specs.Prelude.{ℕ, ◌+◌, not, ◌&&◌, ◌==◌, if◌then◌else◌, List, [], ◌∷◌, take, drop, Option, Some, None, option_map}
use Rattle.efg_token.specs.Bytes.{is_white, is_in_word}
use Rattle.efg_token.specs.Lexeme.{Lexeme, text, brace_left, brace_right, comma, word}

-- how many bytes of white space stand at the front
abbrev pub gap : List ℕ → ℕ
gap [] = 0
gap (b ∷ bytes) = if is_white b then gap bytes + 1 else 0

-- how many bytes that may stand in a word stand at the front
abbrev pub word_length : List ℕ → ℕ
word_length [] = 0
word_length (b ∷ bytes) = if is_in_word b then word_length bytes + 1 else 0

-- how many bytes stand before the first quote that no backslash stands right before, where `before` is the byte
-- before the bytes; none where there is no such quote
abbrev pub text_length : ℕ → List ℕ → Option ℕ
text_length before [] = None
text_length before (b ∷ bytes) =
    if b == 34 && not (before == 92) then Some 0 else option_map (λ n. n + 1) (text_length b bytes)

-- what stands first in some bytes
pub data Front : Type 0 where
  -- only white space
  blank : Front
  -- a token, and what is left behind it
  found : Lexeme → List ℕ → Front
  -- a text that opens and doesn't end
  unended : Front

-- a text whose opening quote has been taken off, and whose content is that long
abbrev pub closed : List ℕ → Option ℕ → Front
closed bytes None = unended
closed bytes (Some n) = found (text (take n bytes)) (drop (n + 1) bytes)

-- the token that begins with the first byte
abbrev pub opened : List ℕ → Front
opened [] = blank
opened (b ∷ bytes) =
    if b == 34 then closed bytes (text_length 34 bytes)
    else (if b == 123 then found brace_left bytes
    else (if b == 125 then found brace_right bytes
    else (if b == 44 then found comma bytes
    else found (word (take (word_length (b ∷ bytes)) (b ∷ bytes))) (drop (word_length (b ∷ bytes)) (b ∷ bytes)))))

-- the first token behind the white space
abbrev pub front : List ℕ → Front
front bytes = opened (drop (gap bytes) bytes)

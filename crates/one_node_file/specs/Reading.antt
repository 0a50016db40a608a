-- What each step of the reading finds: a value and the bytes behind it, or nothing.
use Rattle.std.specs.Prelude.{◌≡◌, ℕ, Bool, true, false, if◌then◌else◌, nat_eq, List, Option, Some, None, option_and_then, codes}
use Rattle.std.specs.Cmp.Lexicographic.{pointwise}
use Rattle.corr_game.specs.declared.payoffs.Pay.{Pay}
use Rattle.efg_token.specs.Lexeme.{Lexeme, text, brace_left, brace_right, comma, word}
use Rattle.efg_token.specs.Front.{Front, front, blank, found, unended}
use Rattle.one_node_file.specs.Amount.{short_number, amount}

-- a step that found nothing ends the reading
infixl 10 ◌>>=◌
abbrev pub ◌>>=◌ : {A B : Type 0} → Option A → (A → Option B) → Option B
o >>= f = option_and_then f o

-- what the code returned, seen by `view`, and the bytes that it left are what the step finds
abbrev pub Reads : {X Y : Type 0} → (X → Y) → Option X → List ℕ → Option (Y × List ℕ) → Type 0
Reads view None rest step = step ≡ None
Reads view (Some x) rest step = step ≡ Some (view x, rest)

-- the same where the code returns no value
abbrev pub Passes : {X : Type 0} → Option X → List ℕ → Option (List ℕ) → Type 0
Passes None rest step = step ≡ None
Passes (Some x) rest step = step ≡ Some rest

-- the token that was found first, and what is behind it
abbrev pub token_in : Front → Option (Lexeme × List ℕ)
token_in blank = None
token_in (found token rest) = Some (token, rest)
token_in unended = None

-- the token that stands first, and what is behind it
abbrev pub token_at : List ℕ → Option (Lexeme × List ℕ)
token_at bytes = token_in (front bytes)

-- nothing but white space was found
abbrev pub is_blank : Front → Bool
is_blank blank = true
is_blank other = false

-- the kinds of tokens

abbrev pub is_text : Lexeme → Bool
is_text (text content) = true
is_text other = false

abbrev pub is_brace_left : Lexeme → Bool
is_brace_left brace_left = true
is_brace_left other = false

abbrev pub is_brace_right : Lexeme → Bool
is_brace_right brace_right = true
is_brace_right other = false

abbrev pub is_comma : Lexeme → Bool
is_comma comma = true
is_comma other = false

-- this word
abbrev pub is_word : List ℕ → Lexeme → Bool
is_word expected (word bytes) = pointwise nat_eq bytes expected
is_word expected other = false

-- the bytes of a word
abbrev pub word_in : Lexeme → Option (List ℕ)
word_in (word bytes) = Some bytes
word_in other = None

-- behind a token that passes the test
abbrev pub passes_at : (Lexeme → Bool) → List ℕ → Option (List ℕ)
passes_at test bytes = token_at bytes >>= λ it. if test it.0 then Some it.1 else None

-- a word
abbrev pub word_at : List ℕ → Option (List ℕ × List ℕ)
word_at bytes = token_at bytes >>= λ it. word_in it.0 >>= λ bytes. Some (bytes, it.1)

-- the token that stands first, or the one behind it where that is a text
abbrev pub behind_text : List ℕ → Option (Lexeme × List ℕ)
behind_text bytes = token_at bytes >>= λ it. if is_text it.0 then token_at it.1 else Some it

-- the same where it is a comma
abbrev pub behind_comma : List ℕ → Option (Lexeme × List ℕ)
behind_comma bytes = token_at bytes >>= λ it. if is_comma it.0 then token_at it.1 else Some it

-- what stands before the nodes: three words, the title, and the players' names in braces
unfoldable pub header_at : List ℕ → Option (List ℕ)
header_at bytes = do
  a ← passes_at (is_word (codes "EFG")) bytes
  b ← passes_at (is_word (codes "2")) a
  c ← passes_at (is_word (codes "R")) b
  d ← passes_at is_text c
  e ← passes_at is_brace_left d
  f ← passes_at is_text e
  g ← passes_at is_text f
  passes_at is_brace_right g

-- the number of an outcome other than 0
unfoldable pub outcome_at : List ℕ → Option (List ℕ)
outcome_at bytes = do
  it ← word_at bytes
  number ← short_number it.0
  if nat_eq number 0 then None else Some it.1

-- two amounts in braces, behind a text or none
unfoldable pub pays_at : List ℕ → Option (Pay × List ℕ)
pays_at bytes = do
  brace ← behind_text bytes
  it ← if is_brace_left brace.0 then word_at brace.1 else None
  one ← amount it.0
  behind ← behind_comma it.1
  second ← word_in behind.0
  two ← amount second
  rest ← passes_at is_brace_right behind.1
  Some (record { one = one; two = two }, rest)

-- a terminal node, behind a text or none
unfoldable pub leaf_at : List ℕ → Option (Pay × List ℕ)
leaf_at bytes = do
  letter ← behind_text bytes
  name ← if is_word (codes "t") letter.0 then passes_at is_text letter.1 else None
  rest ← outcome_at name
  pays_at rest

-- the payoffs of a file of one terminal node
unfoldable pub first_form_at : List ℕ → Option Pay
first_form_at bytes = do
  nodes ← header_at bytes
  it ← leaf_at nodes
  if is_blank (front it.1) then Some it.0 else None

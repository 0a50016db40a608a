-- Bytes of words: tests of numbers, and a word that stands first is as long as the bytes pass the test.
use Rattle.std.proofs.Common.{◌≡◌, ◌≢◌, ℕ, suc, ◌+◌, ◌<◌, ◌≤◌, ◌==◌, if◌then◌else◌, Bool, true, false, List, [], ◌∷◌, Option, Some, None}
use Rattle.std.proofs.Common.{take, drop, length, All, refl, ap, ◌∙◌, arith}
use Rattle.std.proofs.lemmas.Bool.Decides.{nat_tests}
use Rattle.std.proofs.lemmas.List.Elements.{All-cons, All-nil}
use Rattle.efg_token.specs.Bytes.{is_in_word, is_mark, is_white}
use Rattle.efg_token.specs.Front.{closed, found, front, gap, opened, text_length, word_length}
use Rattle.efg_token.specs.Lexeme.{brace_left, brace_right, comma, word}

pub white_is_no_mark : (byte : ℕ) → is_white byte ≡ true → is_mark byte ≡ false
white_is_no_mark byte e = grind (arith, nat_tests)

pub white_is_low : (byte : ℕ) → is_white byte ≡ true → byte ≤ 32
white_is_low byte e = grind (arith, nat_tests)

pub high_in_word : (byte : ℕ) → 45 ≤ byte → byte ≢ 123 → byte ≢ 125 → is_in_word byte ≡ true
high_in_word byte h left right = grind (arith, nat_tests)

abbrev InWord : ℕ → Type 0
InWord byte = is_in_word byte ≡ true

-- as many bytes as stand in a word, and no other, are taken
taken_in_word : (bytes : List ℕ) → All InWord (take (word_length bytes) bytes)
taken_in_word [] = All-nil InWord
taken_in_word (byte ∷ rest) = by_test (is_in_word byte) refl (taken_in_word rest)
  where
    by_test : (test : Bool) → is_in_word byte ≡ test → All InWord (take (word_length rest) rest)
        → All InWord (take (if test then word_length rest + 1 else 0) (byte ∷ rest))
    by_test true e all =
        let next : word_length rest + 1 ≡ suc (word_length rest) = omega arith in
        rw next (All-cons InWord byte (take (word_length rest) rest) e all)
    by_test false e all = All-nil InWord

some_taken : (byte n : ℕ) (rest : List ℕ) (test : Bool) → test ≡ true → 0 < length (take (if test then n + 1 else 0) (byte ∷ rest))
some_taken byte n rest true e =
    let next : n + 1 ≡ suc n = omega arith in
    rw next (omega arith)
some_taken byte n rest false e = absurd (cc e)

no_text : (bytes : List ℕ) (length_is : Option ℕ) (w rest : List ℕ) → closed bytes length_is ≡ found (word w) rest → ⊥
no_text bytes None w rest e = absurd (cc e)
no_text bytes (Some n) w rest e = absurd (cc e)

-- the five kinds of a token by its first byte
by_tests : (quote left right comma_too : Bool) (byte : ℕ) (bytes w rest : List ℕ)
    → (if quote then closed bytes (text_length 34 bytes)
    else (if left then found brace_left bytes
    else (if right then found brace_right bytes
    else (if comma_too then found comma bytes
    else found (word (take (word_length (byte ∷ bytes)) (byte ∷ bytes))) (drop (word_length (byte ∷ bytes)) (byte ∷ bytes))))))
    ≡ found (word w) rest
    → (w ≡ take (word_length (byte ∷ bytes)) (byte ∷ bytes)) × (quote ≡ false) × (left ≡ false) × (right ≡ false) × (comma_too ≡ false)
by_tests true left right comma_too byte bytes w rest e = absurd (no_text bytes (text_length 34 bytes) w rest e)
by_tests false true right comma_too byte bytes w rest e = absurd (cc e)
by_tests false false true comma_too byte bytes w rest e = absurd (cc e)
by_tests false false false true byte bytes w rest e = absurd (cc e)
by_tests false false false false byte bytes w rest e = (cc e, refl, refl, refl, refl)

first_not_white : (bytes : List ℕ) (byte : ℕ) (rest : List ℕ) → drop (gap bytes) bytes ≡ byte ∷ rest → is_white byte ≡ false
first_not_white [] byte rest e = absurd (cc e)
first_not_white (b ∷ bytes) byte rest e = by_test (is_white b) refl (first_not_white bytes byte rest) e
  where
    by_test : (test : Bool) → is_white b ≡ test → (drop (gap bytes) bytes ≡ byte ∷ rest → is_white byte ≡ false)
        → drop (if test then gap bytes + 1 else 0) (b ∷ bytes) ≡ byte ∷ rest → is_white byte ≡ false
    by_test true white further f =
        let next : suc (gap bytes) ≡ gap bytes + 1 = omega arith in
        further (ap (λ (n : ℕ). drop n (b ∷ bytes)) next ∙ f)
    by_test false black further f =
        let same : b ≡ byte = cc f in
        rw (← same) black

word_opened : (bytes w rest : List ℕ) → ((byte : ℕ) (others : List ℕ) → bytes ≡ byte ∷ others → is_white byte ≡ false)
    → opened bytes ≡ found (word w) rest → (0 < length w) × All InWord w
word_opened [] w rest black e = absurd (cc e)
word_opened (byte ∷ bytes) w rest black e =
    let tests = by_tests (byte == 34) (byte == 123) (byte == 125) (byte == 44) byte bytes w rest e in
    let dark = black byte bytes refl in
    let inside : is_in_word byte ≡ true = grind (arith, nat_tests) in
    let all : All InWord w = rw tests.0 (taken_in_word (byte ∷ bytes)) in
    let some : 0 < length w = rw tests.0 (some_taken byte (word_length bytes) bytes (is_in_word byte) inside) in
    (some, all)

pub words_of_word_bytes : (bytes w rest : List ℕ) → front bytes ≡ found (word w) rest → (0 < length w) × All InWord w
words_of_word_bytes bytes w rest e = word_opened (drop (gap bytes) bytes) w rest (first_not_white bytes) e

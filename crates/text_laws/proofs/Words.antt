-- Words in front of a space or a line feed: two texts that begin with words agree in the words and in what is behind them.
use Rattle.std.proofs.Common.{◌≡◌, ℕ, ◌<◌, ◌≤◌, ◌^◌, Bool, true, ◌&&◌, nat_lt, List, [], ◌∷◌, ◌++◌, get_or, refl, sym, ap, ◌∙◌}
use Rattle.std.proofs.Common.{append_assoc, append-nil, arith}
use Rattle.std.proofs.lemmas.Bool.Decides.{nat_tests}
use Rattle.std.proofs.lemmas.Fmt.{decimal_injective, digits_decimal}
use Rattle.std.proofs.lemmas.Str.Parse.{numerals_by_value, tells_all_ascii_digits}
use Rattle.std.specs.Fmt.{decimal}
use Rattle.std.specs.Str.{all_ascii_digits}

-- no byte is a space or below
abbrev pub is_word : List ℕ → Bool
is_word [] = true
is_word (byte ∷ rest) = nat_lt 32 byte && is_word rest

word_parts : (byte : ℕ) (rest : List ℕ) → is_word (byte ∷ rest) ≡ true → (32 < byte) × (is_word rest ≡ true)
word_parts byte rest e = (grind (arith, nat_tests), grind (arith, nat_tests))

pub words_split : (xs ys a b : List ℕ) → is_word xs ≡ true → is_word ys ≡ true → get_or a 0 0 ≤ 32 → get_or b 0 0 ≤ 32
    → xs ++ a ≡ ys ++ b → (xs ≡ ys) × (a ≡ b)
words_split [] [] a b x y low under e = (refl, e)
words_split [] (byte ∷ ys) a b x y low under e =
    let first : get_or a 0 0 ≡ byte = ap (λ (bs : List ℕ). get_or bs 0 0) e in
    absurd (omega (arith, low, first, (word_parts byte ys y).0))
words_split (byte ∷ xs) [] a b x y low under e =
    let first : byte ≡ get_or b 0 0 = ap (λ (bs : List ℕ). get_or bs 0 0) e in
    absurd (omega (arith, under, first, (word_parts byte xs x).0))
words_split (byte ∷ xs) (other ∷ ys) a b x y low under e =
    let first : byte ≡ other = cc e in
    let behind : xs ++ a ≡ ys ++ b = cc e in
    let rest = words_split xs ys a b (word_parts byte xs x).1 (word_parts other ys y).1 low under behind in
    (cc (first, rest.0), rest.1)

digits_are_words : (ds : List ℕ) → all_ascii_digits ds ≡ true → is_word ds ≡ true
digits_are_words [] e = refl
digits_are_words (d ∷ ds) e =
    let parts = tells_all_ascii_digits.parts d ds e in
    let rest = digits_are_words ds parts.1 in
    let high : 32 < d = omega (arith, parts.0.0) in
    grind (arith, nat_tests)

pub decimals_are_words : (n : ℕ) → n < 2 ^ 64 → is_word (decimal n) ≡ true
decimals_are_words n h =
    digits_are_words (decimal n)
    (digits_decimal (numerals_by_value (λ ds. all_ascii_digits ds ≡ true) tells_all_ascii_digits) n h)

pub numbers_split : (m n : ℕ) (a b : List ℕ) → m < 2 ^ 64 → n < 2 ^ 64 → get_or a 0 0 ≤ 32 → get_or b 0 0 ≤ 32
    → decimal m ++ a ≡ decimal n ++ b → (m ≡ n) × (a ≡ b)
numbers_split m n a b small little low under e =
    let parts = words_split (decimal m) (decimal n) a b (decimals_are_words m small) (decimals_are_words n little) low under e in
    (decimal_injective m n small little parts.0, parts.1)

-- pieces that were added one by one behind a first
abbrev pub added : List ℕ → List (List ℕ) → List ℕ
added first [] = first
added first (piece ∷ rest) = added (first ++ piece) rest

abbrev pub flat : List (List ℕ) → List ℕ
flat [] = []
flat (piece ∷ rest) = piece ++ flat rest

pub added_flat : (first : List ℕ) (rest : List (List ℕ)) → added first rest ≡ first ++ flat rest
added_flat first [] = sym (append-nil first)
added_flat first (piece ∷ rest) = added_flat (first ++ piece) rest ∙ append_assoc first piece (flat rest)

pub added_split : (p q : List ℕ) (xs ys : List (List ℕ)) → is_word p ≡ true → is_word q ≡ true
    → get_or (flat xs) 0 0 ≤ 32 → get_or (flat ys) 0 0 ≤ 32 → added p xs ≡ added q ys → (p ≡ q) × (flat xs ≡ flat ys)
added_split p q xs ys word other low under e =
    words_split p q (flat xs) (flat ys) word other low under (sym (added_flat p xs) ∙ e ∙ added_flat q ys)

-- the pieces in front of a tail
abbrev pub flat_to : List (List ℕ) → List ℕ → List ℕ
flat_to [] tail = tail
flat_to (piece ∷ rest) tail = piece ++ flat_to rest tail

pub regrouped : (first : List ℕ) (rest : List (List ℕ)) (tail : List ℕ) → added first rest ++ tail ≡ first ++ flat_to rest tail
regrouped first [] tail = refl
regrouped first (piece ∷ rest) tail = regrouped (first ++ piece) rest tail ∙ append_assoc first piece (flat_to rest tail)

pub both_regrouped : (p q : List ℕ) (xs ys : List (List ℕ)) (a b : List ℕ) → added p xs ++ a ≡ added q ys ++ b
    → p ++ flat_to xs a ≡ q ++ flat_to ys b
both_regrouped p q xs ys a b e = sym (regrouped p xs a) ∙ e ∙ regrouped q ys b

pub behind_same : (front a b : List ℕ) → front ++ a ≡ front ++ b → a ≡ b
behind_same [] a b e = e
behind_same (byte ∷ front) a b e = behind_same front a b (cc e)

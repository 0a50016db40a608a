-- Words of digits alone, refused sizes, bytes that are left, and the report without blocks.
use Rattle.std.proofs.Common.{◌≡◌, ◌↔◌, ℕ, suc, ◌+◌, ◌<◌, Bool, true, false, not, ◌&&◌, ◌||◌, ◌==◌, nat_lt, List, [], ◌∷◌}
use Rattle.std.proofs.Common.{◌++◌, drop, length, refl, sym, ap, ◌∙◌, arith}
use Rattle.std.proofs.lemmas.Bool.{eq-eqb, eqb-true}
use Rattle.std.proofs.lemmas.Bool.Decides.{nat_tests}
use Rattle.std.proofs.lemmas.List.{drop-drop}
use Rattle.std.specs.Char.{is_ascii_digit}
use Rattle.corr_game.specs.declared.payoffs.Pay.{Pay}
use Rattle.command_words.specs.declared.commands.Notions.{Notions}
use Rattle.corr_run.specs.OneNode.{block_if, one_node_report}
use Rattle.efg_token.specs.Cursor.{left}
use Rattle.game_gen.specs.declared.kinds.GenRefusal.TheVariants.{NoMemory, TooLarge}
use Rattle.game_gen.specs.declared.kinds.Kind.{Kind}
use Rattle.game_gen.specs.GameText.{greatest}
use Rattle.game_gen.specs.Refused.{IsRefused}
use Rattle.number_words.specs.Words.{digit_count, is_digits, is_magnitude, is_number, is_whole}

-- ---- words of digits

-- the first byte is a digit, and the others are digits
first_digit : (b : ℕ) (word : List ℕ) → is_digits (b ∷ word) ≡ true → (is_ascii_digit b ≡ true) × (is_digits word ≡ true)
first_digit b word h = by (is_ascii_digit b) refl (eqb-true (digit_count (b ∷ word)) (length (b ∷ word)) h)
  where
    by : (t : Bool) → is_ascii_digit b ≡ t → digit_count (b ∷ word) ≡ length (b ∷ word) → (is_ascii_digit b ≡ true) × (is_digits word ≡ true)
    by true e count =
        let here : digit_count word + 1 ≡ suc (length word) = rw e at count in
        (e, eq-eqb (digit_count word) (length word) (omega (arith, here)))
    by false e count = let here : 0 ≡ suc (length word) = rw e at count in absurd (omega (arith, here))

one_more : (b : ℕ) (word : List ℕ) → is_ascii_digit b ≡ true → is_digits word ≡ true → is_digits (b ∷ word) ≡ true
one_more b word e h =
    let count = eqb-true (digit_count word) (length word) h in
    eq-eqb (digit_count (b ∷ word)) (length (b ∷ word)) (rw e (omega (arith, count)))

pub digits_joined : (front behind : List ℕ) → is_digits front ≡ true → is_digits behind ≡ true → is_digits (front ++ behind) ≡ true
digits_joined [] behind h k = k
digits_joined (b ∷ front) behind h k =
    let parts = first_digit b front h in one_more b (front ++ behind) parts.0 (digits_joined front behind parts.1 k)

pub digits_behind : (front behind : List ℕ) → is_digits (front ++ behind) ≡ true → is_digits behind ≡ true
digits_behind [] behind h = h
digits_behind (b ∷ front) behind h = digits_behind front behind (first_digit b (front ++ behind) h).1

nothing_left : (word : List ℕ) → drop (length word) word ≡ []
nothing_left [] = refl
nothing_left (b ∷ word) = nothing_left word

no_sign : (b : ℕ) → is_ascii_digit b ≡ true → (b == 43 || b == 45) ≡ false
no_sign b e = grind (arith, nat_tests)

digits_magnitude : (b : ℕ) (word : List ℕ) → is_digits (b ∷ word) ≡ true → is_magnitude (b ∷ word) ≡ true
digits_magnitude b word h =
    let count = eqb-true (digit_count (b ∷ word)) (length (b ∷ word)) h in
    let some : nat_lt 0 (length (b ∷ word)) ≡ true = grind (arith, nat_tests) in
    rw (count, nothing_left word) some

pub whole_number : (word : List ℕ) → is_whole word ≡ true → is_number word ≡ true
whole_number [] h = absurd (cc)
whole_number (b ∷ word) h =
    let digits = second_true (not (length (b ∷ word) == 0)) (is_digits (b ∷ word)) h in
    let parts = first_digit b word digits in
    rw (no_sign b parts.0) (digits_magnitude b word digits)
  where
    second_true : (s t : Bool) → s && t ≡ true → t ≡ true
    second_true true t e = e
    second_true false t e = absurd (cc)

-- ---- sizes, places, reports

pub one_limit : (kind : Kind) (n a b : ℕ) → IsRefused kind n (TooLarge a) → IsRefused kind n (TooLarge b) → a ≡ b
one_limit kind n a b x y = x.1 ∙ sym y.1

pub not_both : (kind : Kind) (n a : ℕ) → IsRefused kind n (TooLarge a) → IsRefused kind n NoMemory → ⊥
not_both kind n a x y = omega (arith, x.0, y)

pub refused_where : (kind : Kind) (n : ℕ) → IsRefused kind n (TooLarge (greatest kind)) ↔ (greatest kind < n)
refused_where kind n = (λ h. h.0, λ h. (h, refl))

pub none_left : (bytes : List ℕ) → left (record { bytes = bytes; at = length bytes }) ≡ []
none_left bytes = nothing_left bytes

dropped_twice : (bytes : List ℕ) (at more : ℕ) → drop (at + more) bytes ≡ drop more (drop at bytes)
dropped_twice bytes at more = sym (drop-drop more at bytes ∙ ap (λ (n : ℕ). drop n bytes) (omega arith))

pub fewer_left : (bytes : List ℕ) (at more : ℕ)
    → left (record { bytes = bytes; at = at + more }) ≡ drop more (left (record { bytes = bytes; at = at }))
fewer_left bytes at more = dropped_twice bytes at more

pub no_payoff : (notions : Notions) (a b : Pay) → notions.efce ≡ false → notions.efcce ≡ false → notions.nfcce ≡ false
    → one_node_report notions a ≡ one_node_report notions b
unfolding one_node_report block_if
no_payoff notions a b e f h = rw (e, f, h) refl

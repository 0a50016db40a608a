-- Which tokens lead from a state to the next one. Each lemma takes a fact for the tokens that do, and gives it for the
-- token that did.
use Rattle.std.proofs.Common.{◌≡◌, ℕ, Bool, true, false, cond, List, Option, Some, None, refl, ap, sym, subst}
use Rattle.std.specs.Prelude.{codes, nat_eq}
use Rattle.std.specs.Cmp.Lexicographic.{pointwise}
use Rattle.std.proofs.lemmas.Slice.Eq.{bytes_eq-Decides}
use Rattle.efg_token.specs.Lexeme.{Lexeme, text, brace_left, brace_right, comma, word}
use Rattle.efg_lines.specs.declared.state.Letter.TheVariants as letter
use Rattle.efg_lines.specs.declared.state.State.{State}
use Rattle.efg_lines.specs.declared.state.State.TheVariants.{Name}
use Rattle.efg_lines.specs.Grammar.{Whole, Number}
use Rattle.efg_lines.specs.Machine.{behind_word, behind_text, behind_brace, behind_whole, behind_number, behind_line, in_list}
use Rattle.number_words.specs.Words.{is_whole, is_number}

some_or : State → Option State → State
some_or s None = s
some_or s (Some t) = t

-- the same state
pub moved : (P : State → Type 0) (a b : State) → P a → Some a ≡ Some b → P b
unfolding some_or
moved P a b p e = subst P (ap (some_or a) e) p

-- behind a test
tested : (P : State → Type 0) (test : Bool) (a b : State) → (test ≡ true → P a) → cond test (Some a) None ≡ Some b → P b
tested P true a b p e = moved P a b (p refl) e
tested P false a b p e = absurd (cc)

-- a word whose bytes passed a test of equality
same_word : (P : Lexeme → Type 0) (bytes expected : List ℕ) → P (word expected) → pointwise nat_eq bytes expected ≡ true → P (word bytes)
same_word P bytes expected p same = subst (λ (b : List ℕ). P (word b)) (sym ((bytes_eq-Decides bytes expected).0 same)) p

pub by_word : (P : Lexeme → State → Type 0) (expected : List ℕ) (token : Lexeme) (to next : State) → P (word expected) to
    → behind_word to token expected ≡ Some next → P token next
by_word P expected (word bytes) to next p e =
    tested (P (word bytes)) (pointwise nat_eq bytes expected) to next (same_word (λ w. P w to) bytes expected p) e
by_word P expected (text content) to next p e = absurd (cc)
by_word P expected brace_left to next p e = absurd (cc)
by_word P expected brace_right to next p e = absurd (cc)
by_word P expected comma to next p e = absurd (cc)

pub by_text : (P : Lexeme → State → Type 0) (token : Lexeme) (to next : State) → ((content : List ℕ) → P (text content) to)
    → behind_text to token ≡ Some next → P token next
by_text P (text content) to next p e = moved (P (text content)) to next (p content) e
by_text P (word bytes) to next p e = absurd (cc)
by_text P brace_left to next p e = absurd (cc)
by_text P brace_right to next p e = absurd (cc)
by_text P comma to next p e = absurd (cc)

pub by_brace : (P : Lexeme → State → Type 0) (token : Lexeme) (to next : State) → P brace_left to
    → behind_brace to token ≡ Some next → P token next
by_brace P brace_left to next p e = moved (P brace_left) to next p e
by_brace P (word bytes) to next p e = absurd (cc)
by_brace P (text content) to next p e = absurd (cc)
by_brace P brace_right to next p e = absurd (cc)
by_brace P comma to next p e = absurd (cc)

pub by_whole : (P : Lexeme → State → Type 0) (token : Lexeme) (to next : State) → ((w : Whole) → P (word w.bytes) to)
    → behind_whole to token ≡ Some next → P token next
by_whole P (word bytes) to next p e =
    tested (P (word bytes)) (is_whole bytes) to next (λ yes. p (record { bytes = bytes; of_digits = yes })) e
by_whole P (text content) to next p e = absurd (cc)
by_whole P brace_left to next p e = absurd (cc)
by_whole P brace_right to next p e = absurd (cc)
by_whole P comma to next p e = absurd (cc)

pub by_number : (P : Lexeme → State → Type 0) (token : Lexeme) (to next : State) → ((n : Number) → P (word n.bytes) to)
    → behind_number to token ≡ Some next → P token next
by_number P (word bytes) to next p e =
    tested (P (word bytes)) (is_number bytes) to next (λ yes. p (record { bytes = bytes; well_formed = yes })) e
by_number P (text content) to next p e = absurd (cc)
by_number P brace_left to next p e = absurd (cc)
by_number P brace_right to next p e = absurd (cc)
by_number P comma to next p e = absurd (cc)

pub by_list : (P : Lexeme → State → Type 0) (token : Lexeme) (item end next : State)
    → ((content : List ℕ) → P (text content) item) → P brace_right end → in_list item end token ≡ Some next → P token next
by_list P (text content) item end next p q e = moved (P (text content)) item next (p content) e
by_list P brace_right item end next p q e = moved (P brace_right) end next q e
by_list P (word bytes) item end next p q e = absurd (cc)
by_list P brace_left item end next p q e = absurd (cc)
by_list P comma item end next p q e = absurd (cc)

-- one of three words, or another
letters : (P : State → Type 0) (c p t : Bool) (a b d next : State) → (c ≡ true → P a) → (p ≡ true → P b) → (t ≡ true → P d)
    → cond c (Some a) (cond p (Some b) (cond t (Some d) None)) ≡ Some next → P next
letters P true p t a b d next x y z e = moved P a next (x refl) e
letters P false true t a b d next x y z e = moved P b next (y refl) e
letters P false false true a b d next x y z e = moved P d next (z refl) e
letters P false false false a b d next x y z e = absurd (cc)

pub by_line : (P : Lexeme → State → Type 0) (token : Lexeme) (next : State) → P (word (codes "c")) (Name letter.Chance)
    → P (word (codes "p")) (Name letter.Player) → P (word (codes "t")) (Name letter.Leaf) → behind_line token ≡ Some next → P token next
by_line P (word bytes) next x y z e =
    let is = pointwise nat_eq bytes in
    letters (P (word bytes)) (is (codes "c")) (is (codes "p")) (is (codes "t")) (Name letter.Chance) (Name letter.Player)
    (Name letter.Leaf) next
    (same_word (λ w. P w (Name letter.Chance)) bytes (codes "c") x)
    (same_word (λ w. P w (Name letter.Player)) bytes (codes "p") y)
    (same_word (λ w. P w (Name letter.Leaf)) bytes (codes "t") z) e
by_line P (text content) next x y z e = absurd (cc)
by_line P brace_left next x y z e = absurd (cc)
by_line P brace_right next x y z e = absurd (cc)
by_line P comma next x y z e = absurd (cc)

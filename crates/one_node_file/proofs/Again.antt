-- What has the first form is read. A step finds the token that stands first, and so, one step after the other, all.
use Rattle.std.proofs.Common.{◌≡◌, ℕ, ◌<◌, Bool, true, false, List, [], ◌∷◌, ◌++◌, Option, Some, None, refl, arith}
use Rattle.std.specs.Prelude.{codes, nat_eq}
use Rattle.std.proofs.lemmas.Bool.Decides.{nat_tests}
use Rattle.corr_game.specs.declared.payoffs.Pay.{Pay}
use Rattle.efg_token.specs.Front.{front, found, blank}
use Rattle.efg_token.specs.Lexeme.{Lexeme, text, brace_left, brace_right, word}
use Rattle.efg_token.specs.Tokens.{AreTokens}
use Rattle.one_node_file.specs.Amount.{short_number}
use Rattle.one_node_file.specs.FirstForm.{Parts, Says, header, pays, tokens, text_or_none, comma_or_none}
use Rattle.one_node_file.specs.Reading.{passes_at, word_at, behind_text, behind_comma, is_text, is_comma, is_brace_right, header_at, outcome_at, pays_at, leaf_at, first_form_at}

passes : (test : Lexeme → Bool) (bytes : List ℕ) (token : Lexeme) (rest : List ℕ) → front bytes ≡ found token rest → test token ≡ true → passes_at test bytes ≡ Some rest
passes test bytes token rest first passed = rw (first, passed)

word_again : (bytes content rest : List ℕ) → front bytes ≡ found (word content) rest → word_at bytes ≡ Some (content, rest)
word_again bytes content rest first = rw first

behind_text_again : (content : Option (List ℕ)) (bytes : List ℕ) (token : Lexeme) (ts : List Lexeme) → is_text token ≡ false → AreTokens bytes (text_or_none content ++ token ∷ ts) → (rest : List ℕ) × (behind_text bytes ≡ Some (token, rest)) × AreTokens rest ts
behind_text_again None bytes token ts other are = (are.0, rw (are.1, other), are.2)
behind_text_again (Some content) bytes token ts other are = (are.2.0, rw (are.1, are.2.1), are.2.2)

behind_comma_again : (has_comma : Bool) (bytes : List ℕ) (token : Lexeme) (ts : List Lexeme) → is_comma token ≡ false → AreTokens bytes (comma_or_none has_comma ++ token ∷ ts) → (rest : List ℕ) × (behind_comma bytes ≡ Some (token, rest)) × AreTokens rest ts
behind_comma_again false bytes token ts other are = (are.0, rw (are.1, other), are.2)
behind_comma_again true bytes token ts other are = (are.2.0, rw (are.1, are.2.1), are.2.2)

header_again : (p : Parts) (bytes : List ℕ) (ts : List Lexeme) → AreTokens bytes (header p ++ ts) → (rest : List ℕ) × (header_at bytes ≡ Some rest) × AreTokens rest ts
unfolding header_at
header_again p bytes ts a =
    let b = a.2 in
    let c = b.2 in
    let d = c.2 in
    let e = d.2 in
    let f = e.2 in
    let g = f.2 in
    let h = g.2 in
    (h.0, rw (a.1, b.1, c.1, d.1, e.1, f.1, g.1, h.1), h.2)

outcome_again : (number : ℕ) (bytes content rest : List ℕ) → front bytes ≡ found (word content) rest → short_number content ≡ Some number → 0 < number → outcome_at bytes ≡ Some rest
unfolding outcome_at
outcome_again number bytes content rest first value positive =
    let other : nat_eq number 0 ≡ false = grind (arith, nat_tests) in
    rw (word_again bytes content rest first, value, other)

pays_again : (p : Parts) (pay : Pay) (bytes : List ℕ) → Says p pay → AreTokens bytes (text_or_none p.outcome_name ++ pays p) → (rest : List ℕ) × (pays_at bytes ≡ Some (pay, rest)) × (front rest ≡ blank)
unfolding pays_at
pays_again p pay bytes says are =
    let a = behind_text_again p.outcome_name bytes brace_left (word p.first ∷ comma_or_none p.has_comma ++ (word p.second ∷ brace_right ∷ [])) refl are in
    let b = behind_comma_again p.has_comma a.2.0 (word p.second) (brace_right ∷ []) refl a.2.2 in
    (b.2.0, rw (a.1, word_again a.0 p.first a.2.0 a.2.1, says.one, b.1, says.two, passes is_brace_right b.0 brace_right b.2.0 b.2.1 refl), b.2.2)

leaf_again : (p : Parts) (pay : Pay) (bytes : List ℕ) → Says p pay → AreTokens bytes (text_or_none p.comment ++ (word (codes "t") ∷ text p.node ∷ word p.outcome ∷ text_or_none p.outcome_name ++ pays p)) → (rest : List ℕ) × (leaf_at bytes ≡ Some (pay, rest)) × (front rest ≡ blank)
unfolding leaf_at
leaf_again p pay bytes says are =
    let a = behind_text_again p.comment bytes (word (codes "t")) (text p.node ∷ word p.outcome ∷ text_or_none p.outcome_name ++ pays p) refl are in
    let name = passes is_text a.0 (text p.node) a.2.0 a.2.1 refl in
    let outcome = outcome_again says.number a.2.0 p.outcome a.2.2.0 a.2.2.1 says.outcome says.not_null in
    let b = pays_again p pay a.2.2.0 says a.2.2.2 in
    (b.0, rw (a.1, name, outcome, b.1), b.2)

-- a file of the first form is read as such
pub read_again : (p : Parts) (pay : Pay) (bytes : List ℕ) → Says p pay → AreTokens bytes (tokens p) → first_form_at bytes ≡ Some pay
unfolding first_form_at
read_again p pay bytes says are =
    let a = header_again p bytes (text_or_none p.comment ++ (word (codes "t") ∷ text p.node ∷ word p.outcome ∷ text_or_none p.outcome_name ++ pays p)) are in
    let b = leaf_again p pay a.0 says a.2 in
    rw (a.1, b.1, b.2)

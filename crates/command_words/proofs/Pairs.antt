-- The words from a place on: a pair, and the words behind it.
use Rattle.std.proofs.Common.{◌≡◌, ℕ, ◌+◌, ◌<◌, List, [], ◌∷◌, drop, get_or, length, map, sym, subst, ap, ◌∙◌, arith, suc, zero}
use Rattle.std.proofs.Math.Seq.{drop-cons, drop-length}
use Rattle.command_words.specs.declared.options.Given.{Given}
use Rattle.command_words.specs.Options.{Give, TakesPair}

-- a word of the list by its bytes
pub word_at : {A : Type 0} (view : A → List ℕ) (words : List A) (k : ℕ) (word : A) → k < length words → word ≡ get_or words k word → get_or (map view words) k [] ≡ view word
word_at view [] k word within at = absurd (omega (arith, within))
word_at view (x ∷ words) zero word within at = ap view (sym at)
word_at view (x ∷ words) (suc k) word within at = word_at view words k word (omega (arith, within)) at

pair_at : (words : List (List ℕ)) (at : ℕ) → at + 1 < length words → drop at words ≡ get_or words at [] ∷ get_or words (at + 1) [] ∷ drop (at + 2) words
pair_at words at within =
    let one : at + 1 ≡ suc at = omega arith in
    let two : at + 2 ≡ suc (suc at) = omega arith in
    rw (one, two) (drop-cons words at [] (omega arith) ∙ ap (λ (ws : List (List ℕ)). get_or words at [] ∷ ws) (drop-cons words (suc at) [] (omega arith)))

pub give_pair : (before after : Given) (words : List (List ℕ)) (at : ℕ) → at + 1 < length words → Give before (drop at words) after
    → (next : Given) × TakesPair before (get_or words at []) (get_or words (at + 1) []) next × Give next (drop (at + 2) words) after
give_pair before after words at within p = subst (λ (ws : List (List ℕ)). Give before ws after) (pair_at words at within) p

pub give_more : (before next after : Given) (words : List (List ℕ)) (at : ℕ) → at + 1 < length words
    → TakesPair before (get_or words at []) (get_or words (at + 1) []) next → Give next (drop (at + 2) words) after → Give before (drop at words) after
give_more before next after words at within pair p = subst (λ (ws : List (List ℕ)). Give before ws after) (sym (pair_at words at within)) (next, pair, p)

-- a word without a value gives nothing
pub alone : (before after : Given) (words : List (List ℕ)) (at : ℕ) → at + 1 ≡ length words → Give before (drop at words) after → ⊥
alone before after words at last p =
    let end : suc at ≡ length words = omega (arith, last) in
    let one : drop at words ≡ get_or words at [] ∷ [] = drop-cons words at [] (omega arith) ∙ ap (λ (ws : List (List ℕ)). get_or words at [] ∷ ws) (ap (λ (k : ℕ). drop k words) end ∙ drop-length words) in
    subst (λ (ws : List (List ℕ)). Give before ws after) one p

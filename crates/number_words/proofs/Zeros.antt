-- The zeros at the end of digits, from the last to the first.
use Rattle.std.proofs.Common.{◌≡◌, ℕ, zero, suc, ◌+◌, ◌-◌, ◌<◌, ◌≤◌, eqb, get_or, take, length, List, [], ◌∷◌, ◌++◌, refl, sym, ap, ◌∙◌, arith}
use Rattle.std.proofs.lemmas.Bool.{ne_eqb, and_right}
use Rattle.std.proofs.lemmas.List.{take_more, length_push}
use Rattle.number_words.specs.Value.{without_last_zeros}

-- one zero more
zero_more : (xs : List ℕ) → without_last_zeros (xs ++ 48 ∷ []) ≡ without_last_zeros xs
zero_more [] = refl
zero_more (x ∷ xs) = rw (zero_more xs) refl

-- a digit that is no zero keeps all before it
other_last : (xs : List ℕ) (x : ℕ) → (x ≡ 48 → ⊥) → without_last_zeros (xs ++ x ∷ []) ≡ xs ++ x ∷ []
other_last [] x other = rw (ne_eqb x 48 other) refl
other_last (y ∷ xs) x other =
    let rest = other_last xs x other in
    let some = ne_eqb (length (xs ++ x ∷ [])) 0 (λ e. absurd (omega (arith, e, length_push xs x))) in
    rw (rest, and_right (eqb y 48) (eqb (length (xs ++ x ∷ [])) 0) some) refl

pub zero_dropped : (xs : List ℕ) (i d : ℕ) → i < length xs → get_or xs i d ≡ 48 → without_last_zeros (take (i + 1) xs) ≡ without_last_zeros (take i xs)
zero_dropped xs i d within is = ap without_last_zeros (take_more xs i d within ∙ ap (λ (x : ℕ). take i xs ++ x ∷ []) is) ∙ zero_more (take i xs)

-- the loop ends at a digit that is no zero, or at none
pub none_dropped : (xs : List ℕ) (end d : ℕ) → 0 < end → end ≤ length xs → (get_or xs (end - 1) d ≡ 48 → ⊥) → without_last_zeros (take end xs) ≡ without_last_zeros xs → take end xs ≡ without_last_zeros xs
none_dropped xs end d some within other zeros =
    let back : end - 1 + 1 ≡ end = omega (arith, some) in
    let split : take end xs ≡ take (end - 1) xs ++ get_or xs (end - 1) d ∷ [] = ap (λ (n : ℕ). take n xs) (sym back) ∙ take_more xs (end - 1) d (omega (arith, some, within)) in
    split ∙ sym (other_last (take (end - 1) xs) (get_or xs (end - 1) d) other) ∙ ap without_last_zeros (sym split) ∙ zeros

pub all_dropped : (xs : List ℕ) (end : ℕ) → end ≤ 0 → without_last_zeros (take end xs) ≡ without_last_zeros xs → take end xs ≡ without_last_zeros xs
all_dropped xs zero none zeros = zeros
all_dropped xs (suc end) none zeros = absurd (omega arith)

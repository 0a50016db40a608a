-- The nodes above a place are kept with the nearest last: a node comes at the end, and its parent waits for one kid less.
use Rattle.std.proofs.Common.{◌≡◌, ℕ, ◌-◌, ◌<◌, ◌≤◌, get_or, set, List, [], ◌∷◌, ◌++◌, length, reverse, refl, ap, sym, ◌∙◌, arith}
use Rattle.std.proofs.lemmas.List.{length_push, reverse-append, nil_from_length}
use Rattle.efg_reader.specs.Above.{above_next, without_complete}

reverse_push : (xs : List ℕ) (x : ℕ) → reverse (xs ++ x ∷ []) ≡ x ∷ reverse xs
reverse_push xs x = reverse-append xs (x ∷ [])

-- a list is empty or has a last element
record Ends (xs : List ℕ) : Type 0 where
  front : List ℕ
  last : ℕ
  is : xs ≡ front ++ last ∷ []

ends : (xs : List ℕ) → 0 < length xs → Ends xs
ends [] some = absurd (omega arith)
ends (x ∷ []) some = record { front = []; last = x; is = refl }
ends (x ∷ y ∷ xs) some =
    let more = ends (y ∷ xs) (omega arith) in
    record { front = x ∷ more.front; last = more.last; is = ap (λ (ys : List ℕ). x ∷ ys) more.is }

-- the element before the last
before_last : (front : List ℕ) (waits kids d : ℕ) → get_or ((front ++ waits ∷ []) ++ kids ∷ []) (length front) d ≡ waits
before_last [] waits kids d = refl
before_last (x ∷ front) waits kids d = before_last front waits kids d

set_before_last : (front : List ℕ) (waits kids v : ℕ) → set ((front ++ waits ∷ []) ++ kids ∷ []) (length front) v ≡ (front ++ v ∷ []) ++ kids ∷ []
set_before_last [] waits kids v = refl
set_before_last (x ∷ front) waits kids v = ap (λ (ys : List ℕ). x ∷ ys) (set_before_last front waits kids v)

above_more : (front : List ℕ) (waits kids : ℕ) → without_complete (reverse ((front ++ (waits - 1) ∷ []) ++ kids ∷ [])) ≡ above_next (reverse (front ++ waits ∷ [])) kids
above_more front waits kids =
    ap without_complete (reverse_push (front ++ (waits - 1) ∷ []) kids ∙ ap (λ (ys : List ℕ). kids ∷ ys) (reverse_push front (waits - 1)))
    ∙ ap (λ (ys : List ℕ). above_next ys kids) (sym (reverse_push front waits))

-- below another node
pub placed_below : (old pushed lowered : List ℕ) (kids at waits : ℕ) → 0 < at → at ≡ length old → pushed ≡ old ++ kids ∷ [] → waits ≡ get_or pushed (at - 1) waits → lowered ≡ set pushed (at - 1) (waits - 1)
    → without_complete (reverse lowered) ≡ above_next (reverse old) kids
placed_below old pushed lowered kids at waits some count push is lower =
    let split = ends old (omega arith) in
    let whole : pushed ≡ (split.front ++ split.last ∷ []) ++ kids ∷ [] = push ∙ ap (λ (xs : List ℕ). xs ++ kids ∷ []) split.is in
    let place : at - 1 ≡ length split.front = omega (arith, ap (λ (xs : List ℕ). length xs) split.is, length_push split.front split.last) in
    let found : waits ≡ split.last = is ∙ ap (λ (xs : List ℕ). get_or xs (at - 1) waits) whole ∙ ap (λ (k : ℕ). get_or ((split.front ++ split.last ∷ []) ++ kids ∷ []) k waits) place ∙ before_last split.front split.last kids waits in
    let now : lowered ≡ (split.front ++ (split.last - 1) ∷ []) ++ kids ∷ [] =
    lower ∙ ap (λ (xs : List ℕ). set xs (at - 1) (waits - 1)) whole ∙ ap (λ (k : ℕ). set ((split.front ++ split.last ∷ []) ++ kids ∷ []) k (waits - 1)) place
    ∙ set_before_last split.front split.last kids (waits - 1) ∙ ap (λ (w : ℕ). (split.front ++ (w - 1) ∷ []) ++ kids ∷ []) found in
    ap (λ (xs : List ℕ). without_complete (reverse xs)) now ∙ above_more split.front split.last kids ∙ ap (λ (xs : List ℕ). above_next (reverse xs) kids) (sym split.is)

-- at the root
pub placed_first : (old pushed : List ℕ) (kids at : ℕ) → at ≤ 0 → at ≡ length old → pushed ≡ old ++ kids ∷ [] → without_complete (reverse pushed) ≡ above_next (reverse old) kids
placed_first old pushed kids at none count push =
    let empty : old ≡ [] = nil_from_length old (omega arith) in
    rw (push, empty) refl

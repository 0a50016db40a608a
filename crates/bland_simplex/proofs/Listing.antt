-- Ascending lists of the same numbers are equal.
use Rattle.std.proofs.Common.{◌≡◌, ℕ, zero, suc, ◌<◌, ◌≤◌, List, [], ◌∷◌, Some, slice_get, ap, refl, subst, sym, ◌∙◌, arith}
use Rattle.int_tableau.specs.Content.{Content}
use Rattle.bland_simplex.specs.Reachable.{ListsBasis}

abbrev Ascending : List ℕ → Type 0
Ascending xs = (j k one other : ℕ) → j < k → slice_get xs j ≡ Some one → slice_get xs k ≡ Some other → one < other

abbrev AreAmong : List ℕ → List ℕ → Type 0
AreAmong xs ys = (k one : ℕ) → slice_get xs k ≡ Some one → (j : ℕ) × (slice_get ys j ≡ Some one)

-- the head of one list isn't above that of another one among which it stands
head_low : (x y : ℕ) (xs ys : List ℕ) → Ascending (y ∷ ys) → AreAmong (x ∷ xs) (y ∷ ys) → y ≤ x
head_low x y xs ys up among = by (among 0 x refl)
  where
    by : (j : ℕ) × (slice_get (y ∷ ys) j ≡ Some x) → y ≤ x
    by (zero, at) = let same : y ≡ x = cc in omega (arith, same)
    by (suc j, at) = let below = up 0 (suc j) y x (omega arith) refl at in omega (arith, below)

rest_among : (x : ℕ) (xs ys : List ℕ) → Ascending (x ∷ xs) → AreAmong (x ∷ xs) (x ∷ ys) → AreAmong xs ys
rest_among x xs ys up among k one at = by (among (suc k) one at)
  where
    by : (j : ℕ) × (slice_get (x ∷ ys) j ≡ Some one) → (j : ℕ) × (slice_get ys j ≡ Some one)
    by (zero, at_head) = let same : x ≡ one = cc in let above = up 0 (suc k) x one (omega arith) refl at in absurd
        (omega (arith, same, above))
    by (suc j, there) = (j, there)

tail_up : (x : ℕ) (xs : List ℕ) → Ascending (x ∷ xs) → Ascending xs
tail_up x xs up j k one other before at there = up (suc j) (suc k) one other (omega arith) at there

pub ascending_alike : (xs ys : List ℕ) → Ascending xs → Ascending ys → AreAmong xs ys → AreAmong ys xs → xs ≡ ys
ascending_alike [] [] up rise among back = refl
ascending_alike [] (y ∷ ys) up rise among back = let found = back 0 y refl in let none = found.1 in absurd (cc)
ascending_alike (x ∷ xs) [] up rise among back = let found = among 0 x refl in let none = found.1 in absurd (cc)
ascending_alike (x ∷ xs) (y ∷ ys) up rise among back =
    let low = head_low x y xs ys rise among in
    let high = head_low y x ys xs up back in
    let heads : x ≡ y = omega (arith, low, high) in
    let into = subst (λ (z : ℕ). AreAmong (x ∷ xs) (z ∷ ys)) (sym heads) among in
    let from = subst (λ (z : ℕ). AreAmong (z ∷ ys) (x ∷ xs)) (sym heads) back in
    let rise_too = subst (λ (z : ℕ). Ascending (z ∷ ys)) (sym heads) rise in
    let tails = ascending_alike xs ys (tail_up x xs up) (tail_up y ys rise) (rest_among x xs ys up into)
    (rest_among x ys xs rise_too from) in
    rw (heads, tails) refl

pub listed_alike : (t : Content) (one other : List ℕ) → ListsBasis one t → ListsBasis other t → one ≡ other
listed_alike t one other first second = ascending_alike one other first.ascending second.ascending (into one other first second)
    (into other one second first)
  where
    into : (xs ys : List ℕ) → ListsBasis xs t → ListsBasis ys t → AreAmong xs ys
    into xs ys from to k col at =
        let found = from.basic k col at in
        let there = to.all found.0 found.1 in
        (there.0, there.1 ∙ ap (λ c. Some c) found.2)

-- Round a belt each corner is left once: the number of changes so far is the corner's number, until the belt is back at corner 0.
use Rattle.std.proofs.Common.{◌≡◌, ◌≢◌, ◌⊎◌, inl, inr, ℕ, zero, suc, ◌+◌, ◌<◌, ◌≤◌, cond, eqb, ltb, eq-eqb, ne_eqb, List, [], ◌∷◌, length, slice_get, Some, refl, sym, ◌∙◌, ap, subst, arith}
use Rattle.std.proofs.lemmas.Bool.{cases_eq, cases_lt, cond-true, cond-false, lt-ltb, le-ltb}
use Rattle.plane_hull.specs.declared.sides.SideRow.{SideRow}
use Rattle.plane_hull.specs.Belt.{changes_from}

-- 1 where two corners differ
abbrev pub change : ℕ → ℕ → ℕ
change c d = cond (eqb c d) 0 1

pub no_change : (c d : ℕ) → c ≡ d → change c d ≡ 0
no_change c d same = cond-true (eqb c d) 0 1 (eq-eqb c d same)

pub one_change : (c d : ℕ) → c ≢ d → change c d ≡ 1
one_change c d apart = cond-false (eqb c d) 0 1 (ne_eqb c d apart)

pub change_cases : (c d : ℕ) → ((c ≡ d) × (change c d ≡ 0)) ⊎ ((c ≢ d) × (change c d ≡ 1))
change_cases c d = by (cases_eq c d)
  where
    by : (c ≡ d) ⊎ (c ≡ d → ⊥) → ((c ≡ d) × (change c d ≡ 0)) ⊎ ((c ≢ d) × (change c d ≡ 1))
    by (inl same) = inl (same, no_change c d same)
    by (inr apart) = inr (apart, one_change c d apart)

-- how often f changes up to k
unfoldable pub count : (ℕ → ℕ) → ℕ → ℕ
count f zero = 0
count f (suc k) = count f k + change (f k) (f (suc k))

pub count_more : (f : ℕ → ℕ) (k : ℕ) → count f (suc k) ≡ count f k + change (f k) (f (suc k))
unfolding count
count_more f k = refl

pub count_none : (f : ℕ → ℕ) → count f 0 ≡ 0
unfolding count
count_none f = refl

count_first : (f : ℕ → ℕ) (k : ℕ) → count f (suc k) ≡ change (f 0) (f 1) + count (λ i. f (suc i)) k
unfolding count
count_first f zero = omega arith
count_first f (suc k) = let before = count_first f k in omega arith

count_same : (f g : ℕ → ℕ) (k : ℕ) → ((i : ℕ) → i ≤ k → f i ≡ g i) → count f k ≡ count g k
unfolding count
count_same f g zero same = refl
count_same f g (suc k) same =
    let before = count_same f g k (λ i low. same i (omega arith)) in
    let here : change (f k) (f (suc k)) ≡ change (g k) (g (suc k)) = rw (same k (omega arith), same (suc k) (omega arith)) refl in
    omega arith

-- changes from side to side of a list
changes_count : (x : ℕ) (xs : List SideRow) (f : ℕ → ℕ) → f 0 ≡ x → ((k : ℕ) (s : SideRow) → slice_get xs k ≡ Some s → f (suc k) ≡ s.corner)
    → changes_from x xs ≡ count f (length xs)
changes_count x [] f start same = sym (count_none f)
changes_count x (y ∷ ys) f start same =
    let rest = changes_count y.corner ys (λ i. f (suc i)) (same 0 y refl) (λ k s at. same (suc k) s at) in
    let first = count_first f (length ys) in
    let here : change (f 0) (f 1) ≡ change x y.corner = rw (start, same 0 y refl) refl in
    omega arith

-- one round from the last side, as the changes from the first side to the last one and the change behind it
pub round_count : (last : ℕ) (m : ℕ) (xs : List SideRow) (c : ℕ → ℕ) → length xs ≡ suc m → last ≡ c m → ((k : ℕ) (s : SideRow) → slice_get xs k ≡ Some s → c k ≡ s.corner)
    → changes_from last xs ≡ count c m + change (c m) (c 0)
round_count last m xs c long at_last same =
    let whole = changes_count last xs before refl (λ k s at. same k s at) in
    let first = count_first before m in
    let all : count before (length xs) ≡ count before (suc m) = ap (count before) long in
    let here : change (before 0) (before 1) ≡ change (c m) (c 0) = rw at_last refl in
    omega arith
  where
    before : ℕ → ℕ
    before zero = last
    before (suc k) = c k

-- ---- where each count is passed

-- the last place up to which f has changed no more than c times
unfoldable pub place : (ℕ → ℕ) → ℕ → ℕ → ℕ
place f zero c = 0
place f (suc m) c = cond (ltb c (count f (suc m))) (place f m c) (suc m)

pub record IsPassed (f : ℕ → ℕ) (m c k : ℕ) : Type 0 where
  pub low : k ≤ m
  pub here : count f k ≡ c
  pub behind : ((k < m) × (count f (suc k) ≡ suc c)) ⊎ ((k ≡ m) × (count f m ≡ c))

pub grows : (f : ℕ → ℕ) (k : ℕ) → (count f (suc k) ≡ count f k) ⊎ (count f (suc k) ≡ suc (count f k))
grows f k = by (change_cases (f k) (f (suc k)))
  where
    by : ((f k ≡ f (suc k)) × (change (f k) (f (suc k)) ≡ 0)) ⊎ ((f k ≢ f (suc k)) × (change (f k) (f (suc k)) ≡ 1))
        → (count f (suc k) ≡ count f k) ⊎ (count f (suc k) ≡ suc (count f k))
    by (inl (_, none)) = inl (let more = count_more f k in omega arith)
    by (inr (_, one)) = inr (let more = count_more f k in omega arith)

place_under : (f : ℕ → ℕ) (m c : ℕ) → c < count f (suc m) → place f (suc m) c ≡ place f m c
unfolding place
place_under f m c low = cond-true (ltb c (count f (suc m))) (place f m c) (suc m) (lt-ltb c (count f (suc m)) low)

place_over : (f : ℕ → ℕ) (m c : ℕ) → count f (suc m) ≤ c → place f (suc m) c ≡ suc m
unfolding place
place_over f m c high = cond-false (ltb c (count f (suc m))) (place f m c) (suc m) (le-ltb c (count f (suc m)) high)

place_first : (f : ℕ → ℕ) (c : ℕ) → place f 0 c ≡ 0
unfolding place
place_first f c = refl

later_passed : (f : ℕ → ℕ) (m c k : ℕ) → c < count f (suc m) → IsPassed f m c k → IsPassed f (suc m) c k
later_passed f m c k low is = by is.behind
  where
    by : ((k < m) × (count f (suc k) ≡ suc c)) ⊎ ((k ≡ m) × (count f m ≡ c)) → IsPassed f (suc m) c k
    by (inl (early, more)) = record { low = omega arith; here = is.here; behind = inl (omega arith, more) }
    by (inr (last, none)) = record { low = omega arith; here = is.here; behind = inl (omega arith, top (grows f m)) }
      where
        top : (count f (suc m) ≡ count f m) ⊎ (count f (suc m) ≡ suc (count f m)) → count f (suc k) ≡ suc c
        top (inl still) = absurd (omega arith)
        top (inr more) = ap (λ (i : ℕ). count f (suc i)) last ∙ (more ∙ ap suc none)

pub passed : (f : ℕ → ℕ) (m c : ℕ) → c ≤ count f m → IsPassed f m c (place f m c)
passed f zero c low =
    let none = count_none f in
    let e : c ≡ 0 = omega arith in
    subst (λ (k : ℕ). IsPassed f 0 c k) (sym (place_first f c))
    (record { low = omega arith; here = none ∙ sym e; behind = inr (refl, none ∙ sym e) })
passed f (suc m) c low = by (cases_lt c (count f (suc m))) (λ under. passed f m c (less under (grows f m)))
  where
    less : c < count f (suc m) → (count f (suc m) ≡ count f m) ⊎ (count f (suc m) ≡ suc (count f m)) → c ≤ count f m
    less under (inl still) = omega arith
    less under (inr more) = omega arith

    by : (c < count f (suc m)) ⊎ (count f (suc m) ≤ c) → (c < count f (suc m) → IsPassed f m c (place f m c)) → IsPassed f (suc m) c (place f (suc m) c)
    by (inl under) before =
        subst (λ (k : ℕ). IsPassed f (suc m) c k) (sym (place_under f m c under)) (later_passed f m c (place f m c) under (before under))
    by (inr over) before =
        let e : count f (suc m) ≡ c = omega arith in
        subst (λ (k : ℕ). IsPassed f (suc m) c k) (sym (place_over f m c over))
        (record { low = omega arith; here = e; behind = inr (refl, e) })

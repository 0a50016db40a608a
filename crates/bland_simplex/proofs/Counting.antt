-- How many rows have a basic column behind the program's. It falls where a column of the program takes the place of such a one.
use Rattle.std.proofs.Common.{◌≡◌, ◌≢◌, ⊎_elim, ℕ, zero, suc, ◌+◌, ◌<◌, ◌≤◌, cond, nat_lt, lt-ltb, le-ltb, refl, sym, ap, ap₂, ◌∙◌, arith}
use Rattle.std.proofs.lemmas.Bool.{cases_eq, cond-true, cond-false}

-- 1 for a column behind the program's
abbrev is_behind : ℕ → ℕ → ℕ
is_behind cols col = cond (nat_lt col cols) 0 1

-- of the first so many rows
unfoldable pub count_behind : ℕ → (ℕ → ℕ) → ℕ → ℕ
count_behind cols basis zero = 0
count_behind cols basis (suc m) = count_behind cols basis m + is_behind cols (basis m)

count_same : (cols : ℕ) (old new : ℕ → ℕ) (m : ℕ) → ((k : ℕ) → k < m → new k ≡ old k) → count_behind cols new m ≡ count_behind cols old m
unfolding count_behind
count_same cols old new zero same = refl
count_same cols old new (suc m) same = ap₂ (λ x y. x + y) (count_same cols old new m (λ k h. same k (omega arith)))
    (ap (is_behind cols) (same m (omega arith)))

pub count_falls : (cols : ℕ) (old new : ℕ → ℕ) (m row col : ℕ) → row < m → cols ≤ old row → col < cols → new row ≡ col →
    ((k : ℕ) → k ≢ row → new k ≡ old k) → count_behind cols new m < count_behind cols old m
unfolding count_behind
count_falls cols old new zero row col h behind program enters others = absurd (omega arith)
count_falls cols old new (suc m) row col h behind program enters others = ⊎_elim
    (λ (e : row ≡ m).
    let same = count_same cols old new m (λ k l. others k (λ d. omega arith)) in
    let none : is_behind cols (new m) ≡ 0 = ap (λ k. is_behind cols (new k)) (sym e) ∙
    (ap (is_behind cols) enters ∙ cond-true (nat_lt col cols) 0 1 (lt-ltb col cols program)) in
    let one : is_behind cols (old m) ≡ 1 = ap (λ k. is_behind cols (old k)) (sym e) ∙ cond-false (nat_lt (old row) cols) 0 1
    (le-ltb (old row) cols behind) in
    rw (same, none, one) (omega arith))
    (λ (d : row ≢ m).
    let fewer = count_falls cols old new m row col (omega arith) behind program enters others in
    let same : is_behind cols (new m) ≡ is_behind cols (old m) = ap (is_behind cols) (others m (λ e. d (sym e))) in
    rw same (omega arith))
    (cases_eq row m)

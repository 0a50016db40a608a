-- A list that grows at its end keeps what is said of each place.
use Rattle.std.proofs.Common.{◌≡◌, ℕ, ◌+◌, ◌<◌, List, [], ◌∷◌, ◌++◌, length, get_or, ap, ◌∙◌, arith, below_more}
use Rattle.std.proofs.lemmas.List.{get_or_append_left, get_or_push, length_push}

pub push_length : {A : Type 0} (xs ys : List A) (n : ℕ) (x : A) → ys ≡ xs ++ x ∷ [] → length xs ≡ n → length ys ≡ n + 1
push_length xs ys n x e l = ap length e ∙ length_push xs x ∙ ap (λ (m : ℕ). m + 1) l

pub push_step : {A : Type 0} (P : ℕ → A → Type 0) (d : A) (xs ys : List A) (n : ℕ) (x : A) → ys ≡ xs ++ x ∷ [] → length xs ≡ n → ((k : ℕ) → k < n → P k (get_or xs k d)) → P n x → (k : ℕ) → k < n + 1 → P k (get_or ys k d)
push_step P d xs ys n x e l all here =
    rw e (below_more (λ k. P k (get_or (xs ++ x ∷ []) k d)) n
    (λ k h. let inside : k < length xs = omega arith in rw get_or_append_left (all k h))
    (rw (get_or_push xs x d n l) here))

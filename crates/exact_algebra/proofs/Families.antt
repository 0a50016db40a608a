-- Families over ℕ, as the terms of a sum or the vectors of a basis, with one member changed. By the test of equal indices.
use Rattle.std.proofs.Common.{◌≡◌, ◌≢◌, ℕ, cond, eqb, eq-eqb, ne_eqb, refl, sym, ◌∙◌, ⊎_elim}
use Rattle.std.proofs.lemmas.Bool.{cases_eq, cond-true, cond-false}

-- The family f with v in the place of its member j.
unfoldable pub put : {A : Type 0} → (ℕ → A) → ℕ → A → ℕ → A
put f j v k = cond (eqb k j) v (f k)

pub put-same : {A : Type 0} (f : ℕ → A) (j : ℕ) (v : A) → put f j v j ≡ v
unfolding put
put-same f j v = cond-true (eqb j j) v (f j) (eq-eqb j j refl)

pub put-other : {A : Type 0} (f : ℕ → A) (j : ℕ) (v : A) (k : ℕ) → k ≢ j → put f j v k ≡ f k
unfolding put
put-other f j v k apart = cond-false (eqb k j) v (f k) (ne_eqb k j apart)

-- The member that stands at j put back at j.
pub put-own : {A : Type 0} (f : ℕ → A) (j k : ℕ) → put f j (f j) k ≡ f k
put-own f j k = ⊎_elim (λ e. rw e (put-same f j (f j))) (put-other f j (f j) k) (cases_eq k j)

pub put-put : {A : Type 0} (f : ℕ → A) (j : ℕ) (u v : A) (k : ℕ) → put (put f j u) j v k ≡ put f j v k
put-put f j u v k =
    ⊎_elim
    (λ e. rw e (put-same (put f j u) j v ∙ sym (put-same f j v)))
    (λ d. put-other (put f j u) j v k d ∙ (put-other f j u k d ∙ sym (put-other f j v k d)))
    (cases_eq k j)

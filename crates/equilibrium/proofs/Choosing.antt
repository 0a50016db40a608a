-- The entry of a plan that is chosen anew at some sets, set by set: by induction on the plan.
use Rattle.std.proofs.Common.{◌≡◌, ℕ, zero, suc, ◌+◌, ◌<◌, Bool, true, false, List, [], ◌∷◌, length, Option, Some, slice_get}
use Rattle.std.proofs.Common.{cond, slice_index, refl, ap₂, arith}
use Rattle.equilibrium.specs.FullChoice.{chosen_anew}

pub chosen_there : (anew : ℕ → Bool) (choice : List ℕ) (first : ℕ) (plan : List (Option ℕ)) (k set : ℕ) → set ≡ first + k
    → k < length plan → anew set ≡ true
    → slice_get (chosen_anew anew choice first plan) k ≡ Some (Some (slice_index choice set))
chosen_there anew choice first [] k set e h is = absurd (omega arith)
chosen_there anew choice first (entry ∷ rest) zero set e h is =
    let same : set ≡ first = omega arith in
    let here : anew first ≡ true = rw (← same) is in
    rw (here, same) refl
chosen_there anew choice first (entry ∷ rest) (suc k) set e h is = chosen_there anew choice (first + 1) rest k set
    (omega arith) (omega arith) is

pub kept_there : (anew : ℕ → Bool) (choice : List ℕ) (first : ℕ) (plan : List (Option ℕ)) (k set : ℕ) → set ≡ first + k → anew set ≡ false
    → slice_get (chosen_anew anew choice first plan) k ≡ slice_get plan k
kept_there anew choice first [] k set e is = refl
kept_there anew choice first (entry ∷ rest) zero set e is =
    let same : set ≡ first = omega arith in
    let here : anew first ≡ false = rw (← same) is in
    rw here refl
kept_there anew choice first (entry ∷ rest) (suc k) set e is = kept_there anew choice (first + 1) rest k set (omega arith) is

same_chosen : (some all : ℕ → Bool) (choice : List ℕ) (first : ℕ) (plan : List (Option ℕ))
    → ((k : ℕ) → k < length plan → some (first + k) ≡ all (first + k))
    → chosen_anew some choice first plan ≡ chosen_anew all choice first plan
same_chosen some all choice first [] each = refl
same_chosen some all choice first (entry ∷ rest) each =
    let at : first + 0 ≡ first = omega arith in
    let here : some first ≡ all first = rw at at (each 0 (omega arith)) in
    ap₂ (λ (b : Bool) (xs : List (Option ℕ)). cond b (Some (slice_index choice first)) entry ∷ xs) here
    (same_chosen some all choice (first + 1) rest (λ k h. next k (each (suc k) (omega arith))))
  where
    next : (k : ℕ) → some (first + suc k) ≡ all (first + suc k) → some (first + 1 + k) ≡ all (first + 1 + k)
    next k h = let number : first + 1 + k ≡ first + suc k = omega arith in rw number h

-- where each set is chosen anew the plan is replaced
pub all_anew : (anew : ℕ → Bool) (choice : List ℕ) (plan : List (Option ℕ)) → ((set : ℕ) → set < length plan → anew set ≡ true)
    → chosen_anew anew choice 0 plan ≡ chosen_anew (λ set. true) choice 0 plan
all_anew anew choice plan each = same_chosen anew (λ set. true) choice 0 plan
    (λ k h. (let at : 0 + k ≡ k = omega arith in rw at (each k h)))

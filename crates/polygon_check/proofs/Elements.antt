-- What holds of the elements gone over, and of one more.
use Rattle.std.proofs.Common.{◌≡◌, ℕ, ◌+◌, ◌<◌, List, get_or, Some, sym, subst, ⊎_elim, arith}
use Rattle.std.specs.Prelude.{slice_get}
use Rattle.std.proofs.lemmas.Bool.{cases_lt}
use Rattle.std.proofs.lemmas.Option.{get_or_from_slice_get}

pub element_too : {X : Type 0} (P : X → Type 0) (xs : List X) (k : ℕ) (x : X) → ((i : ℕ) (d : X) → i < k → P (get_or xs i d)) → slice_get xs k ≡ Some x → P x
    → (i : ℕ) (d : X) → i < k + 1 → P (get_or xs i d)
element_too P xs k x before at here i d h =
    ⊎_elim (λ low. before i d low) (λ past. let same : k ≡ i = omega arith in rw (← same) (subst P (sym (get_or_from_slice_get xs k x d at)) here)) (cases_lt i k)

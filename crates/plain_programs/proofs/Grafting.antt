-- One entry more of a plan that is chosen anew at some sets.
use Rattle.std.proofs.Common.{◌≡◌, ℕ, ◌+◌, ◌<◌, Bool, true, false, cond, List, [], ◌∷◌, ◌++◌, Option, Some, None, length, drop}
use Rattle.std.proofs.Common.{get_or, slice_get, slice_index, refl, sym, ap, append_assoc, ◌∙◌}
use Rattle.std.proofs.lemmas.List.{drop_more}
use Rattle.std.proofs.lemmas.Option.{slice_get-get_or}
use Rattle.equilibrium.specs.FullChoice.{chosen_anew}

next_entry : (anew : ℕ → Bool) (choice : List ℕ) (k : ℕ) (plan done : List (Option ℕ)) (entry : Option ℕ)
    (whole : List (Option ℕ)) → k < length plan
    → done ++ chosen_anew anew choice k (drop k plan) ≡ whole → entry ≡ cond (anew k) (Some (slice_index choice k)) (get_or plan k None)
    → (done ++ entry ∷ []) ++ chosen_anew anew choice (k + 1) (drop (k + 1) plan) ≡ whole
next_entry anew choice k plan done entry whole low so_far e =
    let rest = chosen_anew anew choice (k + 1) (drop (k + 1) plan) in
    let next = ap (chosen_anew anew choice k) (drop_more plan k None low) in
    append_assoc done (entry ∷ []) rest ∙ ap (λ (x : Option ℕ). done ++ x ∷ rest) e
    ∙ sym (ap (λ (xs : List (Option ℕ)). done ++ xs) next) ∙ so_far

pub entry_chosen : (anew : ℕ → Bool) (choice : List ℕ) (k : ℕ) (plan done : List (Option ℕ)) (action : ℕ)
    (whole : List (Option ℕ)) → k < length plan
    → done ++ chosen_anew anew choice k (drop k plan) ≡ whole → anew k ≡ true → action ≡ slice_index choice k
    → (done ++ Some action ∷ []) ++ chosen_anew anew choice (k + 1) (drop (k + 1) plan) ≡ whole
entry_chosen anew choice k plan done action whole low so_far is e =
    next_entry anew choice k plan done (Some action) whole low so_far (rw (is, e) refl)

some_same : (x y : Option ℕ) → Some x ≡ Some y → x ≡ y
some_same x y e = cc

pub entry_kept : (anew : ℕ → Bool) (choice : List ℕ) (k : ℕ) (plan done : List (Option ℕ)) (entry : Option ℕ)
    (whole : List (Option ℕ)) → k < length plan
    → done ++ chosen_anew anew choice k (drop k plan) ≡ whole → anew k ≡ false → slice_get plan k ≡ Some entry
    → (done ++ entry ∷ []) ++ chosen_anew anew choice (k + 1) (drop (k + 1) plan) ≡ whole
entry_kept anew choice k plan done entry whole low so_far is there =
    let same : entry ≡ get_or plan k None = some_same _ _ (sym there ∙ slice_get-get_or plan k None low) in
    next_entry anew choice k plan done entry whole low so_far (rw is same)

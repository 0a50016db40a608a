-- The values of a list, one after the other.
use Rattle.std.proofs.Common.{◌≡◌, ℕ, zero, suc, ◌+◌, ◌≤◌, List, [], ◌∷◌, ◌++◌, Option, Some, None, length, drop, slice_get, refl, ap, sym, ◌∙◌, arith}
use Rattle.std.specs.Prelude.{option_map, option_and_then}
use Rattle.std.proofs.lemmas.List.{append-nil, append_assoc, drop_all}
use Rattle.std.proofs.lemmas.Option.{same_Some}
use Rattle.number_words.specs.Number.{NumberView}
use Rattle.efg_reader.specs.Entry.{values}

drop_at : {A : Type 0} (xs : List A) (k : ℕ) (x : A) → slice_get xs k ≡ Some x → drop k xs ≡ x ∷ drop (suc k) xs
drop_at [] k x e = absurd (cc)
drop_at (y ∷ ys) zero x e = ap (λ z. z ∷ ys) (same_Some y x e)
drop_at (y ∷ ys) (suc k) x e = drop_at ys k x e

-- the values that are known, with those of the rest
abbrev pub behind : List NumberView → Option (List NumberView) → Option (List NumberView)
behind done rest = option_map (λ ns. done ++ ns) rest

behind_one : (done : List NumberView) (n : NumberView) (rest : Option (List NumberView)) → behind done (option_map (λ ns. n ∷ ns) rest) ≡ behind (done ++ n ∷ []) rest
behind_one done n None = refl
behind_one done n (Some ns) = ap (λ xs. Some xs) (sym (append_assoc done (n ∷ []) ns))

module _ {A : Type 0} (value : A → Option NumberView) (xs : List A) where
  pub values_more : (k : ℕ) (x : A) (n : NumberView) (done : List NumberView) (whole : Option (List NumberView)) → slice_get xs k ≡ Some x → value x ≡ Some n → behind done (values value (drop k xs)) ≡ whole → behind (done ++ n ∷ []) (values value (drop (k + 1) xs)) ≡ whole
  values_more k x n done whole at is here =
      let next : k + 1 ≡ suc k = omega arith in
      let split : values value (drop k xs) ≡ option_map (λ ns. n ∷ ns) (values value (drop (suc k) xs)) =
      ap (values value) (drop_at xs k x at) ∙ ap (λ o. option_and_then (λ n. option_map (λ ns. n ∷ ns) (values value (drop (suc k) xs))) o) is in
      ap (λ i. behind (done ++ n ∷ []) (values value (drop i xs))) next ∙ sym (behind_one done n (values value (drop (suc k) xs))) ∙ ap (behind done) (sym split) ∙ here

  pub values_none : (k : ℕ) (x : A) (done : List NumberView) (whole : Option (List NumberView)) → slice_get xs k ≡ Some x → value x ≡ None → behind done (values value (drop k xs)) ≡ whole → None ≡ whole
  values_none k x done whole at is here =
      let split : values value (drop k xs) ≡ None =
      ap (values value) (drop_at xs k x at) ∙ ap (λ o. option_and_then (λ n. option_map (λ ns. n ∷ ns) (values value (drop (suc k) xs))) o) is in
      ap (behind done) (sym split) ∙ here

  pub values_end : (k : ℕ) (done : List NumberView) (whole : Option (List NumberView)) → length xs ≤ k → behind done (values value (drop k xs)) ≡ whole → Some done ≡ whole
  values_end k done whole over here = ap (λ ns. Some ns) (sym (append-nil done)) ∙ ap (λ ys. behind done (values value ys)) (sym (drop_all k xs over)) ∙ here

-- The index that a map gives for a set is that of the set's entry.
use Rattle.std.proofs.Common.{◌≡◌, ℕ, true, false, get_or, is_some, nat_eq, nat_lt, List, [], ◌∷◌, ◌++◌, Option, Some, None, map, length, slice_get, position, refl, ap, sym, subst, ◌∙◌, arith}
use Rattle.std.specs.Prelude.{option_map}
use Rattle.std.specs.List.{position_or_len}
use Rattle.std.specs.Map.{lookup}
use Rattle.std.proofs.lemmas.Bool.{eqb-true}
use Rattle.std.proofs.lemmas.List.{get_or_push, length-map, length_push, map-append}
use Rattle.std.proofs.lemmas.Map.Made.{lookup-map_values}
use Rattle.std.proofs.lemmas.List.Quantifiers.{position-Some}
use Rattle.std.proofs.lemmas.Option.{cond_some, same_Some, slice_get-get_or, slice_get-map}
use Rattle.efg_reader.specs.declared.first_lists.FirstList.{FirstList}
use Rattle.efg_reader.specs.Lists.{added, entry_in, list_entry, listed_in, with_given}
use Rattle.efg_reader.specs.Sets.{IsDefined, met, first}
use Rattle.efg_reader.specs.Told.{Listed}

key_at : (keys : List ℕ) (set index : ℕ) → position (nat_eq set) keys ≡ Some index → slice_get keys index ≡ Some set
key_at keys set index found =
    let at = position-Some (nat_eq set) keys index set found in
    let same : set ≡ get_or keys index set = eqb-true set (get_or keys index set) at.1 in
    slice_get-get_or keys index set at.0 ∙ ap (λ (k : ℕ). Some k) (sym same)

module _ (lists : List (ℕ × FirstList)) (set : ℕ) (list : Option FirstList) where
  -- a set that is there
  pub known : (index : ℕ) → position (nat_eq set) (map (λ (entry : ℕ × FirstList). entry.0) lists) ≡ Some index → IsDefined lists set list lists index
  known index found = met (key_at (map (λ (entry : ℕ × FirstList). entry.0) lists) set index found) refl

-- nothing is found where no key is
pub none_found : {A : Type 0} {o : Option A} → is_some o ≡ false → o ≡ None
none_found {o = None} is = refl
none_found {o = Some x} is = absurd (cc)

lookup_in : (lists : List (ℕ × FirstList)) (set : ℕ) → lookup (nat_eq set) (map entry_in lists) ≡ option_map listed_in (lookup (nat_eq set) lists)
lookup_in lists set = lookup-map_values listed_in (nat_eq set) lists

module _ (lists : List (ℕ × FirstList)) (set : ℕ) where
  stays : (own : FirstList) (found : Option FirstList) → is_some found ≡ true → map entry_in lists ≡ added (option_map listed_in found) (map entry_in lists) set (listed_in own)
  stays own None is = absurd (cc)
  stays own (Some known_first) is = refl

  -- where the set has a list the lists stay
  pub lists_stay : (list : Option FirstList) → is_some (lookup (nat_eq set) lists) ≡ true → map entry_in lists ≡ with_given (list_entry set list) (map entry_in lists)
  lists_stay None is = refl
  lists_stay (Some own) is =
      stays own (lookup (nat_eq set) lists) is
      ∙ ap (λ (found : Option Listed). added found (map entry_in lists) set (listed_in own)) (sym (lookup_in lists set))

  -- where it has none the line's list comes behind them
  pub lists_more : (own : FirstList) (new : List (ℕ × FirstList)) → lookup (nat_eq set) lists ≡ None → new ≡ lists ++ (set, own) ∷ [] → map entry_in new ≡ with_given (list_entry set (Some own)) (map entry_in lists)
  lists_more own new none is =
      ap (map entry_in) is
      ∙ map-append entry_in lists ((set, own) ∷ [])
      ∙ ap (λ (found : Option Listed). added found (map entry_in lists) set (listed_in own)) (sym (lookup_in lists set ∙ ap (option_map listed_in) none))

-- the set's number stands at its index
defined_key : (old : List (ℕ × FirstList)) (set : ℕ) (list : Option FirstList) (new : List (ℕ × FirstList)) (index : ℕ) → IsDefined old set list new index → slice_get (map (λ (entry : ℕ × FirstList). entry.0) new) index ≡ Some set
defined_key old set list new index (met own same) = ap (λ (lists : List (ℕ × FirstList)). slice_get (map (λ (entry : ℕ × FirstList). entry.0) lists) index) same ∙ own
defined_key old set list new index (first own is more at) =
    let split = ap (map (λ (entry : ℕ × FirstList). entry.0)) more ∙ map-append (λ (entry : ℕ × FirstList). entry.0) old ((set, own) ∷ []) in
    let place : length (map (λ (entry : ℕ × FirstList). entry.0) old) ≡ index = length-map old (λ (entry : ℕ × FirstList). entry.0) ∙ sym at in
    ap (λ (keys : List ℕ). slice_get keys index) split
    ∙ slice_get-get_or (map (λ (entry : ℕ × FirstList). entry.0) old ++ set ∷ []) index set (omega (arith, place, length_push (map (λ (entry : ℕ × FirstList). entry.0) old) set))
    ∙ ap (λ (k : ℕ). Some k) (get_or_push (map (λ (entry : ℕ × FirstList). entry.0) old) set set index place)

-- the list at the index of a set is the set's
pub found_list : (old : List (ℕ × FirstList)) (set : ℕ) (list : Option FirstList) (new : List (ℕ × FirstList)) (index : ℕ) (own : FirstList) → IsDefined old set list new index
    → (key : ℕ) × (slice_get new index ≡ Some (key, own)) × (lookup (nat_eq key) new ≡ Some own) → lookup (nat_eq set) new ≡ Some own
found_list old set list new index own defined found =
    let key : Some set ≡ Some found.0 =
    sym (defined_key old set list new index defined) ∙ slice_get-map (λ (entry : ℕ × FirstList). entry.0) new index ∙ ap (option_map (λ (entry : ℕ × FirstList). entry.0)) found.1 in
    subst (λ (k : ℕ). lookup (nat_eq k) new ≡ Some own) (sym (same_Some set found.0 key)) found.2

-- the place of a number that is found
pub place_found : (keys : List ℕ) (set index : ℕ) → position (nat_eq set) keys ≡ Some index → position_or_len (nat_eq set) keys ≡ index
place_found keys set index found = (cond_some (nat_lt (position_or_len (nat_eq set) keys) (length keys)) (position_or_len (nat_eq set) keys) index found).1

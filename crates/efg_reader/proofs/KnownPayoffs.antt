-- The payoffs of an outcome stay where they are known, and come last where they aren't.
use Rattle.std.proofs.Common.{◌≡◌, ℕ, Bool, true, nat_eq, List, [], ◌∷◌, ◌++◌, Option, Some, None, map, refl, ap, sym, ◌∙◌}
use Rattle.std.specs.Prelude.{option_map}
use Rattle.std.specs.Map.{lookup}
use Rattle.std.proofs.lemmas.List.{map-append}
use Rattle.std.proofs.lemmas.Map.Made.{lookup-map_values}
use Rattle.number_words.specs.Number.{NumberView}
use Rattle.efg_reader.specs.declared.first_lists.OutcomePays.{OutcomePays}
use Rattle.efg_reader.specs.Lists.{added, outcome_entry, outcome_in, pays_if, pays_in, with_given}

module _ (entries : List (ℕ × OutcomePays)) (outcome : ℕ) where
  lookup_in : lookup (nat_eq outcome) (map outcome_in entries) ≡ option_map pays_in (lookup (nat_eq outcome) entries)
  lookup_in = lookup-map_values pays_in (nat_eq outcome) entries

  found_stay : (first : OutcomePays) (given : Option (List NumberView)) → lookup (nat_eq outcome) entries ≡ Some first → map outcome_in entries ≡ with_given (option_map (λ (pays : List NumberView). (outcome, pays)) given) (map outcome_in entries)
  found_stay first None found = refl
  found_stay first (Some pays) found = ap (λ (o : Option (List NumberView)). added o (map outcome_in entries) outcome pays) (sym (lookup_in ∙ ap (option_map pays_in) found))

  pub payoffs_stay : (first : OutcomePays) (is_listed : Bool) (pays : List NumberView) → lookup (nat_eq outcome) entries ≡ Some first → map outcome_in entries ≡ with_given (outcome_entry outcome is_listed pays) (map outcome_in entries)
  payoffs_stay first is_listed pays found = found_stay first (pays_if is_listed pays) found

  pub payoffs_more : (own : OutcomePays) (new : List (ℕ × OutcomePays)) (is_listed : Bool) (pays : List NumberView) → is_listed ≡ true → pays_in own ≡ pays
      → lookup (nat_eq outcome) entries ≡ None → new ≡ entries ++ (outcome, own) ∷ [] → map outcome_in new ≡ with_given (outcome_entry outcome is_listed pays) (map outcome_in entries)
  payoffs_more own new is_listed pays given are none is =
      rw given
      (ap (map outcome_in) is
      ∙ map-append outcome_in entries ((outcome, own) ∷ [])
      ∙ ap (λ (ps : List NumberView). map outcome_in entries ++ (outcome, ps) ∷ []) are
      ∙ ap (λ (o : Option (List NumberView)). added o (map outcome_in entries) outcome pays) (sym (lookup_in ∙ ap (option_map pays_in) none)))

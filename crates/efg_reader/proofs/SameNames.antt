-- The names from a place on are the same where the names there are and those behind it.
use Rattle.std.proofs.Common.{◌≡◌, ℕ, ◌+◌, ◌≤◌, Bool, true, ◌&&◌, nat_eq, List, [], ◌∷◌, Some, length, map, drop, slice_get, ap, ◌∙◌}
use Rattle.std.specs.Cmp.Lexicographic.{pointwise}
use Rattle.std.proofs.lemmas.List.{drop_more, drop_all}
use Rattle.std.proofs.lemmas.Option.{slice_get_within, get_or_from_slice_get}
use Rattle.efg_lines.specs.declared.node_line.ActLine.{ActLine}

drop_at : (xs : List ActLine) (k : ℕ) (x : ActLine) → slice_get xs k ≡ Some x → drop k xs ≡ x ∷ drop (k + 1) xs
drop_at xs k x at = drop_more xs k x (slice_get_within xs k x at) ∙ ap (λ (y : ActLine). y ∷ drop (k + 1) xs) (get_or_from_slice_get xs k x x at)

-- the names of two lists are the same
abbrev pub same_names : List ActLine → List ActLine → Bool
same_names xs ys = pointwise (pointwise nat_eq) (map (λ (act : ActLine). act.name) xs) (map (λ (act : ActLine). act.name) ys)

pub names_from : (xs ys : List ActLine) (k : ℕ) (x y : ActLine) (same : Bool) → slice_get xs k ≡ Some x → slice_get ys k ≡ Some y → pointwise nat_eq x.name y.name ≡ same
    → same_names (drop k xs) (drop k ys) ≡ (same && same_names (drop (k + 1) xs) (drop (k + 1) ys))
names_from xs ys k x y same at_one at_two is =
    ap (λ (zs : List ActLine). same_names zs (drop k ys)) (drop_at xs k x at_one)
    ∙ ap (λ (zs : List ActLine). same_names (x ∷ drop (k + 1) xs) zs) (drop_at ys k y at_two)
    ∙ ap (λ (b : Bool). b && same_names (drop (k + 1) xs) (drop (k + 1) ys)) is

pub names_end : (xs ys : List ActLine) (k : ℕ) → length xs ≤ k → length ys ≤ k → same_names (drop k xs) (drop k ys) ≡ true
names_end xs ys k over_one over_two =
    ap (λ (zs : List ActLine). same_names zs (drop k ys)) (drop_all k xs over_one)
    ∙ ap (λ (zs : List ActLine). same_names [] zs) (drop_all k ys over_two)

-- Rows by their ids: a row that is added behind rows without its id is found by it, and the others stay what they were.
use Rattle.std.proofs.Common.{◌≡◌, ◌||◌, ℕ, Bool, cond, false, true, List, [], ◌∷◌, ◌++◌, ap, refl}
use Rattle.std.specs.Prelude.{slice_get}
use Rattle.std.specs.Str.{bytes_eq}
use Rattle.clap.specs.Walk.{Row, Rule, at_row, first_of, has_row, with_default}

-- no row of the id is there, so that what stands for a missing one comes to the end
pub at_row-absent : (id : List ℕ) (change : Row → List Row) (missing rows : List Row) → has_row id rows ≡ false → at_row id change missing rows ≡ rows ++ missing
at_row-absent id change missing [] none = refl
at_row-absent id change missing (r ∷ rows) none = go (bytes_eq r.id id) refl none (at_row-absent id change missing rows)
  where
    go : (t : Bool) → bytes_eq r.id id ≡ t → (t || has_row id rows) ≡ false → (has_row id rows ≡ false → at_row id change missing rows ≡ rows ++ missing)
        → at_row id change missing (r ∷ rows) ≡ (r ∷ rows) ++ missing
    go true e none rest = absurd (cc none)
    go false e none rest = rw e (ap (λ (rs : List Row). r ∷ rs) (rest none))

pub has_row-other : (id : List ℕ) (rows : List Row) (added : Row) → bytes_eq added.id id ≡ false → has_row id (rows ++ added ∷ []) ≡ has_row id rows
has_row-other id [] added other = rw other refl
has_row-other id (r ∷ rows) added other = ap (λ (t : Bool). bytes_eq r.id id || t) (has_row-other id rows added other)

pub first_of-other : (id : List ℕ) (rows : List Row) (added : Row) → bytes_eq added.id id ≡ false → first_of id (rows ++ added ∷ []) ≡ first_of id rows
first_of-other id [] added other = rw other refl
first_of-other id (r ∷ rows) added other = go (bytes_eq r.id id) refl (first_of-other id rows added other)
  where
    go : (t : Bool) → bytes_eq r.id id ≡ t → first_of id (rows ++ added ∷ []) ≡ first_of id rows → first_of id ((r ∷ rows) ++ added ∷ []) ≡ first_of id (r ∷ rows)
    go true e rest = rw e refl
    go false e rest = rw e rest

pub first_of-added : (id : List ℕ) (rows : List Row) (added : Row) → bytes_eq added.id id ≡ true → has_row id rows ≡ false → first_of id (rows ++ added ∷ []) ≡ slice_get added.values 0
first_of-added id [] added same none = rw same refl
first_of-added id (r ∷ rows) added same none = go (bytes_eq r.id id) refl none (first_of-added id rows added same)
  where
    go : (t : Bool) → bytes_eq r.id id ≡ t → (t || has_row id rows) ≡ false → (has_row id rows ≡ false → first_of id (rows ++ added ∷ []) ≡ slice_get added.values 0)
        → first_of id ((r ∷ rows) ++ added ∷ []) ≡ slice_get added.values 0
    go true e none rest = absurd (cc none)
    go false e none rest = rw e (rest none)

-- an option without default values leaves the rows as they are
pub no_default : (rows : List Row) (rule : Rule) → rule.defaults ≡ [] → with_default rows rule ≡ rows
no_default rows rule none = rw none (go (has_row rule.id rows))
  where
    go : (t : Bool) → cond t rows rows ≡ rows
    go true = refl
    go false = refl

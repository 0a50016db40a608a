-- Where a kind of values leaves its format, piece by piece.
use Rattle.std.specs.Prelude.{◌≡◌, ℕ, List, ◌∷◌, ◌++◌}

-- The pieces of some good value go on behind those that were read; with the first of those that are left none goes on.
pub record StopsIn {A : Type 0} (Good : A → Type 0) (cut : A → List (List ℕ)) (before left : List (List ℕ)) : Type 0 where
  pub value : A
  pub good : Good value
  pub next : List ℕ
  pub others : List (List ℕ)
  pub goes_on : cut value ≡ before ++ next ∷ others
  pub stops : (a : A) (piece : List ℕ) (behind more : List (List ℕ)) → Good a → left ≡ piece ∷ behind → cut a ≡ before ++ piece ∷ more → ⊥

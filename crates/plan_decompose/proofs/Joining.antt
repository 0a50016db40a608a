-- The search for the only open set that is connected to a first one.
use Rattle.std.proofs.Common.{◌≡◌, ℕ, ◌+◌, ◌<◌, ◌≤◌, Bool, true, false, List, Option, Some, None, length, refl, inl, inr, arith}
use Rattle.std.specs.Prelude.{IfSome, IfNone, is_some}
use Rattle.std.specs.Option.{IsSome}
use Rattle.std.proofs.lemmas.Bool.{cases_eq}
use Rattle.std.proofs.lemmas.Option.{slice_get_within}
use Rattle.corr_game.specs.declared.sides.Side.{Side}
use Rattle.plan_decompose.specs.declared.opens.Open.{Open}
use Rattle.plan_decompose.specs.declared.walks.Walk.{Walk}
use Rattle.plan_decompose.specs.Walk.{IsOpenOf, part_of}
use Rattle.plan_decompose.specs.Fair.{IsNotOne, IsOnlyJoined, Waits}

-- where the search can't fail there is an answer
pub is_there : {P : Type 0} (r : Option ℕ) → IfNone r P → (P → ⊥) → IsSome r
is_there None none never = absurd (never none)
is_there (Some x) none never = refl

-- of the first n sets none is open and connected, or this one alone is
abbrev pub IsFound : Side → (ℕ → Bool) → List (Option ℕ) → ℕ → Option Open → Type 0
IsFound to joined beside n None = (k t : ℕ) → k < n → Waits beside k t → joined k ≡ true → ⊥
IsFound to joined beside n (Some at) =
    (at.side ≡ to) × Waits beside at.set.0 at.beside × (joined at.set.0 ≡ true) × (at.set.0 < n) × ((k t : ℕ) → k < n → Waits beside k t → joined k ≡ true → k ≡ at.set.0)

pub found_skip : (to : Side) (joined : ℕ → Bool) (beside : List (Option ℕ)) (n : ℕ) (only : Option Open) → IsFound to joined beside n only → ((t : ℕ) → Waits beside n t → joined n ≡ true → ⊥) → IsFound to joined beside (n + 1) only
found_skip to joined beside n None f skip = λ k t low o j. elim (cases_eq k n) [
  | inl same ↦ skip t (rw same at o) (rw same at j)
  | inr apart ↦ f k t (omega arith) o j
]
found_skip to joined beside n (Some at) f skip = (
  f.0,
  f.1,
  f.2,
  omega (arith, f.3),
  λ k t low o j. elim (cases_eq k n) [
    | inl same ↦ absurd (skip t (rw same at o) (rw same at j))
    | inr apart ↦ f.4 k t (omega arith) o j
  ],
)

pub found_first : (to : Side) (joined : ℕ → Bool) (beside : List (Option ℕ)) (n : ℕ) (only : Option Open) (at : Open) → IsFound to joined beside n only → is_some only ≡ false → at.side ≡ to → at.set.0 ≡ n → Waits beside n at.beside → joined n ≡ true
    → IsFound to joined beside (n + 1) (Some at)
found_first to joined beside n None at f none side set o j = (
  side,
  rw set o,
  rw set j,
  omega arith,
  λ k t low p q. elim (cases_eq k n) [
    | inl same ↦ rw (same, set) refl
    | inr apart ↦ absurd (f k t (omega arith) p q)
  ],
)
found_first to joined beside n (Some first) at f none side set o j = absurd (cc)

pub found_two : (to : Side) (joined : ℕ → Bool) (beside : List (Option ℕ)) (n u : ℕ) (only : Option Open) → IsFound to joined beside n only → is_some only ≡ true → Waits beside n u → joined n ≡ true → IsNotOne joined beside
found_two to joined beside n u None f some o j = absurd (cc)
found_two to joined beside n u (Some at) f some o j = inr (at.set.0, (n, (λ same. omega (arith, same, f.3), (at.beside, f.1), (u, o), f.2, j)))

pub found_some : (to : Side) (joined : ℕ → Bool) (beside : List (Option ℕ)) (n : ℕ) (only : Option Open) → IsFound to joined beside n only → length beside ≤ n → IfSome only (λ at. (at.side ≡ to) × Waits beside at.set.0 at.beside × IsOnlyJoined joined beside at.set.0)
found_some to joined beside n None f all = tt
found_some to joined beside n (Some at) f all = (f.0, f.1, (f.2, λ k t o j. f.4 k t (omega (arith, slice_get_within beside k (Some t) o)) o j))

pub found_none : (to : Side) (joined : ℕ → Bool) (beside : List (Option ℕ)) (n : ℕ) (only : Option Open) → IsFound to joined beside n only → length beside ≤ n → IfNone only (IsNotOne joined beside)
found_none to joined beside n None f all = inl (λ k t o j. f k t (omega (arith, slice_get_within beside k (Some t) o)) o j)
found_none to joined beside n (Some at) f all = tt

-- a set that is found in the other player's part is open in the walk
pub found_open : (walk : Walk) (to : Side) (r : Option Open) (joined : ℕ → Bool) → IfSome r (λ at. (at.side ≡ to) × Waits (part_of to walk).beside.items at.set.0 at.beside × IsOnlyJoined joined (part_of to walk).beside.items at.set.0)
    → IfSome r (λ at. IsOpenOf walk at × (at.side ≡ to) × IsOnlyJoined joined (part_of to walk).beside.items at.set.0)
found_open walk to None joined h = tt
found_open walk to (Some at) joined h = (rw h.0 h.1, h.0, h.2)

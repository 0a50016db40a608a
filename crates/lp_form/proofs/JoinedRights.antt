-- The right sides of two programs, one behind the other.
use Rattle.std.proofs.Common.{◌≡◌, ℕ, ◌+◌, ◌-◌, ◌<◌, ◌≤◌, List, [], ◌∷◌, length, ℤ, pos, inl, inr, ap, sym, ◌∙◌, refl, arith}
use Rattle.std.proofs.lemmas.Bool.{cases_lt}
use Rattle.std.proofs.lemmas.Int.{ints}
use Rattle.std.proofs.lemmas.List.{get_or_append_left, get_or-append_right, length-append}
use Rattle.lp_form.specs.Program.{IsProgram, LpView, right_of, joined}

right_before : (base more : LpView) (r : ℕ) → r < length base.rights → right_of (joined base more) r ≡ right_of base r
right_before base more r h = get_or_append_left base.rights more.rights (pos 0) r h

right_behind : (base more : LpView) (r : ℕ) → length base.rights ≤ r → ((k : ℕ) → right_of more k ≡ pos 0) → right_of (joined base more) r ≡ pos 0
right_behind base more r h nothing = get_or-append_right base.rights more.rights (length base.rights) r (pos 0) refl h ∙ nothing (r - length base.rights)

some_right : (rights : List ℤ) (rest : LpView) → rest.rights ≡ rights → right_of rest 0 ≡ pos 1 → 0 < length rights
some_right [] rest e h = absurd (omega (arith, ints, sym h ∙ ap (λ (xs : List ℤ). right_of (record rest { rights = xs }) 0) e))
some_right (x ∷ xs) rest e h = omega arith

pub first_right : (base more : LpView) → right_of base 0 ≡ pos 1 → right_of (joined base more) 0 ≡ pos 1
first_right base more one = right_before base more 0 (some_right base.rights base refl one) ∙ one

pub later_right : (base more : LpView) → ((r : ℕ) → right_of base (r + 1) ≡ pos 0) → ((r : ℕ) → right_of more r ≡ pos 0) → (row : ℕ) → 0 < row → right_of (joined base more) row ≡ pos 0
later_right base more zeros nothing row h =
    let e : row ≡ row - 1 + 1 = omega (arith, h) in
    elim (cases_lt row (length base.rights)) [
      | inl within ↦ right_before base more row within ∙ ap (λ (r : ℕ). right_of base r) e ∙ zeros (row - 1)
      | inr behind ↦ right_behind base more row behind nothing
    ]

pub is_program : (base more : LpView) → 0 < length base.rows → right_of base 0 ≡ pos 1 → ((r : ℕ) → right_of base (r + 1) ≡ pos 0) → ((r : ℕ) → right_of more r ≡ pos 0) → IsProgram (joined base more)
is_program base more some one zeros nothing = record {
  a_row = rw (length-append base.rows more.rows) (omega arith);
  one = first_right base more one;
  zeros = later_right base more zeros nothing;
}

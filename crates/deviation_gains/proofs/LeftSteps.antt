-- One leaf more: the number at its own sequence grows by what it pays, and no other number does.
use Rattle.std.proofs.Common.{◌≡◌, ◌↔◌, ℕ, zero, suc, ◌<◌, inl, inr, Bool, true, false, nat_eq, cond, List, [], ◌∷◌, length, get_or}
use Rattle.std.proofs.Common.{ℤ, pos, ◌+ℤ◌, ◌*ℤ◌, refl, sym, ap, ◌∙◌, arith}
use Rattle.std.specs.Prelude.{slice_set, slice_index_or}
use Rattle.std.proofs.lemmas.Bool.{cases_eq, eq-eqb, ne_eqb}
use Rattle.exact_algebra.proofs.RingLaws.{*ℤ_comm, *ℤ-zero, +ℤ_idr}

-- ---- tests that decide

pub told_true : {P : Type 0} (test : Bool) → (test ≡ true) ↔ P → P → test ≡ true
told_true test same h = same.1 h

pub told_false : {P : Type 0} (test : Bool) → (test ≡ true) ↔ P → (P → ⊥) → test ≡ false
told_false true same h = absurd (h (same.0 refl))
told_false false same h = refl

-- ---- one number of a list put anew

put_here : (xs : List ℤ) (own : ℕ) (v : ℤ) → own < length xs → slice_index_or (slice_set xs own v) own (pos 0) ≡ v
put_here [] own v low = absurd (omega arith)
put_here (y ∷ xs) zero v low = refl
put_here (y ∷ xs) (suc own) v low = put_here xs own v (omega arith)

put_away : (xs : List ℤ) (own q : ℕ) (v : ℤ) → (own ≡ q → ⊥) → slice_index_or (slice_set xs own v) q (pos 0) ≡ slice_index_or xs q (pos 0)
put_away [] own q v apart = refl
put_away (y ∷ xs) zero zero v apart = absurd (apart refl)
put_away (y ∷ xs) zero (suc q) v apart = refl
put_away (y ∷ xs) (suc own) zero v apart = refl
put_away (y ∷ xs) (suc own) (suc q) v apart = put_away xs own q v (λ e. apart (ap suc e))

pub stood_here : (xs : List ℤ) (own : ℕ) (x : ℤ) → own < length xs → x ≡ get_or xs own x → slice_index_or xs own (pos 0) ≡ x
stood_here [] own x low e = absurd (omega arith)
stood_here (y ∷ xs) zero x low e = sym e
stood_here (y ∷ xs) (suc own) x low e = stood_here xs own x (omega arith) e

pub put_grows : (xs : List ℤ) (own : ℕ) (x v t : ℤ) → own < length xs → x ≡ get_or xs own x → v ≡ x +ℤ t → (q : ℕ)
    → slice_index_or (slice_set xs own v) q (pos 0) ≡ slice_index_or xs q (pos 0) +ℤ cond (nat_eq own q) t (pos 0)
put_grows xs own x v t low e f q = elim (cases_eq own q) [
  | inl same ↦ rw (← same, eq-eqb own own refl, put_here xs own v low, stood_here xs own x low e) f
  | inr apart ↦ rw (ne_eqb own q apart, put_away xs own q v apart) (sym (+ℤ_idr (slice_index_or xs q (pos 0))))
]

-- a leaf that counts adds its amount as often as the pair weighs, another adds nothing
pub leaf_grows : (xs : List ℤ) (own : ℕ) (x v w a : ℤ) (plays : Bool) → plays ≡ true → own < length xs → x ≡ get_or xs own x
    → v ≡ x +ℤ w *ℤ a → (q : ℕ)
    → slice_index_or (slice_set xs own v) q (pos 0)
    ≡ slice_index_or xs q (pos 0) +ℤ cond (nat_eq own q) (a *ℤ cond plays w (pos 0)) (pos 0)
leaf_grows xs own x v w a plays is low e f q =
    let more : v ≡ x +ℤ a *ℤ w = f ∙ ap (λ (z : ℤ). x +ℤ z) (*ℤ_comm w a) in
    rw is (put_grows xs own x v (a *ℤ w) low e more q)

pub leaf_stays : (y a w : ℤ) (here plays : Bool) → plays ≡ false → y ≡ y +ℤ cond here (a *ℤ cond plays w (pos 0)) (pos 0)
leaf_stays y a w true plays is = rw (is, *ℤ-zero a) (sym (+ℤ_idr y))
leaf_stays y a w false plays is = sym (+ℤ_idr y)

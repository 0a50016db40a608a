-- Terms of a matrix: one that is put at a place, two changes one after the other, and a condition said in another way.
use Rattle.std.proofs.Common.{◌≡◌, ◌≢◌, ◌⊎◌, ℕ, ◌+◌, ◌^◌, ◌≤◌, w64, to_z, of_z, Option, Some, None, ℤ, pos, ◌+ℤ◌, refl, sym, ◌∙◌, inl, inr, arith}
use Rattle.std.proofs.Math.Numerals.{add-one}
use Rattle.std.proofs.lemmas.Bool.{cases_eq}
use Rattle.std.proofs.lemmas.Int.{ints, to_z-of_z, fits_signed_from_abs}
use Rattle.std.specs.Prelude.{unsigned_abs}
use Rattle.lp_form.specs.Program.{LpView, coefficient}
use Rattle.incentive_rows.specs.Term.{AreTerms, Both, Changes, IsTerm}
use Rattle.incentive_rows.specs.Coefficient.{IsAt}

-- a small number is handed on as it is
pub narrow : (z : ℤ) → unsigned_abs z ≤ 2 ^ 44 → to_z w64 (of_z w64 z) ≡ z
narrow z h = to_z-of_z w64 z (fits_signed_from_abs w64 z (omega arith))

pub no_term : (Stands : Type 0) (value : ℤ) → (Stands → ⊥) → IsTerm Stands value (pos 0)
no_term Stands value none = inr (none, refl)

-- a term whose condition is said in another way
pub term_as : {P Q : Type 0} {value v : ℤ} → (P → Q) → (Q → P) → IsTerm P value v → IsTerm Q value v
term_as {P} {Q} f g (inl h) = inl (f h.0, h.1)
term_as {P} {Q} f g (inr h) = inr (λ q. h.0 (g q), h.1)

pub changes_none : (part : ℕ → ℕ → ℤ → Type 0) (lp : LpView) → ((r k : ℕ) → part r k (pos 0)) → Changes part lp lp
changes_none part lp none = record { each = λ r k. (pos 0, none r k, omega (arith, ints)) }

pub changes_as : {A B : ℕ → ℕ → ℤ → Type 0} {a b : LpView} → Changes A a b → ((r k : ℕ) (v : ℤ) → A r k v → B r k v) → Changes B a b
changes_as {A} {B} {a} {b} c f = record { each = λ r k. let here = c.each r k in (here.0, f r k here.0 here.1, here.2) }

pub changes_both : {A B : ℕ → ℕ → ℤ → Type 0} {a b c : LpView} → Changes A a b → Changes B b c → Changes (λ r k. Both (A r k) (B r k)) a c
changes_both {A} {B} {a} {b} {c} f g = record {
  each = λ r k.
      let one = f.each r k in
      let two = g.each r k in
      (one.0 +ℤ two.0, (one.0, two.0, one.1, two.1, refl), omega (arith, ints, one.2, two.2));
}

-- a change by one term more
pub changes_more : (term : ℕ → ℕ → ℕ → ℤ → Type 0) (n : ℕ) {a b c : LpView} → Changes (λ r k. AreTerms (term r k) n) a b → Changes (λ r k. term r k n) b c → Changes (λ r k. AreTerms (term r k) (n + 1)) a c
changes_more term n {a} {b} {c} f g = record {
  each = λ r k.
      let one = f.each r k in
      let two = g.each r k in
      (one.0 +ℤ two.0, rw add-one (one.0, two.0, one.1, two.1, refl), omega (arith, ints, one.2, two.2));
}

at_place : (a b : LpView) (row col : ℕ) (value : ℤ) → coefficient b row col ≡ coefficient a row col +ℤ value → ((r k : ℕ) → (r ≢ row) ⊎ (k ≢ col) → coefficient b r k ≡ coefficient a r k) → (r k : ℕ) → (v : ℤ) × IsAt row col value r k v × (coefficient b r k ≡ coefficient a r k +ℤ v)
at_place a b row col value here others r k =
    elim (cases_eq r row) [
      | inr apart ↦ (pos 0, inr (λ h. apart h.0, refl), omega (arith, ints, others r k (inl apart)))
      | inl same_row ↦ elim (cases_eq k col) [
        | inr apart ↦ (pos 0, inr (λ h. apart h.1, refl), omega (arith, ints, others r k (inr apart)))
        | inl same_col ↦ rw (same_row, same_col) (value, inl ((refl, refl), refl), here)
      ]
    ]

-- a coefficient that alone is raised
pub placed_at : (a b : LpView) (row col : ℕ) (value : ℤ) → coefficient b row col ≡ coefficient a row col +ℤ value → ((r k : ℕ) → (r ≢ row) ⊎ (k ≢ col) → coefficient b r k ≡ coefficient a r k) → Changes (IsAt row col value) a b
placed_at a b row col value here others = record { each = at_place a b row col value here others }

-- a change at a column is one at the pair that has it
pub at_found : {found : Option ℕ} {row col : ℕ} {value : ℤ} {a b : LpView} → found ≡ Some col → Changes (IsAt row col value) a b → Changes (λ r k. IsTerm ((r ≡ row) × (found ≡ Some k)) value) a b
at_found {found} {row} {col} {value} {a} {b} e c =
    changes_as c (λ r k v t. term_as (λ h. (h.0, e ∙ rw h.1 refl)) (λ h. let same : col ≡ k = cc (e, h.1) in (h.0, sym same)) t)

pub at_none : {found : Option ℕ} {row : ℕ} {value : ℤ} (lp : LpView) → found ≡ None → Changes (λ r k. IsTerm ((r ≡ row) × (found ≡ Some k)) value) lp lp
at_none {found} {row} {value} lp e =
    changes_none (λ r k. IsTerm ((r ≡ row) × (found ≡ Some k)) value) lp (λ r k. inr (λ h. absurd (cc (e, h.1)), refl))

-- Polynomials with whole coefficients as data, in nested Horner form, and their sum, multiple and product by computation.
-- A form is a number, or p times the unknown i plus q, where p speaks of unknowns from i on and q of later ones. So equal
-- polynomials have one form. That each operation has the value that it should is shown by induction on the form.
use Rattle.std.proofs.Common.{◌≡◌, ℕ, zero, suc, Bool, true, false, ltb, ltb-false, ℤ, pos, negsuc, ◌+ℤ◌, ◌*ℤ◌, refl, ◌∙◌, arith}
use Rattle.exact_algebra.proofs.RingLaws.{zero-*ℤ, +ℤ_idl, +ℤ_idr}
use Rattle.exact_algebra.proofs.RingTactic.{ring_laws, linear}

pub data Horner : Type 0 where
  num : ℤ → Horner
  step : Horner → ℕ → Horner → Horner

-- The number that a form stands for, where the unknown i is `at i`.
abbrev pub value : (ℕ → ℤ) → Horner → ℤ
value at (num a) = a
value at (step p i q) = value at p *ℤ at i +ℤ value at q

-- p times the unknown i plus q, where p may be 0
abbrev pub join : Horner → ℕ → Horner → Horner
join (num (pos zero)) i q = q
join (num (pos (suc n))) i q = step (num (pos (suc n))) i q
join (num (negsuc n)) i q = step (num (negsuc n)) i q
join (step p j r) i q = step (step p j r) i q

value-join : (at : ℕ → ℤ) (p : Horner) (i : ℕ) (q : Horner) → value at (join p i q) ≡ value at p *ℤ at i +ℤ value at q
value-join at (num (pos zero)) i q = rw (zero-*ℤ, +ℤ_idl)
value-join at (num (pos (suc n))) i q = refl
value-join at (num (negsuc n)) i q = refl
value-join at (step p j r) i q = refl

abbrev pub plus_num : ℤ → Horner → Horner
plus_num a (num b) = num (a +ℤ b)
plus_num a (step p i q) = step p i (plus_num a q)

value-plus_num : (at : ℕ → ℤ) (a : ℤ) (h : Horner) → value at (plus_num a h) ≡ a +ℤ value at h
value-plus_num at a (num b) = refl
value-plus_num at a (step p i q) = let r = value-plus_num at a q in omega (arith, linear)

-- The sum of `step p i q` and a form, where `plus_p` and `plus_q` add p and q to a form.
abbrev pub plus_step : Horner → ℕ → Horner → (Horner → Horner) → (Horner → Horner) → Horner → Horner
plus_step p i q plus_p plus_q (num b) = step p i (plus_q (num b))
plus_step p i q plus_p plus_q (step r j s) =
    elim (ltb i j) [
      | true ↦ step p i (plus_q (step r j s))
      | false ↦ elim (ltb j i) [ true ↦ step r j (plus_step p i q plus_p plus_q s) | false ↦ join (plus_p r) i (plus_q s) ]
    ]

abbrev pub plus : Horner → Horner → Horner
plus (num a) k = plus_num a k
plus (step p i q) k = plus_step p i q (plus p) (plus q) k

-- Which of three forms is taken by the order of two unknowns: each has the value v, the last where the unknowns are one.
value-choice : (at : ℕ → ℤ) (i j : ℕ) (before after here : Horner) (v : ℤ) → value at before ≡ v → value at after ≡ v → (i ≡ j → value at here ≡ v) → (t u : Bool) → ltb i j ≡ t → ltb j i ≡ u →
    value at (elim t [ true ↦ before | false ↦ elim u [ true ↦ after | false ↦ here ] ]) ≡ v
value-choice at i j before after here v b a h true u s t = b
value-choice at i j before after here v b a h false true s t = a
value-choice at i j before after here v b a h false false s t = h (omega (arith, ltb-false i j s, ltb-false j i t))

value-plus_step : (at : ℕ → ℤ) (p : Horner) (i : ℕ) (q : Horner) (plus_p plus_q : Horner → Horner) →
    ((h : Horner) → value at (plus_p h) ≡ value at p +ℤ value at h) → ((h : Horner) → value at (plus_q h) ≡ value at q +ℤ value at h) →
    (h : Horner) → value at (plus_step p i q plus_p plus_q h) ≡ value at (step p i q) +ℤ value at h
value-plus_step at p i q plus_p plus_q for_p for_q (num b) = let e = for_q (num b) in omega (arith, linear)
value-plus_step at p i q plus_p plus_q for_p for_q (step r j s) =
    let later = for_q (step r j s) in
    let deeper = value-plus_step at p i q plus_p plus_q for_p for_q s in
    let heads = for_p r in
    let tails = for_q s in
    let before : value at p *ℤ at i +ℤ value at (plus_q (step r j s)) ≡ value at (step p i q) +ℤ value at (step r j s) = omega (arith, linear) in
    let after : value at r *ℤ at j +ℤ value at (plus_step p i q plus_p plus_q s) ≡ value at (step p i q) +ℤ value at (step r j s) = omega (arith, linear) in
    let here : i ≡ j → value at (join (plus_p r) i (plus_q s)) ≡ value at (step p i q) +ℤ value at (step r j s) =
    λ e. value-join at (plus_p r) i (plus_q s) ∙ (rw (heads, tails, ← e) (simp ring_laws (omega (arith, linear)))) in
    value-choice at i j (step p i (plus_q (step r j s))) (step r j (plus_step p i q plus_p plus_q s)) (join (plus_p r) i (plus_q s)) (value at (step p i q) +ℤ value at (step r j s)) before after here (ltb i j) (ltb j i) refl refl

pub value-plus : (at : ℕ → ℤ) (h k : Horner) → value at (plus h k) ≡ value at h +ℤ value at k
value-plus at (num a) k = value-plus_num at a k
value-plus at (step p i q) k = value-plus_step at p i q (plus p) (plus q) (value-plus at p) (value-plus at q) k

-- A form times a number.
abbrev pub scale : ℤ → Horner → Horner
scale a (num b) = num (a *ℤ b)
scale a (step p i q) = join (scale a p) i (scale a q)

pub value-scale : (at : ℕ → ℤ) (a : ℤ) (h : Horner) → value at (scale a h) ≡ a *ℤ value at h
value-scale at a (num b) = refl
value-scale at a (step p i q) = value-join at (scale a p) i (scale a q) ∙ (rw (value-scale at a p, value-scale at a q) (simp ring_laws (omega (arith, linear))))

-- A form times the unknown i.
abbrev pub raise : ℕ → Horner → Horner
raise i (num a) = join (num a) i (num (pos 0))
raise i (step p j q) = elim (ltb j i) [ true ↦ step (raise i p) j (raise i q) | false ↦ step (step p j q) i (num (pos 0)) ]

value-raised : (at : ℕ → ℤ) (h k : Horner) (v : ℤ) → value at h ≡ v → value at k ≡ v → (t : Bool) → value at (elim t [ true ↦ h | false ↦ k ]) ≡ v
value-raised at h k v e f true = e
value-raised at h k v e f false = f

pub value-raise : (at : ℕ → ℤ) (i : ℕ) (h : Horner) → value at (raise i h) ≡ value at h *ℤ at i
value-raise at i (num a) = value-join at (num a) i (num (pos 0)) ∙ +ℤ_idr (a *ℤ at i)
value-raise at i (step p j q) =
    let within : value at (raise i p) *ℤ at j +ℤ value at (raise i q) ≡ (value at p *ℤ at j +ℤ value at q) *ℤ at i = rw (value-raise at i p, value-raise at i q) (simp ring_laws (omega (arith, linear))) in
    value-raised at (step (raise i p) j (raise i q)) (step (step p j q) i (num (pos 0))) _ within (+ℤ_idr ((value at p *ℤ at j +ℤ value at q) *ℤ at i)) (ltb j i)

abbrev pub times : Horner → Horner → Horner
times (num a) k = scale a k
times (step p i q) k = plus (raise i (times p k)) (times q k)

gathered : (p x q k : ℤ) → p *ℤ k *ℤ x +ℤ q *ℤ k ≡ (p *ℤ x +ℤ q) *ℤ k
gathered p x q k = simp ring_laws (omega (arith, linear))

pub value-times : (at : ℕ → ℤ) (h k : Horner) → value at (times h k) ≡ value at h *ℤ value at k
value-times at (num a) k = value-scale at a k
value-times at (step p i q) k =
    value-plus at (raise i (times p k)) (times q k)
    ∙ (rw (value-raise at i (times p k), value-times at p k, value-times at q k) (gathered (value at p) (at i) (value at q) (value at k)))

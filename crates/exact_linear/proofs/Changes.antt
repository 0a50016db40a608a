-- A test that holds at one time and not at a later one changes at a step between; and a sum above 0 has a term above 0. By
-- induction on the gap, and by a first term that passes.
use Rattle.std.proofs.Common.{◌≡◌, ◌≢◌, Bool, true, false, ℕ, zero, suc, ◌+◌, ◌-◌, ◌<◌, ◌≤◌, ℤ, pos, ◌<ℤ◌, refl, sym, ap, ◌∙◌, arith}
use Rattle.std.proofs.lemmas.Int.{ints}
use Rattle.exact_algebra.proofs.FiniteChoice.{FirstBelow, first, no_first, first_below}
use Rattle.exact_algebra.proofs.RingTactic.{linear}
use Rattle.exact_algebra.proofs.SumOrder.{sum_to_at_most}
use Rattle.exact_algebra.proofs.Sums.{sum_to-nothing}
use Rattle.exact_algebra.specs.Sums.{sum_to}
use lib.Signed.{lt_z}

-- The step k to k + 1, between a and b, at which a test changes from one value to another.
pub record Change (test : ℕ → Bool) (x y : Bool) (a b : ℕ) : Type 0 where
  pub at : ℕ
  pub from : a ≤ at
  pub before : at < b
  pub was : test at ≡ x
  pub becomes : test (suc at) ≡ y

later : {test : ℕ → Bool} {x y : Bool} {a b : ℕ} → Change test x y (suc a) b → Change test x y a b
later c = record { at = c.at; from = omega (arith, c.from); before = c.before; was = c.was; becomes = c.becomes }

change_by : (test : ℕ → Bool) (gap a b : ℕ) → a + gap ≡ b → (x y : Bool) → x ≢ y → test a ≡ x → test b ≡ y → ((z : Bool) → z ≢ x → z ≡ y) → Change test x y a b
change_by test zero a b e x y apart here there two = let same : a ≡ b = omega arith in absurd (apart (sym here ∙ (ap test same ∙ there)))
change_by test (suc gap) a b e x y apart here there two = by (test (suc a)) refl (change_by test gap (suc a) b (omega arith) x y apart)
  where
    by : (v : Bool) → test (suc a) ≡ v → (test (suc a) ≡ x → test b ≡ y → ((z : Bool) → z ≢ x → z ≡ y) → Change test x y (suc a) b) → Change test x y a b
    by true f rest = decide x refl
      where
        decide : (w : Bool) → x ≡ w → Change test x y a b
        decide true g = later (rest (f ∙ sym g) there two)
        decide false g = record { at = a; from = omega arith; before = omega arith; was = here; becomes = f ∙ two true (λ h. absurd (cc)) }
    by false f rest = decide x refl
      where
        decide : (w : Bool) → x ≡ w → Change test x y a b
        decide false g = later (rest (f ∙ sym g) there two)
        decide true g = record { at = a; from = omega arith; before = omega arith; was = here; becomes = f ∙ two false (λ h. absurd (cc)) }

gap_of : (a b : ℕ) → a ≤ b → (gap : ℕ) × (a + gap ≡ b)
gap_of a b h = (b - a, omega arith)

-- From false to true, and from true to false.
pub comes_between : (test : ℕ → Bool) (a b : ℕ) → a ≤ b → test a ≡ false → test b ≡ true → Change test false true a b
comes_between test a b h here there = let gap = gap_of a b h in change_by test gap.0 a b gap.1 false true (λ e. absurd (cc)) here there other
  where
    other : (z : Bool) → z ≢ false → z ≡ true
    other true d = refl
    other false d = absurd (d refl)

pub goes_between : (test : ℕ → Bool) (a b : ℕ) → a ≤ b → test a ≡ true → test b ≡ false → Change test true false a b
goes_between test a b h here there = let gap = gap_of a b h in change_by test gap.0 a b gap.1 true false (λ e. absurd (cc)) here there other
  where
    other : (z : Bool) → z ≢ true → z ≡ false
    other false d = refl
    other true d = absurd (d refl)

-- A term above 0 of a sum above 0.
pub positive_term : (m : ℕ) (f : ℕ → ℤ) → pos 0 <ℤ sum_to m f → (k : ℕ) × (k < m) × (pos 0 <ℤ f k)
positive_term m f over = by (first_below (λ k. lt_z (pos 0) (f k)) m)
  where
    by : FirstBelow (λ k. lt_z (pos 0) (f k)) m → (k : ℕ) × (k < m) × (pos 0 <ℤ f k)
    by (first k h passes before) = (k, h, omega (arith, ints))
    by (no_first none) =
        let low = sum_to_at_most m f (λ k. pos 0) (λ k h. let fails = none k h in omega (arith, ints)) in
        let nothing = sum_to-nothing m (λ k. pos 0) (λ k h. refl) in
        absurd (omega (arith, linear))

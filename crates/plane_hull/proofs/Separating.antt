-- A corner of a rounded polygon lies further than all others along the sum of its two edges' directions.
use Rattle.std.proofs.Common.{◌≡◌, ◌≢◌, ◌⊎◌, inl, inr, ℕ, ◌<◌, ◌≤◌, sym, ◌∙◌, ap, subst, ℤ, pos, ◌+ℤ◌, ◌-ℤ◌, ◌*ℤ◌, ◌<ℤ◌, ◌≤ℤ◌, arith}
use Rattle.std.proofs.lemmas.Bool.{cases_eq}
use Rattle.std.proofs.lemmas.Int.{ints}
use Rattle.exact_algebra.proofs.Order.{Sign, negative, nothing, positive, sign, square_not_negative, square_positive}
use Rattle.exact_algebra.proofs.RingTactic.{ring_laws, linear}
use Rattle.plane_hull.proofs.Areas.{dot}
use Rattle.plane_hull.proofs.RoundedPolygon.{IsRounded, level, strictly_lower}

-- along some direction the corner k lies further than any other of n
pub record IsFurthest (n : ℕ) (u v : ℕ → ℤ) (k : ℕ) : Type 0 where
  pub a : ℤ
  pub b : ℤ
  pub further : (j : ℕ) → j < n → j ≢ k → dot a b (u j) (v j) <ℤ dot a b (u k) (v k)

together : (a b c d x y z w : ℤ) → dot a b x y <ℤ dot a b z w → dot c d x y ≤ℤ dot c d z w → dot (a +ℤ c) (b +ℤ d) x y <ℤ dot (a +ℤ c) (b +ℤ d) z w
together a b c d x y z w first second = rw (spread x y, spread z w) (omega (arith, linear))
  where
    spread : (x y : ℤ) → dot (a +ℤ c) (b +ℤ d) x y ≡ dot a b x y +ℤ dot c d x y
    spread x y = simp ring_laws (omega (arith, linear))

other_together : (a b c d x y z w : ℤ) → dot a b x y ≤ℤ dot a b z w → dot c d x y <ℤ dot c d z w → dot (a +ℤ c) (b +ℤ d) x y <ℤ dot (a +ℤ c) (b +ℤ d) z w
other_together a b c d x y z w first second = rw (spread x y, spread z w) (omega (arith, linear))
  where
    spread : (x y : ℤ) → dot (a +ℤ c) (b +ℤ d) x y ≡ dot a b x y +ℤ dot c d x y
    spread x y = simp ring_laws (omega (arith, linear))

pub of_three : (n : ℕ) (next : ℕ → ℕ) (a b u v : ℕ → ℤ) → IsRounded n next a b u v → 3 ≤ n → (k p o : ℕ) → k < n → p < n → o < n → next p ≡ k → next o ≡ p → next k ≢ p → p ≢ k → next k ≢ k → IsFurthest n u v k
of_three n next a b u v is three k p o k_in p_in o_in p_next o_next far p_apart k_apart = record { a = a k +ℤ a p; b = b k +ℤ b p; further = further }
  where
    before : (j : ℕ) → j < n → dot (a p) (b p) (u j) (v j) ≤ℤ dot (a p) (b p) (u k) (v k)
    before j j_in = subst (λ (i : ℕ). dot (a p) (b p) (u j) (v j) ≤ℤ dot (a p) (b p) (u i) (v i)) p_next (is.top_next p j p_in j_in)

    by : (j : ℕ) → j < n → j ≢ k → (j ≡ next k) ⊎ (j ≡ next k → ⊥) → dot (a k +ℤ a p) (b k +ℤ b p) (u j) (v j) <ℤ dot (a k +ℤ a p) (b k +ℤ b p) (u k) (v k)
    by j j_in apart (inr not_next) =
        together (a k) (b k) (a p) (b p) (u j) (v j) (u k) (v k) (strictly_lower n next a b u v is three k j p k_in j_in p_in p_next apart not_next) (before j j_in)
    by j j_in apart (inl at_next) =
        other_together (a k) (b k) (a p) (b p) (u j) (v j) (u k) (v k) (is.top k j k_in j_in)
        (below _ _ _
        (strictly_lower n next a b u v is three p j o p_in j_in o_in o_next (λ e. far (sym at_next ∙ e)) (λ e. apart (e ∙ p_next)))
        (ap (λ (i : ℕ). dot (a p) (b p) (u i) (v i)) (sym p_next) ∙ level n next a b u v is p p_in))
      where
        below : (x y z : ℤ) → x <ℤ y → z ≡ y → x <ℤ z
        below x y z h e = omega (arith, ints)

    further : (j : ℕ) → j < n → j ≢ k → dot (a k +ℤ a p) (b k +ℤ b p) (u j) (v j) <ℤ dot (a k +ℤ a p) (b k +ℤ b p) (u k) (v k)
    further j j_in apart = by j j_in apart (cases_eq j (next k))

from_squares : (p q r s : ℤ) → p -ℤ q ≡ r +ℤ s → pos 0 <ℤ r → pos 0 ≤ℤ s → q <ℤ p
from_squares p q r s e h k = omega (arith, ints)

other_squares : (p q r s : ℤ) → p -ℤ q ≡ r +ℤ s → pos 0 ≤ℤ r → pos 0 <ℤ s → q <ℤ p
other_squares p q r s e h k = omega (arith, ints)

zero_or_over : (s : ℤ) → (s ≡ pos 0) ⊎ (s ≢ pos 0)
zero_or_over s = by (sign s)
  where
    by : Sign s → (s ≡ pos 0) ⊎ (s ≢ pos 0)
    by (nothing z) = inl z
    by (positive h) = inr (λ z. omega (arith, ints))
    by (negative h) = inr (λ z. omega (arith, ints))

-- two points apart: along the way from the one to the other
pub of_two : (n : ℕ) (u v : ℕ → ℤ) (k o : ℕ) → ((j : ℕ) → j < n → j ≢ k → j ≡ o) → (u k ≡ u o → v k ≡ v o → ⊥) → IsFurthest n u v k
of_two n u v k o only apart = record { a = u k -ℤ u o; b = v k -ℤ v o; further = λ j j_in other. subst (λ (i : ℕ). dot (u k -ℤ u o) (v k -ℤ v o) (u i) (v i) <ℤ dot (u k -ℤ u o) (v k -ℤ v o) (u k) (v k)) (sym (only j j_in other)) (way (u k) (v k) (u o) (v o) apart) }
  where
    squares : (x y z w : ℤ) → dot (x -ℤ z) (y -ℤ w) x y -ℤ dot (x -ℤ z) (y -ℤ w) z w ≡ (x -ℤ z) *ℤ (x -ℤ z) +ℤ (y -ℤ w) *ℤ (y -ℤ w)
    squares x y z w = simp ring_laws (omega (arith, linear))

    way : (x y z w : ℤ) → (x ≡ z → y ≡ w → ⊥) → dot (x -ℤ z) (y -ℤ w) z w <ℤ dot (x -ℤ z) (y -ℤ w) x y
    way x y z w differ = by (zero_or_over (x -ℤ z))
      where
        by : (x -ℤ z ≡ pos 0) ⊎ (x -ℤ z ≢ pos 0) → dot (x -ℤ z) (y -ℤ w) z w <ℤ dot (x -ℤ z) (y -ℤ w) x y
        by (inr some) = let first = square_positive (x -ℤ z) some in let second = square_not_negative (y -ℤ w) in let e = squares x y z w in from_squares _ _ _ _ e first second
        by (inl none) =
            let first = square_not_negative (x -ℤ z) in
            let second = square_positive (y -ℤ w) (λ also. differ (same x z none) (same y w also)) in
            let e = squares x y z w in other_squares _ _ _ _ e first second
          where
            same : (s t : ℤ) → s -ℤ t ≡ pos 0 → s ≡ t
            same s t h = omega (arith, ints)

-- A mixture of corners lies no further in a direction than they do, and less far where those that it takes do.
use Rattle.std.proofs.Common.{◌≡◌, ◌≢◌, ◌⊎◌, inl, inr, ℕ, ◌<◌, List, length, refl, sym, ◌∙◌, ap, ℤ, pos, ◌+ℤ◌, ◌-ℤ◌, ◌*ℤ◌, ◌<ℤ◌, ◌≤ℤ◌, arith}
use Rattle.std.proofs.lemmas.Bool.{cases_eq}
use Rattle.std.proofs.lemmas.Int.{ints}
use Rattle.exact_algebra.specs.Sums.{sum_to}
use Rattle.exact_algebra.proofs.Order.{cancel_at_most, no_zero_divisors, product_not_negative, times_at_most}
use Rattle.exact_algebra.proofs.RingLaws.{zero-*ℤ}
use Rattle.exact_algebra.proofs.RingTactic.{ring_laws, linear}
use Rattle.exact_algebra.proofs.SumOrder.{each_nothing, sum_to_at_most}
use Rattle.exact_algebra.proofs.Sums.{sum_to-add, sum_to-difference, sum_to-nothing, sum_to-same, sum_to-scale}
use Rattle.plane_hull.specs.declared.sides.Point.{Point}
use Rattle.plane_hull.specs.Inside.{PlanePoint, corner_at}
use Rattle.plane_hull.specs.Mixture.{IsMeanOf, summed}

weakly : (x : ℤ) → pos 0 <ℤ x → pos 0 ≤ℤ x
weakly x h = omega (arith, ints)

-- how far a point lies in a direction, times its denominator
abbrev pub along : ℤ → ℤ → ℤ → ℤ → PlanePoint → ℤ
along one two a b p = a *ℤ (one *ℤ p.x) +ℤ b *ℤ (two *ℤ p.y)

module _ (one two a b : ℤ) (points : List Point) (times : ℕ → ℕ) where
  -- the corners' sum lies as far as their points together
  pub along_sum : summed points times (along one two a b) ≡ a *ℤ (one *ℤ summed points times (λ q. q.x)) +ℤ b *ℤ (two *ℤ summed points times (λ q. q.y))
  along_sum =
      sum_to-same (length points) (λ k. pos (times k) *ℤ along one two a b (corner_at points k))
      (λ k. a *ℤ one *ℤ (pos (times k) *ℤ (corner_at points k).x) +ℤ b *ℤ two *ℤ (pos (times k) *ℤ (corner_at points k).y))
      (λ k low. parted (pos (times k)) (corner_at points k).x (corner_at points k).y)
      ∙ (sum_to-add (length points) (λ k. a *ℤ one *ℤ (pos (times k) *ℤ (corner_at points k).x)) (λ k. b *ℤ two *ℤ (pos (times k) *ℤ (corner_at points k).y))
      ∙ joined _ _ _ _ (sum_to-scale (length points) (a *ℤ one) (λ k. pos (times k) *ℤ (corner_at points k).x)) (sum_to-scale (length points) (b *ℤ two) (λ k. pos (times k) *ℤ (corner_at points k).y)))
    where
      parted : (w x y : ℤ) → w *ℤ (a *ℤ (one *ℤ x) +ℤ b *ℤ (two *ℤ y)) ≡ a *ℤ one *ℤ (w *ℤ x) +ℤ b *ℤ two *ℤ (w *ℤ y)
      parted w x y = simp ring_laws (omega (arith, linear))

      joined : (p q x y : ℤ) → p ≡ a *ℤ one *ℤ x → q ≡ b *ℤ two *ℤ y → p +ℤ q ≡ a *ℤ (one *ℤ x) +ℤ b *ℤ (two *ℤ y)
      joined p q x y e f = rw (e, f) (simp ring_laws (omega (arith, linear)))

  -- a mean lies as far as the corners' sum, over its denominator
  pub along_mean : (p : PlanePoint) → IsMeanOf points times p → along one two a b p *ℤ summed points times (λ q. q.den) ≡ p.den *ℤ summed points times (along one two a b)
  along_mean p mean =
      rw along_sum
      (spread (summed points times (λ q. q.den))
      ∙ (rw (mean.x, mean.y) (together p.den (summed points times (λ q. q.x)) (summed points times (λ q. q.y)))))
    where
      spread : (t : ℤ) → (a *ℤ (one *ℤ p.x) +ℤ b *ℤ (two *ℤ p.y)) *ℤ t ≡ a *ℤ (one *ℤ (p.x *ℤ t)) +ℤ b *ℤ (two *ℤ (p.y *ℤ t))
      spread t = simp ring_laws (omega (arith, linear))

      together : (d x y : ℤ) → a *ℤ (one *ℤ (d *ℤ x)) +ℤ b *ℤ (two *ℤ (d *ℤ y)) ≡ d *ℤ (a *ℤ (one *ℤ x) +ℤ b *ℤ (two *ℤ y))
      together d x y = simp ring_laws (omega (arith, linear))

  -- the mean lies no further than a point than which no corner lies further
  pub no_further : (p q : PlanePoint) → pos 0 <ℤ p.den → IsMeanOf points times p
      → ((k : ℕ) → k < length points → (along one two a b (corner_at points k) *ℤ q.den) ≤ℤ (along one two a b q *ℤ (corner_at points k).den))
      → (along one two a b p *ℤ q.den) ≤ℤ (along one two a b q *ℤ p.den)
  no_further p q over mean each =
      cancel_at_most (summed points times (λ r. r.den)) mean.total (by (times_at_most p.den (weakly p.den over) sums))
    where
      sums : (q.den *ℤ summed points times (along one two a b)) ≤ℤ (along one two a b q *ℤ summed points times (λ r. r.den))
      sums =
          rw (← sum_to-scale (length points) q.den (λ k. pos (times k) *ℤ along one two a b (corner_at points k)), ← sum_to-scale (length points) (along one two a b q) (λ k. pos (times k) *ℤ (corner_at points k).den))
          (sum_to_at_most (length points) (λ k. q.den *ℤ (pos (times k) *ℤ along one two a b (corner_at points k))) (λ k. along one two a b q *ℤ (pos (times k) *ℤ (corner_at points k).den))
          (λ k low. weighed (pos (times k)) (along one two a b (corner_at points k)) q.den (along one two a b q) (corner_at points k).den (omega (arith, ints)) (each k low)))
        where
          weighed : (w r e s d : ℤ) → pos 0 ≤ℤ w → (r *ℤ e) ≤ℤ (s *ℤ d) → (e *ℤ (w *ℤ r)) ≤ℤ (s *ℤ (w *ℤ d))
          weighed w r e s d high low = rw (left, right) (times_at_most w high low)
            where
              left : e *ℤ (w *ℤ r) ≡ w *ℤ (r *ℤ e)
              left = simp ring_laws refl

              right : s *ℤ (w *ℤ d) ≡ w *ℤ (s *ℤ d)
              right = simp ring_laws refl

      by : (p.den *ℤ (q.den *ℤ summed points times (along one two a b))) ≤ℤ (p.den *ℤ (along one two a b q *ℤ summed points times (λ r. r.den)))
          → (summed points times (λ r. r.den) *ℤ (along one two a b p *ℤ q.den)) ≤ℤ (summed points times (λ r. r.den) *ℤ (along one two a b q *ℤ p.den))
      by low = rw (left, right) low
        where
          left : summed points times (λ r. r.den) *ℤ (along one two a b p *ℤ q.den) ≡ p.den *ℤ (q.den *ℤ summed points times (along one two a b))
          left = turned (summed points times (λ r. r.den)) (along one two a b p) q.den ∙ (ap (λ (z : ℤ). q.den *ℤ z) (along_mean p mean) ∙ exchanged q.den p.den (summed points times (along one two a b)))
            where
              turned : (t r e : ℤ) → t *ℤ (r *ℤ e) ≡ e *ℤ (r *ℤ t)
              turned t r e = simp ring_laws refl

              exchanged : (x y z : ℤ) → x *ℤ (y *ℤ z) ≡ y *ℤ (x *ℤ z)
              exchanged x y z = simp ring_laws refl

          right : summed points times (λ r. r.den) *ℤ (along one two a b q *ℤ p.den) ≡ p.den *ℤ (along one two a b q *ℤ summed points times (λ r. r.den))
          right = round (summed points times (λ r. r.den)) (along one two a b q) p.den
            where
              round : (t s d : ℤ) → t *ℤ (s *ℤ d) ≡ d *ℤ (s *ℤ t)
              round t s d = simp ring_laws refl

  -- a corner that lies further than all others is no mean of them
  module _ (k : ℕ)
      (further : (j : ℕ) → j < length points → j ≢ k → (along one two a b (corner_at points j) *ℤ (corner_at points k).den) <ℤ (along one two a b (corner_at points k) *ℤ (corner_at points j).den))
      (none : times k ≡ 0) (mean : IsMeanOf points times (corner_at points k)) where
    -- what the corner lies further than another one, as often as that is taken
    abbrev gain : ℕ → ℤ
    gain j =
        along one two a b (corner_at points k) *ℤ (pos (times j) *ℤ (corner_at points j).den)
        -ℤ (corner_at points k).den *ℤ (pos (times j) *ℤ along one two a b (corner_at points j))

    gain_is : (j : ℕ) → gain j
        ≡ pos (times j) *ℤ (along one two a b (corner_at points k) *ℤ (corner_at points j).den -ℤ along one two a b (corner_at points j) *ℤ (corner_at points k).den)
    gain_is j = gathered (along one two a b (corner_at points k)) (pos (times j)) (corner_at points j).den (corner_at points k).den (along one two a b (corner_at points j))
      where
        gathered : (s w d e r : ℤ) → s *ℤ (w *ℤ d) -ℤ e *ℤ (w *ℤ r) ≡ w *ℤ (s *ℤ d -ℤ r *ℤ e)
        gathered s w d e r = simp ring_laws (omega (arith, linear))

    over_0 : (j : ℕ) → j < length points → j ≢ k → pos 0 <ℤ (along one two a b (corner_at points k) *ℤ (corner_at points j).den -ℤ along one two a b (corner_at points j) *ℤ (corner_at points k).den)
    over_0 j low apart = difference _ _ (further j low apart)
      where
        difference : (x y : ℤ) → x <ℤ y → pos 0 <ℤ (y -ℤ x)
        difference x y h = omega (arith, ints)

    gain_high : (j : ℕ) → j < length points → pos 0 ≤ℤ gain j
    gain_high j low = by (cases_eq j k)
      where
        by : (j ≡ k) ⊎ (j ≡ k → ⊥) → pos 0 ≤ℤ gain j
        by (inl same) =
            let nothing : times j ≡ 0 = ap times same ∙ none in
            rw (gain_is j, nothing, zero-*ℤ (along one two a b (corner_at points k) *ℤ (corner_at points j).den -ℤ along one two a b (corner_at points j) *ℤ (corner_at points k).den)) (omega (arith, ints))
        by (inr apart) = let weight : pos 0 ≤ℤ pos (times j) = omega (arith, ints) in rw (gain_is j) (product_not_negative weight (weakly _ (over_0 j low apart)))

    gain_sum : sum_to (length points) gain ≡ pos 0
    gain_sum =
        sum_to-difference (length points) (λ j. along one two a b (corner_at points k) *ℤ (pos (times j) *ℤ (corner_at points j).den)) (λ j. (corner_at points k).den *ℤ (pos (times j) *ℤ along one two a b (corner_at points j)))
        ∙ level _ _ _ _
        (sum_to-scale (length points) (along one two a b (corner_at points k)) (λ j. pos (times j) *ℤ (corner_at points j).den))
        (sum_to-scale (length points) (corner_at points k).den (λ j. pos (times j) *ℤ along one two a b (corner_at points j)))
        (along_mean (corner_at points k) mean)
      where
        level : (p q x y : ℤ) → p ≡ x → q ≡ y → x ≡ y → p -ℤ q ≡ pos 0
        level p q x y e f g = omega (arith, ints)

    nothing_of : (j : ℕ) → j < length points → pos (times j) *ℤ (corner_at points j).den ≡ pos 0
    nothing_of j low = by (cases_eq j k)
      where
        zero_weight : pos (times j) ≡ pos 0 → pos (times j) *ℤ (corner_at points j).den ≡ pos 0
        zero_weight z = ap (λ (w : ℤ). w *ℤ (corner_at points j).den) z ∙ zero-*ℤ (corner_at points j).den

        either : (x : ℤ) → pos 0 <ℤ x → (pos (times j) ≡ pos 0) ⊎ (x ≡ pos 0) → pos (times j) ≡ pos 0
        either x over (inl z) = z
        either x over (inr z) = absurd (omega (arith, ints))

        by : (j ≡ k) ⊎ (j ≡ k → ⊥) → pos (times j) *ℤ (corner_at points j).den ≡ pos 0
        by (inl same) = zero_weight (ap pos (ap times same ∙ none))
        by (inr apart) =
            let z = each_nothing (length points) j gain low gain_high gain_sum in
            zero_weight (either _ (over_0 j low apart) (no_zero_divisors _ _ (sym (gain_is j) ∙ z)))

    pub not_of_others : ⊥
    not_of_others =
        let all = sum_to-nothing (length points) (λ j. pos (times j) *ℤ (corner_at points j).den) nothing_of in
        let total = mean.total in
        nowhere _ all total
      where
        nowhere : (x : ℤ) → x ≡ pos 0 → pos 0 <ℤ x → ⊥
        nowhere x e h = omega (arith, ints)

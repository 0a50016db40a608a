-- Uses of the ring tactic: identities of low degree, and inequalities from a hypothesis in the same form.
use Rattle.std.proofs.Common.{◌≡◌, ℕ, ◌^◌, ℤ, pos, negsuc, ◌+ℤ◌, ◌-ℤ◌, ◌*ℤ◌, ◌≤ℤ◌, arith}
use Rattle.exact_algebra.proofs.Order.{square_not_negative}
use Rattle.exact_algebra.proofs.RingTactic.{ring_laws, linear}

square_of_sum : (a b : ℤ) → (a +ℤ b) *ℤ (a +ℤ b) ≡ a *ℤ a +ℤ pos 2 *ℤ a *ℤ b +ℤ b *ℤ b
square_of_sum a b = simp ring_laws (omega (arith, linear))

cube_of_sum : (a b : ℤ) → (a +ℤ b) *ℤ ((a +ℤ b) *ℤ (a +ℤ b)) ≡ a *ℤ a *ℤ a +ℤ pos 3 *ℤ a *ℤ a *ℤ b +ℤ a *ℤ pos 3 *ℤ b *ℤ b +ℤ b *ℤ b *ℤ b
cube_of_sum a b = simp ring_laws (omega (arith, linear))

conjugates : (a b : ℤ) → (a +ℤ b) *ℤ (a -ℤ b) ≡ a *ℤ a -ℤ b *ℤ b
conjugates a b = simp ring_laws (omega (arith, linear))

negative_numerals : (a b : ℤ) → (a *ℤ pos 2 -ℤ negsuc 2) *ℤ (b +ℤ pos 1) ≡ pos 2 *ℤ b *ℤ a +ℤ pos 2 *ℤ a +ℤ b *ℤ pos 3 +ℤ pos 3
negative_numerals a b = simp ring_laws (omega (arith, linear))

natural_weights : (m n : ℕ) (a b : ℤ) → pos m *ℤ (pos n *ℤ a +ℤ b) ≡ a *ℤ (pos n *ℤ pos m) +ℤ b *ℤ pos m
natural_weights m n a b = simp ring_laws (omega (arith, linear))

-- A row of a determinant plus a multiple of another row.
row_added : (a b c d e f g h i k : ℤ) →
    (a +ℤ k *ℤ d) *ℤ (e *ℤ i -ℤ f *ℤ h) -ℤ (b +ℤ k *ℤ e) *ℤ (d *ℤ i -ℤ f *ℤ g) +ℤ (c +ℤ k *ℤ f) *ℤ (d *ℤ h -ℤ e *ℤ g)
    ≡ a *ℤ (e *ℤ i -ℤ f *ℤ h) -ℤ b *ℤ (d *ℤ i -ℤ f *ℤ g) +ℤ c *ℤ (d *ℤ h -ℤ e *ℤ g)
row_added a b c d e f g h i k = simp ring_laws (omega (arith, linear))

sides_exchanged : (a b c d : ℤ) → ((a -ℤ b) *ℤ (c +ℤ d)) ≤ℤ pos 0 → (c *ℤ a +ℤ a *ℤ d) ≤ℤ (b *ℤ c +ℤ b *ℤ d)
sides_exchanged a b c d h = let given = simp ring_laws at h in simp ring_laws (omega (arith, linear))

-- The inequality of Cauchy and Schwarz in the plane, from one square.
cauchy : (a b x y : ℤ) → ((a *ℤ x +ℤ b *ℤ y) *ℤ (a *ℤ x +ℤ b *ℤ y)) ≤ℤ ((a *ℤ a +ℤ b *ℤ b) *ℤ (x *ℤ x +ℤ y *ℤ y))
cauchy a b x y = let square = simp ring_laws at (square_not_negative (a *ℤ y -ℤ b *ℤ x)) in simp ring_laws (omega (arith, linear))

-- Two objectives in one: a great weight, added on both sides.
weighted : (u v x y : ℤ) → (pos (2 ^ 126) *ℤ u +ℤ v) *ℤ x -ℤ (pos (2 ^ 126) *ℤ u -ℤ v) *ℤ x ≡ pos 2 *ℤ (v *ℤ x)
weighted u v x y = simp ring_laws (omega (arith, linear))

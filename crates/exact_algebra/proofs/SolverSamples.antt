-- Uses of the solver by computation: two, four and nine unknowns by name or number, Cramer's rule in the plane with twelve
-- unknowns, the determinant of a product with eighteen, and an equation from two given ones.
use Rattle.std.proofs.Common.{◌≡◌, [], ◌∷◌, ℤ, pos, ◌+ℤ◌, ◌-ℤ◌, ◌*ℤ◌, refl}
use Rattle.exact_algebra.proofs.Combinations.{same_by_two}
use Rattle.exact_algebra.proofs.Identities.{Expression, unknown, lit, ◌⊕◌, ◌⊖◌, ◌⊗◌, identity, identity_two, identity_four, identity_six}

fourth_power : (a b : ℤ) → (a +ℤ b) *ℤ (a +ℤ b) *ℤ (a +ℤ b) *ℤ (a +ℤ b) ≡ a *ℤ a *ℤ (a *ℤ a) +ℤ pos 4 *ℤ (a *ℤ a *ℤ a) *ℤ b +ℤ pos 6 *ℤ (a *ℤ a) *ℤ (b *ℤ b) +ℤ pos 4 *ℤ a *ℤ (b *ℤ b *ℤ b) +ℤ b *ℤ b *ℤ (b *ℤ b)
fourth_power a b =
    identity_two
    (λ x y. (x ⊕ y) ⊗ (x ⊕ y) ⊗ (x ⊕ y) ⊗ (x ⊕ y))
    (λ x y. x ⊗ x ⊗ (x ⊗ x) ⊕ lit (pos 4) ⊗ (x ⊗ x ⊗ x) ⊗ y ⊕ lit (pos 6) ⊗ (x ⊗ x) ⊗ (y ⊗ y) ⊕ lit (pos 4) ⊗ x ⊗ (y ⊗ y ⊗ y) ⊕ y ⊗ y ⊗ (y ⊗ y))
    a b refl

-- A product of sums of two squares is a sum of two squares.
two_squares : (a b c d : ℤ) → (a *ℤ a +ℤ b *ℤ b) *ℤ (c *ℤ c +ℤ d *ℤ d) ≡ (a *ℤ c -ℤ b *ℤ d) *ℤ (a *ℤ c -ℤ b *ℤ d) +ℤ (a *ℤ d +ℤ b *ℤ c) *ℤ (a *ℤ d +ℤ b *ℤ c)
two_squares a b c d =
    identity_four
    (λ x y u v. (x ⊗ x ⊕ y ⊗ y) ⊗ (u ⊗ u ⊕ v ⊗ v))
    (λ x y u v. (x ⊗ u ⊖ y ⊗ v) ⊗ (x ⊗ u ⊖ y ⊗ v) ⊕ (x ⊗ v ⊕ y ⊗ u) ⊗ (x ⊗ v ⊕ y ⊗ u))
    a b c d refl

-- A two by three matrix: the minors times the entries of a row add up to 0.
minors_of_a_row : (a b c d e f : ℤ) → a *ℤ (b *ℤ f -ℤ c *ℤ e) -ℤ b *ℤ (a *ℤ f -ℤ c *ℤ d) +ℤ c *ℤ (a *ℤ e -ℤ b *ℤ d) ≡ pos 0
minors_of_a_row a b c d e f =
    identity_six
    (λ u v w x y z. u ⊗ (v ⊗ z ⊖ w ⊗ y) ⊖ v ⊗ (u ⊗ z ⊖ w ⊗ x) ⊕ w ⊗ (u ⊗ y ⊖ v ⊗ x))
    (λ u v w x y z. lit (pos 0))
    a b c d e f refl

-- The determinant of three vectors, of numbers and of expressions.
abbrev det : ℤ → ℤ → ℤ → ℤ → ℤ → ℤ → ℤ → ℤ → ℤ → ℤ
det a b c d e f g h i = a *ℤ (e *ℤ i -ℤ f *ℤ h) -ℤ b *ℤ (d *ℤ i -ℤ f *ℤ g) +ℤ c *ℤ (d *ℤ h -ℤ e *ℤ g)

abbrev det_of : Expression → Expression → Expression → Expression → Expression → Expression → Expression → Expression → Expression → Expression
det_of a b c d e f g h i = a ⊗ (e ⊗ i ⊖ f ⊗ h) ⊖ b ⊗ (d ⊗ i ⊖ f ⊗ g) ⊕ c ⊗ (d ⊗ h ⊖ e ⊗ g)

-- The determinant changes its sign where two rows change places, and is the same by columns.
rows_exchanged : (a b c d e f g h i : ℤ) → det a b c d e f g h i +ℤ det d e f a b c g h i ≡ pos 0
rows_exchanged a b c d e f g h i =
    let u = unknown in
    identity
    (det_of (u 0) (u 1) (u 2) (u 3) (u 4) (u 5) (u 6) (u 7) (u 8) ⊕ det_of (u 3) (u 4) (u 5) (u 0) (u 1) (u 2) (u 6) (u 7) (u 8))
    (lit (pos 0))
    (a ∷ b ∷ c ∷ d ∷ e ∷ f ∷ g ∷ h ∷ i ∷ [])
    refl

by_columns : (a b c d e f g h i : ℤ) → det a b c d e f g h i ≡ det a d g b e h c f i
by_columns a b c d e f g h i =
    let u = unknown in
    identity
    (det_of (u 0) (u 1) (u 2) (u 3) (u 4) (u 5) (u 6) (u 7) (u 8))
    (det_of (u 0) (u 3) (u 6) (u 1) (u 4) (u 7) (u 2) (u 5) (u 8))
    (a ∷ b ∷ c ∷ d ∷ e ∷ f ∷ g ∷ h ∷ i ∷ [])
    refl

-- Cramer's rule in the plane: a point times the triangle's determinant is the mixture of the corners by the three
-- determinants in which the point takes a corner's place.
cramer : (x1 y1 w1 x2 y2 w2 x3 y3 w3 x y w : ℤ) →
    det x y w x2 y2 w2 x3 y3 w3 *ℤ x1 +ℤ det x1 y1 w1 x y w x3 y3 w3 *ℤ x2 +ℤ det x1 y1 w1 x2 y2 w2 x y w *ℤ x3 ≡ det x1 y1 w1 x2 y2 w2 x3 y3 w3 *ℤ x
cramer x1 y1 w1 x2 y2 w2 x3 y3 w3 x y w =
    let u = unknown in
    identity
    (det_of (u 9) (u 10) (u 11) (u 3) (u 4) (u 5) (u 6) (u 7) (u 8) ⊗ u 0 ⊕ det_of (u 0) (u 1) (u 2) (u 9) (u 10) (u 11) (u 6) (u 7) (u 8) ⊗ u 3 ⊕ det_of (u 0) (u 1) (u 2) (u 3) (u 4) (u 5) (u 9) (u 10) (u 11) ⊗ u 6)
    (det_of (u 0) (u 1) (u 2) (u 3) (u 4) (u 5) (u 6) (u 7) (u 8) ⊗ u 9)
    (x1 ∷ y1 ∷ w1 ∷ x2 ∷ y2 ∷ w2 ∷ x3 ∷ y3 ∷ w3 ∷ x ∷ y ∷ w ∷ [])
    refl

-- The determinant of a product of two matrices is the product of their determinants.
product_determinant : (a b c d e f g h i k l m n o p q r s : ℤ) →
    det (a *ℤ k +ℤ b *ℤ n +ℤ c *ℤ q) (a *ℤ l +ℤ b *ℤ o +ℤ c *ℤ r) (a *ℤ m +ℤ b *ℤ p +ℤ c *ℤ s)
    (d *ℤ k +ℤ e *ℤ n +ℤ f *ℤ q) (d *ℤ l +ℤ e *ℤ o +ℤ f *ℤ r) (d *ℤ m +ℤ e *ℤ p +ℤ f *ℤ s)
    (g *ℤ k +ℤ h *ℤ n +ℤ i *ℤ q) (g *ℤ l +ℤ h *ℤ o +ℤ i *ℤ r) (g *ℤ m +ℤ h *ℤ p +ℤ i *ℤ s)
    ≡ det a b c d e f g h i *ℤ det k l m n o p q r s
product_determinant a b c d e f g h i k l m n o p q r s =
    let u = unknown in
    identity
    (det_of (u 0 ⊗ u 9 ⊕ u 1 ⊗ u 12 ⊕ u 2 ⊗ u 15) (u 0 ⊗ u 10 ⊕ u 1 ⊗ u 13 ⊕ u 2 ⊗ u 16) (u 0 ⊗ u 11 ⊕ u 1 ⊗ u 14 ⊕ u 2 ⊗ u 17)
    (u 3 ⊗ u 9 ⊕ u 4 ⊗ u 12 ⊕ u 5 ⊗ u 15) (u 3 ⊗ u 10 ⊕ u 4 ⊗ u 13 ⊕ u 5 ⊗ u 16) (u 3 ⊗ u 11 ⊕ u 4 ⊗ u 14 ⊕ u 5 ⊗ u 17)
    (u 6 ⊗ u 9 ⊕ u 7 ⊗ u 12 ⊕ u 8 ⊗ u 15) (u 6 ⊗ u 10 ⊕ u 7 ⊗ u 13 ⊕ u 8 ⊗ u 16) (u 6 ⊗ u 11 ⊕ u 7 ⊗ u 14 ⊕ u 8 ⊗ u 17))
    (det_of (u 0) (u 1) (u 2) (u 3) (u 4) (u 5) (u 6) (u 7) (u 8) ⊗ det_of (u 9) (u 10) (u 11) (u 12) (u 13) (u 14) (u 15) (u 16) (u 17))
    (a ∷ b ∷ c ∷ d ∷ e ∷ f ∷ g ∷ h ∷ i ∷ k ∷ l ∷ m ∷ n ∷ o ∷ p ∷ q ∷ r ∷ s ∷ [])
    refl

-- Two lines through one point: the determinant of the lines times x is the determinant with the right sides in x's column.
crossing : (a b c d p q x y : ℤ) → a *ℤ x +ℤ b *ℤ y ≡ p → c *ℤ x +ℤ d *ℤ y ≡ q → (a *ℤ d -ℤ b *ℤ c) *ℤ x ≡ p *ℤ d -ℤ b *ℤ q
crossing a b c d p q x y first second =
    let u = unknown in
    same_by_two d (pos 0 -ℤ b) first second
    (identity
    ((u 0 ⊗ u 3 ⊖ u 1 ⊗ u 2) ⊗ u 6 ⊖ (u 4 ⊗ u 3 ⊖ u 1 ⊗ u 5))
    (u 3 ⊗ (u 0 ⊗ u 6 ⊕ u 1 ⊗ u 7 ⊖ u 4) ⊕ (lit (pos 0) ⊖ u 1) ⊗ (u 2 ⊗ u 6 ⊕ u 3 ⊗ u 7 ⊖ u 5))
    (a ∷ b ∷ c ∷ d ∷ p ∷ q ∷ x ∷ y ∷ [])
    refl)

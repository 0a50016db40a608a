-- Small products in 128 bits, and what they tell of points and half planes.
use Rattle.std.proofs.Common.{◌≡◌, ℕ, ◌*◌, ◌^◌, ◌<◌, ◌≤◌, Bool, Decides, List, slice_get, Some, sym, ◌∙◌, subst, ℤ, ◌*ℤ◌, ◌≤ℤ◌, unsigned_abs, to_z, of_z, arith, [], ◌∷◌, ◌++◌, inl, inr}
use lib.Signed.{le_z}
use Rattle.std.specs.Int.{w128}
use Rattle.std.proofs.lemmas.Int.{ints}
use Rattle.corr_num.proofs.MagnitudeBounds.{product_magnitude}
use Rattle.corr_num.proofs.PrintedTerms.{returned}
use Rattle.plane_hull.specs.declared.directions.Dir.{Dir}
use Rattle.plane_hull.specs.declared.sides.Point.{Point}
use Rattle.plane_hull.specs.declared.sides.SideRow.{SideRow}
use Rattle.plane_hull.specs.Inside.{NoFurther, PlanePoint, corner_at, plane_point}
use Rattle.plane_hull.proofs.PolygonOfBelt.{corner_is}
use Rattle.tree_recall.proofs.Progress.{slice_get-push}
use Rattle.plain_programs.specs.SmallPolygon.{AreSmallPoints, AreSmallSides, IsSmallDirection, IsSmallPoint}

pub product_passed : (r a b : ℤ) (m n : ℕ) → m < 2 ^ 127 → n < 2 ^ 127 → m * n < 2 ^ 127 → unsigned_abs a ≤ m → unsigned_abs b ≤ n
    → r ≡ to_z w128 (of_z w128 a) *ℤ to_z w128 (of_z w128 b) → to_z w128 (of_z w128 r) ≡ a *ℤ b
product_passed r a b m n m_low n_low low a_low b_low e =
    rw (e, returned a (omega arith), returned b (omega arith)) (returned (a *ℤ b) (omega (arith, product_magnitude a b m n a_low b_low)))

pub product_low : (r a b : ℤ) (m n : ℕ) → m < 2 ^ 127 → n < 2 ^ 127 → m * n < 2 ^ 127 → unsigned_abs a ≤ m → unsigned_abs b ≤ n
    → r ≡ to_z w128 (of_z w128 a) *ℤ to_z w128 (of_z w128 b) → unsigned_abs (to_z w128 (of_z w128 r)) ≤ m * n
product_low r a b m n m_low n_low low a_low b_low e = rw (product_passed r a b m n m_low n_low low a_low b_low e) (product_magnitude a b m n a_low b_low)

-- a product of numbers as they are read
pub read_passed : (r s t a b : ℤ) (m n : ℕ) → m < 2 ^ 127 → n < 2 ^ 127 → m * n < 2 ^ 127 → s ≡ a → t ≡ b → unsigned_abs a ≤ m → unsigned_abs b ≤ n
    → r ≡ to_z w128 (of_z w128 s) *ℤ to_z w128 (of_z w128 t) → to_z w128 (of_z w128 r) ≡ a *ℤ b
read_passed r s t a b m n m_low n_low low s_is t_is a_low b_low e =
    product_passed r a b m n m_low n_low low a_low b_low
    (subst (λ (z : ℤ). r ≡ to_z w128 (of_z w128 a) *ℤ to_z w128 (of_z w128 z)) t_is
    (subst (λ (z : ℤ). r ≡ to_z w128 (of_z w128 z) *ℤ to_z w128 (of_z w128 t)) s_is e))

pub parts_passed : (r s t a b : ℤ) → s ≡ a → t ≡ b → unsigned_abs a ≤ 2 ^ 10 → unsigned_abs b ≤ 2 ^ 10
    → r ≡ to_z w128 (of_z w128 s) *ℤ to_z w128 (of_z w128 t) → to_z w128 (of_z w128 r) ≡ a *ℤ b
parts_passed r s t a b s_is t_is a_low b_low e =
    read_passed r s t a b (2 ^ 10) (2 ^ 10) (omega arith) (omega arith) (omega arith) s_is t_is a_low b_low e

pub still_low : (r : ℤ) (m : ℕ) → m < 2 ^ 127 → unsigned_abs r ≤ m → unsigned_abs (to_z w128 (of_z w128 r)) ≤ m
still_low r m m_low low = rw (returned r (omega arith)) low

pub place_is : (points : List Point) (k : ℕ) (p : Point) (x y den : ℤ) → slice_get points k ≡ Some p
    → x ≡ p.one.num *ℤ p.two.den → y ≡ p.two.num *ℤ p.one.den → den ≡ p.one.den *ℤ p.two.den → record { x = x; y = y; den = den } ≡ corner_at points k
place_is points k p x y den at x_is y_is den_is =
    let same : record { x = x; y = y; den = den } ≡ plane_point p = λ i. record { x = x_is i; y = y_is i; den = den_is i } in
    same ∙ sym (corner_is points k p at)

-- an order of two products
pub order_told : (r s p q : ℤ) → to_z w128 (of_z w128 r) ≡ p → to_z w128 (of_z w128 s) ≡ q → Decides (le_z (to_z w128 (of_z w128 r)) (to_z w128 (of_z w128 s))) (p ≤ℤ q)
order_told r s p q first second = rw (first, second) (told p q)
  where
    told : (p q : ℤ) → Decides (le_z p q) (p ≤ℤ q)
    told p q = (λ t. grind (arith, ints), λ h. grind (arith, ints))

-- the corner's place in the code is the corner
pub corner_told : (one two : ℤ) (dir : Dir) (p q c : PlanePoint) (r : Bool) → q ≡ c → Decides r (NoFurther one two dir p q) → Decides r (NoFurther one two dir p c)
corner_told one two dir p q c r same told = subst (λ (z : PlanePoint). Decides r (NoFurther one two dir p z)) same told

-- one more small point, one more small side
pub one_more_point : (old new : List Point) (p : Point) → new ≡ old ++ p ∷ [] → AreSmallPoints old → IsSmallPoint p → AreSmallPoints new
one_more_point old new p e small this = λ k found h.
    elim (slice_get-push old p found k (subst (λ (points : List Point). slice_get points k ≡ Some found) e h)) [
      | inl there ↦ small k found there
      | inr end ↦ subst (λ (q : Point). IsSmallPoint q) end.1 this
    ]

pub one_more_side : (old new : List SideRow) (side : SideRow) → new ≡ old ++ side ∷ [] → AreSmallSides old → IsSmallDirection side.dir → AreSmallSides new
one_more_side old new side e small this = λ k found h.
    elim (slice_get-push old side found k (subst (λ (sides : List SideRow). slice_get sides k ≡ Some found) e h)) [
      | inl there ↦ small k found there
      | inr end ↦ subst (λ (s : SideRow). IsSmallDirection s.dir) end.1 this
    ]

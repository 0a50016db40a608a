-- What the tests of the belt's code tell of its sides, over plain sides and numbers.
use Rattle.std.proofs.Common.{◌≡◌, ◌≢◌, inl, inr, ℕ, zero, suc, ◌+◌, ◌-◌, ◌<◌, ◌≤◌, Bool, not, ◌&&◌, Decides, List, [], ◌∷◌, length, slice_get, get_or, drop, Some, int_eq, refl, sym, ◌∙◌, subst, ap, arith}
use Rattle.std.proofs.lemmas.Bool.Decides.{Decides-and, Decides-at, Decides-int_eq, Decides-like, Decides-not}
use Rattle.std.proofs.lemmas.Option.{same_Some, slice_get_read, slice_get_within}
use Rattle.plane_hull.specs.declared.directions.Dir.{Dir}
use Rattle.plane_hull.specs.declared.sides.Point.{Point}
use Rattle.plane_hull.specs.declared.sides.SideRow.{SideRow}
use Rattle.plane_hull.specs.Belt.{IsNext, MayFollow, PointsDiffer, changes_from, last_corner}
use Rattle.plane_hull.specs.BeltFault.{IsInTurn}
use Rattle.plane_hull.specs.Round.{PairsUp, PairsWith}
use Rattle.plane_hull.proofs.Leaving.{change, no_change, one_change}
use Rattle.plane_hull.proofs.SameDirection.{same_dir}
use Rattle.plane_hull.proofs.WholeBelt.{same_side}

-- ---- directions and points

pub direction_told : (x y : Dir) (r : Bool) → r ≡ (int_eq x.a y.a && int_eq x.b y.b) → Decides r (x ≡ y)
direction_told x y r e =
    Decides-like r (λ (h : (x.a ≡ y.a) × (x.b ≡ y.b)). same_dir x y h.0 h.1) (λ s. (ap (λ (d : Dir). d.a) s, ap (λ (d : Dir). d.b) s))
    (Decides-at r _ e (Decides-and _ _ (Decides-int_eq x.a y.a) (Decides-int_eq x.b y.b)))

same_point : (p q : Point) → (p.one.num ≡ q.one.num) × (p.one.den ≡ q.one.den) → (p.two.num ≡ q.two.num) × (p.two.den ≡ q.two.den) → p ≡ q
same_point p q one two = λ i. record { one = record { num = one.0 i; den = one.1 i }; two = record { num = two.0 i; den = two.1 i } }

pub points_told : (p q : Point) (r : Bool)
    → r ≡ not ((int_eq p.one.num q.one.num && int_eq p.one.den q.one.den) && (int_eq p.two.num q.two.num && int_eq p.two.den q.two.den)) → Decides r (p ≡ q → ⊥)
points_told p q r e =
    Decides-at r _ e
    (Decides-not _
    (Decides-like _
    (λ (h : ((p.one.num ≡ q.one.num) × (p.one.den ≡ q.one.den)) × ((p.two.num ≡ q.two.num) × (p.two.den ≡ q.two.den))). same_point p q h.0 h.1)
    (λ s. ((ap (λ (x : Point). x.one.num) s, ap (λ (x : Point). x.one.den) s), (ap (λ (x : Point). x.two.num) s, ap (λ (x : Point). x.two.den) s)))
    (Decides-and _ _
    (Decides-and _ _ (Decides-int_eq _ _) (Decides-int_eq _ _))
    (Decides-and _ _ (Decides-int_eq _ _) (Decides-int_eq _ _)))))

pub differ_told : (points : List Point) (from to : SideRow) (p q : Point) (r : Bool) → from.corner < length points → to.corner < length points
    → p ≡ get_or points from.corner p → q ≡ get_or points to.corner q → (from.corner ≡ to.corner → ⊥) → Decides r (p ≡ q → ⊥) → Decides r (PointsDiffer points from to)
differ_told points from to p q r from_in to_in at_p at_q apart told =
    let p_at = slice_get_read points (length points) from.corner p refl from_in at_p in
    let q_at = slice_get_read points (length points) to.corner q refl to_in at_q in
    Decides-like r
    (λ (differ : p ≡ q → ⊥). λ _. λ level. differ (same_Some p q (sym p_at ∙ (level ∙ q_at))))
    (λ differ. λ same. differ apart (p_at ∙ (ap Some same ∙ sym q_at)))
    told

-- ---- a side in turn

pub turn_told : (points : List Point) (sides : List SideRow) (side : ℕ) (from to : SideRow) (r : Bool) → (side ≡ 0 → ⊥)
    → slice_get sides (side - 1) ≡ Some from → slice_get sides side ≡ Some to
    → Decides r (MayFollow (length points) (side - 1) from to × PointsDiffer points from to) → Decides r (IsInTurn points sides side)
turn_told points sides zero from to r over at_from at_to told = absurd (over refl)
turn_told points sides (suc k) from to r over at_from at_to told = by (subst (λ (j : ℕ). slice_get sides j ≡ Some from) e at_from) (subst (λ (j : ℕ). Decides r (MayFollow (length points) j from to × PointsDiffer points from to)) e told)
  where
    e : suc k - 1 ≡ k
    e = omega arith

    by : slice_get sides k ≡ Some from → Decides r (MayFollow (length points) k from to × PointsDiffer points from to) → Decides r (IsInTurn points sides (suc k))
    by at_k =
        Decides-like r
        (λ (h : MayFollow (length points) k from to × PointsDiffer points from to). λ x y at_x at_y.
        let same : from ≡ x = same_Some from x (sym at_k ∙ at_x) in
        let again : to ≡ y = same_Some to y (sym at_to ∙ at_y) in
        subst (λ (s : SideRow). MayFollow (length points) k x s × PointsDiffer points x s) again
        (subst (λ (s : SideRow). MayFollow (length points) k s to × PointsDiffer points s to) same h))
        (λ all. all from to at_k at_to)

-- ---- changes of the corner

pub last_is : (sides : List SideRow) (side : SideRow) → slice_get sides (length sides - 1) ≡ Some side → last_corner sides ≡ side.corner
last_is [] side at = absurd (cc)
last_is (x ∷ []) side at = ap (λ (s : SideRow). s.corner) (same_Some x side at)
last_is (x ∷ y ∷ sides) side at =
    let e : suc (suc (length sides)) - 1 ≡ suc (suc (length sides) - 1) = omega arith in
    last_is (y ∷ sides) side (subst (λ (k : ℕ). slice_get (x ∷ y ∷ sides) k ≡ Some side) e at)

drop_at : (xs : List SideRow) (k : ℕ) (x : SideRow) → slice_get xs k ≡ Some x → drop k xs ≡ x ∷ drop (suc k) xs
drop_at [] k x at = absurd (cc)
drop_at (y ∷ ys) zero x at = ap (λ (s : SideRow). s ∷ ys) (same_Some y x at)
drop_at (y ∷ ys) (suc k) x at = drop_at ys k x at

rest_changes : (corner k : ℕ) (sides : List SideRow) (here : SideRow) → slice_get sides k ≡ Some here
    → changes_from corner (drop k sides) ≡ change corner here.corner + changes_from here.corner (drop (k + 1) sides)
rest_changes corner k sides here at =
    let e : k + 1 ≡ suc k = omega arith in
    ap (changes_from corner) (drop_at sides k here at) ∙ ap (λ (j : ℕ). change corner here.corner + changes_from here.corner (drop j sides)) (sym e)

pub counted_more : (corner k count now all : ℕ) (sides : List SideRow) (here : SideRow) → slice_get sides k ≡ Some here
    → corner ≢ here.corner → now ≡ count + 1 → count + changes_from corner (drop k sides) ≡ all → now + changes_from here.corner (drop (k + 1) sides) ≡ all
counted_more corner k count now all sides here at apart more before =
    let rest = rest_changes corner k sides here at in
    let one = one_change corner here.corner apart in
    omega arith

pub counted_same : (corner k count now all : ℕ) (sides : List SideRow) (here : SideRow) → slice_get sides k ≡ Some here
    → corner ≡ here.corner → now ≡ count → count + changes_from corner (drop k sides) ≡ all → now + changes_from here.corner (drop (k + 1) sides) ≡ all
counted_same corner k count now all sides here at same still before =
    let rest = rest_changes corner k sides here at in
    let none = no_change corner here.corner same in
    omega arith

-- ---- neighbours

one_next : (count k a b : ℕ) → IsNext count k a → IsNext count k b → a ≡ b
one_next count k a b (inl (low, first)) (inl (again, second)) = omega arith
one_next count k a b (inl (low, first)) (inr (again, second)) = absurd (omega arith)
one_next count k a b (inr (low, first)) (inl (again, second)) = absurd (omega arith)
one_next count k a b (inr (low, first)) (inr (again, second)) = omega arith

one_before : (count k a b : ℕ) → IsNext count a k → IsNext count b k → a ≡ b
one_before count k a b (inl (low, first)) (inl (again, second)) = omega arith
one_before count k a b (inl (low, first)) (inr (again, second)) = absurd (omega arith)
one_before count k a b (inr (low, first)) (inl (again, second)) = absurd (omega arith)
one_before count k a b (inr (low, first)) (inr (again, second)) = omega arith

pub pairs_told : (sides : List SideRow) (j n k : ℕ) (before here behind : SideRow) → IsNext (length sides) j n → IsNext (length sides) n k
    → slice_get sides j ≡ Some before → slice_get sides n ≡ Some here → slice_get sides k ≡ Some behind → PairsWith before here behind → PairsUp sides n
pairs_told sides j n k before here behind first second at_before at_here at_behind pairs = λ i l x y z one two at_x at_y at_z.
    subst (λ (s : SideRow). PairsWith x y s) (same_side sides k l behind z (one_next (length sides) n k l second two) at_behind at_z)
    (subst (λ (s : SideRow). PairsWith x s behind) (same_side sides n n here y refl at_here at_y)
    (subst (λ (s : SideRow). PairsWith s here behind) (same_side sides j i before x (one_before (length sides) n j i first one) at_before at_x) pairs))

pub all_pairs : (sides : List SideRow) (m : ℕ) → length sides ≤ m → ((k : ℕ) → k < m → PairsUp sides k) → (k : ℕ) → PairsUp sides k
all_pairs sides m long pairs k = λ i l x y z one two at_x at_y at_z.
    pairs k (let inside = slice_get_within sides k y at_y in omega arith) i l x y z one two at_x at_y at_z

-- ---- the way back to the first side

pub closing : (points : List Point) (sides : List SideRow) (m : ℕ) (from to : SideRow) → m ≡ length sides → (m ≡ 0 → ⊥)
    → slice_get sides (m - 1) ≡ Some from → slice_get sides 0 ≡ Some to → MayFollow (length points) (m - 1) from to × PointsDiffer points from to
    → (k : ℕ) (last first : SideRow) → suc k ≡ length sides → slice_get sides k ≡ Some last → slice_get sides 0 ≡ Some first
    → MayFollow (length points) k last first × PointsDiffer points last first
closing points sides m from to long some at_from at_to holds k last first end at_last at_first =
    let e : m - 1 ≡ k = omega arith in
    subst (λ (j : ℕ). MayFollow (length points) j last first × PointsDiffer points last first) e
    (subst (λ (s : SideRow). MayFollow (length points) (m - 1) last s × PointsDiffer points last s) (same_side sides 0 0 to first refl at_to at_first)
    (subst (λ (s : SideRow). MayFollow (length points) (m - 1) s to × PointsDiffer points s to) (same_side sides (m - 1) k from last e at_from at_last) holds))

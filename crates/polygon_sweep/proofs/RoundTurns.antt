-- Sides in a row while a direction turns once round: each stands at the corner of the one before it with a greater angle, or in its
-- direction at the next corner; each has its direction alone or shares it with one neighbour.
use Rattle.std.proofs.Common.{◌≡◌, ◌≢◌, ◌⊎◌, inl, inr, ℕ, suc, ◌+◌, ◌<◌, Bool, true, false, List, [], ◌∷◌, ◌++◌, refl, sym, ◌∙◌, subst, Less, arith}
use Rattle.plane_hull.specs.declared.directions.Dir.{Dir}
use Rattle.plane_hull.specs.declared.sides.SideRow.{SideRow}
use Rattle.plane_hull.specs.Angle.{angle_cmp}
use Rattle.plane_hull.specs.Belt.{IsAxis, IsRight}
use Rattle.plane_hull.specs.Round.{PairsWith}
use Rattle.plane_hull.proofs.AngleOrder.{before, behind, less, not_itself}
use Rattle.polygon_sweep.specs.Round.{IsSideAt, Turned, TurnsShort, begins, leads_back, leads_on, meets_axis, passes}
use Rattle.polygon_sweep.proofs.Greater.{turns_greater}
use Rattle.polygon_sweep.proofs.RoundLists.{EachBehind, EachThree, EachTwo, EndsIn, EndsInTwo, one_by_one, push_behind, push_end, push_end_two, push_three, push_two}

-- ---- angles

abbrev IsLess : Dir → Dir → Type 0
IsLess x y = angle_cmp x y ≡ Less

-- the same direction, or one before it
abbrev IsAtMost : Dir → Dir → Type 0
IsAtMost x y = (x ≡ y) ⊎ IsLess x y

not_less : (x y : Dir) → x ≡ y → IsLess x y → ⊥
not_less x y same angle = not_itself y (before y y (subst (λ (d : Dir). IsLess d y) same angle))

less_behind : (x y z : Dir) → IsAtMost x y → IsLess y z → IsLess x z
less_behind x y z (inl same) angle = subst (λ (d : Dir). IsLess d z) (sym same) angle
less_behind x y z (inr first) angle = less x z (behind x y z (before x y first) (before y z angle))

less_of : (dir next : Dir) → TurnsShort dir next → IsLess dir next
less_of dir next short = turns_greater dir next short.turns short.coprime short.short

-- ---- one side behind another

-- to the next corner, or back to the first from the last of several
abbrev pub Leads : ℕ → Bool → ℕ → ℕ → Type 0
Leads count back j k = ((k ≡ j + 1) × (k < count)) ⊎ ((back ≡ true) × (j + 1 ≡ count) × (k ≡ 0) × (0 < j))

pub data Joins (Apart : ℕ → ℕ → Type 0) (count : ℕ) (back : Bool) (from to : SideRow) : Type 0 where
  turns_there : from.corner ≡ to.corner → IsLess from.dir to.dir → Joins Apart count back from to
  leads_along : from.dir ≡ to.dir → Leads count back from.corner to.corner → Apart from.corner to.corner → Joins Apart count back from to

pub apart_by : (count : ℕ) (back : Bool) (j k : ℕ) → Leads count back j k → j ≢ k
apart_by count back j k (inl (next, _)) = λ e. omega arith
apart_by count back j k (inr h) = λ e. omega (arith, h.2, h.3)

-- the last side stands at the corner reached, in the direction reached or one before it
pub record IsLastAt (dir : Dir) (present : ℕ) (side : SideRow) : Type 0 where
  pub at_most : IsAtMost side.dir dir
  pub corner : side.corner ≡ present

-- an axis, or a side in the direction of the one before it
abbrev pub HasEdge : SideRow → SideRow → Type 0
HasEdge from side = IsAxis side.dir ⊎ (from.dir ≡ side.dir)

pub record AreInRow (Apart : ℕ → ℕ → Type 0) (count : ℕ) (sides : List SideRow) (dir : Dir) (present : ℕ) (back : Bool) : Type 0 where
  pub not_right : EachBehind (λ side. IsRight side.dir → ⊥) sides
  pub joined : EachTwo (Joins Apart count back) sides
  pub paired : EachThree PairsWith sides
  pub last : EndsIn (IsLastAt dir present) sides
  pub edge : EndsInTwo HasEdge sides

-- ---- a direction and sides more

-- a side in a greater direction behind those so far
module _ {Apart : ℕ → ℕ → Type 0} {count : ℕ} {sides : List SideRow} {dir : Dir} {present : ℕ} {back : Bool}
    (are : AreInRow Apart count sides dir present back)
    (next : Dir) (short : TurnsShort dir next) (side : SideRow) (is : IsSideAt next present side) where
  greater : (last : SideRow) → IsLastAt dir present last → IsLess last.dir side.dir
  greater last at = less_behind last.dir dir side.dir at.at_most (subst (λ (d : Dir). IsLess dir d) (sym is.0) (less_of dir next short))

  joins_last : EndsIn (λ last. Joins Apart count back last side) sides
  joins_last = record { last = λ k x end at. let here = are.last.last k x end at in turns_there (here.corner ∙ sym is.1) (greater x here) }

  pairs_last : EndsInTwo (λ from last. PairsWith from last side) sides
  pairs_last = record {
    last = λ k x y end at_x at_y.
        let angle = greater y (are.last.last (suc k) y end at_y) in
        record {
          not_three = λ _ same. not_less y.dir side.dir same angle;
          parts = λ same. absurd (not_less y.dir side.dir same angle);
          twin = edge x y (are.edge.last k x y end at_x at_y);
        };
  }
    where
      edge : (x y : SideRow) → HasEdge x y → IsAxis y.dir ⊎ ((x.dir ≡ y.dir) ⊎ (y.dir ≡ side.dir))
      edge x y (inl axis) = inl axis
      edge x y (inr same) = inr (inl same)

  not_right_more : EachBehind (λ side. IsRight side.dir → ⊥) (sides ++ side ∷ [])
  not_right_more = push_behind side are.not_right (λ right. short.short (subst (λ (d : Dir). IsRight d) is.0 right))

  meets : IsAxis next → AreInRow Apart count (sides ++ side ∷ []) next present back
  meets axis = record {
    not_right = not_right_more;
    joined = push_two side are.joined joins_last;
    paired = push_three side are.paired pairs_last;
    last = push_end sides side (record { at_most = inl is.0; corner = is.1 });
    edge = push_end_two side (record { last = λ k x end at. inl (subst (λ (d : Dir). IsAxis d) (sym is.0) axis) });
  }

  -- where an edge leads on, one more side in the same direction
  module _ (more : ℕ) (home : Bool) (wider : (from to : SideRow) → Joins Apart count back from to → Joins Apart more home from to)
      (target : ℕ) (there : SideRow) (other : IsSideAt next target there) (leads : Leads more home present target)
      (apart : Apart present target) where
    same : side.dir ≡ there.dir
    same = is.0 ∙ sym other.0

    joins_there : Joins Apart more home side there
    joins_there =
        leads_along same
        (subst (λ (j : ℕ). Leads more home j there.corner) (sym is.1) (subst (λ (k : ℕ). Leads more home present k) (sym other.1) leads))
        (subst (λ (j : ℕ). Apart j there.corner) (sym is.1) (subst (λ (k : ℕ). Apart present k) (sym other.1) apart))

    joined_more : EachTwo (Joins Apart more home) (sides ++ side ∷ [])
    joined_more =
        let so_far = push_two side are.joined joins_last in
        record { each = λ k x y at_x at_y. wider x y (so_far.each k x y at_x at_y) }

    pairs_there : EndsIn (λ last. PairsWith last side there) sides
    pairs_there = record {
      last = λ k x end at. record {
        not_three = λ level _. not_less x.dir side.dir level (greater x (are.last.last k x end at));
        parts = λ _. λ level. apart_by more home present target leads (sym is.1 ∙ (level ∙ other.1));
        twin = inr (inr same);
      };
    }

    leads_there : AreInRow Apart more (sides ++ side ∷ there ∷ []) next target home
    leads_there =
        subst (λ (list : List SideRow). AreInRow Apart more list next target home) (one_by_one sides side there)
        (record {
          not_right = push_behind there not_right_more (λ right. short.short (subst (λ (d : Dir). IsRight d) other.0 right));
          joined = push_two there joined_more (push_end sides side joins_there);
          paired = push_three there (push_three side are.paired pairs_last) (push_end_two side pairs_there);
          last = push_end (sides ++ side ∷ []) there (record { at_most = inl other.0; corner = other.1 });
          edge = push_end_two there (push_end sides side (inr same));
        })

-- no new side
turns_on : {Apart : ℕ → ℕ → Type 0} (count : ℕ) (sides : List SideRow) (dir next : Dir) (present : ℕ) (back : Bool)
    → AreInRow Apart count sides dir present back → TurnsShort dir next → AreInRow Apart count sides next present back
turns_on count sides dir next present back are short = record {
  not_right = are.not_right;
  joined = are.joined;
  paired = are.paired;
  last = record {
    last = λ k x end at.
        let here = are.last.last k x end at in
        record { at_most = inr (less_behind x.dir dir next here.at_most (less_of dir next short)); corner = here.corner };
  };
  edge = are.edge;
}

-- ---- the first side, and all sides

one_alone : {Apart : ℕ → ℕ → Type 0} (side : SideRow) → side.corner ≡ 0 → AreInRow Apart 1 (side ∷ []) side.dir 0 false
one_alone side corner = record {
  not_right = record { each = λ k x at. absurd (cc) };
  joined = record { each = λ k x y at_x at_y. absurd (cc) };
  paired = record { each = λ k x y z at_x at_y at_z. absurd (cc) };
  last = push_end [] side (record { at_most = inl refl; corner = corner });
  edge = record { last = λ k x y end at_x at_y. absurd (cc) };
}

one_corner_more : {Apart : ℕ → ℕ → Type 0} (count : ℕ) (from to : SideRow) → Joins Apart count false from to
    → Joins Apart (count + 1) false from to
one_corner_more count from to (turns_there same angle) = turns_there same angle
one_corner_more count from to (leads_along same (inl (next, inside)) apart) = leads_along same (inl (next, omega arith)) apart
one_corner_more count from to (leads_along same (inr h) apart) = absurd (let back = h.0 in cc)

back_again : {Apart : ℕ → ℕ → Type 0} (count : ℕ) (from to : SideRow) → Joins Apart count false from to → Joins Apart count true from to
back_again count from to (turns_there same angle) = turns_there same angle
back_again count from to (leads_along same (inl h) apart) = leads_along same (inl h) apart
back_again count from to (leads_along same (inr h) apart) = absurd (let back = h.0 in cc)

pub in_row : {Apart : ℕ → ℕ → Type 0} (count : ℕ) (sides : List SideRow) (dir : Dir) (present : ℕ) (back : Bool)
    → Turned Apart count sides dir present back → AreInRow Apart count sides dir present back
in_row _ _ _ _ _ (begins side right corner) = one_alone side corner
in_row count sides _ present back (passes _ _ dir next _ _ turned short not_axis) =
    turns_on count sides dir next present back (in_row count sides dir present back turned) short
in_row count _ _ present back (meets_axis _ sides dir next _ _ side turned short axis is) =
    meets (in_row count sides dir present back turned) next short side is axis
in_row _ _ _ _ _ (leads_on count sides dir next present here there turned short last apart is other) =
    leads_there (in_row count sides dir present false turned) next short here is (count + 1) false (one_corner_more count) count there other
    (inl (sym last, omega arith)) apart
in_row _ _ _ _ _ (leads_back count sides dir next present here there turned short last over apart is other) =
    leads_there (in_row count sides dir present false turned) next short here is count true (back_again count) 0 there other
    (inr (refl, last, refl, over)) apart

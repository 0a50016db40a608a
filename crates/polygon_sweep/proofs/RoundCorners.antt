-- Corners while a direction turns once round: they are met in the order of their numbers, and each is left once, until the sweep is back at
-- the first.
use Rattle.std.proofs.Common.{◌≡◌, ◌≢◌, ◌⊎◌, inl, inr, ℕ, ◌+◌, ◌<◌, ◌≤◌, Bool, true, false, List, [], ◌∷◌, ◌++◌, slice_get, Some, length, refl, sym, ◌∙◌, ap, subst, arith}
use Rattle.plane_hull.specs.declared.directions.Dir.{Dir}
use Rattle.plane_hull.specs.declared.sides.SideRow.{SideRow}
use Rattle.plane_hull.specs.Belt.{GoesRoundOnce, IsRight, StandAtCorners, changes_from, last_corner}
use Rattle.plane_hull.proofs.Leaving.{change, no_change, one_change}
use Rattle.polygon_sweep.specs.Round.{GoneRound, Turned, at_first, at_last, begins, leads_back, leads_on, meets_axis, passes}
use Rattle.polygon_sweep.proofs.RoundLists.{added_or_stood, one_by_one}

-- ---- the corner reached

-- the last corner so far, or the first one again, of two or more
abbrev pub IsPlaced : ℕ → ℕ → Bool → Type 0
IsPlaced count present false = present + 1 ≡ count
IsPlaced count present true = (present ≡ 0) × (2 ≤ count)

pub placed : {Apart : ℕ → ℕ → Type 0} (count : ℕ) (sides : List SideRow) (dir : Dir) (present : ℕ) (back : Bool)
    → Turned Apart count sides dir present back → IsPlaced count present back
placed _ _ _ _ _ (begins side right corner) = omega arith
placed count sides _ present back (passes _ _ dir next _ _ turned short not_axis) = placed count sides dir present back turned
placed count _ _ present back (meets_axis _ sides dir next _ _ side turned short axis is) = placed count sides dir present back turned
placed _ _ _ _ _ (leads_on count sides dir next present here there turned short last apart is other) = refl
placed _ _ _ _ _ (leads_back count sides dir next present here there turned short last over apart is other) = (refl, omega arith)

pub is_inside : (count present : ℕ) (back : Bool) → IsPlaced count present back → present < count
is_inside count present false is = omega arith
is_inside count present true is = omega (arith, is.0, is.1)

-- ---- the first side

pub record IsBegun (sides : List SideRow) : Type 0 where
  pub first : SideRow
  pub rest : List SideRow
  pub is : sides ≡ first ∷ rest
  pub right : IsRight first.dir
  pub corner : first.corner ≡ 0

stays_begun : (sides more : List SideRow) → IsBegun sides → IsBegun (sides ++ more)
stays_begun sides more begun = record {
  first = begun.first;
  rest = begun.rest ++ more;
  is = ap (λ (list : List SideRow). list ++ more) begun.is;
  right = begun.right;
  corner = begun.corner;
}

pub begun : {Apart : ℕ → ℕ → Type 0} (count : ℕ) (sides : List SideRow) (dir : Dir) (present : ℕ) (back : Bool)
    → Turned Apart count sides dir present back → IsBegun sides
begun _ _ _ _ _ (begins side right corner) = record { first = side; rest = []; is = refl; right = right; corner = corner }
begun count sides _ present back (passes _ _ dir next _ _ turned short not_axis) = begun count sides dir present back turned
begun count _ _ present back (meets_axis _ sides dir next _ _ side turned short axis is) =
    stays_begun sides (side ∷ []) (begun count sides dir present back turned)
begun _ _ _ _ _ (leads_on count sides dir next present here there turned short last apart is other) =
    stays_begun sides (here ∷ there ∷ []) (begun count sides dir present false turned)
begun _ _ _ _ _ (leads_back count sides dir next present here there turned short last over apart is other) =
    stays_begun sides (here ∷ there ∷ []) (begun count sides dir present false turned)

pub round_begun : {Apart : ℕ → ℕ → Type 0} {count : ℕ} {sides : List SideRow} → GoneRound Apart count sides → IsBegun sides
round_begun (at_first count sides dir last back turned turns right alone) = begun count sides dir 0 back turned
round_begun (at_last count sides dir present side turned turns right end over apart here) =
    stays_begun sides (side ∷ []) (begun count sides dir present false turned)

-- ---- sides stand at corners

one_more : (count : ℕ) (sides : List SideRow) (side : SideRow) → StandAtCorners count sides → side.corner < count
    → StandAtCorners count (sides ++ side ∷ [])
one_more count sides side stand inside k found at = by (added_or_stood sides side found k at)
  where
    by : (slice_get sides k ≡ Some found) ⊎ ((k ≡ length sides) × (side ≡ found)) → found.corner < count
    by (inl old) = stand k found old
    by (inr (_, same)) = subst (λ (s : SideRow). s.corner < count) same inside

two_more : (count : ℕ) (sides : List SideRow) (here there : SideRow) → StandAtCorners count sides → here.corner < count
    → there.corner < count
    → StandAtCorners count (sides ++ here ∷ there ∷ [])
two_more count sides here there stand first second =
    subst (λ (list : List SideRow). StandAtCorners count list) (one_by_one sides here there)
    (one_more count (sides ++ here ∷ []) there (one_more count sides here stand first) second)

pub stands : {Apart : ℕ → ℕ → Type 0} (count : ℕ) (sides : List SideRow) (dir : Dir) (present : ℕ) (back : Bool)
    → Turned Apart count sides dir present back → StandAtCorners count sides
stands _ _ _ _ _ (begins side right corner) = one_more 1 [] side (λ k found at. absurd (cc)) (omega arith)
stands count sides _ present back (passes _ _ dir next _ _ turned short not_axis) = stands count sides dir present back turned
stands count _ _ present back (meets_axis _ sides dir next _ _ side turned short axis is) =
    let inside = is_inside count present back (placed count sides dir present back turned) in
    one_more count sides side (stands count sides dir present back turned) (omega (arith, is.1))
stands _ _ _ _ _ (leads_on count sides dir next present here there turned short last apart is other) =
    two_more (count + 1) sides here there (λ k found at. let low = stands count sides dir present false turned k found at in omega arith)
    (omega (arith, is.1)) (omega (arith, other.1))
stands _ _ _ _ _ (leads_back count sides dir next present here there turned short last over apart is other) =
    two_more count sides here there (stands count sides dir present false turned) (omega (arith, is.1)) (omega (arith, other.1))

-- ---- changes of the corner

-- the corner of the last side, or this one
unfoldable ends : ℕ → List SideRow → ℕ
ends corner [] = corner
ends corner (side ∷ sides) = ends side.corner sides

ends_more : (corner : ℕ) (sides : List SideRow) (side : SideRow) → ends corner (sides ++ side ∷ []) ≡ side.corner
unfolding ends
ends_more corner [] side = refl
ends_more corner (x ∷ sides) side = ends_more x.corner sides side

last_ends : (corner : ℕ) (first : SideRow) (sides : List SideRow) → last_corner (first ∷ sides) ≡ ends corner (first ∷ sides)
unfolding ends
last_ends corner first [] = refl
last_ends corner first (x ∷ sides) = last_ends first.corner x sides

changes_more : (corner : ℕ) (sides : List SideRow) (side : SideRow)
    → changes_from corner (sides ++ side ∷ []) ≡ changes_from corner sides + change (ends corner sides) side.corner
unfolding ends
changes_more corner [] side = omega arith
changes_more corner (x ∷ sides) side = let rest = changes_more x.corner sides side in omega arith

-- the sides end at a corner, behind so many changes from corner 0
record AreChanged (sides : List SideRow) (corner changes : ℕ) : Type 0 where
  ends_at : ends 0 sides ≡ corner
  counted : changes_from 0 sides ≡ changes

stays_there : (sides : List SideRow) (corner changes : ℕ) (side : SideRow) → AreChanged sides corner changes → side.corner ≡ corner
    → AreChanged (sides ++ side ∷ []) corner changes
stays_there sides corner changes side before same =
    let more = changes_more 0 sides side in
    let none = no_change (ends 0 sides) side.corner (before.ends_at ∙ sym same) in
    let counted = before.counted in
    record { ends_at = ends_more 0 sides side ∙ same; counted = omega arith }

moves_on : (sides : List SideRow) (corner changes next : ℕ) (side : SideRow) → AreChanged sides corner changes → side.corner ≡ next
    → corner ≢ next
    → AreChanged (sides ++ side ∷ []) next (changes + 1)
moves_on sides corner changes next side before same apart =
    let more = changes_more 0 sides side in
    let one = one_change (ends 0 sides) side.corner (λ e. apart (sym before.ends_at ∙ (e ∙ same))) in
    let counted = before.counted in
    record { ends_at = ends_more 0 sides side ∙ same; counted = omega arith }

leads_from : (sides : List SideRow) (corner changes next : ℕ) (here there : SideRow) → AreChanged sides corner changes
    → here.corner ≡ corner
    → there.corner ≡ next → corner ≢ next → AreChanged (sides ++ here ∷ there ∷ []) next (changes + 1)
leads_from sides corner changes next here there before same other apart =
    subst (λ (list : List SideRow). AreChanged list next (changes + 1)) (one_by_one sides here there)
    (moves_on (sides ++ here ∷ []) corner changes next there (stays_there sides corner changes here before same) other apart)

-- as often as the number of the corner, and once for each of them where the sweep is back
abbrev changes_so_far : ℕ → ℕ → Bool → ℕ
changes_so_far count present false = present
changes_so_far count present true = count

changed : {Apart : ℕ → ℕ → Type 0} (count : ℕ) (sides : List SideRow) (dir : Dir) (present : ℕ) (back : Bool)
    → Turned Apart count sides dir present back → AreChanged sides present (changes_so_far count present back)
unfolding ends
changed _ _ _ _ _ (begins side right corner) =
    let none = no_change 0 side.corner (sym corner) in
    record { ends_at = corner; counted = omega arith }
changed count sides _ present back (passes _ _ dir next _ _ turned short not_axis) = changed count sides dir present back turned
changed count _ _ present back (meets_axis _ sides dir next _ _ side turned short axis is) =
    stays_there sides present (changes_so_far count present back) side (changed count sides dir present back turned) is.1
changed _ _ _ _ _ (leads_on count sides dir next present here there turned short last apart is other) =
    subst (λ (n : ℕ). AreChanged (sides ++ here ∷ there ∷ []) count n) last
    (leads_from sides present present count here there (changed count sides dir present false turned) is.1 other.1 (λ e. omega arith))
changed _ _ _ _ _ (leads_back count sides dir next present here there turned short last over apart is other) =
    subst (λ (n : ℕ). AreChanged (sides ++ here ∷ there ∷ []) 0 n) last
    (leads_from sides present present 0 here there (changed count sides dir present false turned) is.1 other.1 (λ e. omega arith))

-- from the last side's corner the first side adds its change
changes_round : (sides : List SideRow) (corner changes : ℕ) → IsBegun sides → AreChanged sides corner changes
    → changes_from (last_corner sides) sides ≡ change corner 0 + changes
unfolding ends
changes_round sides corner changes begun are =
    let last = last_ends 0 begun.first begun.rest in
    let ends_at : ends begun.first.corner begun.rest ≡ corner =
    subst (λ (list : List SideRow). ends 0 list ≡ corner) begun.is are.ends_at in
    let counted : change 0 begun.first.corner + changes_from begun.first.corner begun.rest ≡ changes =
    subst (λ (list : List SideRow). changes_from 0 list ≡ changes) begun.is are.counted in
    let none = no_change 0 begun.first.corner (sym begun.corner) in
    subst (λ (list : List SideRow). changes_from (last_corner list) list ≡ change corner 0 + changes) (sym begun.is)
    (let same : change (last_corner (begun.first ∷ begun.rest)) begun.first.corner ≡ change corner 0 =
    ap (λ (c : ℕ). change c begun.first.corner) (last ∙ ends_at) ∙ ap (change corner) begun.corner in
    omega arith)

goes_round : (count : ℕ) (sides : List SideRow) (changes : ℕ) → changes_from (last_corner sides) sides ≡ changes
    → (count ≡ 1 → changes ≡ 0) → (2 ≤ count → changes ≡ count) → GoesRoundOnce count sides
goes_round count sides changes same one more = record { one_corner = λ e. same ∙ one e; more_corners = λ h. same ∙ more h }

pub round_once : {Apart : ℕ → ℕ → Type 0} {count : ℕ} {sides : List SideRow} → GoneRound Apart count sides → GoesRoundOnce count sides
round_once {Apart = Apart} (at_first count sides dir last back turned turns right alone) = by back turned alone
  where
    none : change 0 0 ≡ 0
    none = no_change 0 0 refl

    by : (back : Bool) → Turned Apart count sides dir 0 back → (back ≡ false → count ≡ 1) → GoesRoundOnce count sides
    by false turned alone =
        let one = alone refl in
        goes_round count sides _ (changes_round sides 0 0 (begun count sides dir 0 false turned) (changed count sides dir 0 false turned))
        (λ e. let none = none in omega arith) (λ h. omega arith)
    by true turned alone =
        let two = (placed count sides dir 0 true turned).1 in
        goes_round count sides _ (changes_round sides 0 count (begun count sides dir 0 true turned) (changed count sides dir 0 true turned))
        (λ e. omega arith) (λ h. let none = none in omega arith)
round_once (at_last count sides dir present side turned turns right end over apart here) =
    let begun = begun count sides dir present false turned in
    let before = changed count sides dir present false turned in
    let one = one_change present 0 (λ e. omega arith) in
    goes_round count (sides ++ side ∷ []) _
    (changes_round (sides ++ side ∷ []) present present (stays_begun sides (side ∷ []) begun)
    (stays_there sides present present side before here))
    (λ e. omega arith) (λ h. omega arith)

pub round_stands : {Apart : ℕ → ℕ → Type 0} {count : ℕ} {sides : List SideRow} → GoneRound Apart count sides → StandAtCorners count sides
round_stands (at_first count sides dir last back turned turns right alone) = stands count sides dir 0 back turned
round_stands (at_last count sides dir present side turned turns right end over apart here) =
    one_more count sides side (stands count sides dir present false turned) (omega arith)

pub round_some : {Apart : ℕ → ℕ → Type 0} {count : ℕ} {sides : List SideRow} → GoneRound Apart count sides → 1 ≤ count
round_some (at_first count sides dir last back turned turns right alone) =
    let inside = is_inside count 0 back (placed count sides dir 0 back turned) in omega arith
round_some (at_last count sides dir present side turned turns right end over apart here) = omega arith

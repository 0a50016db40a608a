-- No axis is skipped while a direction turns: each that lies behind it is the direction of some side.
use Rattle.std.proofs.Common.{◌≡◌, ◌⊎◌, inl, inr, ℕ, Bool, false, List, [], ◌∷◌, ◌++◌, length, ℤ, pos, negsuc, neg_ℤ, ◌<ℤ◌, ◌≤ℤ◌, unsigned_abs, refl, subst, arith}
use Rattle.std.specs.Int.{IsGcd}
use Rattle.std.proofs.lemmas.Int.{ints}
use Rattle.std.proofs.lemmas.Nat.Gcd.{dvd-zero, dvd_refl}
use Rattle.std.proofs.Math.Nat.{le_of_dvd}
use Rattle.exact_algebra.proofs.Order.{at_most_or_above}
use Rattle.plane_hull.specs.declared.directions.Dir.{Dir}
use Rattle.plane_hull.specs.declared.sides.SideRow.{SideRow}
use Rattle.plane_hull.specs.Belt.{HasAxes, HasDirection, IsAxis, IsDirection, IsRight}
use Rattle.polygon_sweep.specs.Round.{GoneRound, Turned, TurnsShort, at_first, at_last, begins, leads_back, leads_on, meets_axis, passes}
use Rattle.polygon_sweep.specs.Turning.{TurnsTo, cross}
use Rattle.polygon_sweep.proofs.Ranks.{by_one, by_three, by_two, negated_at_least, negated_over, one_of_gcd, rises_over}
use Rattle.polygon_sweep.proofs.RoundLists.{one_by_one, stands_last, stands_still}

-- the axes up to a direction by its quarter of the turn
data AxesUpTo (sides : List SideRow) (a b : ℤ) : Type 0 where
  in_first : pos 0 <ℤ a → pos 0 ≤ℤ b → AxesUpTo sides a b
  in_second : a ≤ℤ pos 0 → pos 0 <ℤ b → HasDirection (pos 0) (pos 1) sides → AxesUpTo sides a b
  in_third : a <ℤ pos 0 → b ≤ℤ pos 0 → HasDirection (pos 0) (pos 1) sides → HasDirection (negsuc 0) (pos 0) sides → AxesUpTo sides a b
  in_fourth : pos 0 ≤ℤ a → b <ℤ pos 0 → HasAxes sides → AxesUpTo sides a b

-- ---- directions that a longer list keeps or gets

keeps_direction : (a b : ℤ) (sides more : List SideRow) → HasDirection a b sides → HasDirection a b (sides ++ more)
keeps_direction a b sides more has = (has.0, has.1, stands_still sides more has.1 has.0 has.2, has.3)

keeps_axes : (sides more : List SideRow) → HasAxes sides → HasAxes (sides ++ more)
keeps_axes sides more axes = record {
  up = keeps_direction (pos 0) (pos 1) sides more axes.up;
  left = keeps_direction (negsuc 0) (pos 0) sides more axes.left;
  down = keeps_direction (pos 0) (negsuc 0) sides more axes.down;
}

keeps_up_to : (a b : ℤ) (sides more : List SideRow) → AxesUpTo sides a b → AxesUpTo (sides ++ more) a b
keeps_up_to a b sides more (in_first h k) = in_first h k
keeps_up_to a b sides more (in_second h k up) = in_second h k (keeps_direction (pos 0) (pos 1) sides more up)
keeps_up_to a b sides more (in_third h k up left) =
    in_third h k (keeps_direction (pos 0) (pos 1) sides more up) (keeps_direction (negsuc 0) (pos 0) sides more left)
keeps_up_to a b sides more (in_fourth h k axes) = in_fourth h k (keeps_axes sides more axes)

gets_direction : (sides : List SideRow) (side : SideRow) → HasDirection side.dir.a side.dir.b (sides ++ side ∷ [])
gets_direction sides side = (length sides, side, stands_last sides side, (refl, refl))

met_twice : (sides : List SideRow) (here there : SideRow) (dir : Dir) → here.dir ≡ dir
    → HasDirection dir.a dir.b (sides ++ here ∷ there ∷ [])
met_twice sides here there dir same =
    subst (λ (all : List SideRow). HasDirection dir.a dir.b all) (one_by_one sides here there)
    (keeps_direction dir.a dir.b (sides ++ here ∷ []) (there ∷ [])
    (subst (λ (d : Dir). HasDirection d.a d.b (sides ++ here ∷ [])) same (gets_direction sides here)))

-- ---- axes by their coprime numbers

other_way : (x y : ℕ) → IsGcd x y 1 → IsGcd y x 1
other_way x y divisor = (divisor.1, divisor.0, λ d left right. divisor.2 d right left)

minus_one : (c : ℤ) → c <ℤ pos 0 → IsGcd (unsigned_abs c) 0 1 → c ≡ negsuc 0
minus_one c under divisor =
    let low = le_of_dvd (omega arith) (divisor.2 (unsigned_abs c) (dvd_refl (unsigned_abs c)) (dvd-zero (unsigned_abs c))) in
    omega (arith, ints)

above_or_level : (x : ℤ) → pos 0 ≤ℤ x → (pos 0 <ℤ x) ⊎ (x ≡ pos 0)
above_or_level x low = by (at_most_or_above x (pos 0))
  where
    by : (x ≤ℤ pos 0) ⊎ (pos 0 <ℤ x) → (pos 0 <ℤ x) ⊎ (x ≡ pos 0)
    by (inr above) = inl above
    by (inl none) = inr (omega (arith, ints))

below_or_level : (x : ℤ) → x ≤ℤ pos 0 → (x <ℤ pos 0) ⊎ (x ≡ pos 0)
below_or_level x high = by (above_or_level (neg_ℤ x) (negated_at_least x high))
  where
    by : (pos 0 <ℤ neg_ℤ x) ⊎ (neg_ℤ x ≡ pos 0) → (x <ℤ pos 0) ⊎ (x ≡ pos 0)
    by (inl above) = inl (omega (arith, ints))
    by (inr level) = inr (omega (arith, ints))

-- ---- one turn further

module _ (sides : List SideRow) (dir next : Dir) (short : TurnsShort dir next) (met : IsAxis next → HasDirection next.a next.b sides) where
  left : pos 0 <ℤ cross dir.a dir.b next.a next.b
  left = short.turns.left

  meets : (a b : ℤ) → IsDirection a b next → IsAxis next → HasDirection a b sides
  meets a b is axis =
      subst (λ (x : ℤ). HasDirection x b sides) is.0 (subst (λ (y : ℤ). HasDirection next.a y sides) is.1 (met axis))

  from_first : pos 0 <ℤ dir.a → pos 0 ≤ℤ dir.b → AxesUpTo sides next.a next.b
  from_first h k = by (above_or_level next.a over)
    where
      over : pos 0 ≤ℤ next.a
      over = let there = short.turns.no_axis (pos 0) (pos 1) (inr (inl (refl, refl))) (omega (arith, ints)) in omega (arith, ints)

      rise : pos 0 <ℤ next.b
      rise = rises_over dir.a dir.b next.a next.b h k over left

      by : (pos 0 <ℤ next.a) ⊎ (next.a ≡ pos 0) → AxesUpTo sides next.a next.b
      by (inl above) = in_first above (let rise = rise in omega (arith, ints))
      by (inr level) =
          let one = one_of_gcd next.b rise (other_way 0 (unsigned_abs next.b) (rw level at short.coprime)) in
          in_second (omega (arith, ints)) rise (meets (pos 0) (pos 1) (level, one) (inr (inl (level, one))))

  from_second : dir.a ≤ℤ pos 0 → pos 0 <ℤ dir.b → HasDirection (pos 0) (pos 1) sides → AxesUpTo sides next.a next.b
  from_second h k up = by (above_or_level next.b over)
    where
      over : pos 0 ≤ℤ next.b
      over = let there = short.turns.no_axis (negsuc 0) (pos 0) (inr (inr (inl (refl, refl)))) (omega (arith, ints)) in omega (arith, ints)

      fall : next.a <ℤ pos 0
      fall =
          let rise = rises_over dir.b (neg_ℤ dir.a) next.b (neg_ℤ next.a) k (negated_at_least dir.a h) over
          (by_one dir.a dir.b next.a next.b left) in
          omega (arith, ints)

      by : (pos 0 <ℤ next.b) ⊎ (next.b ≡ pos 0) → AxesUpTo sides next.a next.b
      by (inl above) = in_second (let fall = fall in omega (arith, ints)) above up
      by (inr level) =
          let one = minus_one next.a fall (rw level at short.coprime) in
          in_third fall (omega (arith, ints)) up (meets (negsuc 0) (pos 0) (one, level) (inr (inr (inl (one, level)))))

  from_third : dir.a <ℤ pos 0 → dir.b ≤ℤ pos 0 → HasDirection (pos 0) (pos 1) sides → HasDirection (negsuc 0) (pos 0) sides
      → AxesUpTo sides next.a next.b
  from_third h k up left_axis = by (below_or_level next.a under)
    where
      under : next.a ≤ℤ pos 0
      under = let there = short.turns.no_axis (pos 0) (negsuc 0) (inr (inr (inr (refl, refl)))) (omega (arith, ints)) in omega (arith, ints)

      fall : next.b <ℤ pos 0
      fall =
          let rise = rises_over (neg_ℤ dir.a) (neg_ℤ dir.b) (neg_ℤ next.a) (neg_ℤ next.b) (negated_over dir.a h) (negated_at_least dir.b k)
          (negated_at_least next.a under) (by_two dir.a dir.b next.a next.b left) in
          omega (arith, ints)

      by : (next.a <ℤ pos 0) ⊎ (next.a ≡ pos 0) → AxesUpTo sides next.a next.b
      by (inl below) = in_third below (let fall = fall in omega (arith, ints)) up left_axis
      by (inr level) =
          let one = minus_one next.b fall (other_way 0 (unsigned_abs next.b) (rw level at short.coprime)) in
          in_fourth (omega (arith, ints)) fall
          (record { up = up; left = left_axis; down = meets (pos 0) (negsuc 0) (level, one) (inr (inr (inr (level, one)))) })

  from_fourth : pos 0 ≤ℤ dir.a → dir.b <ℤ pos 0 → HasAxes sides → AxesUpTo sides next.a next.b
  from_fourth h k axes = by (below_or_level next.b under)
    where
      under : next.b ≤ℤ pos 0
      under = let there = short.turns.no_axis (pos 1) (pos 0) (inl (refl, refl)) (omega (arith, ints)) in omega (arith, ints)

      rise : pos 0 <ℤ next.a
      rise =
          rises_over (neg_ℤ dir.b) dir.a (neg_ℤ next.b) next.a (negated_over dir.b k) h (negated_at_least next.b under)
          (by_three dir.a dir.b next.a next.b left)

      by : (next.b <ℤ pos 0) ⊎ (next.b ≡ pos 0) → AxesUpTo sides next.a next.b
      by (inl below) = in_fourth (let rise = rise in omega (arith, ints)) below axes
      by (inr level) = absurd (short.short (one_of_gcd next.a rise (rw level at short.coprime), level))

  turns_up_to : AxesUpTo sides dir.a dir.b → AxesUpTo sides next.a next.b
  turns_up_to (in_first h k) = from_first h k
  turns_up_to (in_second h k up) = from_second h k up
  turns_up_to (in_third h k up left_axis) = from_third h k up left_axis
  turns_up_to (in_fourth h k axes) = from_fourth h k axes

axes_up_to : (Apart : ℕ → ℕ → Type 0) (count : ℕ) (sides : List SideRow) (dir : Dir) (present : ℕ) (back : Bool)
    → Turned Apart count sides dir present back → AxesUpTo sides dir.a dir.b
axes_up_to Apart _ _ _ _ _ (begins side right corner) =
    let one = right.0 in
    let level = right.1 in
    in_first (omega (arith, ints)) (omega (arith, ints))
axes_up_to Apart count sides _ present back (passes _ _ dir next _ _ turned short not_axis) =
    turns_up_to sides dir next short (λ axis. absurd (not_axis axis)) (axes_up_to Apart count sides dir present back turned)
axes_up_to Apart count _ _ present back (meets_axis _ sides dir next _ _ side turned short axis is) =
    turns_up_to (sides ++ side ∷ []) dir next short
    (λ _. subst (λ (d : Dir). HasDirection d.a d.b (sides ++ side ∷ [])) is.0 (gets_direction sides side))
    (keeps_up_to dir.a dir.b sides (side ∷ []) (axes_up_to Apart count sides dir present back turned))
axes_up_to Apart _ _ _ _ _ (leads_on count sides dir next present here there turned short last apart is other) =
    turns_up_to (sides ++ here ∷ there ∷ []) dir next short
    (λ _. met_twice sides here there next is.0)
    (keeps_up_to dir.a dir.b sides (here ∷ there ∷ []) (axes_up_to Apart count sides dir present false turned))
axes_up_to Apart _ _ _ _ _ (leads_back count sides dir next present here there turned short last over apart is other) =
    turns_up_to (sides ++ here ∷ there ∷ []) dir next short
    (λ _. met_twice sides here there next is.0)
    (keeps_up_to dir.a dir.b sides (here ∷ there ∷ []) (axes_up_to Apart count sides dir present false turned))

-- behind the full turn all axes are met
full_turn_axes : (sides : List SideRow) (dir last : Dir) → TurnsTo dir last → IsRight last → AxesUpTo sides dir.a dir.b → HasAxes sides
full_turn_axes sides dir last turns right (in_first h k) =
    absurd (let left = rw (right.0, right.1) at turns.left in omega (arith, ints))
full_turn_axes sides dir last turns right (in_second h k up) =
    absurd (let left = rw (right.0, right.1) at turns.left in omega (arith, ints))
full_turn_axes sides dir last turns right (in_third h k up left_axis) =
    let there = rw (right.0, right.1) at turns.no_axis (pos 0) (negsuc 0) (inr (inr (inr (refl, refl)))) (omega (arith, ints)) in
    absurd (omega (arith, ints))
full_turn_axes sides dir last turns right (in_fourth h k axes) = axes

pub round_axes : {Apart : ℕ → ℕ → Type 0} {count : ℕ} {sides : List SideRow} → GoneRound Apart count sides → HasAxes sides
round_axes {Apart = Apart} (at_first count sides dir last back turned turns right alone) =
    full_turn_axes sides dir last turns right (axes_up_to Apart count sides dir 0 back turned)
round_axes {Apart = Apart} (at_last count sides dir present side turned turns right end over apart here) =
    keeps_axes sides (side ∷ []) (full_turn_axes sides dir side.dir turns right (axes_up_to Apart count sides dir present false turned))

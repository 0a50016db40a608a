-- How far a sweep has gone round: the sides so far, and where it stands. Each turn leads it on, and at the full turn it has gone round.
use Rattle.std.proofs.Common.{◌≡◌, ◌⊎◌, inl, inr, ℕ, ◌+◌, ◌<◌, Bool, true, false, List, length, ℤ, pos, ◌-ℤ◌, ◌*ℤ◌, ◌<ℤ◌, ◌≤ℤ◌, neg_ℤ, refl, ap, subst, arith}
use Rattle.std.proofs.lemmas.Int.{ints}
use Rattle.exact_algebra.proofs.Order.{at_most_or_above, factor_positive}
use Rattle.exact_algebra.proofs.RingLaws.{*ℤ-zero, neg_ℤ-*ℤ}
use Rattle.plane_hull.specs.Belt.{IsRight}
use Rattle.plane_hull.specs.declared.directions.Dir.{Dir}
use Rattle.plane_hull.specs.declared.sides.SideRow.{SideRow}
use Rattle.polygon_sweep.proofs.Parting.{apart_grown}
use Rattle.polygon_sweep.proofs.Ranks.{one_of_gcd}
use Rattle.polygon_sweep.specs.declared.corners.Swept.{Swept}
use Rattle.polygon_sweep.specs.Round as round
use Rattle.polygon_sweep.specs.Round.{AreApart, GoneRound, Turned, TurnsShort}
use Rattle.polygon_sweep.specs.Swept.{IsGrown}
use Rattle.polygon_sweep.specs.Turning.{TurnsTo}
use Rattle.polygon_sweep.specs.Turns as turns
use Rattle.polygon_sweep.specs.Turns.{Closes, HasBegun, Turns}

-- ---- directions below the first axis stay there up to the full turn

stays_below : (a b c d : ℤ) → b <ℤ pos 0 → pos 0 <ℤ (a *ℤ d -ℤ b *ℤ c) → d ≤ℤ pos 0 → (pos 0 <ℤ c → d ≡ pos 0 → ⊥) → d <ℤ pos 0
stays_below a b c d below left low short = by (at_most_or_above (pos 0) d)
  where
    by : (pos 0 ≤ℤ d) ⊎ (d <ℤ pos 0) → d <ℤ pos 0
    by (inr h) = h
    by (inl high) =
        let none : d ≡ pos 0 = omega (arith, ints) in
        let flat = rw (none, *ℤ-zero a) at left in
        let steep : pos 0 ≤ℤ neg_ℤ b = omega (arith, ints) in
        absurd (short (factor_positive (neg_ℤ b) steep (rw (neg_ℤ-*ℤ b c) (omega (arith, ints)))) none)

pub below_short : (dir next : Dir) → TurnsShort dir next → dir.b <ℤ pos 0 → next.b <ℤ pos 0
below_short dir next short below =
    let there = short.turns.no_axis (pos 1) (pos 0) (inl (refl, refl)) (omega (arith, ints)) in
    stays_below dir.a dir.b next.a next.b below short.turns.left (omega (arith, ints))
    (λ over none. short.short (one_of_gcd next.a over (rw none at short.coprime), none))

-- ---- corners that are apart stay so

turned_more : (A B : ℕ → ℕ → Type 0) → ((j k : ℕ) → A j k → B j k) → (count : ℕ) (sides : List SideRow) (dir : Dir)
    (present : ℕ) (back : Bool) → Turned A count sides dir present back → Turned B count sides dir present back
turned_more A B more _ _ _ _ _ (round.begins side right first) = round.begins side right first
turned_more A B more _ _ _ _ _ (round.passes count sides from dir present back before short other) =
    round.passes count sides from dir present back (turned_more A B more count sides from present back before) short other
turned_more A B more _ _ _ _ _ (round.meets_axis count list from dir present back side before short axis at) =
    round.meets_axis count list from dir present back side (turned_more A B more count list from present back before) short axis at
turned_more A B more _ _ _ _ _ (round.leads_on old list from dir present here there before short last apart at at_there) =
    round.leads_on old list from dir present here there (turned_more A B more old list from present false before) short last
    (more present old apart) at at_there
turned_more A B more _ _ _ _ _ (round.leads_back old list from dir present here there before short last away apart at at_there) =
    round.leads_back old list from dir present here there (turned_more A B more old list from present false before) short last away
    (more present 0 apart) at at_there

-- ---- how far the sweep has gone

-- the sides so far; the last corner is the present one, or the sweep is back at the first one, below the first axis; another corner than
-- the first is another point
pub record GoesRound (swept : Swept) (dir : Dir) (present : ℕ) : Type 0 where
  pub back : Bool
  pub turned : Turned (AreApart swept.corners) (length swept.corners) swept.sides dir present back
  pub last : back ≡ false → present + 1 ≡ length swept.corners
  pub returned : back ≡ true → (present ≡ 0) × (dir.b <ℤ pos 0)
  pub away : 0 < present → AreApart swept.corners present 0

pub goes_first : (dir : Dir) (swept : Swept) → IsRight dir → HasBegun dir swept → GoesRound swept dir 0
goes_first dir swept right begun = record {
  back = false;
  turned = rw (begun.one, begun.alone, ← begun.there.0) (round.begins begun.side (rw begun.there.0 right) begun.there.1);
  last = λ e. rw begun.one refl;
  returned = λ e. absurd (cc e);
  away = λ h. absurd (omega arith);
}

-- ---- a turn

module _ (old new : Swept) (dir next : Dir) (present : ℕ) (short : TurnsShort dir next)
    (more : IsGrown old.corners new.corners) (gone : GoesRound old dir present) where
  grown_turned : Turned (AreApart new.corners) (length old.corners) old.sides dir present gone.back
  grown_turned = turned_more (AreApart old.corners) (AreApart new.corners) (apart_grown old.corners new.corners more) (length old.corners)
      old.sides dir present gone.back gone.turned

  out_turned : gone.back ≡ false → Turned (AreApart new.corners) (length old.corners) old.sides dir present false
  out_turned e = subst (λ (b : Bool). Turned (AreApart new.corners) (length old.corners) old.sides dir present b) e grown_turned

  returned_below : gone.back ≡ true → (present ≡ 0) × (next.b <ℤ pos 0)
  returned_below e = let there = gone.returned e in (there.0, below_short dir next short there.1)

  away_kept : 0 < present → AreApart new.corners present 0
  away_kept h = apart_grown old.corners new.corners more present 0 (gone.away h)

  -- the sweep isn't back yet where an edge leads on
  not_back : (b : Bool) → gone.back ≡ b → (next.b <ℤ pos 0 → present ≡ 0 → ⊥) → gone.back ≡ false
  not_back false e none = e
  not_back true e none = let there = returned_below e in absurd (none there.1 there.0)

  pub goes_on : (number : ℕ) → Turns next old new present number → (AreApart new.corners present number → next.b <ℤ pos 0 → present ≡ 0 → ⊥)
      → (AreApart new.corners present number → number ≡ 0 → next.b <ℤ pos 0) → GoesRound new next number
  goes_on number (turns.passes other same at) none_away below = record {
    back = gone.back;
    turned = rw (at, ap (λ (s : Swept). length s.corners) same, ap (λ (s : Swept). s.sides) same)
        (round.passes (length old.corners) old.sides dir next present gone.back grown_turned short other);
    last = λ e. rw (at, ap (λ (s : Swept). length s.corners) same) (gone.last e);
    returned = λ e. rw at (returned_below e);
    away = rw at away_kept;
  }
  goes_on number (turns.meets_axis side axis same at sides there) none_away below = record {
    back = gone.back;
    turned = rw (at, ap length same, sides)
        (round.meets_axis (length old.corners) old.sides dir next present gone.back side grown_turned short axis there);
    last = λ e. rw (at, ap length same) (gone.last e);
    returned = λ e. rw at (returned_below e);
    away = rw at away_kept;
  }
  goes_on number (turns.leads_on here there count at apart apart_first sides from to) none_away below =
      let out = not_back gone.back refl (none_away apart) in
      record {
        back = false;
        turned = rw (at, count, sides) (round.leads_on (length old.corners) old.sides dir next present here there (out_turned out) short
            (gone.last out) (rw at at apart) from (rw at at to));
        last = λ e. rw (at, count) refl;
        returned = λ e. absurd (cc e);
        away = λ h. apart_first;
      }
  goes_on number (turns.leads_back here there same at away apart sides from to) none_away below =
      let reached = rw (← at) at apart in
      let out = not_back gone.back refl (λ low none. absurd (omega arith)) in
      record {
        back = true;
        turned = rw (at, ap length same, sides) (round.leads_back (length old.corners) old.sides dir next present here there
            (out_turned out) short (gone.last out) away apart from (rw at at to));
        last = λ e. absurd (cc e);
        returned = λ e. (at, below reached at);
        away = λ h. absurd (omega arith);
      }

-- ---- the full turn

pub goes_round : (old new : Swept) (dir last : Dir) (present : ℕ) → TurnsTo dir last → IsRight last → Closes last old new present
    → GoesRound old dir present → GoneRound (AreApart new.corners) (length new.corners) new.sides
goes_round old new dir last present turned right (turns.at_first first same) gone =
    rw same (round.at_first (length old.corners) old.sides dir last gone.back (rw first at gone.turned) turned right
    (λ e. let count = gone.last e in omega arith))
goes_round old new dir last present turned right (turns.at_last side away same sides there) gone =
    rw (same, sides) (round.at_last (length old.corners) old.sides dir present side (out gone.back refl) (rw (← there.0) at turned)
    (rw there.0 right) (gone.last (not_back gone.back refl)) away (gone.away away) there.1)
  where
    not_back : (b : Bool) → gone.back ≡ b → gone.back ≡ false
    not_back false e = e
    not_back true e = let here = gone.returned e in absurd (omega arith)

    out : (b : Bool) → gone.back ≡ b → Turned (AreApart old.corners) (length old.corners) old.sides dir present false
    out b e = subst (λ (c : Bool). Turned (AreApart old.corners) (length old.corners) old.sides dir present c) (not_back b e) gone.turned

-- What each part of a sweep does to the corners and sides that were swept so far.
use Rattle.std.specs.Prelude.{◌≡◌, ℕ, ◌+◌, ◌<◌, [], ◌∷◌, ◌++◌, length}
use Rattle.plane_hull.specs.Belt.{IsAxis}
use Rattle.plane_hull.specs.declared.directions.Dir.{Dir}
use Rattle.plane_hull.specs.declared.sides.SideRow.{SideRow}
use Rattle.polygon_sweep.specs.declared.corners.Swept.{Swept}
use Rattle.polygon_sweep.specs.Round.{AreApart, IsSideAt}

-- one corner, and one side there in this direction
pub record HasBegun (dir : Dir) (swept : Swept) : Type 0 where
  pub one : length swept.corners ≡ 1
  pub side : SideRow
  pub alone : swept.sides ≡ side ∷ []
  pub there : IsSideAt dir 0 side

-- the corner reached has this number: it is the present one; or the first one, which is another point; or it was added, and is another
-- point than both
pub data Arrives (old new : Swept) (present number : ℕ) : Type 0 where
  remains : new ≡ old → number ≡ present → Arrives old new present number
  returns : new ≡ old → number ≡ 0 → 0 < present → AreApart new.corners present 0 → Arrives old new present number
  adds : new.sides ≡ old.sides → length new.corners ≡ length old.corners + 1 → number ≡ length old.corners →
      AreApart new.corners present number → AreApart new.corners number 0 → Arrives old new present number

-- a turn to this direction, which reaches the corner with this number: none but the present corner is reached, and gets a side at an
-- axis; or an edge leads on to a corner that was added, or back to the first one, and both of its ends get a side
pub data Turns (dir : Dir) (old new : Swept) (present number : ℕ) : Type 0 where
  passes : (IsAxis dir → ⊥) → new ≡ old → number ≡ present → Turns dir old new present number
  meets_axis : (side : SideRow) → IsAxis dir → new.corners ≡ old.corners → number ≡ present →
      new.sides ≡ old.sides ++ side ∷ [] → IsSideAt dir present side → Turns dir old new present number
  leads_on : (here there : SideRow) → length new.corners ≡ length old.corners + 1 → number ≡ length old.corners →
      AreApart new.corners present number → AreApart new.corners number 0 →
      new.sides ≡ old.sides ++ here ∷ there ∷ [] → IsSideAt dir present here → IsSideAt dir number there →
      Turns dir old new present number
  leads_back : (here there : SideRow) → new.corners ≡ old.corners → number ≡ 0 → 0 < present → AreApart new.corners present 0 →
      new.sides ≡ old.sides ++ here ∷ there ∷ [] → IsSideAt dir present here → IsSideAt dir number there →
      Turns dir old new present number

-- the turn is full: where another corner than the first one is present, it gets a side more in this direction
pub data Closes (dir : Dir) (old new : Swept) (present : ℕ) : Type 0 where
  at_first : present ≡ 0 → new ≡ old → Closes dir old new present
  at_last : (side : SideRow) → 0 < present → new.corners ≡ old.corners → new.sides ≡ old.sides ++ side ∷ [] →
      IsSideAt dir present side → Closes dir old new present

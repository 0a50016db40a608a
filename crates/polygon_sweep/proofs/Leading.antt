-- An edge that leads from corner to corner, against the first corner: the one that pays the first player the most and, of those, the
-- second. No edge leads away from it below the first axis, and below the first axis alone an edge leads to it.
use Rattle.std.proofs.Common.{◌≡◌, ℤ, pos, ◌+ℤ◌, ◌-ℤ◌, ◌*ℤ◌, ◌≤ℤ◌, ◌<ℤ◌, arith}
use Rattle.std.proofs.lemmas.Int.{ints}
use Rattle.exact_algebra.proofs.Order.{Sign, negative, nothing, positive, sign}
use Rattle.exact_algebra.proofs.RingTactic.{ring_laws, linear}
use Rattle.lp_form.specs.Program.{LpView}
use Rattle.plane_hull.specs.Belt.{IsRight}
use Rattle.plane_hull.specs.declared.directions.Dir.{Dir}
use Rattle.polygon_sweep.proofs.Axes.{not_nothing}
use Rattle.polygon_sweep.proofs.Edges.{no_step, step_down, step_left, step_right}
use Rattle.polygon_sweep.proofs.Furthest.{IsFurthest, IsFurthestLeft, pays, pays_left}
use Rattle.polygon_sweep.proofs.Ranks.{one_of_gcd}
use Rattle.polygon_sweep.specs.declared.corners.SweptCorner.{SweptCorner}
use Rattle.polygon_sweep.specs.Round.{IsOnePoint}
use Rattle.polygon_sweep.specs.Swept.{IsCoprime, IsCornerOf}
use Rattle.polygon_sweep.specs.Turning.{IsFullTurn}

-- the step from one corner to another, times both denominators
abbrev pub across : SweptCorner → SweptCorner → ℤ
across from to = to.one *ℤ from.den -ℤ from.one *ℤ to.den

abbrev pub up : SweptCorner → SweptCorner → ℤ
up from to = to.two *ℤ from.den -ℤ from.two *ℤ to.den

-- an edge in this direction leads from one corner to another
pub record Leads (dir : Dir) (from to : SweptCorner) : Type 0 where
  pub level : dir.a *ℤ across from to +ℤ dir.b *ℤ up from to ≡ pos 0
  pub more : pos 0 <ℤ (dir.a *ℤ up from to -ℤ dir.b *ℤ across from to)

-- of all corners of the program this one pays the first player the most and, of those, the second
pub record IsFirst (lp : LpView) (corner : SweptCorner) : Type 0 where
  pub one : (other : SweptCorner) → IsCornerOf lp other → (other.one *ℤ corner.den) ≤ℤ (corner.one *ℤ other.den)
  pub two : (other : SweptCorner) → IsCornerOf lp other → other.one *ℤ corner.den ≡ corner.one *ℤ other.den
      → (other.two *ℤ corner.den) ≤ℤ (corner.two *ℤ other.den)

module _ (lp : LpView) where
  one_alone : (a b r s : ℤ) → a ≡ pos 1 → b ≡ pos 0 → a *ℤ r +ℤ b *ℤ s ≡ r
  one_alone a b r s a_1 b_0 = rw (a_1, b_0) (omega (arith, ints))

  two_alone : (a b r s : ℤ) → a ≡ pos 1 → b ≡ pos 0 → a *ℤ s -ℤ b *ℤ r ≡ s
  two_alone a b r s a_1 b_0 = rw (a_1, b_0) (omega (arith, ints))

  -- the corner furthest along (1, 0) and, of those, along (0, 1)
  pub first_corner : (dir : Dir) (corner : SweptCorner) → IsFullTurn dir → IsFurthestLeft lp dir corner → IsFirst lp corner
  first_corner dir corner right top = record {
    one = λ other is. rw (one_of other, one_of corner) at (top.furthest.along other is);
    two = λ other is same. rw (two_of other, two_of corner) at (top.left other is (rw (one_of other, one_of corner) same));
  }
    where
      one_of : (c : SweptCorner) → pays dir c ≡ c.one
      one_of c = one_alone dir.a dir.b c.one c.two right.0 right.1

      two_of : (c : SweptCorner) → pays_left dir c ≡ c.two
      two_of c = two_alone dir.a dir.b c.one c.two right.0 right.1

  level_of : (a b p q f r s g : ℤ) → ((a *ℤ r +ℤ b *ℤ s) *ℤ f) ≤ℤ ((a *ℤ p +ℤ b *ℤ q) *ℤ g)
      → ((a *ℤ p +ℤ b *ℤ q) *ℤ g) ≤ℤ ((a *ℤ r +ℤ b *ℤ s) *ℤ f)
      → a *ℤ (r *ℤ f -ℤ p *ℤ g) +ℤ b *ℤ (s *ℤ f -ℤ q *ℤ g) ≡ pos 0
  level_of a b p q f r s g low high = let same : (a *ℤ r +ℤ b *ℤ s) *ℤ f ≡ (a *ℤ p +ℤ b *ℤ q) *ℤ g = omega (arith, ints) in
      let given = simp ring_laws at same in simp ring_laws (omega (arith, linear))

  more_of : (a b p q f r s g : ℤ) → ((a *ℤ q -ℤ b *ℤ p) *ℤ g) ≤ℤ ((a *ℤ s -ℤ b *ℤ r) *ℤ f)
      → pos 0 ≤ℤ (a *ℤ (s *ℤ f -ℤ q *ℤ g) -ℤ b *ℤ (r *ℤ f -ℤ p *ℤ g))
  more_of a b p q f r s g low = let given = simp ring_laws at low in simp ring_laws (omega (arith, linear))

  same_of : (p q : ℤ) → p -ℤ q ≡ pos 0 → q ≡ p
  same_of p q none = omega (arith, ints)

  above_nothing : (x : ℤ) → pos 0 ≤ℤ x → (x ≡ pos 0 → ⊥) → pos 0 <ℤ x
  above_nothing x low other = by (sign x)
    where
      by : Sign x → pos 0 <ℤ x
      by (negative l) = absurd (omega (arith, ints))
      by (nothing z) = absurd (other z)
      by (positive l) = l

  -- from the corner before a turn to another one behind it
  pub leads : (dir : Dir) (from to : SweptCorner) → IsCoprime dir → IsCornerOf lp from → IsCornerOf lp to → IsFurthest lp dir from
      → IsFurthestLeft lp dir to → (IsOnePoint from to → ⊥) → Leads dir from to
  leads dir from to coprime from_is to_is before behind apart =
      let low = before.along to to_is in
      let high = behind.furthest.along from from_is in
      let level = level_of dir.a dir.b from.one from.two from.den to.one to.two to.den low high in
      let same : pays dir from *ℤ to.den ≡ pays dir to *ℤ from.den = omega (arith, ints) in
      let weak = more_of dir.a dir.b from.one from.two from.den to.one to.two to.den (behind.left from from_is same) in
      record {
        level = level;
        more = above_nothing (dir.a *ℤ up from to -ℤ dir.b *ℤ across from to) weak (λ none.
            let still = no_step dir.a dir.b (across from to) (up from to) coprime level none in
            apart (record { one = same_of _ _ still.0; two = same_of _ _ still.1 }));
      }

  -- no edge leads away from the first corner below the first axis
  pub none_away : (dir : Dir) (from to : SweptCorner) → IsCoprime dir → IsCornerOf lp to → IsFirst lp from → Leads dir from to
      → dir.b <ℤ pos 0 → ⊥
  none_away dir from to coprime to_is first edge below =
      let rises = step_right dir.a dir.b (across from to) (up from to) coprime edge.level edge.more below in
      let low = first.one to to_is in
      omega (arith, ints)

  -- an edge leads to the first corner below the first axis alone
  pub back_below : (dir : Dir) (from to : SweptCorner) → IsCoprime dir → IsCornerOf lp from → IsFirst lp to → Leads dir from to
      → (IsRight dir → ⊥) → dir.b <ℤ pos 0
  back_below dir from to coprime from_is first edge other = by (sign dir.b)
    where
      flat : dir.b ≡ pos 0 → Sign dir.a → dir.b <ℤ pos 0
      flat none (negative l) =
          let falls = step_down dir.a dir.b (across from to) (up from to) coprime edge.level edge.more none l in
          let low = first.two from from_is (same_of _ _ falls.0) in
          let drops = falls.1 in
          absurd (omega (arith, ints))
      flat none (nothing z) = absurd (not_nothing dir.a dir.b coprime z none)
      flat none (positive l) = absurd (other (one_of_gcd dir.a l (rw none at coprime), none))

      by : Sign dir.b → dir.b <ℤ pos 0
      by (negative l) = l
      by (nothing z) = flat z (sign dir.a)
      by (positive l) =
          let falls = step_left dir.a dir.b (across from to) (up from to) coprime edge.level edge.more l in
          let low = first.one from from_is in
          absurd (omega (arith, ints))

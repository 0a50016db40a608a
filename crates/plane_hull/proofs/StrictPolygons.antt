-- The half planes of a belt whose corners lie inside are the mixtures of the corners, and each corner is needed.
use Rattle.std.proofs.Common.{◌≡◌, ◌≢◌, ◌⊎◌, inl, inr, ◌↔◌, ℕ, zero, suc, ◌<◌, ◌≤◌, List, length, refl, ℤ, pos, ◌+ℤ◌, ◌*ℤ◌, ◌<ℤ◌, ◌≤ℤ◌, arith}
use Rattle.std.proofs.lemmas.Bool.{cases_lt}
use Rattle.std.proofs.lemmas.Int.{ints}
use Rattle.exact_algebra.proofs.Order.{cancel_below, product_positive, times_below}
use Rattle.exact_algebra.proofs.RingTactic.{ring_laws, linear}
use Rattle.plane_hull.specs.declared.sides.Point.{Point}
use Rattle.plane_hull.specs.declared.sides.SideRow.{SideRow}
use Rattle.plane_hull.specs.Inside.{IsInside, PlanePoint, corner_at}
use Rattle.plane_hull.specs.Mixture.{IsMixture}
use Rattle.plane_hull.specs.StrictPolygon.{AreCornersInside, CornersNeeded, IsStrictPolygon}
use Rattle.plane_hull.proofs.Areas.{dot}
use Rattle.plane_hull.proofs.BeltEdges.{next_of, next_round, next_up}
use Rattle.plane_hull.proofs.InsideMeans.{is_mixture}
use Rattle.plane_hull.proofs.MixturesInside.{along, no_further, not_of_others}
use Rattle.plane_hull.proofs.PolygonOfBelt.{cof, cof_is, common, common_over, den, dens_over, directions, moves, polygon, u, v}
use Rattle.plane_hull.proofs.Separating.{IsFurthest, of_three, of_two}

-- the number before another one
pub data IsBeforeIn (n k p : ℕ) : Type 0 where
  one_up : k ≡ suc p → IsBeforeIn n k p
  at_last : k ≡ 0 → suc p ≡ n → IsBeforeIn n k p

number_before : (n k : ℕ) → k < n → (p : ℕ) × (p < n) × IsBeforeIn n k p
number_before zero k low = absurd (omega arith)
number_before (suc n) zero low = (n, omega arith, at_last refl refl)
number_before n (suc k) low = (k, omega arith, one_up refl)

next_back : (n k p : ℕ) → k < n → IsBeforeIn n k p → next_of n p ≡ k
next_back n k p low (one_up e) = let up = next_up n p (omega arith) in omega arith
next_back n k p low (at_last z e) = let round = next_round n p e in omega arith

next_cases : (n k : ℕ) → k < n → ((suc k < n) × (next_of n k ≡ suc k)) ⊎ ((suc k ≡ n) × (next_of n k ≡ 0))
next_cases n k low = by (cases_lt (suc k) n)
  where
    by : (suc k < n) ⊎ (n ≤ suc k) → ((suc k < n) × (next_of n k ≡ suc k)) ⊎ ((suc k ≡ n) × (next_of n k ≡ 0))
    by (inl more) = inl (more, next_up n k more)
    by (inr last) = let e : suc k ≡ n = omega arith in inr (e, next_round n k e)

next_moves : (n k : ℕ) → 2 ≤ n → ((suc k < n) × (next_of n k ≡ suc k)) ⊎ ((suc k ≡ n) × (next_of n k ≡ 0)) → next_of n k ≢ k
next_moves n k more (inl (inside, up)) = λ e. omega arith
next_moves n k more (inr (last, round)) = λ e. omega arith

two_apart : (n k p : ℕ) → 3 ≤ n → IsBeforeIn n k p → ((suc k < n) × (next_of n k ≡ suc k)) ⊎ ((suc k ≡ n) × (next_of n k ≡ 0)) → next_of n k ≢ p
two_apart n k p three (one_up e) (inl (inside, up)) = λ same. omega arith
two_apart n k p three (one_up e) (inr (last, round)) = λ same. omega arith
two_apart n k p three (at_last z e) (inl (inside, up)) = λ same. omega arith
two_apart n k p three (at_last z e) (inr (last, round)) = λ same. omega arith

one_apart : (n k p : ℕ) → 2 ≤ n → IsBeforeIn n k p → p ≢ k
one_apart n k p more (one_up e) = λ same. omega arith
one_apart n k p more (at_last z e) = λ same. omega arith

strict_back : (r s ci di ck dk common : ℤ) → (r *ℤ (ci *ℤ pos 1)) <ℤ (s *ℤ (ck *ℤ pos 1)) → ci *ℤ di ≡ common → ck *ℤ dk ≡ common → pos 0 <ℤ common → pos 0 <ℤ di → pos 0 <ℤ dk → (r *ℤ dk) <ℤ (s *ℤ di)
strict_back r s ci di ck dk common low i_is k_is over di_over dk_over =
    cancel_below common (weakly common over) (rw (left, right) (times_below (di *ℤ dk) (product_positive di_over dk_over) low))
  where
    weakly : (x : ℤ) → pos 0 <ℤ x → pos 0 ≤ℤ x
    weakly x h = omega (arith, ints)

    left : common *ℤ (r *ℤ dk) ≡ di *ℤ dk *ℤ (r *ℤ (ci *ℤ pos 1))
    left = rw (← i_is) (simp ring_laws (omega (arith, linear)))

    right : common *ℤ (s *ℤ di) ≡ di *ℤ dk *ℤ (s *ℤ (ck *ℤ pos 1))
    right = rw (← k_is) (simp ring_laws (omega (arith, linear)))

module _ (one two : ℤ) (points : List Point) (sides : List SideRow) (given : AreCornersInside one two points sides) where
  pub mixture_is_inside : (p : PlanePoint) → pos 0 <ℤ p.den → IsMixture points p → IsInside one two points sides p
  mixture_is_inside p over (times, mean) = λ k side at.
      no_further one two side.dir.a side.dir.b points times p (corner_at points side.corner) over mean (λ j low. given.inside j low k side at)

  pub inside_is_mixture : (p : PlanePoint) → pos 0 <ℤ p.den → IsInside one two points sides p ↔ IsMixture points p
  inside_is_mixture p over = (is_mixture one two points sides given p over, mixture_is_inside p over)

  over_1 : pos 0 <ℤ pos 1
  over_1 = omega (arith, ints)

  furthest : (k : ℕ) → k < length points → IsFurthest (length points) (u one two points sides given (pos 1) over_1) (v one two points sides given (pos 1) over_1) k
  furthest k low = by (cases_lt 1 (length points)) (cases_lt 2 (length points))
    where
      by : (1 < length points) ⊎ (length points ≤ 1) → (2 < length points) ⊎ (length points ≤ 2)
          → IsFurthest (length points) (u one two points sides given (pos 1) over_1) (v one two points sides given (pos 1) over_1) k
      by (inr single) any = record { a = pos 0; b = pos 0; further = λ j j_in apart. absurd (apart (omega arith)) }
      by (inl more) (inr pair) =
          of_two (length points) (u one two points sides given (pos 1) over_1) (v one two points sides given (pos 1) over_1) k (next_of (length points) k)
          (λ j j_in apart. other j j_in apart (next_cases (length points) k low))
          (moves one two points sides given (pos 1) over_1 (omega arith) k low)
        where
          other : (j : ℕ) → j < length points → j ≢ k → ((suc k < length points) × (next_of (length points) k ≡ suc k)) ⊎ ((suc k ≡ length points) × (next_of (length points) k ≡ 0)) → j ≡ next_of (length points) k
          other j j_in apart (inl (inside, up)) = omega arith
          other j j_in apart (inr (last, round)) = omega arith
      by (inl more) (inl three) =
          let (p, p_in, p_is) = number_before (length points) k low in
          let (o, o_in, o_is) = number_before (length points) p p_in in
          of_three (length points) (next_of (length points)) (λ c. (directions one two points sides given (pos 1) over_1 c).a) (λ c. (directions one two points sides given (pos 1) over_1 c).b)
          (u one two points sides given (pos 1) over_1) (v one two points sides given (pos 1) over_1) (polygon one two points sides given (pos 1) over_1 (omega arith)) (omega arith) k p o low p_in o_in
          (next_back (length points) k p low p_is) (next_back (length points) p o p_in o_is)
          (two_apart (length points) k p (omega arith) p_is (next_cases (length points) k low)) (one_apart (length points) k p (omega arith) p_is) (next_moves (length points) k (omega arith) (next_cases (length points) k low))

  pub needed : CornersNeeded points
  needed k low (times, none, mean) = not_of_others one two f.a f.b points times k further none mean
    where
      f : IsFurthest (length points) (u one two points sides given (pos 1) over_1) (v one two points sides given (pos 1) over_1) k
      f = furthest k low

      expanded : (a b x y m : ℤ) → dot a b (x *ℤ m) (y *ℤ m) ≡ (a *ℤ x +ℤ b *ℤ y) *ℤ m
      expanded a b x y m = simp ring_laws (omega (arith, linear))

      further : (j : ℕ) → j < length points → j ≢ k → (along one two f.a f.b (corner_at points j) *ℤ (corner_at points k).den) <ℤ (along one two f.a f.b (corner_at points k) *ℤ (corner_at points j).den)
      further j j_in apart =
          strict_back (along one two f.a f.b (corner_at points j)) (along one two f.a f.b (corner_at points k))
          (cof one two points sides given j) (den one two points sides given j) (cof one two points sides given k) (den one two points sides given k) (common one two points sides given)
          (let low = f.further j j_in apart in
          rw (expanded f.a f.b (one *ℤ (corner_at points j).x) (two *ℤ (corner_at points j).y) (cof one two points sides given j *ℤ pos 1), expanded f.a f.b (one *ℤ (corner_at points k).x) (two *ℤ (corner_at points k).y) (cof one two points sides given k *ℤ pos 1)) at low)
          (cof_is one two points sides given j j_in) (cof_is one two points sides given k low) (common_over one two points sides given) (dens_over one two points sides given j j_in) (dens_over one two points sides given k low)

  pub strict : IsStrictPolygon one two points sides
  strict = record { belt = given.belt; inside = given.inside; needed = needed }

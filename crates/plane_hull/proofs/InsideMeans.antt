-- What lies inside a belt whose corners do is a mixture of the corners.
use Rattle.std.proofs.Common.{◌≡◌, ◌⊎◌, inl, inr, ℕ, zero, suc, ◌+◌, ◌*◌, ◌<◌, ◌≤◌, List, length, refl, sym, ◌∙◌, ap, subst, ℤ, pos, negsuc, neg_ℤ, ◌+ℤ◌, ◌*ℤ◌, ◌<ℤ◌, ◌≤ℤ◌, unsigned_abs, arith}
use Rattle.std.proofs.lemmas.Bool.{cases_lt}
use Rattle.std.proofs.lemmas.Int.{ints}
use Rattle.exact_algebra.proofs.Order.{cancel_positive, product_positive, times_at_most}
use Rattle.exact_algebra.proofs.RingTactic.{ring_laws, linear}
use Rattle.plane_hull.specs.declared.directions.Dir.{Dir}
use Rattle.plane_hull.specs.declared.sides.Point.{Point}
use Rattle.plane_hull.specs.declared.sides.SideRow.{SideRow}
use Rattle.plane_hull.specs.Belt.{IsDirection}
use Rattle.plane_hull.specs.Inside.{IsInside, PlanePoint, corner_at, reach}
use Rattle.plane_hull.specs.Mixture.{IsMixture, summed}
use Rattle.plane_hull.specs.StrictPolygon.{AreCornersInside}
use Rattle.plane_hull.proofs.Areas.{dot}
use Rattle.plane_hull.proofs.BeltEdges.{next_of, next_round, next_up}
use Rattle.plane_hull.proofs.Fan.{IsMeanOfThree, area_of, in_fan, left_of_edge, magnitude}
use Rattle.plane_hull.proofs.Means.{sum_three, three_times}
use Rattle.plane_hull.proofs.PolygonOfBelt.{cof, cof_is, cof_over, common, common_over, den, directions, edge_side, height_is, moves, placed, polygon, round_belt, side, stands, t, u, v}
use Rattle.plane_hull.proofs.RoundedPolygon.{IsRounded}
use Rattle.plane_hull.proofs.Segments.{on_segment}

weakly : (x : ℤ) → pos 0 <ℤ x → pos 0 ≤ℤ x
weakly x h = omega (arith, ints)

point_at_most : (r s e d c common : ℤ) → (r *ℤ e) ≤ℤ (s *ℤ d) → c *ℤ e ≡ common → pos 0 <ℤ c → (r *ℤ common) ≤ℤ (s *ℤ (c *ℤ d))
point_at_most r s e d c common low c_is over = rw (left, right) (times_at_most c (weakly c over) low)
  where
    left : r *ℤ common ≡ c *ℤ (r *ℤ e)
    left = rw (← c_is) (simp ring_laws refl)

    right : s *ℤ (c *ℤ d) ≡ c *ℤ (s *ℤ d)
    right = simp ring_laws refl

-- ---- weights of corners from those over the common denominator

mean_back : (p q r one xi xj xk ci cj ck d all x c : ℤ) → pos 0 <ℤ one
    → p *ℤ (one *ℤ xi *ℤ (ci *ℤ d)) +ℤ q *ℤ (one *ℤ xj *ℤ (cj *ℤ d)) +ℤ r *ℤ (one *ℤ xk *ℤ (ck *ℤ d)) ≡ all *ℤ (one *ℤ x *ℤ c)
    → x *ℤ (all *ℤ c) ≡ d *ℤ (p *ℤ ci *ℤ xi +ℤ q *ℤ cj *ℤ xj +ℤ r *ℤ ck *ℤ xk)
mean_back p q r one xi xj xk ci cj ck d all x c over mean = cancel_positive one over (left ∙ (sym mean ∙ right))
  where
    left : one *ℤ (x *ℤ (all *ℤ c)) ≡ all *ℤ (one *ℤ x *ℤ c)
    left = simp ring_laws refl

    right : p *ℤ (one *ℤ xi *ℤ (ci *ℤ d)) +ℤ q *ℤ (one *ℤ xj *ℤ (cj *ℤ d)) +ℤ r *ℤ (one *ℤ xk *ℤ (ck *ℤ d)) ≡ one *ℤ (d *ℤ (p *ℤ ci *ℤ xi +ℤ q *ℤ cj *ℤ xj +ℤ r *ℤ ck *ℤ xk))
    right = simp ring_laws (omega (arith, linear))

dens_back : (p q r ci cj ck di dj dk c : ℤ) → ci *ℤ di ≡ c → cj *ℤ dj ≡ c → ck *ℤ dk ≡ c
    → p *ℤ ci *ℤ di +ℤ q *ℤ cj *ℤ dj +ℤ r *ℤ ck *ℤ dk ≡ (p +ℤ q +ℤ r) *ℤ c
dens_back p q r ci cj ck di dj dk c first second third =
    grouped p q r ci cj ck di dj dk ∙ (rw (first, second, third) (simp ring_laws (omega (arith, linear))))
  where
    grouped : (p q r ci cj ck di dj dk : ℤ) → p *ℤ ci *ℤ di +ℤ q *ℤ cj *ℤ dj +ℤ r *ℤ ck *ℤ dk ≡ p *ℤ (ci *ℤ di) +ℤ q *ℤ (cj *ℤ dj) +ℤ r *ℤ (ck *ℤ dk)
    grouped p q r ci cj ck di dj dk = simp ring_laws (omega (arith, linear))

module _ (one two : ℤ) (points : List Point) (sides : List SideRow) (given : AreCornersInside one two points sides) (p : PlanePoint) (over : pos 0 <ℤ p.den) where
  abbrev x : ℤ
  x = one *ℤ p.x *ℤ common one two points sides given

  abbrev y : ℤ
  y = two *ℤ p.y *ℤ common one two points sides given

  abbrev us : ℕ → ℤ
  us c = u one two points sides given p.den over c

  abbrev vs : ℕ → ℤ
  vs c = v one two points sides given p.den over c

  cof_natural : ℕ → ℕ
  cof_natural c = unsigned_abs (cof one two points sides given c)

  cof_same : (c : ℕ) → pos (cof_natural c) ≡ cof one two points sides given c
  unfolding cof_natural
  cof_same c = magnitude (cof one two points sides given c) (weakly _ (cof_over one two points sides given c))

  module _ (m : IsMeanOfThree (length points) us vs x y) where
    abbrev times : ℕ → ℕ
    times = three_times m.i (m.p * cof_natural m.i) m.j (m.q * cof_natural m.j) m.k (m.r * cof_natural m.k)

    abbrev c_at : ℕ → ℤ
    c_at c = cof one two points sides given c

    sum_is : (f : PlanePoint → ℤ) → summed points times f
        ≡ pos m.p *ℤ c_at m.i *ℤ f (corner_at points m.i) +ℤ pos m.q *ℤ c_at m.j *ℤ f (corner_at points m.j) +ℤ pos m.r *ℤ c_at m.k *ℤ f (corner_at points m.k)
    sum_is f =
        sum_three (length points) m.i (m.p * cof_natural m.i) m.j (m.q * cof_natural m.j) m.k (m.r * cof_natural m.k) (λ c. f (corner_at points c)) m.i_in m.j_in m.k_in
        ∙ (rw (product_is m.p m.i, product_is m.q m.j, product_is m.r m.k) refl)
      where
        product_is : (a c : ℕ) → pos (a * cof_natural c) ≡ pos a *ℤ c_at c
        product_is a c = ap (λ (z : ℤ). pos a *ℤ z) (cof_same c)

    dens_are : summed points times (λ q. q.den) ≡ pos (m.p + m.q + m.r) *ℤ common one two points sides given
    dens_are =
        sum_is (λ q. q.den)
        ∙ dens_back (pos m.p) (pos m.q) (pos m.r) (c_at m.i) (c_at m.j) (c_at m.k) _ _ _ (common one two points sides given)
        (cof_is one two points sides given m.i m.i_in) (cof_is one two points sides given m.j m.j_in) (cof_is one two points sides given m.k m.k_in)

    total : pos 0 <ℤ summed points times (λ q. q.den)
    total =
        let some = m.some in
        let weights : pos 0 <ℤ pos (m.p + m.q + m.r) = omega (arith, ints) in
        rw dens_are (product_positive weights (common_over one two points sides given))

    first : p.x *ℤ summed points times (λ q. q.den) ≡ p.den *ℤ summed points times (λ q. q.x)
    first =
        rw (dens_are, sum_is (λ q. q.x))
        (mean_back (pos m.p) (pos m.q) (pos m.r) one (corner_at points m.i).x (corner_at points m.j).x (corner_at points m.k).x (c_at m.i) (c_at m.j) (c_at m.k)
        p.den (pos (m.p + m.q + m.r)) p.x (common one two points sides given) given.first_scale m.first)

    second : p.y *ℤ summed points times (λ q. q.den) ≡ p.den *ℤ summed points times (λ q. q.y)
    second =
        rw (dens_are, sum_is (λ q. q.y))
        (mean_back (pos m.p) (pos m.q) (pos m.r) two (corner_at points m.i).y (corner_at points m.j).y (corner_at points m.k).y (c_at m.i) (c_at m.j) (c_at m.k)
        p.den (pos (m.p + m.q + m.r)) p.y (common one two points sides given) given.second_scale m.second)

    of_three : IsMixture points p
    of_three = (times, record { total = total; x = first; y = second })

  -- ---- no side's far side, over the common denominator

  module _ (inside : IsInside one two points sides p) where
    low : (i : ℕ) → i ≤ t one two points sides given
        → dot (side one two points sides given i).dir.a (side one two points sides given i).dir.b x y
        ≤ℤ dot (side one two points sides given i).dir.a (side one two points sides given i).dir.b (us (side one two points sides given i).corner) (vs (side one two points sides given i).corner)
    low i i_in =
        let s = side one two points sides given i in
        rw (expanded s.dir.a s.dir.b (one *ℤ p.x) (two *ℤ p.y) (common one two points sides given), height_is one two points sides given p.den over s.dir s.corner)
        (point_at_most (reach one two s.dir p) (reach one two s.dir (corner_at points s.corner)) (den one two points sides given s.corner) p.den
        (cof one two points sides given s.corner) (common one two points sides given)
        (inside i s (placed one two points sides given i i_in)) (cof_is one two points sides given s.corner (stands one two points sides given i i_in)) (cof_over one two points sides given s.corner))
      where
        expanded : (a b x y m : ℤ) → dot a b (x *ℤ m) (y *ℤ m) ≡ (a *ℤ x +ℤ b *ℤ y) *ℤ m
        expanded a b x y m = simp ring_laws (omega (arith, linear))

    -- how far the point may lie along the axes
    along_axis : (a b : ℤ) (i : ℕ) → i ≤ t one two points sides given → IsDirection a b (side one two points sides given i).dir
        → (c : ℕ) × (c < length points) × (dot a b x y ≤ℤ dot a b (us c) (vs c))
    along_axis a b i i_in is =
        let s = side one two points sides given i in
        (s.corner, stands one two points sides given i i_in, (let bound = low i i_in in rw (is.0, is.1) at bound))

    right : (c : ℕ) × (c < length points) × (x ≤ℤ us c)
    right = let (c, c_in, h) = along_axis (pos 1) (pos 0) 0 (omega arith) (round_belt one two points sides given).right in (c, c_in, (omega (arith, ints)))

    left : (c : ℕ) × (c < length points) × (us c ≤ℤ x)
    left =
        let belt = round_belt one two points sides given in
        let (c, c_in, h) = along_axis (negsuc 0) (pos 0) belt.left belt.left_in belt.left_is in (c, c_in, (omega (arith, ints)))

    above : (c : ℕ) × (c < length points) × (y ≤ℤ vs c)
    above =
        let belt = round_belt one two points sides given in
        let (c, c_in, h) = along_axis (pos 0) (pos 1) belt.up belt.up_in belt.up_is in (c, c_in, (omega (arith, ints)))

    below : (c : ℕ) × (c < length points) × (vs c ≤ℤ y)
    below =
        let belt = round_belt one two points sides given in
        let (c, c_in, h) = along_axis (pos 0) (negsuc 0) belt.down belt.down_in belt.down_is in (c, c_in, (omega (arith, ints)))

    -- an edge's bound
    edge_low : 2 ≤ length points → (c : ℕ) → c < length points
        → dot (directions one two points sides given p.den over c).a (directions one two points sides given p.den over c).b x y
        ≤ℤ dot (directions one two points sides given p.den over c).a (directions one two points sides given p.den over c).b (us c) (vs c)
    edge_low more c c_in =
        let (i, i_in, at, same) = edge_side one two points sides given p.den over more c c_in in
        subst (λ (d : Dir). dot d.a d.b x y ≤ℤ dot d.a d.b (us c) (vs c)) same
        (subst (λ (j : ℕ). dot (side one two points sides given i).dir.a (side one two points sides given i).dir.b x y ≤ℤ dot (side one two points sides given i).dir.a (side one two points sides given i).dir.b (us j) (vs j)) at (low i i_in))

    -- one corner
    of_one : length points ≡ 1 → IsMeanOfThree (length points) us vs x y
    of_one single = by right left above below
      where
        at_0 : (c : ℕ) → c < length points → c ≡ 0
        at_0 c c_in = omega arith

        by : ((c : ℕ) × (c < length points) × (x ≤ℤ us c)) → ((c : ℕ) × (c < length points) × (us c ≤ℤ x)) → ((c : ℕ) × (c < length points) × (y ≤ℤ vs c)) → ((c : ℕ) × (c < length points) × (vs c ≤ℤ y))
            → IsMeanOfThree (length points) us vs x y
        by (c, c_in, x_low) (d, d_in, x_high) (e, e_in, y_low) (f, f_in, y_high) = record {
          i = 0;
          j = 0;
          k = 0;
          i_in = omega arith;
          j_in = omega arith;
          k_in = omega arith;
          p = 1;
          q = 0;
          r = 0;
          some = omega arith;
          first = same (us 0) x (subst (λ (i : ℕ). x ≤ℤ us i) (at_0 c c_in) x_low) (subst (λ (i : ℕ). us i ≤ℤ x) (at_0 d d_in) x_high);
          second = same (vs 0) y (subst (λ (i : ℕ). y ≤ℤ vs i) (at_0 e e_in) y_low) (subst (λ (i : ℕ). vs i ≤ℤ y) (at_0 f f_in) y_high);
        }
          where
            same : (a b : ℤ) → b ≤ℤ a → a ≤ℤ b → pos 1 *ℤ a +ℤ pos 0 *ℤ a +ℤ pos 0 *ℤ a ≡ pos (1 + 0 + 0) *ℤ b
            same a b h k = omega (arith, ints)

    -- two corners
    one_of_two : {P : ℕ → Type 0} → length points ≡ 2 → (c : ℕ) × (c < length points) × P c → P 0 ⊎ P 1
    one_of_two {P} pair (zero, c_in, h) = inl h
    one_of_two {P} pair (suc zero, c_in, h) = inr h
    one_of_two {P} pair (suc (suc c), c_in, h) = absurd (omega arith)

    of_two : length points ≡ 2 → IsMeanOfThree (length points) us vs x y
    of_two pair =
        let more : 2 ≤ length points = omega arith in
        let is = polygon one two points sides given p.den over more in
        let up = next_up (length points) 0 (omega arith) in
        let round = next_round (length points) 1 (omega arith) in
        let ahead = edge 0 more is (omega arith) up in
        let back = edge 1 more is (omega arith) round in
        let turned = turned_round (us 0) (vs 0) (us 1) (vs 1) x y in
        let line : area_of (us 0) (vs 0) (us 1) (vs 1) x y ≡ pos 0 = omega (arith, linear) in
        let m = on_segment (us 0) (vs 0) (us 1) (vs 1) x y (one_of_two pair right, one_of_two pair left) (one_of_two pair above, one_of_two pair below) line
        (λ first second. moves one two points sides given p.den over more 0 (omega arith) (first ∙ ap us (sym up)) (second ∙ ap vs (sym up))) in
        record {
          i = 0;
          j = 1;
          k = 1;
          i_in = omega arith;
          j_in = omega arith;
          k_in = omega arith;
          p = m.p;
          q = m.q;
          r = 0;
          some = let some = m.some in omega arith;
          first = padded m.p m.q (us 0) (us 1) x m.first;
          second = padded m.p m.q (vs 0) (vs 1) y m.second;
        }
      where
        turned_round : (x0 y0 x1 y1 x y : ℤ) → area_of x1 y1 x0 y0 x y ≡ neg_ℤ (area_of x0 y0 x1 y1 x y)
        turned_round x0 y0 x1 y1 x y = simp ring_laws (omega (arith, linear))

        padded : (a b : ℕ) (s t w : ℤ) → pos a *ℤ s +ℤ pos b *ℤ t ≡ pos (a + b) *ℤ w → pos a *ℤ s +ℤ pos b *ℤ t +ℤ pos 0 *ℤ t ≡ pos (a + b + 0) *ℤ w
        padded a b s t w h = let e : a + b + 0 ≡ a + b = omega arith in rw e (more_0 (pos a *ℤ s) (pos b *ℤ t) (pos (a + b) *ℤ w) h)
          where
            more_0 : (q r w : ℤ) → q +ℤ r ≡ w → q +ℤ r +ℤ pos 0 *ℤ t ≡ w
            more_0 q r w h = omega (arith, ints)

        edge : (c : ℕ) {d : ℕ} (more : 2 ≤ length points) → IsRounded (length points) (next_of (length points)) (λ c. (directions one two points sides given p.den over c).a) (λ c. (directions one two points sides given p.den over c).b) us vs
            → c < length points → next_of (length points) c ≡ d → pos 0 ≤ℤ area_of (us c) (vs c) (us d) (vs d) x y
        edge c more is c_in next =
            subst (λ (d : ℕ). pos 0 ≤ℤ area_of (us c) (vs c) (us d) (vs d) x y) next
            (left_of_edge (length points) (next_of (length points)) (λ c. (directions one two points sides given p.den over c).a) (λ c. (directions one two points sides given p.den over c).b) us vs is
            c x y c_in (edge_low more c c_in))

    of_more : 3 ≤ length points → IsMeanOfThree (length points) us vs x y
    of_more three =
        let more : 2 ≤ length points = omega arith in
        in_fan (length points) (next_of (length points)) (λ c. (directions one two points sides given p.den over c).a) (λ c. (directions one two points sides given p.den over c).b) us vs
        (polygon one two points sides given p.den over more) x y (edge_low more) three (next_up (length points)) (next_round (length points))

    pub is_mixture : IsMixture points p
    is_mixture = of_three (by (cases_lt 1 (length points)) (cases_lt 2 (length points)))
      where
        by : (1 < length points) ⊎ (length points ≤ 1) → (2 < length points) ⊎ (length points ≤ 2) → IsMeanOfThree (length points) us vs x y
        by one (inl three) = of_more (omega arith)
        by (inl two) (inr pair) = of_two (omega arith)
        by (inr single) (inr pair) = of_one (let some = given.some in omega arith)

-- A belt whose corners lie inside, as a rounded polygon over a common denominator.
use Rattle.std.proofs.Common.{◌≡◌, ◌≢◌, ◌⊎◌, inl, inr, ℕ, zero, suc, ◌+◌, ◌-◌, ◌<◌, ◌≤◌, List, [], ◌∷◌, length, slice_get, get_or, Some, refl, sym, ◌∙◌, ap, subst, ℤ, pos, ◌+ℤ◌, ◌*ℤ◌, ◌<ℤ◌, ◌≤ℤ◌, arith}
use Rattle.std.proofs.lemmas.Bool.{cases_lt}
use Rattle.std.proofs.lemmas.Option.{same_Some}
use Rattle.corr_num.specs.Fraction.{IsLowest}
use Rattle.corr_num.proofs.LowestTerms.{lowest_unique}
use Rattle.exact_algebra.proofs.Order.{cancel_positive, product_positive}
use Rattle.exact_algebra.proofs.RingTactic.{ring_laws, linear}
use Rattle.plane_hull.specs.declared.directions.Dir.{Dir}
use Rattle.plane_hull.specs.declared.sides.Point.{Point}
use Rattle.plane_hull.specs.declared.sides.SideRow.{SideRow}
use Rattle.plane_hull.specs.Belt.{IsNext, last_corner}
use Rattle.plane_hull.specs.Inside.{PlanePoint, corner_at, plane_point, reach}
use Rattle.plane_hull.specs.StrictPolygon.{AreCornersInside, AreFractions}
use Rattle.plane_hull.proofs.Areas.{dot}
use Rattle.plane_hull.proofs.BeltEdges.{IsLeftBy, leaving, next_of, next_round, next_up, next_within, rounded}
use Rattle.plane_hull.proofs.CommonDenominator.{cofactor, cofactor_over, cofactor_times, common_at_most, product_over, product_to}
use Rattle.plane_hull.proofs.Leaving.{change, count, place, round_count}
use Rattle.plane_hull.proofs.Reading.{last_is}
use Rattle.plane_hull.proofs.RoundBelt.{Comes, IsRoundBelt, comes_again, comes_in, comes_next}
use Rattle.plane_hull.proofs.RoundedPolygon.{IsRounded}
use Rattle.plane_hull.proofs.SidesOfBelt.{round_of, side_found, side_placed, sides_long}

-- ---- corners as points of the plane

pub corner_is : (points : List Point) (k : ℕ) (p : Point) → slice_get points k ≡ Some p → corner_at points k ≡ plane_point p
corner_is [] k p at = absurd (cc)
corner_is (q ∷ points) zero p at = ap plane_point (same_Some q p at)
corner_is (q ∷ points) (suc k) p at = corner_is points k p at

pub some_corner : (points : List Point) (k : ℕ) → k < length points → (p : Point) × (slice_get points k ≡ Some p)
some_corner [] k low = absurd (omega arith)
some_corner (q ∷ points) zero low = (q, refl)
some_corner (q ∷ points) (suc k) low = some_corner points k (omega arith)

pub den_over : (points : List Point) → AreFractions points → (k : ℕ) → k < length points → pos 0 <ℤ (corner_at points k).den
den_over points fractions k low =
    let (p, at) = some_corner points k low in
    let (one, two) = fractions k p at in
    subst (λ (q : PlanePoint). pos 0 <ℤ q.den) (sym (corner_is points k p at)) (product_positive one.positive two.positive)

-- ---- one point over two denominators

module _ (scale k common : ℤ) (scale_over : pos 0 <ℤ scale) (k_over : pos 0 <ℤ k) (common_over : pos 0 <ℤ common) where
  -- n/e and n'/e', each expanded by d and d', are one number where they are over the common denominator
  same_number : (n e d n' e' d' c c' : ℤ) → c *ℤ (e *ℤ d) ≡ common → c' *ℤ (e' *ℤ d') ≡ common → pos 0 <ℤ d → pos 0 <ℤ d'
      → scale *ℤ (n *ℤ d) *ℤ (c *ℤ k) ≡ scale *ℤ (n' *ℤ d') *ℤ (c' *ℤ k) → n *ℤ e' ≡ n' *ℤ e
  same_number n e d n' e' d' c c' first second d_over d'_over same =
      cancel_positive (scale *ℤ k *ℤ common *ℤ (d *ℤ d'))
      (product_positive (product_positive (product_positive scale_over k_over) common_over) (product_positive d_over d'_over))
      (left ∙ (ap (λ (x : ℤ). e *ℤ d *ℤ (e' *ℤ d') *ℤ x) same ∙ sym right))
    where
      left : scale *ℤ k *ℤ common *ℤ (d *ℤ d') *ℤ (n *ℤ e') ≡ e *ℤ d *ℤ (e' *ℤ d') *ℤ (scale *ℤ (n *ℤ d) *ℤ (c *ℤ k))
      left = rw (← first) (simp ring_laws refl)

      right : scale *ℤ k *ℤ common *ℤ (d *ℤ d') *ℤ (n' *ℤ e) ≡ e *ℤ d *ℤ (e' *ℤ d') *ℤ (scale *ℤ (n' *ℤ d') *ℤ (c' *ℤ k))
      right = rw (← second) (simp ring_laws refl)

module _ (one two : ℤ) (points : List Point) (sides : List SideRow) (given : AreCornersInside one two points sides) where
  abbrev pub n : ℕ
  n = length points

  abbrev pub t : ℕ
  t = length sides - 1

  pub long : length sides ≡ suc t
  long = sides_long points sides given.belt

  abbrev pub side : ℕ → SideRow
  side k = get_or sides k given.belt.axes.up.1

  pub placed : (k : ℕ) → k ≤ t → slice_get sides k ≡ Some (side k)
  placed = side_placed points sides given.belt

  found : (k : ℕ) (x : SideRow) → slice_get sides k ≡ Some x → side k ≡ x
  found = side_found points sides given.belt

  pub stands : (k : ℕ) → k ≤ t → (side k).corner < n
  stands k low = given.stand k (side k) (placed k low)

  pub round_belt : IsRoundBelt n t side
  round_belt = round_of points sides given.belt

  pub total : 2 ≤ n → count (λ k. (side k).corner) t + change (side t).corner (side 0).corner ≡ n
  total more =
      sym (round_count (last_corner sides) t sides (λ k. (side k).corner) long
      (last_is sides (side t) (placed t (omega arith)))
      (λ k s at. ap (λ (x : SideRow). x.corner) (found k s at)))
      ∙ given.belt.once.more_corners more

  -- ---- corners over one denominator, times k

  abbrev pub den : ℕ → ℤ
  den c = (corner_at points c).den

  abbrev pub common : ℤ
  common = product_to n den

  abbrev pub cof : ℕ → ℤ
  cof c = cofactor n den c

  pub dens_over : (c : ℕ) → c < n → pos 0 <ℤ den c
  dens_over = den_over points given.fractions

  pub common_over : pos 0 <ℤ common
  common_over = product_over n den dens_over

  pub cof_over : (c : ℕ) → pos 0 <ℤ cof c
  cof_over c = cofactor_over n den c dens_over

  pub cof_is : (c : ℕ) → c < n → cof c *ℤ den c ≡ common
  cof_is c low = cofactor_times n den c low

  module _ (k : ℤ) (k_over : pos 0 <ℤ k) where
    abbrev pub u : ℕ → ℤ
    u c = one *ℤ (corner_at points c).x *ℤ (cof c *ℤ k)

    abbrev pub v : ℕ → ℤ
    v c = two *ℤ (corner_at points c).y *ℤ (cof c *ℤ k)

    pub height_is : (dir : Dir) (c : ℕ) → dot dir.a dir.b (u c) (v c) ≡ reach one two dir (corner_at points c) *ℤ (cof c *ℤ k)
    height_is dir c = expanded dir.a dir.b (one *ℤ (corner_at points c).x) (two *ℤ (corner_at points c).y) (cof c *ℤ k)
      where
        expanded : (a b x y m : ℤ) → dot a b (x *ℤ m) (y *ℤ m) ≡ (a *ℤ x +ℤ b *ℤ y) *ℤ m
        expanded a b x y m = simp ring_laws (omega (arith, linear))

    pub highest : (i j : ℕ) → i ≤ t → j < n → dot (side i).dir.a (side i).dir.b (u j) (v j) ≤ℤ dot (side i).dir.a (side i).dir.b (u (side i).corner) (v (side i).corner)
    highest i j low j_in =
        rw (height_is (side i).dir j, height_is (side i).dir (side i).corner)
        (common_at_most (reach one two (side i).dir (corner_at points j)) (reach one two (side i).dir (corner_at points (side i).corner))
        (den j) (den (side i).corner) (cof j) (cof (side i).corner) common k
        (given.inside j j_in i (side i) (placed i low)) (cof_is j j_in) (cof_is (side i).corner (stands i low)) common_over (cof_over j) (cof_over (side i).corner) k_over)

    one_place : (c d : ℕ) → c < n → d < n → u c ≡ u d → v c ≡ v d → slice_get points c ≡ slice_get points d
    one_place c d c_in d_in first second =
        let (p, at_p) = some_corner points c c_in in
        let (q, at_q) = some_corner points d d_in in
        at_p ∙ (ap Some (by p q at_p at_q (given.fractions c p at_p) (given.fractions d q at_q)) ∙ sym at_q)
      where
        by : (p q : Point) → slice_get points c ≡ Some p → slice_get points d ≡ Some q → IsLowest p.one × IsLowest p.two → IsLowest q.one × IsLowest q.two → p ≡ q
        by p q at_p at_q (p_one, p_two) (q_one, q_two) = λ i. record { one = ones i; two = twos i }
          where
            p_is : corner_at points c ≡ plane_point p
            p_is = corner_is points c p at_p

            q_is : corner_at points d ≡ plane_point q
            q_is = corner_is points d q at_q

            p_cof : cof c *ℤ (p.one.den *ℤ p.two.den) ≡ common
            p_cof = subst (λ (r : PlanePoint). cof c *ℤ r.den ≡ common) p_is (cof_is c c_in)

            q_cof : cof d *ℤ (q.one.den *ℤ q.two.den) ≡ common
            q_cof = subst (λ (r : PlanePoint). cof d *ℤ r.den ≡ common) q_is (cof_is d d_in)

            firsts : one *ℤ (p.one.num *ℤ p.two.den) *ℤ (cof c *ℤ k) ≡ one *ℤ (q.one.num *ℤ q.two.den) *ℤ (cof d *ℤ k)
            firsts =
                subst (λ (r : PlanePoint). one *ℤ r.x *ℤ (cof c *ℤ k) ≡ one *ℤ (q.one.num *ℤ q.two.den) *ℤ (cof d *ℤ k)) p_is
                (subst (λ (r : PlanePoint). u c ≡ one *ℤ r.x *ℤ (cof d *ℤ k)) q_is first)

            seconds : two *ℤ (p.two.num *ℤ p.one.den) *ℤ (cof c *ℤ k) ≡ two *ℤ (q.two.num *ℤ q.one.den) *ℤ (cof d *ℤ k)
            seconds =
                subst (λ (r : PlanePoint). two *ℤ r.y *ℤ (cof c *ℤ k) ≡ two *ℤ (q.two.num *ℤ q.one.den) *ℤ (cof d *ℤ k)) p_is
                (subst (λ (r : PlanePoint). v c ≡ two *ℤ r.y *ℤ (cof d *ℤ k)) q_is second)

            exchanged : (x y z w : ℤ) → x *ℤ (y *ℤ z) ≡ w → x *ℤ (z *ℤ y) ≡ w
            exchanged x y z w h = simp ring_laws h

            ones : p.one ≡ q.one
            ones =
                lowest_unique p.one q.one p_one q_one
                (same_number one k common given.first_scale k_over common_over p.one.num p.one.den p.two.den q.one.num q.one.den q.two.den (cof c) (cof d) p_cof q_cof p_two.positive q_two.positive firsts)

            twos : p.two ≡ q.two
            twos =
                lowest_unique p.two q.two p_two q_two
                (same_number two k common given.second_scale k_over common_over p.two.num p.two.den p.one.den q.two.num q.two.den q.one.den (cof c) (cof d)
                (exchanged (cof c) p.one.den p.two.den common p_cof) (exchanged (cof d) q.one.den q.two.den common q_cof) p_one.positive q_one.positive seconds)

    adjacent : (i l : ℕ) → i ≤ t → Comes t i l → IsNext (length sides) i l
    adjacent i l low (comes_next j inside) = inl (let long = long in omega arith, omega arith)
    adjacent i l low comes_again = inr (let long = long in omega arith, refl)

    another : 2 ≤ n → (c : ℕ) → c < n → c ≢ next_of n c
    another more c low = by (cases_lt (suc c) n)
      where
        by : (suc c < n) ⊎ (n ≤ suc c) → c ≢ next_of n c
        by (inl inside) = λ e. let up = next_up n c inside in omega arith
        by (inr last) = λ e. let round = next_round n c (omega arith) in omega arith

    pub moves : (more : 2 ≤ n) (c : ℕ) → c < n → u c ≡ u (next_of n c) → v c ≡ v (next_of n c) → ⊥
    moves more c c_in first second = by (leaving n t side round_belt more (total more) c c_in)
      where
        by : IsLeftBy n t side round_belt more (total more) c (place (λ i. (side i).corner) t c) → ⊥
        by left =
            let i = place (λ i. (side i).corner) t c in
            let l_in = comes_in n t side round_belt i left.l left.edge.comes in
            given.belt.parts i left.l (side i) (side left.l) (adjacent i left.l left.edge.low left.edge.comes) (placed i left.edge.low) (placed left.l l_in)
            (λ same. another more c c_in (sym left.at ∙ (same ∙ left.to)))
            (ap (λ (d : ℕ). slice_get points d) left.at ∙ (one_place c (next_of n c) c_in (next_within n c c_in) first second ∙ sym (ap (λ (d : ℕ). slice_get points d) left.to)))

    -- where there are two corners or more they are those of a rounded polygon
    pub directions : ℕ → Dir
    directions c = (side (place (λ i. (side i).corner) t c)).dir

    pub polygon : 2 ≤ n → IsRounded n (next_of n) (λ c. (directions c).a) (λ c. (directions c).b) u v
    unfolding directions
    polygon more = rounded n t side round_belt more (total more) u v highest (moves more)

    -- the side of an edge's direction at its corner
    pub edge_side : 2 ≤ n → (c : ℕ) → c < n → (i : ℕ) × (i ≤ t) × ((side i).corner ≡ c) × ((side i).dir ≡ directions c)
    unfolding directions
    edge_side more c c_in = by (leaving n t side round_belt more (total more) c c_in)
      where
        by : IsLeftBy n t side round_belt more (total more) c (place (λ i. (side i).corner) t c)
            → (i : ℕ) × (i ≤ t) × ((side i).corner ≡ c) × ((side i).dir ≡ (side (place (λ i. (side i).corner) t c)).dir)
        by left = (place (λ i. (side i).corner) t c, left.edge.low, left.at, refl)

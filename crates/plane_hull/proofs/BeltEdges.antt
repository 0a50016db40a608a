-- The edges of a belt: one for each corner, along which the belt leaves it. With corners on no side's far side they bound a rounded polygon.
use Rattle.std.proofs.Common.{◌≡◌, ◌≢◌, ◌⊎◌, inl, inr, ℕ, zero, suc, ◌+◌, ◌<◌, ◌≤◌, cond, ltb, sym, ◌∙◌, ap, subst, ℤ, pos, ◌-ℤ◌, ◌<ℤ◌, ◌≤ℤ◌, arith}
use Rattle.std.proofs.lemmas.Bool.{cases_lt, cases_order, cond-true, cond-false, lt-ltb, le-ltb}
use Rattle.std.proofs.lemmas.Int.{ints}
use Rattle.exact_algebra.proofs.RingTactic.{ring_laws, linear}
use Rattle.plane_hull.specs.declared.directions.Dir.{Dir}
use Rattle.plane_hull.specs.declared.sides.SideRow.{SideRow}
use Rattle.plane_hull.specs.Belt.{IsNext, MayFollow}
use Rattle.plane_hull.proofs.AngleOrder.{cross}
use Rattle.plane_hull.proofs.Areas.{dot, edge_left}
use Rattle.plane_hull.proofs.Leaving.{IsPassed, change, change_cases, count, count_more, count_none, no_change, passed, place}
use Rattle.plane_hull.proofs.RoundBelt.{Comes, IsEdge, IsRoundBelt, comes_again, comes_in, comes_next, follows, opposite, some_behind, turns_behind, turns_left}
use Rattle.plane_hull.proofs.RoundedPolygon.{IsRounded}

-- the number behind another one of n, and the first behind the last
unfoldable pub next_of : ℕ → ℕ → ℕ
next_of n c = cond (ltb (suc c) n) (suc c) 0

pub next_up : (n c : ℕ) → suc c < n → next_of n c ≡ suc c
unfolding next_of
next_up n c low = cond-true (ltb (suc c) n) (suc c) 0 (lt-ltb (suc c) n low)

pub next_round : (n c : ℕ) → suc c ≡ n → next_of n c ≡ 0
unfolding next_of
next_round n c last = cond-false (ltb (suc c) n) (suc c) 0 (le-ltb (suc c) n (omega arith))

pub next_is : (n c d : ℕ) → IsNext n c d → d ≡ next_of n c
next_is n c d (inl (low, up)) = let e = next_up n c (omega arith) in omega arith
next_is n c d (inr (last, first)) = let e = next_round n c (omega arith) in omega arith

pub next_within : (n c : ℕ) → c < n → next_of n c < n
next_within n c low = by (cases_lt (suc c) n)
  where
    by : (suc c < n) ⊎ (n ≤ suc c) → next_of n c < n
    by (inl more) = let e = next_up n c more in omega arith
    by (inr last) = let e = next_round n c (omega arith) in omega arith

gap : (i j : ℕ) → i ≤ j → (d : ℕ) × (i + d ≡ j)
gap zero j low = (j, omega arith)
gap (suc i) zero low = absurd (omega arith)
gap (suc i) (suc j) low = let (d, e) = gap i j (omega arith) in (d, omega arith)

module _ (n t : ℕ) (side : ℕ → SideRow) (is : IsRoundBelt n t side) (more : 2 ≤ n)
    (total : count (λ k. (side k).corner) t + change (side t).corner (side 0).corner ≡ n) where
  abbrev corner : ℕ → ℕ
  corner k = (side k).corner

  -- how often the corner has changed before a side
  abbrev before : ℕ → ℕ
  before k = count (λ k. (side k).corner) k

  before_more : (k : ℕ) → before (suc k) ≡ before k + change (side k).corner (side (suc k)).corner
  before_more k = count_more (λ k. (side k).corner) k

  grown : (j d : ℕ) → before j ≤ before (j + d)
  grown j zero = let e : before (j + 0) ≡ before j = ap before (let z : j + 0 ≡ j = omega arith in z) in omega arith
  grown j (suc d) =
      let e : before (j + suc d) ≡ before (suc (j + d)) = ap before (let z : j + suc d ≡ suc (j + d) = omega arith in z) in
      let low = grown j d in
      let step = before_more (j + d) in
      omega arith

  before_low : (k d : ℕ) → k + d ≡ t → before k ≤ n
  before_low k d e = let low = grown k d in let end : before (k + d) ≡ before t = ap before e in omega (arith, total)

  stands_more : (k : ℕ) → before (suc k) ≤ n → MayFollow n k (side k) (side (suc k))
      → ((before k < n) × ((side k).corner ≡ before k)) ⊎ ((before k ≡ n) × ((side k).corner ≡ 0))
      → ((side k).corner ≡ (side (suc k)).corner) × (change (side k).corner (side (suc k)).corner ≡ 0) ⊎ (((side k).corner ≢ (side (suc k)).corner) × (change (side k).corner (side (suc k)).corner ≡ 1))
      → ((before (suc k) < n) × ((side (suc k)).corner ≡ before (suc k))) ⊎ ((before (suc k) ≡ n) × ((side (suc k)).corner ≡ 0))
  stands_more k low follow (inl (under, here)) (inl (same, none)) = inl (let e = before_more k in omega arith, let e = before_more k in omega arith)
  stands_more k low follow (inr (over, here)) (inl (same, none)) = inr (let e = before_more k in omega arith, omega arith)
  stands_more k low (inl (stays, _)) so (inr (apart, one)) = absurd (apart stays)
  stands_more k low (inr (_, inl (inside, up))) (inl (under, here)) (inr (apart, one)) =
      inl (let e = before_more k in omega arith, let e = before_more k in omega arith)
  stands_more k low (inr (_, inr (last, first))) (inl (under, here)) (inr (apart, one)) = inr (let e = before_more k in omega arith, first)
  stands_more k low (inr (_, to)) (inr (over, here)) (inr (apart, one)) = absurd (let e = before_more k in omega arith)

  stands_by : (k d : ℕ) → k + d ≡ t → ((before k < n) × ((side k).corner ≡ before k)) ⊎ ((before k ≡ n) × ((side k).corner ≡ 0))
  stands_by zero d e = let none = count_none (λ k. (side k).corner) in inl (omega arith, is.start ∙ sym none)
  stands_by (suc k) d e =
      stands_more k (before_low (suc k) d e) (is.follow k (omega arith)) (stands_by k (suc d) (omega arith)) (change_cases (side k).corner (side (suc k)).corner)

  stands : (k : ℕ) → k ≤ t → ((before k < n) × ((side k).corner ≡ before k)) ⊎ ((before k ≡ n) × ((side k).corner ≡ 0))
  stands k low = let (d, e) = gap k t low in stands_by k d e

  -- the side by which a corner is left, and the one behind it
  pub record IsLeftBy (c k : ℕ) : Type 0 where
    pub l : ℕ
    pub edge : IsEdge n t side is k l
    pub at : (side k).corner ≡ c
    pub to : (side l).corner ≡ next_of n c

  by_edge : (c k l : ℕ) → k ≤ t → Comes t k l → (side k).corner ≡ c → (side k).corner ≢ (side l).corner → MayFollow n k (side k) (side l) → IsLeftBy c k
  by_edge c k l low comes at apart (inl (stays, _)) = absurd (apart stays)
  by_edge c k l low comes at apart (inr (same, next)) = record {
    l = l;
    edge = record { low = low; comes = comes; same = same };
    at = at;
    to = subst (λ (i : ℕ). (side l).corner ≡ next_of n i) at (next_is n (side k).corner (side l).corner next);
  }

  found : (c k : ℕ) → c < n → IsPassed (λ k. (side k).corner) t c k → IsLeftBy c k
  found c k low passed = by passed.behind (stands k passed.low)
    where
      changes : (j : ℕ) → before (suc j) ≡ suc (before j) → (side j).corner ≢ (side (suc j)).corner
      changes j grew same = let e = before_more j in let none = no_change (side j).corner (side (suc j)).corner same in omega arith

      at : ((before k < n) × ((side k).corner ≡ before k)) ⊎ ((before k ≡ n) × ((side k).corner ≡ 0)) → (side k).corner ≡ c
      at (inl (_, here)) = here ∙ passed.here
      at (inr (all, _)) = absurd (let e = passed.here in omega arith)

      by : ((k < t) × (before (suc k) ≡ suc c)) ⊎ ((k ≡ t) × (before t ≡ c)) → ((before k < n) × ((side k).corner ≡ before k)) ⊎ ((before k ≡ n) × ((side k).corner ≡ 0)) → IsLeftBy c k
      by (inl (inside, grew)) so =
          by_edge c k (suc k) passed.low (comes_next k inside) (at so) (changes k (grew ∙ ap suc (sym passed.here))) (is.follow k (omega arith))
      by (inr (last, stays)) so = subst (λ (i : ℕ). IsLeftBy c i) (sym last) (by_edge c t 0 (omega arith) comes_again (subst (λ (i : ℕ). (side i).corner ≡ c) last (at so)) apart is.close)
        where
          apart : (side t).corner ≢ (side 0).corner
          apart same = let none = no_change (side t).corner (side 0).corner same in omega (arith, total)

  pub leaving : (c : ℕ) → c < n → IsLeftBy c (place (λ k. (side k).corner) t c)
  leaving c low = found c _ low (passed (λ k. (side k).corner) t c (enough (change_cases (side t).corner (side 0).corner)))
    where
      enough : (((side t).corner ≡ (side 0).corner) × (change (side t).corner (side 0).corner ≡ 0)) ⊎ (((side t).corner ≢ (side 0).corner) × (change (side t).corner (side 0).corner ≡ 1)) → c ≤ before t
      enough (inl (_, none)) = omega (arith, total)
      enough (inr (_, one)) = omega (arith, total)

  -- the direction of the edge behind a corner
  abbrev pub edge_dir : ℕ → Dir
  edge_dir c = (side (place (λ k. (side k).corner) t c)).dir

  differences : (a b x y z w : ℤ) → dot a b (x -ℤ z) (y -ℤ w) ≡ dot a b x y -ℤ dot a b z w
  differences a b x y z w = simp ring_laws (omega (arith, linear))

  no_step : (x z : ℤ) → x -ℤ z ≡ pos 0 → z ≡ x
  no_step x z h = omega (arith, ints)

  crossed_back : (a b c d : ℤ) → cross c d a b ≡ pos 0 → cross a b c d ≡ pos 0
  crossed_back a b c d h = let given = simp ring_laws at h in omega (arith, linear)

  dotted_back : (a b c d : ℤ) → dot c d a b <ℤ pos 0 → dot a b c d <ℤ pos 0
  dotted_back a b c d h = let given = simp ring_laws at h in omega (arith, linear)

  module _ (u v : ℕ → ℤ)
      (inside : (k j : ℕ) → k ≤ t → j < n → dot (side k).dir.a (side k).dir.b (u j) (v j) ≤ℤ dot (side k).dir.a (side k).dir.b (u (side k).corner) (v (side k).corner))
      (moves : (c : ℕ) → c < n → u c ≡ u (next_of n c) → v c ≡ v (next_of n c) → ⊥) where
    top : (c j : ℕ) → c < n → j < n → dot (edge_dir c).a (edge_dir c).b (u j) (v j) ≤ℤ dot (edge_dir c).a (edge_dir c).b (u c) (v c)
    top c j low j_in =
        let left = leaving c low in
        subst (λ (i : ℕ). dot (edge_dir c).a (edge_dir c).b (u j) (v j) ≤ℤ dot (edge_dir c).a (edge_dir c).b (u i) (v i)) left.at (inside _ j left.edge.low j_in)

    top_next : (c j : ℕ) → c < n → j < n → dot (edge_dir c).a (edge_dir c).b (u j) (v j) ≤ℤ dot (edge_dir c).a (edge_dir c).b (u (next_of n c)) (v (next_of n c))
    top_next c j low j_in =
        let left = leaving c low in
        subst (λ (d : Dir). dot d.a d.b (u j) (v j) ≤ℤ dot d.a d.b (u (next_of n c)) (v (next_of n c))) (sym left.edge.same)
        (subst (λ (i : ℕ). dot (side left.l).dir.a (side left.l).dir.b (u j) (v j) ≤ℤ dot (side left.l).dir.a (side left.l).dir.b (u i) (v i)) left.to
        (inside left.l j (comes_in n t side is _ left.l left.edge.comes) j_in))

    turns_at : (c : ℕ) → c < n → (s : ℕ) × (s ≤ t) × ((side s).corner ≡ next_of n c) × (pos 0 <ℤ cross (edge_dir c).a (edge_dir c).b (side s).dir.a (side s).dir.b)
    turns_at c low =
        let left = leaving c low in
        let (s, comes) = some_behind n t side is left.l (comes_in n t side is _ left.l left.edge.comes) in
        let turned = turns_behind n t side is _ left.l s left.edge comes (follows n t side is left.l s comes) in (
          s,
          comes_in n t side is left.l s comes,
          sym turned.0 ∙ left.to,
          subst (λ (d : Dir). pos 0 <ℤ cross d.a d.b (side s).dir.a (side s).dir.b) (sym left.edge.same) (turns_left n t side is left.l s comes turned.1),
        )

    to_left : (c : ℕ) → c < n → pos 0 <ℤ cross (edge_dir c).a (edge_dir c).b (u (next_of n c) -ℤ u c) (v (next_of n c) -ℤ v c)
    to_left c low =
        let (s, s_in, at, over) = turns_at c low in
        let one = top c (next_of n c) low (next_within n c low) in
        let other = top_next c c low low in
        let ahead = subst (λ (i : ℕ). dot (side s).dir.a (side s).dir.b (u c) (v c) ≤ℤ dot (side s).dir.a (side s).dir.b (u i) (v i)) at (inside s c s_in low) in
        edge_left (edge_dir c).a (edge_dir c).b (side s).dir.a (side s).dir.b _ _ over
        (differences _ _ (u (next_of n c)) (v (next_of n c)) (u c) (v c) ∙ flat _ _ one other)
        (rw (differences (side s).dir.a (side s).dir.b (u (next_of n c)) (v (next_of n c)) (u c) (v c)) (over_0 _ _ ahead))
        (λ first second. moves c low (no_step _ _ first) (no_step _ _ second))
      where
        flat : (x y : ℤ) → x ≤ℤ y → y ≤ℤ x → x -ℤ y ≡ pos 0
        flat x y h k = omega (arith, ints)

        over_0 : (x y : ℤ) → x ≤ℤ y → pos 0 ≤ℤ (y -ℤ x)
        over_0 x y h = omega (arith, ints)

    away : (j k : ℕ) → j < n → k < n → j ≢ k → cross (edge_dir j).a (edge_dir j).b (edge_dir k).a (edge_dir k).b ≡ pos 0 → dot (edge_dir j).a (edge_dir j).b (edge_dir k).a (edge_dir k).b <ℤ pos 0
    away j k j_in k_in other parallel = by (cases_order (place (λ k. (side k).corner) t j) (place (λ k. (side k).corner) t k))
      where
        by : (place (λ k. (side k).corner) t j ≡ place (λ k. (side k).corner) t k) ⊎ ((place (λ k. (side k).corner) t j < place (λ k. (side k).corner) t k) ⊎ (place (λ k. (side k).corner) t k < place (λ k. (side k).corner) t j))
            → dot (edge_dir j).a (edge_dir j).b (edge_dir k).a (edge_dir k).b <ℤ pos 0
        by (inl same) =
            let one = leaving j j_in in
            let two = leaving k k_in in
            absurd (other (sym one.at ∙ (ap (λ (i : ℕ). (side i).corner) same ∙ two.at)))
        by (inr (inl below)) =
            let one = leaving j j_in in
            let two = leaving k k_in in
            opposite n t side is (place (λ k. (side k).corner) t j) one.l (place (λ k. (side k).corner) t k) two.l below one.edge two.edge parallel
        by (inr (inr above)) =
            let one = leaving j j_in in
            let two = leaving k k_in in
            dotted_back (edge_dir j).a (edge_dir j).b (edge_dir k).a (edge_dir k).b
            (opposite n t side is (place (λ k. (side k).corner) t k) two.l (place (λ k. (side k).corner) t j) one.l above two.edge one.edge
            (crossed_back (edge_dir k).a (edge_dir k).b (edge_dir j).a (edge_dir j).b parallel))

    pub rounded : IsRounded n (next_of n) (λ c. (edge_dir c).a) (λ c. (edge_dir c).b) u v
    rounded = record { next_in = next_within n; top = top; top_next = top_next; left = to_left; apart = away }

-- Where each side pairs up with its neighbours, no direction stands at more than two sides or at two of one corner.
use Rattle.std.proofs.Common.{◌≡◌, ◌≢◌, ◌⊎◌, inl, inr, ℕ, zero, suc, ◌+◌, ◌-◌, ◌<◌, ◌≤◌, refl, sym, ◌∙◌, subst, ap, arith}
use Rattle.std.proofs.lemmas.Bool.{cases_lt}
use Rattle.plane_hull.specs.declared.sides.SideRow.{SideRow}
use Rattle.plane_hull.specs.Belt.{IsAxis, IsNext, IsRight, MayFollow}
use Rattle.plane_hull.specs.Round.{PairsWith}
use Rattle.plane_hull.proofs.Runs.{Alike, IsRun, alike, all_round, both_right, in_a_row, right_too, stays_right}

pub next_up : (m k : ℕ) → suc k < m → IsNext m k (suc k)
next_up m k inside = inl (omega arith, omega arith)

pub next_first : (m k : ℕ) → suc k ≡ m → IsNext m k 0
next_first m k last = inr (omega arith, refl)

-- some number stands before another one
pub some_before : (m k : ℕ) → k < m → (j : ℕ) × (j < m) × IsNext m j k
some_before (suc m) zero inside = (m, omega arith, next_first (suc m) m refl)
some_before m (suc k) inside = (k, omega arith, next_up m k inside)
some_before zero zero inside = absurd (omega arith)

pub some_behind : (m k : ℕ) → k < m → (j : ℕ) × (j < m) × IsNext m k j
some_behind m k inside = by (cases_lt (suc k) m)
  where
    by : (suc k < m) ⊎ (m ≤ suc k) → (j : ℕ) × (j < m) × IsNext m k j
    by (inl more) = (suc k, more, next_up m k more)
    by (inr last) = (0, omega arith, next_first m k (omega arith))

module _ (corners m : ℕ) (side : ℕ → SideRow) (follow : (k : ℕ) → suc k < m → MayFollow corners k (side k) (side (suc k)))
    (right : IsRight (side 0).dir)
    (pairs : (j k l : ℕ) → j < m → k < m → l < m → IsNext m j k → IsNext m k l → PairsWith (side j) (side k) (side l)) where
  in_three : (k : ℕ) → suc (suc k) < m → (side k).dir ≡ (side (suc k)).dir → (side (suc k)).dir ≡ (side (suc (suc k))).dir → ⊥
  in_three k inside =
      (pairs k (suc k) (suc (suc k)) (omega arith) (omega arith) inside (next_up m k (omega arith)) (next_up m (suc k) inside)).not_three

  -- the full turn is done at the last side alone
  not_early : (j d : ℕ) → 0 < j → j + suc d ≡ m → 0 < d → IsRight (side j).dir → ⊥
  not_early j (suc d) behind_first e more here =
      let last = suc (j + d) in
      let before_last = stays_right corners m side follow j d (j + d) refl behind_first (omega arith) here in
      let at_last = stays_right corners m side follow j (suc d) last (omega arith) behind_first (omega arith) here in
      (pairs (j + d) last 0 (omega arith) (omega arith) (omega arith) (next_up m (j + d) (omega arith)) (next_first m last (omega arith))).not_three
      (both_right _ _ before_last at_last) (both_right _ _ at_last right)
  not_early j zero behind_first e more here = absurd (omega arith)

  pub at_most_two : (i p d e : ℕ) → i ≤ p → suc p + suc d + suc e ≡ m → (side i).dir ≡ (side (suc p)).dir → (side (suc p)).dir ≡ (side (suc p + suc d)).dir → ⊥
  at_most_two i p d e low all first second = by first_pair (alike corners m side follow (suc p) (suc d) (suc p + suc d) refl (omega arith) second)
    where
      gap : (a b : ℕ) → a ≤ b → (c : ℕ) × (a + c ≡ b)
      gap zero b h = (b, omega arith)
      gap (suc a) zero h = absurd (omega arith)
      gap (suc a) (suc b) h = let (c, e) = gap a b (omega arith) in (c, omega arith)

      first_pair : Alike corners m side follow i (suc p)
      first_pair = let (c, e) = gap i (suc p) (omega arith) in alike corners m side follow i c (suc p) e (omega arith) first

      by : Alike corners m side follow i (suc p) → Alike corners m side follow (suc p) (suc p + suc d) → ⊥
      by one (all_round at_first full) = omega arith
      by (all_round at_first full) (in_a_row row) = not_early (suc p) (suc d + e) (omega arith) (omega arith) (omega arith) full
      by (in_a_row before) (in_a_row row) =
          in_three p (omega arith)
          (before p low (omega arith) ∙ sym (before (suc p) (omega arith) (omega arith)))
          (sym (row (suc (suc p)) (omega arith) (omega arith)))

  two_in_row : (i j : ℕ) → i < j → j < m → IsRun corners m side follow i j → (side i).corner ≢ (side j).corner
  two_in_row i j low inside row = by (cases_lt (suc i) j)
    where
      by : (suc i < j) ⊎ (j ≤ suc i) → (side i).corner ≢ (side j).corner
      by (inl three) = absurd (in_three i (omega arith)
          (sym (row (suc i) (omega arith) (omega arith)))
          (row (suc i) (omega arith) (omega arith) ∙ sym (row (suc (suc i)) (omega arith) (omega arith))))
      by (inr two) =
          let next : suc i ≡ j = omega arith in
          let (b, within, before) = some_before m i (omega arith) in
          subst (λ (n : ℕ). (side i).corner ≢ (side n).corner) next
          ((pairs b i (suc i) within (omega arith) (omega arith) before (next_up m i (omega arith))).parts (sym (row (suc i) (omega arith) (omega arith))))

  pub corners_differ : (i d j : ℕ) → i + suc d ≡ j → j < m → (side i).dir ≡ (side j).dir → (side i).corner ≢ (side j).corner
  corners_differ i d j e inside same = by (alike corners m side follow i (suc d) j e inside same)
    where
      last_one : IsRight (side j).dir → (suc j < m) ⊎ (m ≤ suc j) → (side 0).corner ≢ (side j).corner
      last_one full (inl early) = absurd (not_early j (m - suc j) (omega arith) (omega arith) (omega arith) full)
      last_one full (inr late) =
          let (b, within, before) = some_before m j inside in
          let apart = (pairs b j 0 within inside (omega arith) before (next_first m j (omega arith))).parts (both_right _ _ full right) in
          λ level. apart (sym level)

      by : Alike corners m side follow i j → (side i).corner ≢ (side j).corner
      by (in_a_row row) = two_in_row i j (omega arith) inside row
      by (all_round at_first full) = subst (λ (n : ℕ). (side n).corner ≢ (side j).corner) (sym at_first) (last_one full (cases_lt (suc j) m))

  -- the direction of a side that is no axis is that of the one before or behind
  pub twin : (k : ℕ) → k < m → IsAxis (side k).dir ⊎ ((j : ℕ) × (j < m) × ((j ≡ suc k) ⊎ (k ≡ suc j)) × ((side j).dir ≡ (side k).dir))
  twin k inside =
      let (b, b_within, before) = some_before m k inside in
      let (n, n_within, behind) = some_behind m k inside in
      by b b_within before n n_within behind (pairs b k n b_within inside n_within before behind).twin
    where
      by : (b : ℕ) → b < m → IsNext m b k → (n : ℕ) → n < m → IsNext m k n
          → IsAxis (side k).dir ⊎ (((side b).dir ≡ (side k).dir) ⊎ ((side k).dir ≡ (side n).dir))
          → IsAxis (side k).dir ⊎ ((j : ℕ) × (j < m) × ((j ≡ suc k) ⊎ (k ≡ suc j)) × ((side j).dir ≡ (side k).dir))
      by b b_within before n n_within behind (inl axis) = inl axis
      by b b_within (inl (_, up)) n n_within behind (inr (inl same)) = inr (b, b_within, inr (omega arith), same)
      by b b_within (inr (_, first)) n n_within behind (inr (inl same)) =
          inl (inl (subst (λ (i : ℕ). IsRight (side i).dir) (sym first) right))
      by b b_within before n n_within (inl (_, up)) (inr (inr same)) = inr (n, n_within, inl (omega arith), sym same)
      by b b_within before n n_within (inr (_, first)) (inr (inr same)) =
          inl (inl (right_too _ _ (sym (same ∙ ap (λ (i : ℕ). (side i).dir) first)) right))

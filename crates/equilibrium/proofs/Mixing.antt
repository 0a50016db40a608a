-- A list with each weight times a number pays as many times as much; so two equilibrium lists, each times the other's total and its point's
-- weight, pay a mixture of their points.
use Rattle.std.proofs.Common.{◌≡◌, ◌*◌, ◌≤◌, ℕ, List, [], ◌∷◌, ◌++◌, map, ℤ, pos, negsuc, ◌+ℤ◌, ◌*ℤ◌, ◌≤ℤ◌, ◌<ℤ◌, refl, ap₂, ◌∙◌, arith}
use Rattle.std.proofs.lemmas.Int.{ints}
use Rattle.std.proofs.lemmas.Nat.{mul-le}
use Rattle.std.proofs.lemmas.List.Elements.{All-map}
use Rattle.exact_algebra.specs.Sums.{sum_over}
use Rattle.exact_algebra.proofs.Combinations.{same_by_two}
use Rattle.exact_algebra.proofs.Identities.{unknown, ◌⊕◌, ◌⊖◌, ◌⊗◌, identity}
use Rattle.exact_algebra.proofs.ListSums.{sum_over-append}
use Rattle.exact_algebra.proofs.Order.{times_at_most}
use Rattle.exact_algebra.proofs.RingTactic.{ring_laws, linear}
use Rattle.corr_game.specs.declared.notions.Notion.{Notion}
use Rattle.corr_game.specs.declared.sides.Side.{Side}
use Rattle.corr_game.specs.declared.sides.Side.TheVariants.{One, Two}
use Rattle.corr_game.specs.Game.{GameView, scale_of}
use Rattle.equilibrium.specs.declared.triggers.Trigger.{Trigger}
use Rattle.equilibrium.specs.Deviation.{deviated_pay, following, leaving}
use Rattle.equilibrium.specs.Distribution.{Entry, IsEntry, pay, total}
use Rattle.equilibrium.specs.Equilibrium.{IsEquilibriumList, Slack}
use Rattle.equilibrium.specs.ReachedPoint.{IsMeanOf, IsReached, Point, coordinate, mixture}
use Rattle.equilibrium.proofs.Together.{lists_append}

heavier : ℕ → Entry → Entry
heavier k entry = record { one = entry.one; two = entry.two; weight = k * entry.weight }

-- the list with each weight times a number
abbrev pub times : ℕ → List Entry → List Entry
times k list = map (λ (entry : Entry). record { one = entry.one; two = entry.two; weight = k * entry.weight }) list

whole_product : (k w : ℕ) → pos (k * w) ≡ pos k *ℤ pos w
whole_product k w = refl

one_heavier : (k w f r s : ℤ) → r ≡ k *ℤ s → k *ℤ w *ℤ f +ℤ r ≡ k *ℤ (w *ℤ f +ℤ s)
one_heavier k w f r s e = rw e (simp ring_laws (omega (arith, linear)))

times_pay : (side : Side) (g : GameView) (k : ℕ) (list : List Entry) → following side g (times k list) ≡ pos k *ℤ following side g list
unfolding sum_over
times_pay side g k [] = omega (arith, ints)
times_pay side g k (entry ∷ list) = one_heavier (pos k) (pos entry.weight) (pay side g entry) _ _ (times_pay side g k list)

same_deviated : (side : Side) (g : GameView) (trigger : Trigger) (choice : List ℕ) (entry : Entry) (weight : ℕ)
    → deviated_pay side g trigger choice (record { one = entry.one; two = entry.two; weight = weight })
    ≡ deviated_pay side g trigger choice entry
same_deviated One g trigger choice entry weight = refl
same_deviated Two g trigger choice entry weight = refl

times_leaving : (side : Side) (g : GameView) (trigger : Trigger) (choice : List ℕ) (k : ℕ) (list : List Entry)
    → leaving side g trigger choice (times k list) ≡ pos k *ℤ leaving side g trigger choice list
unfolding sum_over
times_leaving side g trigger choice k [] = omega (arith, ints)
times_leaving side g trigger choice k (entry ∷ list) =
    rw (same_deviated side g trigger choice entry (k * entry.weight))
    (one_heavier (pos k) (pos entry.weight) (deviated_pay side g trigger choice entry) _ _ (times_leaving side g trigger choice k list))

weight_heavier : (k w r s : ℤ) → r ≡ k *ℤ s → k *ℤ w +ℤ r ≡ k *ℤ (w +ℤ s)
weight_heavier k w r s e = rw e (simp ring_laws (omega (arith, linear)))

times_total : (k : ℕ) (list : List Entry) → total (times k list) ≡ pos k *ℤ total list
unfolding sum_over
times_total k [] = omega (arith, ints)
times_total k (entry ∷ list) = weight_heavier (pos k) (pos entry.weight) _ _ (times_total k list)

more_gain : (k d n s l f t : ℤ) → pos 0 ≤ℤ k → (d *ℤ l) ≤ℤ (d *ℤ f +ℤ n *ℤ s *ℤ t)
    → (d *ℤ (k *ℤ l)) ≤ℤ (d *ℤ (k *ℤ f) +ℤ n *ℤ s *ℤ (k *ℤ t))
more_gain k d n s l f t low h =
    let most = simp ring_laws at (times_at_most k low h) in
    simp ring_laws (omega (arith, linear))

heavier_positive : (k t : ℤ) → pos 1 ≤ℤ k → pos 0 <ℤ t → pos 0 <ℤ (k *ℤ t)
heavier_positive k t low some =
    let least : pos 1 ≤ℤ t = omega (arith, ints) in
    let zero : pos 0 ≤ℤ k = omega (arith, ints) in
    let most = simp ring_laws at (times_at_most k zero least) in
    omega (arith, linear)

heavier_entry : (g : GameView) (k : ℕ) (entry : Entry) → 1 ≤ k → IsEntry g entry
    → IsEntry g (record { one = entry.one; two = entry.two; weight = k * entry.weight })
heavier_entry g k entry low is = record { one = is.one; two = is.two; weighs = omega (arith, mul-le 1 1 k entry.weight low is.weighs) }

pub times_equilibrium : (notion : Notion) (g : GameView) (slack : Slack) (k : ℕ) (list : List Entry) → 1 ≤ k
    → IsEquilibriumList notion g slack list
    → IsEquilibriumList notion g slack (times k list)
times_equilibrium notion g slack k list low eq = record {
  entries = All-map (IsEntry g) (λ (entry : Entry). record
      { one = entry.one; two = entry.two; weight = k * entry.weight }) list (λ i d h. heavier_entry g k _ low (eq.entries i d h));
  some_weight = rw (times_total k list) (heavier_positive (pos k) (total list) (omega (arith, ints)) eq.some_weight);
  none_improves = λ side trigger choice is full.
      rw (times_leaving side g trigger choice k list, times_pay side g k list, times_total k list)
      (more_gain (pos k) (pos slack.den) (pos slack.num) (scale_of side g) _ _ _ (omega (arith, ints))
      (eq.none_improves side trigger choice is full));
}

natural : (z : ℤ) → pos 0 <ℤ z → (n : ℕ) × (z ≡ pos n) × (1 ≤ n)
natural (pos n) h = (n, refl, omega (arith, ints))
natural (negsuc n) h = absurd (omega (arith, ints))

-- both points' means, each times the other list's total and denominator
mixed_mean : (a b t u s x d y e f h : ℤ) → x *ℤ (s *ℤ t) ≡ d *ℤ f → y *ℤ (s *ℤ u) ≡ e *ℤ h
    → (a *ℤ x *ℤ e +ℤ b *ℤ y *ℤ d) *ℤ (s *ℤ (a *ℤ u *ℤ t +ℤ b *ℤ t *ℤ u)) ≡ (a +ℤ b) *ℤ (d *ℤ e) *ℤ (a *ℤ u *ℤ f +ℤ b *ℤ t *ℤ h)
mixed_mean a b t u s x d y e f h first second =
    let v = unknown in
    same_by_two ((a +ℤ b) *ℤ (a *ℤ u *ℤ e)) ((a +ℤ b) *ℤ (b *ℤ t *ℤ d)) first second
    (identity
    ((v 0 ⊗ v 5 ⊗ v 8 ⊕ v 1 ⊗ v 7 ⊗ v 6) ⊗ (v 4 ⊗ (v 0 ⊗ v 3 ⊗ v 2 ⊕ v 1 ⊗ v 2 ⊗ v 3)) ⊖ (v 0 ⊕ v 1) ⊗ (v 6 ⊗ v 8) ⊗
    (v 0 ⊗ v 3 ⊗ v 9 ⊕ v 1 ⊗ v 2 ⊗ v 10))
    ((v 0 ⊕ v 1) ⊗ (v 0 ⊗ v 3 ⊗ v 8) ⊗ (v 5 ⊗ (v 4 ⊗ v 2) ⊖ v 6 ⊗ v 9) ⊕ (v 0 ⊕ v 1) ⊗ (v 1 ⊗ v 2 ⊗ v 6) ⊗ (v 7 ⊗ (v 4 ⊗ v 3) ⊖ v 8 ⊗ v 10))
    (a ∷ b ∷ t ∷ u ∷ s ∷ x ∷ d ∷ y ∷ e ∷ f ∷ h ∷ []) refl)

both_sums : (side : Side) (g : GameView) (k m : ℕ) (xs ys : List Entry)
    → following side g (times k xs ++ times m ys) ≡ pos k *ℤ following side g xs +ℤ pos m *ℤ following side g ys
both_sums side g k m xs ys = sum_over-append (λ (e : Entry). pos e.weight *ℤ pay side g e) (times k xs) (times m ys)
    ∙ ap₂ (λ (u v : ℤ). u +ℤ v) (times_pay side g k xs) (times_pay side g m ys)

both_totals : (k m : ℕ) (xs ys : List Entry) → total (times k xs ++ times m ys) ≡ pos k *ℤ total xs +ℤ pos m *ℤ total ys
both_totals k m xs ys = sum_over-append (λ (e : Entry). pos e.weight) (times k xs) (times m ys)
    ∙ ap₂ (λ (u v : ℤ). u +ℤ v) (times_total k xs) (times_total m ys)

mean_of_both : (side : Side) (g : GameView) (a b n m : ℕ) (xs ys : List Entry) (p q : Point) → total xs ≡ pos n
    → total ys ≡ pos m → IsMeanOf side g xs p → IsMeanOf side g ys q
    → (pos a *ℤ coordinate side p *ℤ q.den +ℤ pos b *ℤ coordinate side q *ℤ p.den) *ℤ
    (scale_of side g *ℤ total (times (a * m) xs ++ times (b * n) ys))
    ≡ (pos a +ℤ pos b) *ℤ (p.den *ℤ q.den) *ℤ following side g (times (a * m) xs ++ times (b * n) ys)
mean_of_both side g a b n m xs ys p q s t first second =
    rw (both_totals (a * m) (b * n) xs ys, both_sums side g (a * m) (b * n) xs ys, s, t)
    (mixed_mean (pos a) (pos b) (pos n) (pos m) (scale_of side g) (coordinate side p) p.den (coordinate side q) q.den
    (following side g xs) (following side g ys) (rw s at first) (rw t at second))

mean_of_mixture : (side : Side) (g : GameView) (a b n m : ℕ) (xs ys : List Entry) (p q : Point) → total xs ≡ pos n
    → total ys ≡ pos m → IsMeanOf side g xs p → IsMeanOf side g ys q
    → IsMeanOf side g (times (a * m) xs ++ times (b * n) ys) (mixture a p b q)
mean_of_mixture One g a b n m xs ys p q s t first second = mean_of_both One g a b n m xs ys p q s t first second
mean_of_mixture Two g a b n m xs ys p q s t first second = mean_of_both Two g a b n m xs ys p q s t first second

mixed_positive : (a b d e : ℤ) → pos 1 ≤ℤ a → pos 1 ≤ℤ b → pos 0 <ℤ d → pos 0 <ℤ e → pos 0 <ℤ ((a +ℤ b) *ℤ (d *ℤ e))
mixed_positive a b d e low high some more =
    let first : pos 1 ≤ℤ d = omega (arith, ints) in
    let weights : pos 1 ≤ℤ (a +ℤ b) = omega (arith, ints) in
    heavier_positive (a +ℤ b) (d *ℤ e) weights (heavier_positive d e first more)

pub mixtures_reached : (notion : Notion) (g : GameView) (slack : Slack) (a b : ℕ) (p q : Point) → 1 ≤ a → 1 ≤ b
    → IsReached notion g slack p → IsReached notion g slack q
    → IsReached notion g slack (mixture a p b q)
mixtures_reached notion g slack a b p q low high first second =
    let n = natural (total first.list) first.equilibrium.some_weight in
    let m = natural (total second.list) second.equilibrium.some_weight in
    let one = times_equilibrium notion g slack (a * m.0) first.list (omega (arith, mul-le 1 1 a m.0 low m.2)) first.equilibrium in
    let two = times_equilibrium notion g slack (b * n.0) second.list (omega (arith, mul-le 1 1 b n.0 high n.2)) second.equilibrium in
    record {
      positive = mixed_positive (pos a) (pos b) p.den q.den (omega (arith, ints)) (omega (arith, ints)) first.positive second.positive;
      list = times (a * m.0) first.list ++ times (b * n.0) second.list;
      equilibrium = lists_append notion g slack (times (a * m.0) first.list) (times (b * n.0) second.list) one two;
      mean = λ side. mean_of_mixture side g a b n.0 m.0 first.list second.list p q n.1 m.1 (first.mean side) (second.mean side);
    }

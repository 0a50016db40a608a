-- What is a mean of points that equilibrium lists pay is paid by one: the lists, each as often as its point weighs, one behind the other.
use Rattle.std.proofs.Common.{◌≡◌, ℕ, zero, suc, ◌*◌, ◌<◌, ◌≤◌, ◌⊎◌, inl, inr, ℤ, pos, ◌+ℤ◌, ◌-ℤ◌, ◌*ℤ◌, ◌<ℤ◌, ◌≤ℤ◌, unsigned_abs}
use Rattle.std.proofs.Common.{List, [], ◌++◌, length, refl, sym, ap, ap₂, subst, ◌∙◌, arith}
use Rattle.std.proofs.lemmas.Int.{ints}
use Rattle.std.proofs.lemmas.List.{append-nil}
use Rattle.std.proofs.lemmas.Nat.{mul-le}
use Rattle.exact_algebra.specs.Sums.{sum_over, sum_to}
use Rattle.exact_algebra.proofs.Combinations.{same_by_one, same_by_two}
use Rattle.exact_algebra.proofs.ListSums.{sum_over-append, sum_over-nil}
use Rattle.exact_algebra.proofs.Order.{product_positive}
use Rattle.exact_algebra.proofs.RingTactic.{ring_laws, linear}
use Rattle.exact_algebra.proofs.Sums.{sum_to-suc, sum_to-zero}
use Rattle.corr_game.specs.declared.notions.Notion.{Notion}
use Rattle.corr_game.specs.declared.sides.Side.{Side}
use Rattle.corr_game.specs.declared.sides.Side.TheVariants.{One, Two}
use Rattle.corr_game.specs.Game.{GameView, scale_of}
use Rattle.equilibrium.specs.Deviation.{following}
use Rattle.equilibrium.specs.Distribution.{Entry, pay, total}
use Rattle.equilibrium.specs.Equilibrium.{IsEquilibriumList, no_slack}
use Rattle.equilibrium.specs.ReachedPoint.{IsMeanOf as Pays}
use Rattle.equilibrium.proofs.Together.{lists_append}
use Rattle.plane_hull.specs.declared.sides.Point.{Point}
use Rattle.plane_hull.specs.Inside.{PlanePoint, corner_at}
use Rattle.plane_hull.specs.Mixture.{IsMeanOf}
use Rattle.notion_solve.proofs.Views.{magnitude_is, magnitude_some}
use Rattle.notion_solve.specs.Right.{IsPaid}

-- a list pays a point where it pays both coordinates
pub both_means : (g : GameView) (list : List Entry) (p : PlanePoint)
    → p.x *ℤ (scale_of One g *ℤ total list) ≡ p.den *ℤ following One g list
    → p.y *ℤ (scale_of Two g *ℤ total list) ≡ p.den *ℤ following Two g list
    → (side : Side) → Pays side g list (record { x = p.x; y = p.y; den = p.den })
both_means g list p first second One = first
both_means g list p first second Two = second

-- ---- lists so many times

-- a list, this many times
repeated : ℕ → List Entry → List Entry
repeated zero list = []
repeated (suc k) list = list ++ repeated k list

repeated_sum : (f : Entry → ℤ) (k : ℕ) (list : List Entry) → sum_over f (repeated k list) ≡ pos k *ℤ sum_over f list
unfolding repeated
repeated_sum f zero list = sum_over-nil f ∙ none (sum_over f list)
  where
    none : (z : ℤ) → pos 0 ≡ pos 0 *ℤ z
    none z = omega (arith, ints)
repeated_sum f (suc k) list =
    sum_over-append f list (repeated k list)
    ∙ one_more (pos k) (sum_over f list) (sum_over f (repeated k list)) (repeated_sum f k list)
    ∙ ap (λ (n : ℤ). n *ℤ sum_over f list) (next k)
  where
    one_more : (k z r : ℤ) → r ≡ k *ℤ z → z +ℤ r ≡ (pos 1 +ℤ k) *ℤ z
    one_more k z r e = rw e (simp ring_laws (omega (arith, linear)))

    next : (n : ℕ) → pos 1 +ℤ pos n ≡ pos (suc n)
    next n = omega (arith, ints)

both_repeated : (f : Entry → ℤ) (k m : ℕ) (xs ys : List Entry) (s t : ℤ) → pos k ≡ s → pos m ≡ t
    → sum_over f (repeated k xs ++ repeated m ys) ≡ s *ℤ sum_over f xs +ℤ t *ℤ sum_over f ys
both_repeated f k m xs ys s t first second =
    sum_over-append f (repeated k xs) (repeated m ys)
    ∙ ap₂ (λ (u v : ℤ). u +ℤ v) (repeated_sum f k xs) (repeated_sum f m ys)
    ∙ ap₂ (λ (u v : ℤ). u *ℤ sum_over f xs +ℤ v *ℤ sum_over f ys) first second

module _ (notion : Notion) (g : GameView) where
  -- no entry, or an equilibrium list
  abbrev IsNoneOrEquilibrium : List Entry → Type 0
  IsNoneOrEquilibrium list = (list ≡ []) ⊎ IsEquilibriumList notion g no_slack list

  together : (xs ys : List Entry) → IsNoneOrEquilibrium xs → IsNoneOrEquilibrium ys → IsNoneOrEquilibrium (xs ++ ys)
  together xs ys (inl none) is = rw none is
  together xs ys (inr eq) (inl none) = rw (none, append-nil xs) (inr eq)
  together xs ys (inr eq) (inr too) = inr (lists_append notion g no_slack xs ys eq too)

  repeated_is : (k : ℕ) (list : List Entry) → IsNoneOrEquilibrium list → IsNoneOrEquilibrium (repeated k list)
  unfolding repeated
  repeated_is zero list is = inl refl
  repeated_is (suc k) list is = together list (repeated k list) is (repeated_is k list is)

  -- a list that has entries is an equilibrium list
  is_some : (list : List Entry) → IsNoneOrEquilibrium list → pos 0 <ℤ total list → IsEquilibriumList notion g no_slack list
  is_some list (inl none) some =
      let P : List Entry → Type 0 = λ xs. pos 0 <ℤ total xs in
      let nothing = sum_over-nil (λ (e : Entry). pos e.weight) in
      absurd (omega (arith, ints, nothing, subst P none some))
  is_some list (inr eq) some = eq

-- ---- the mean of points

total_step : (c o d t w m : ℤ) → m ≡ c *ℤ w → t *ℤ m +ℤ c *ℤ o *ℤ d *ℤ t ≡ c *ℤ t *ℤ (w +ℤ o *ℤ d)
total_step c o d t w m e = rw e (simp ring_laws (omega (arith, linear)))

pay_step : (c o d t s x f h q : ℤ) → f ≡ c *ℤ (s *ℤ x) → q *ℤ (s *ℤ t) ≡ d *ℤ h
    → t *ℤ f +ℤ c *ℤ o *ℤ d *ℤ h ≡ c *ℤ t *ℤ (s *ℤ (x +ℤ o *ℤ q))
pay_step c o d t s x f h q e k = same_by_two t (pos 0 -ℤ c *ℤ o) e k (simp ring_laws (omega (arith, linear)))

mean_of_pile : (c s w x px pd m f : ℤ) → m ≡ c *ℤ w → f ≡ c *ℤ (s *ℤ x) → px *ℤ w ≡ pd *ℤ x → px *ℤ (s *ℤ m) ≡ pd *ℤ f
mean_of_pile c s w x px pd m f e k mean = rw (e, k) (same_by_one (s *ℤ c) mean (simp ring_laws (omega (arith, linear))))

module _ (notion : Notion) (g : GameView) (point : ℕ → PlanePoint) (often : ℕ → ℕ) where
  -- a list that pays the first n points, each so often, times some number
  record IsPile (n : ℕ) : Type 0 where
    list : List Entry
    factor : ℕ
    some : 1 ≤ factor
    is : IsNoneOrEquilibrium notion g list
    total_is : total list ≡ pos factor *ℤ sum_to n (λ k. pos (often k) *ℤ (point k).den)
    first_is : following One g list ≡ pos factor *ℤ (scale_of One g *ℤ sum_to n (λ k. pos (often k) *ℤ (point k).x))
    second_is : following Two g list ≡ pos factor *ℤ (scale_of Two g *ℤ sum_to n (λ k. pos (often k) *ℤ (point k).y))

  pile_of_none : IsPile 0
  pile_of_none = record {
    list = [];
    factor = 1;
    some = omega arith;
    is = inl refl;
    total_is = sum_over-nil _ ∙ rw (sum_to-zero _) refl;
    first_is = sum_over-nil _ ∙ rw (sum_to-zero _) (nothing (scale_of One g));
    second_is = sum_over-nil _ ∙ rw (sum_to-zero _) (nothing (scale_of Two g));
  }
    where
      nothing : (s : ℤ) → pos 0 ≡ pos 1 *ℤ (s *ℤ pos 0)
      nothing s = simp ring_laws (omega (arith, linear))

  pile_on : (n : ℕ) → IsPaid notion g (point n) → IsPile n → IsPile (suc n)
  pile_on n paid pile =
      let here = paid.list in
      let all : ℤ = total here in
      let den : ℤ = (point n).den in
      let c : ℤ = pos pile.factor in
      let o : ℤ = pos (often n) in
      let weight = unsigned_abs all in
      let more = pile.factor * often n * unsigned_abs den in
      let weight_is : pos weight ≡ all = magnitude_is all (weakly all paid.equilibrium.some_weight) in
      let den_is : pos (unsigned_abs den) ≡ den = magnitude_is den (weakly den paid.positive) in
      let more_is : pos more ≡ c *ℤ o *ℤ den = ap (λ (z : ℤ). c *ℤ o *ℤ z) den_is in
      let factor_is : pos (pile.factor * weight) ≡ c *ℤ all = ap (λ (z : ℤ). c *ℤ z) weight_is in
      let paid_by = λ (f : Entry → ℤ). both_repeated f weight more pile.list here all (c *ℤ o *ℤ den) weight_is more_is in
      let up = λ (part : PlanePoint → ℤ). sum_to-suc n (λ k. pos (often k) *ℤ part (point k)) in
      record {
        list = repeated weight pile.list ++ repeated more here;
        factor = pile.factor * weight;
        some = at_least pile.factor weight pile.some (magnitude_some all (least all paid.equilibrium.some_weight));
        is = together notion g (repeated weight pile.list) (repeated more here) (repeated_is notion g weight pile.list pile.is)
            (repeated_is notion g more here (inr paid.equilibrium));
        total_is =
            paid_by (λ e. pos e.weight)
            ∙ total_step c o den all _ (total pile.list) pile.total_is
            ∙ sym (ap₂ (λ (u v : ℤ). u *ℤ v) factor_is (up (λ q. q.den)));
        first_is =
            paid_by (λ e. pos e.weight *ℤ pay One g e)
            ∙ pay_step c o den all (scale_of One g) _ (following One g pile.list) (following One g here) (point n).x pile.first_is
            (paid.mean One)
            ∙ sym (ap₂ (λ (u v : ℤ). u *ℤ (scale_of One g *ℤ v)) factor_is (up (λ q. q.x)));
        second_is =
            paid_by (λ e. pos e.weight *ℤ pay Two g e)
            ∙ pay_step c o den all (scale_of Two g) _ (following Two g pile.list) (following Two g here) (point n).y pile.second_is
            (paid.mean Two)
            ∙ sym (ap₂ (λ (u v : ℤ). u *ℤ (scale_of Two g *ℤ v)) factor_is (up (λ q. q.y)));
      }
    where
      weakly : (z : ℤ) → pos 0 <ℤ z → pos 0 ≤ℤ z
      weakly z h = omega (arith, ints)

      least : (z : ℤ) → pos 0 <ℤ z → pos 1 ≤ℤ z
      least z h = omega (arith, ints)

      at_least : (a b : ℕ) → 1 ≤ a → 1 ≤ b → 1 ≤ a * b
      at_least a b h k = omega (arith, mul-le 1 1 a b h k)

  pile_of : (n : ℕ) → ((k : ℕ) → k < n → IsPaid notion g (point k)) → IsPile n
  pile_of zero each = pile_of_none
  pile_of (suc n) each = pile_on n (each n (omega arith)) (pile_of n (λ k low. each k (omega arith)))

pub mean_is_paid : (notion : Notion) (g : GameView) (points : List Point) (often : ℕ → ℕ) (p : PlanePoint)
    → ((k : ℕ) → k < length points → IsPaid notion g (corner_at points k)) → pos 0 <ℤ p.den → IsMeanOf points often p → IsPaid notion g p
mean_is_paid notion g points often p each over mean =
    let pile = pile_of notion g (corner_at points) often (length points) each in
    let factor_over : pos 0 <ℤ pos pile.factor = omega (arith, ints, pile.some) in
    let some : pos 0 <ℤ total pile.list = rw pile.total_is (product_positive factor_over mean.total) in
    let c : ℤ = pos pile.factor in
    record {
      positive = over;
      list = pile.list;
      equilibrium = is_some notion g pile.list pile.is some;
      mean = both_means g pile.list p
          (mean_of_pile c (scale_of One g) _ _ p.x p.den (total pile.list) (following One g pile.list) pile.total_is pile.first_is mean.x)
          (mean_of_pile c (scale_of Two g) _ _ p.y p.den (total pile.list) (following Two g pile.list) pile.total_is pile.second_is mean.y);
    }

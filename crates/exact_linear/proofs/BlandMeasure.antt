-- The measure of a loop by Bland's rule, from the content of its state alone. The rule as a function of contents: the first column
-- that improves, the first row of least ratio, and the pivot by exact quotients. A step that the loop takes by the rule is the one
-- that the function takes: both choices are unique in an order that tells the columns apart, and one basis has one tableau.
use Rattle.std.proofs.Common.{◌≡◌, Bool, true, false, ℕ, ◌^◌, ◌<◌, ◌≤◌, ℤ, pos, ◌*ℤ◌, ◌≤ℤ◌, ◌<ℤ◌, Option, Some, None, refl, sym, ap, ap₂, subst, ◌∙◌, ⊎_elim, inl, inr, arith}
use Rattle.std.proofs.lemmas.Bool.{cases_lt}
use Rattle.std.proofs.lemmas.Int.{ints}
use lib.Signed.{lt_z}
use Rattle.exact_algebra.proofs.Families.{put, put-same, put-other}
use Rattle.exact_algebra.proofs.FiniteChoice.{BestBelow, best, no_best, best_below}
use Rattle.exact_algebra.proofs.NoReturn.{steps_left}
use Rattle.exact_linear.proofs.BlandContents.{AlikeContents, trimmed, trimmed_alike, trimmed_same, priced_alike, pivoted, pivoted_basis, pivoted_priced}
use Rattle.exact_linear.proofs.BlandEnds.{BlandMove, bland_smaller}
use Rattle.exact_linear.proofs.Determinant.{put_cases}
use Rattle.exact_linear.proofs.OneBasis.{one_denominator, one_row, one_cost_row}
use Rattle.exact_linear.proofs.RatioOrder.{NoLater, first_row_of}
use Rattle.exact_linear.proofs.Tableaus.{basic_once}
use Rattle.exact_linear.specs.Basis.{IsSameBasis}
use Rattle.exact_linear.specs.BlandRule.{IsBlandStep}
use Rattle.exact_linear.specs.Content.{Content, IsPricedTableau}

below_test : {a b : ℤ} → a <ℤ b → lt_z a b ≡ true
below_test h = sym (omega (arith, ints))

same_some : {A : Type 0} {x y : A} → Some x ≡ Some y → x ≡ y
same_some g = cc

-- A step of the rule over a content that is the same.
step_alike : {m n q side r s : ℕ} {rank : ℕ → ℕ} {first second : Content} → q ≤ n → side < n → AlikeContents m n first second → IsBlandStep m q side rank second.basis second.matrix second.row r s → IsBlandStep m q side rank first.basis first.matrix first.row r s
step_alike {m} {n} {q} {side} {r} {s} {rank} {first} {second} inside right same step = record {
  offered = step.offered;
  improves = subst (λ x. x <ℤ pos 0) (sym (same.row s entering)) step.improves;
  first_column = λ j h l. subst (λ x. pos 0 ≤ℤ x) (sym (same.row j (omega arith))) (step.first_column j h l);
  ratio = record {
    within = step.ratio.within;
    positive = subst (λ x. pos 0 <ℤ x) (sym corner) step.ratio.positive;
    least = λ i h over. let given = step.ratio.least i h (subst (λ x. pos 0 <ℤ x) (same.matrix i s h entering) over) in rw (level, same.matrix i s h entering, same.matrix i side h right, corner) given;
  };
  first_row = λ i h over tie. rw (same.basis r step.ratio.within, same.basis i h) (step.first_row i h (subst (λ x. pos 0 <ℤ x) (same.matrix i s h entering) over) (rw (level, same.matrix i s h entering, same.matrix i side h right, corner) at tie));
}
  where
    entering : s < n
    entering = omega (arith, step.offered)

    corner : first.matrix r s ≡ second.matrix r s
    corner = same.matrix r s step.ratio.within entering

    level : first.matrix r side ≡ second.matrix r side
    level = same.matrix r side step.ratio.within right

module _ (m n q side : ℕ) (rank : ℕ → ℕ) where
  abbrev ColumnChoice : Content → Type 0
  ColumnChoice c = BestBelow (λ j. lt_z (c.row j) (pos 0)) (λ i k. rank k ≤ rank i) q

  abbrev RowOrder : Content → ℕ → ℕ → ℕ → Type 0
  RowOrder c s = NoLater (λ i. c.matrix i s) (λ i. c.matrix i side) (λ k. rank (c.basis k))

  abbrev RowChoice : Content → ℕ → Type 0
  RowChoice c s = BestBelow (λ i. lt_z (pos 0) (c.matrix i s)) (RowOrder c s) m

  -- The first column that improves.
  improving : (c : Content) → ColumnChoice c
  improving c = best_below (λ j. lt_z (c.row j) (pos 0)) (λ i k. rank k ≤ rank i) (λ i j p l. ⊎_elim (λ (h : rank i < rank j). inr (omega arith)) (λ (h : rank j ≤ rank i). inl h) (cases_lt (rank i) (rank j))) (λ i j k p l h one two. omega arith) q

  -- The first row of least ratio in a column.
  leaving : (c : Content) (s : ℕ) → RowChoice c s
  leaving c s = first_row_of (λ i. c.matrix i s) (λ i. c.matrix i side) (λ k. rank (c.basis k)) m

  abbrev after_row : (c : Content) (s : ℕ) → RowChoice c s → Option Content
  after_row c s (best r h passes over) = Some (trimmed m n (pivoted c r s))
  after_row c s (no_best none) = None

  abbrev after_column : (c : Content) → ColumnChoice c → Option Content
  after_column c (best s h passes over) = after_row c s (leaving c s)
  after_column c (no_best none) = None

  -- The content after a step of the rule.
  next_content : Content → Option Content
  next_content c = after_column c (improving c)

  -- How many steps the rule still takes from a content.
  pub bland_measure : Content → ℕ
  bland_measure c = steps_left next_content (n ^ m) (trimmed m n c)

  -- What the step of the function is.
  record Taken (c after : Content) : Type 0 where
    r : ℕ
    s : ℕ
    rule : IsBlandStep m q side rank c.basis c.matrix c.row r s
    is : after ≡ trimmed m n (pivoted c r s)

  taken_of : (c after : Content) → next_content c ≡ Some after → Taken c after
  unfolding next_content
  taken_of c after e = by_column (improving c) e
    where
      by_row : (s : ℕ) → s < q → c.row s <ℤ pos 0 → ((j : ℕ) → j < q → rank j < rank s → pos 0 ≤ℤ c.row j) → (f : RowChoice c s) → after_row c s f ≡ Some after → Taken c after
      by_row s h improves first_column (no_best none) e = absurd (cc)
      by_row s h improves first_column (best r l passes over) e = record {
        r = r;
        s = s;
        rule = record {
          offered = h;
          improves = improves;
          first_column = first_column;
          ratio = record { within = l; positive = omega (arith, ints); least = λ i p g. least i (over i p (below_test g)) };
          first_row = λ i p g tie. rank_of i (over i p (below_test g)) tie;
        };
        is = sym (same_some e);
      }
        where
          least : (i : ℕ) → RowOrder c s i r → (c.matrix r side *ℤ c.matrix i s) ≤ℤ (c.matrix i side *ℤ c.matrix r s)
          least i (inl low) = omega (arith, ints)
          least i (inr (tie, low)) = omega (arith, ints)

          rank_of : (i : ℕ) → RowOrder c s i r → c.matrix i side *ℤ c.matrix r s ≡ c.matrix r side *ℤ c.matrix i s → rank (c.basis r) ≤ rank (c.basis i)
          rank_of i (inl low) tie = absurd (omega (arith, ints))
          rank_of i (inr (same, low)) tie = low

      by_column : (f : ColumnChoice c) → after_column c f ≡ Some after → Taken c after
      by_column (no_best none) e = absurd (cc)
      by_column (best s h passes over) e = by_row s h (omega (arith, ints)) not_before (leaving c s) e
        where
          not_before : (j : ℕ) → j < q → rank j < rank s → pos 0 ≤ℤ c.row j
          not_before j p l = by_test (lt_z (c.row j) (pos 0)) refl
            where
              by_test : (v : Bool) → lt_z (c.row j) (pos 0) ≡ v → pos 0 ≤ℤ c.row j
              by_test true g = let low = over j p g in absurd (omega arith)
              by_test false g = omega (arith, ints)

  module _ (columns : ℕ → ℕ → ℤ) (costs : ℕ → ℤ) (inside : q ≤ n) (right : side < n) (distinct : (i j : ℕ) → i < n → j < n → rank i ≡ rank j → i ≡ j) where
    -- A step of the rule is the step of the function.
    taken_is : (c : Content) (r s : ℕ) → IsPricedTableau m n side columns costs c → IsBlandStep m q side rank c.basis c.matrix c.row r s → next_content c ≡ Some (trimmed m n (pivoted c r s))
    unfolding next_content
    taken_is c r s t step = by_column (improving c)
      where
        by_row : (u : ℕ) → u ≡ s → (f : RowChoice c u) → after_row c u f ≡ Some (trimmed m n (pivoted c r s))
        by_row u same (no_best none) = let fails = none r step.ratio.within in let passes = below_test (subst (λ x. pos 0 <ℤ c.matrix r x) (sym same) step.ratio.positive) in absurd (cc)
        by_row u same (best k h passes over) = ap Some (ap₂ (λ x y. trimmed m n (pivoted c x y)) row_is same)
          where
            corner : pos 0 <ℤ c.matrix k s
            corner = subst (λ x. pos 0 <ℤ c.matrix k x) same (omega (arith, ints))

            later : RowOrder c u r k
            later = over r step.ratio.within (below_test (subst (λ x. pos 0 <ℤ c.matrix r x) (sym same) step.ratio.positive))

            one_rank : RowOrder c s r k → rank (c.basis k) ≡ rank (c.basis r)
            one_rank (inl low) = let least = step.ratio.least k h corner in absurd (omega (arith, ints))
            one_rank (inr (tie, low)) = let high = step.first_row k h corner tie in omega arith

            row_is : k ≡ r
            row_is = basic_once t.tableau k r h step.ratio.within (distinct (c.basis k) (c.basis r) (t.tableau.within k h) (t.tableau.within r step.ratio.within) (one_rank (subst (λ x. RowOrder c x r k) same later)))

        by_column : (f : ColumnChoice c) → after_column c f ≡ Some (trimmed m n (pivoted c r s))
        by_column (no_best none) = let fails = none s step.offered in let passes = below_test step.improves in absurd (cc)
        by_column (best u h passes over) = by_row u column_is (leaving c u)
          where
            low : rank u ≤ rank s
            low = over s step.offered (below_test step.improves)

            column_is : u ≡ s
            column_is = distinct u s (omega arith) (omega (arith, step.offered)) (⊎_elim
                (λ (l : rank u < rank s). let high = step.first_column u h l in absurd (omega (arith, ints)))
                (λ (l : rank s ≤ rank u). let no_more = low in omega arith)
                (cases_lt (rank u) (rank s)))

    kept : (c after : Content) → IsPricedTableau m n side columns costs c → next_content c ≡ Some after → IsPricedTableau m n side columns costs after
    kept c after t e =
        let taken = taken_of c after e in
        subst (IsPricedTableau m n side columns costs) (sym taken.is)
        (priced_alike right (trimmed_alike m n (pivoted c taken.r taken.s)) (pivoted_priced c taken.r taken.s right (omega (arith, taken.rule.offered)) taken.rule.ratio t))

    by_rule : (c after : Content) → IsPricedTableau m n side columns costs c → next_content c ≡ Some after → BlandMove m q side rank c after
    by_rule c after t e =
        let taken = taken_of c after e in
        record { r = taken.r; s = taken.s; rule = taken.rule; moves = λ k h. ap (λ x. x.basis k) taken.is ∙ ((trimmed_alike m n (pivoted c taken.r taken.s)).basis k h ∙ pivoted_basis c taken.r taken.s k) }

    -- Two tableaus of one basis, row by row.
    one_content : (first second : Content) → IsPricedTableau m n side columns costs first → IsPricedTableau m n side columns costs second → ((k : ℕ) → k < m → first.basis k ≡ second.basis k) → AlikeContents m n first second
    one_content first second t u equal =
        let same : IsSameBasis m second.basis first.basis = record { forth = λ k h. (k, h, equal k h); back = λ k h. (k, h, sym (equal k h)) } in
        record {
          basis = equal;
          den = one_denominator u.tableau t.tableau same;
          matrix = λ i j h l. one_row u.tableau t.tableau same i i j h h l (equal i h);
          row = λ j l. one_cost_row u.tableau t.tableau same u.priced t.priced j l;
        }

    -- The measure falls with each step that is taken by the rule.
    pub bland_falls : (before after : Content) (r s : ℕ) → IsPricedTableau m n side columns costs before → IsPricedTableau m n side columns costs after → IsBlandStep m q side rank before.basis before.matrix before.row r s → ((k : ℕ) → k < m → after.basis k ≡ put before.basis r s k) →
        bland_measure after < bland_measure before
    unfolding bland_measure
    bland_falls before after r s t u step moves =
        let alike = trimmed_alike m n before in
        let held = priced_alike right alike t in
        let own_step = step_alike inside right alike step in
        let entering : s < n = omega (arith, step.offered) in
        let next = pivoted_priced (trimmed m n before) r s right entering own_step.ratio held in
        let same = trimmed_same m n (pivoted (trimmed m n before) r s) after (one_content (pivoted (trimmed m n before) r s) after next u (λ k h. pivoted_basis (trimmed m n before) r s k ∙ (put_alike k h ∙ sym (moves k h)))) in
        bland_smaller next_content (λ c. c) (IsPricedTableau m n side columns costs) m n q side rank columns costs inside right (λ i j h l. distinct i j (omega arith) (omega arith)) kept (λ c h. h) by_rule (trimmed m n before) (trimmed m n after) held (taken_is (trimmed m n before) r s held own_step ∙ ap Some same)
      where
        put_alike : (k : ℕ) → k < m → put (trimmed m n before).basis r s k ≡ put before.basis r s k
        put_alike k h = put_cases (λ x. x ≡ put before.basis r s k) (trimmed m n before).basis r k s (λ e. sym (ap (put before.basis r s) e ∙ put-same before.basis r s)) (λ d. (trimmed_alike m n before).basis k h ∙ sym (put-other before.basis r s k d))

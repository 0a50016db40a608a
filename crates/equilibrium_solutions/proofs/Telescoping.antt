-- What a choice gets falls short of what the start leads to by what it loses at the sets to which it leads: the values of those sets cancel,
-- since each but a first one is what the choice leads to at one other set.
use Rattle.std.proofs.Common.{◌≡◌, ◌≢◌, ℕ, ◌<◌, ◌≤◌, Bool, true, false, ◌&&◌, nat_eq, cond, List, [], ◌∷◌, ℤ, pos, ◌+ℤ◌, ◌-ℤ◌}
use Rattle.std.proofs.Common.{refl, sym, ap, subst, ◌∙◌, arith}
use Rattle.std.proofs.lemmas.Bool.Decides.{nat_tests}
use Rattle.std.proofs.lemmas.Int.{ints}
use Rattle.exact_algebra.specs.Sums.{sum_to}
use Rattle.exact_algebra.proofs.Sums.{sum_to-add, sum_to-difference, sum_to-exchange, sum_to-nothing, sum_to-one, sum_to-same}
use Rattle.corr_game.specs.declared.nodes.SetId.{SetId}
use Rattle.equilibrium_solutions.specs.Decision.{Decision, GoesBack, IsDecision, StaysInside, after, at_start, ends_with, gets}
use Rattle.equilibrium_solutions.specs.Decision.{is_given, takes}

abbrev Moves : Type 0
Moves = List (SetId × ℕ)

-- ---- tests and the numbers that they pick

nothing_either_way : (b : Bool) → cond b (pos 0) (pos 0) ≡ pos 0
nothing_either_way true = refl
nothing_either_way false = refl

same_number : (a : ℕ) → nat_eq a a ≡ true
same_number a = grind (arith, nat_tests)

other_number : (a b : ℕ) → b ≢ a → nat_eq a b ≡ false
other_number a b apart = grind (arith, nat_tests)

turned : (a b : ℕ) → nat_eq a b ≡ nat_eq b a
turned a b = grind (arith, nat_tests)

outside : (b : Bool) → cond b false true ≡ true → b ≡ false
outside true h = absurd (cc)
outside false h = refl

-- a number under two tests, the second first
under_two : (a b : Bool) (v : ℤ) → cond (a && b) v (pos 0) ≡ cond b (cond a v (pos 0)) (pos 0)
under_two true true v = refl
under_two true false v = refl
under_two false true v = refl
under_two false false v = refl

-- a sum under a test
tested_sum : (n : ℕ) (b : Bool) (f : ℕ → ℤ) → cond b (sum_to n f) (pos 0) ≡ sum_to n (λ k. cond b (f k) (pos 0))
tested_sum n true f = refl
tested_sum n false f = sym (sum_to-nothing n (λ k. pos 0) (λ k h. refl))

-- a difference under a test
tested_difference : (b : Bool) (v s t : ℤ)
    → cond b (v -ℤ (s +ℤ t)) (pos 0) ≡ cond b v (pos 0) -ℤ (cond b s (pos 0) +ℤ cond b t (pos 0))
tested_difference true v s t = refl
tested_difference false v s t = refl

-- the set of the latest move is led to by that move, where the choice takes it and leads to the set
by_latest : (inside taken there : Bool) (w : ℤ)
    → cond (inside && taken) (cond there w (pos 0)) (pos 0)
    ≡ cond (cond inside false true) (pos 0) (cond (cond inside there true && taken) w (pos 0))
by_latest true true true w = refl
by_latest true true false w = refl
by_latest true false true w = refl
by_latest true false false w = refl
by_latest false taken there w = refl

-- what is left of a set's value: all of a first set's
left_of_value : (inside given taken : Bool) (v : ℤ) → (given ≡ true → taken ≡ true)
    → cond (inside && taken) v (pos 0) -ℤ cond given (pos 0) (cond taken (cond inside v (pos 0)) (pos 0)) ≡ cond (inside && given) v (pos 0)
left_of_value true true true v h = omega (arith, ints)
left_of_value true true false v h = absurd (let no = h refl in cc)
left_of_value true false true v h = omega (arith, ints)
left_of_value true false false v h = refl
left_of_value false true true v h = refl
left_of_value false true false v h = refl
left_of_value false false true v h = refl
left_of_value false false false v h = refl

-- what a leaf pays, once as one behind a set inside, or at once
paid_in_parts : (given once taken : Bool) (v : ℤ) → (given ≡ true → taken ≡ true)
    → cond (cond given once true && taken) v (pos 0) ≡ cond given (pos 0) (cond taken v (pos 0)) +ℤ cond (once && given) v (pos 0)
paid_in_parts true true true v h = omega (arith, ints)
paid_in_parts true true false v h = absurd (let no = h refl in cc)
paid_in_parts true false true v h = refl
paid_in_parts true false false v h = refl
paid_in_parts false true true v h = omega (arith, ints)
paid_in_parts false true false v h = refl
paid_in_parts false false true v h = omega (arith, ints)
paid_in_parts false false false v h = refl

-- ---- what is given before any set inside is taken by every choice

back_given : (inside : ℕ → Bool) (set : ℕ) (before : Moves) → StaysInside inside set before → inside set ≡ false → is_given inside before ≡ true
back_given inside set [] stays e = refl
back_given inside set (move ∷ before) stays e = by (inside move.0.0) refl
  where
    by : (b : Bool) → inside move.0.0 ≡ b → cond b false true ≡ true
    by false h = refl
    by true h = absurd (let no = stays h in cc)

module _ (d : Decision) (rules : IsDecision d) (choice : ℕ → ℕ) where
  pub given_taken : (bound : ℕ) (moves : Moves) → GoesBack d bound moves → bound ≤ d.sets → is_given d.inside moves ≡ true
      → takes d.inside choice moves ≡ true
  given_taken bound [] back low given = refl
  given_taken bound (move ∷ before) back low given =
      let apart = outside (d.inside move.0.0) given in
      let under : move.0.0 < d.sets = omega (arith, back.0) in
      let Back : Moves → Type 0 = GoesBack d move.0.0 in
      let Stays : Moves → Type 0 = StaysInside d.inside move.0.0 in
      let further = subst Back back.2 (rules.each_set move.0.0 under) in
      let stays = subst Stays back.2 (rules.stays move.0.0 under) in
      rw apart (given_taken move.0.0 before further (omega arith) (back_given d.inside move.0.0 before stays apart))

  -- of the sets to which the choice leads one leads on to these moves, unless they are given
  led_once : (moves : Moves) (w : ℤ) → GoesBack d d.sets moves
      → sum_to d.sets
      (λ set. cond (d.inside set && takes d.inside choice (d.before_set set)) (cond (ends_with set (choice set) moves) w (pos 0)) (pos 0))
      ≡ cond (is_given d.inside moves) (pos 0) (cond (takes d.inside choice moves) w (pos 0))
  led_once [] w back = sum_to-nothing d.sets _ (λ k h. nothing_either_way (d.inside k && takes d.inside choice (d.before_set k)))
  led_once (move ∷ before) w back =
      let term : ℕ → ℤ = λ set.
      cond (d.inside set && takes d.inside choice (d.before_set set)) (cond (ends_with set (choice set) (move ∷ before)) w (pos 0)) (pos 0) in
      let others : (k : ℕ) → k < d.sets → k ≢ move.0.0 → term k ≡ pos 0 =
      λ k h apart. rw (other_number move.0.0 k apart) (nothing_either_way (d.inside k && takes d.inside choice (d.before_set k))) in
      let here : term move.0.0 ≡ cond (d.inside move.0.0 && takes d.inside choice before) (cond (nat_eq (choice move.0.0) move.1) w (pos 0)) (pos 0) =
      rw (same_number move.0.0, back.2, turned move.1 (choice move.0.0)) refl in
      sum_to-one d.sets move.0.0 term back.0 others ∙ here
      ∙ by_latest (d.inside move.0.0) (takes d.inside choice before) (nat_eq (choice move.0.0) move.1) w

  -- and of all moves together
  led_all : (count : ℕ) (moves : ℕ → Moves) (w : ℕ → ℤ) → ((k : ℕ) → k < count → GoesBack d d.sets (moves k))
      → sum_to d.sets
      (λ set. cond (d.inside set && takes d.inside choice (d.before_set set))
      (sum_to count (λ k. cond (ends_with set (choice set) (moves k)) (w k) (pos 0))) (pos 0))
      ≡ sum_to count (λ k. cond (is_given d.inside (moves k)) (pos 0) (cond (takes d.inside choice (moves k)) (w k) (pos 0)))
  led_all count moves w back =
      sum_to-same d.sets _ _ (λ set h. tested_sum count (d.inside set && takes d.inside choice (d.before_set set)) _)
      ∙ sum_to-exchange d.sets count _
      ∙ sum_to-same count _ _ (λ k h. led_once (moves k) (w k) (back k h))

  -- what the start leads to, less what the choice gets, is what the choice loses at the sets to which it leads
  pub lost_together : (value : ℕ → ℤ)
      → sum_to d.sets
      (λ set. cond (d.inside set && takes d.inside choice (d.before_set set)) (value set -ℤ after d value set (choice set)) (pos 0))
      ≡ at_start d value -ℤ gets d choice
  lost_together value =
      let reached : ℕ → Bool = λ set. d.inside set && takes d.inside choice (d.before_set set) in
      let next : ℕ → ℕ → ℤ = λ set k. cond (d.inside k && ends_with set (choice set) (d.before_set k)) (value k) (pos 0) in
      let paid : ℕ → ℕ → ℤ = λ set leaf. cond (ends_with set (choice set) (d.before_leaf leaf)) (d.pays leaf) (pos 0) in
      let values : ℕ → ℤ = λ set. cond (reached set) (value set) (pos 0) in
      let sets : ℕ → ℤ = λ k. cond (is_given d.inside (d.before_set k)) (pos 0)
      (cond (takes d.inside choice (d.before_set k)) (cond (d.inside k) (value k) (pos 0)) (pos 0)) in
      let leaves : ℕ → ℤ = λ leaf. cond (is_given d.inside (d.before_leaf leaf)) (pos 0)
      (cond (takes d.inside choice (d.before_leaf leaf)) (d.pays leaf) (pos 0)) in
      let once : ℕ → ℤ = λ leaf. cond (d.at_once && is_given d.inside (d.before_leaf leaf)) (d.pays leaf) (pos 0) in
      let first : ℕ → ℤ = λ k. cond (d.inside k && is_given d.inside (d.before_set k)) (value k) (pos 0) in
      let parts : sum_to d.sets (λ set. cond (reached set) (value set -ℤ after d value set (choice set)) (pos 0))
      ≡ sum_to d.sets values -ℤ (sum_to d.sets (λ set. cond (reached set) (sum_to d.sets (next set)) (pos 0))
      +ℤ sum_to d.sets (λ set. cond (reached set) (sum_to d.leaves (paid set)) (pos 0))) =
      sum_to-same d.sets _ _ (λ set h. tested_difference (reached set) (value set) (sum_to d.sets (next set)) (sum_to d.leaves (paid set)))
      ∙ sum_to-difference d.sets values _
      ∙ ap (λ (z : ℤ). sum_to d.sets values -ℤ z) (sum_to-add d.sets _ _) in
      let by_sets : sum_to d.sets (λ set. cond (reached set) (sum_to d.sets (next set)) (pos 0)) ≡ sum_to d.sets sets =
      sum_to-same d.sets _ _ (λ set h. ap (λ (z : ℤ). cond (reached set) z (pos 0))
      (sum_to-same d.sets _ _ (λ k l. under_two (d.inside k) (ends_with set (choice set) (d.before_set k)) (value k))))
      ∙ led_all d.sets d.before_set (λ k. cond (d.inside k) (value k) (pos 0))
      (λ k h. goes_up k d.sets (d.before_set k) (omega arith) (rules.each_set k h)) in
      let by_leaves = led_all d.leaves d.before_leaf d.pays rules.each_leaf in
      let firsts : sum_to d.sets values -ℤ sum_to d.sets sets ≡ sum_to d.sets first =
      sym (sum_to-difference d.sets values sets)
      ∙ sum_to-same d.sets _ _ (λ k h. left_of_value (d.inside k) (is_given d.inside (d.before_set k))
      (takes d.inside choice (d.before_set k)) (value k)
      (given_taken k (d.before_set k) (rules.each_set k h) (omega arith))) in
      let got : gets d choice ≡ sum_to d.leaves leaves +ℤ sum_to d.leaves once =
      sum_to-same d.leaves _ _ (λ n h. paid_in_parts (is_given d.inside (d.before_leaf n)) d.at_once
      (takes d.inside choice (d.before_leaf n)) (d.pays n)
      (given_taken d.sets (d.before_leaf n) (rules.each_leaf n h) (omega arith)))
      ∙ sum_to-add d.leaves leaves once in
      parts ∙ joined _ _ _ _ _ _ _ _ by_sets by_leaves firsts got
    where
      goes_up : (low high : ℕ) (moves : Moves) → low ≤ high → GoesBack d low moves → GoesBack d high moves
      goes_up low high [] h back = back
      goes_up low high (move ∷ before) h back = (omega (arith, back.0), back.1, back.2)

      joined : (v s l f o g s0 l0 : ℤ) → s0 ≡ s → l0 ≡ l → v -ℤ s ≡ f → g ≡ l +ℤ o → v -ℤ (s0 +ℤ l0) ≡ f +ℤ o -ℤ g
      joined v s l f o g s0 l0 a b c e = omega (arith, ints)

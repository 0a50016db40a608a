-- What a sequence leads to by number is what a decision's move leads to: own moves end with a move exactly where their number is that of
-- the sequence with it.
use Rattle.std.proofs.Common.{◌≡◌, ◌≢◌, ℕ, zero, suc, Bool, true, false, ◌&&◌, nat_eq, cond, List, [], ◌∷◌}
use Rattle.std.proofs.Common.{Some, refl, sym, ap, ◌∙◌, arith}
use Rattle.std.proofs.lemmas.Bool.{and_from, and_parts, eq-eqb, eqb-true, ne_eqb}
use Rattle.corr_game.specs.declared.nodes.SetId.{SetId}
use Rattle.sequences.specs.Number.{Ends, IsSide, SideView, last_of}
use Rattle.equilibrium_solutions.specs.Decision.{StaysInside, ends_with, is_given}
use Rattle.equilibrium_solutions.proofs.MoveNumbers.{IsNumberOf, ends_with_move, one_ends}

abbrev Moves : Type 0
Moves = List (SetId × ℕ)

pub same_tests : (a b : Bool) → (a ≡ true → b ≡ true) → (b ≡ true → a ≡ true) → a ≡ b
same_tests true b h k = sym (h refl)
same_tests false true h k = k refl
same_tests false false h k = refl

move_of : (set action : ℕ) (move : SetId × ℕ) → move.0.0 ≡ set → move.1 ≡ action → move ≡ (record { 0 = set }, action)
move_of set action move e f = rw (← e, ← f) refl

module _ (v : SideView) (rules : IsSide v) where
  ends_by_number : (set action seq q : ℕ) → Ends v.places (record { 0 = set }, action) seq → (moves : Moves) → IsNumberOf v moves q
      → ends_with set action moves ≡ true → nat_eq q seq ≡ true
  ends_by_number set action seq q end [] k h = absurd (cc)
  ends_by_number set action seq q end (move ∷ moves) k h =
      let both = and_parts (nat_eq move.0.0 set) (nat_eq move.1 action) h in
      let same = move_of set action move (eqb-true move.0.0 set both.0) (eqb-true move.1 action both.1) in
      let last = ends_with_move v rules (record { 0 = set }, action) seq end in
      let here : last_of v seq ≡ Some move = last ∙ ap (λ (m : SetId × ℕ). Some m) (sym same) in
      eq-eqb q seq (one_ends v rules move q seq k.0 here)

  number_by_ends : (set action seq q : ℕ) → Ends v.places (record { 0 = set }, action) seq → (moves : Moves) → IsNumberOf v moves q
      → q ≡ seq → ends_with set action moves ≡ true
  number_by_ends set action seq q end [] k e =
      absurd (omega (arith, k, e, end.3, rules.numbered.own_before set end.0 end.1))
  number_by_ends set action seq q end (move ∷ moves) k e =
      let last = ends_with_move v rules (record { 0 = set }, action) seq end in
      let there : last_of v seq ≡ Some move = ap (last_of v) (sym e) ∙ k.0 in
      let same : move ≡ (record { 0 = set }, action) = cc (there, last) in
      let at : move.0.0 ≡ set = ap (λ (m : SetId × ℕ). m.0.0) same in
      let by : move.1 ≡ action = ap (λ (m : SetId × ℕ). m.1) same in
      and_from (nat_eq move.0.0 set) (nat_eq move.1 action) (eq-eqb move.0.0 set at) (eq-eqb move.1 action by)

  -- own moves end with a move exactly where their number is that of the sequence with it
  pub ends_is_number : (set action seq q : ℕ) → Ends v.places (record { 0 = set }, action) seq → (moves : Moves) → IsNumberOf v moves q
      → ends_with set action moves ≡ nat_eq q seq
  ends_is_number set action seq q end moves k = same_tests (ends_with set action moves) (nat_eq q seq)
      (ends_by_number set action seq q end moves k)
      (λ h. number_by_ends set action seq q end moves k (eqb-true q seq h))

  not_empty : (q : ℕ) (move : SetId × ℕ) → last_of v q ≡ Some move → q ≢ 0
  not_empty zero move e h = absurd (cc)
  not_empty (suc q) move e h = absurd (omega arith)

  -- where each set is inside, moves are given exactly where their number is that of the empty sequence
  pub given_is_empty : (inside : ℕ → Bool) (q : ℕ) → ((set : ℕ) → inside set ≡ true) → (moves : Moves) → IsNumberOf v moves q
      → is_given inside moves ≡ nat_eq q 0
  given_is_empty inside q all [] k = sym (eq-eqb q 0 k)
  given_is_empty inside q all (move ∷ moves) k =
      ap (λ (b : Bool). cond b false true) (all move.0.0) ∙ sym (ne_eqb q 0 (not_empty q move k.0))

-- what comes right behind a set inside is inside
stays_here : (inside : ℕ → Bool) (k set action : ℕ) (moves : Moves) → StaysInside inside k moves → inside set ≡ true
    → ends_with set action moves ≡ true → inside k ≡ true
stays_here inside k set action [] stays is h = absurd (cc)
stays_here inside k set action (move ∷ moves) stays is h =
    let both = and_parts (nat_eq move.0.0 set) (nat_eq move.1 action) h in
    stays (ap inside (eqb-true move.0.0 set both.0) ∙ is)

pub inside_too : (inside : ℕ → Bool) (k set action : ℕ) (moves : Moves) → StaysInside inside k moves → inside set ≡ true
    → (inside k && ends_with set action moves) ≡ ends_with set action moves
inside_too inside k set action moves stays is = same_tests (inside k && ends_with set action moves) (ends_with set action moves)
    (λ h. (and_parts (inside k) (ends_with set action moves) h).1)
    (λ h. and_from (inside k) (ends_with set action moves) (stays_here inside k set action moves stays is h) h)

-- The number of a sequence as a list of moves: its last move's, whose set's own sequence is numbered by the moves before. By induction on
-- the moves, what a number holds, begins with and is played by is told by them.
use Rattle.std.proofs.Common.{◌≡◌, ◌↔◌, ℕ, zero, suc, inl, inr, true, nat_eq, List, [], ◌∷◌, Option, Some, None}
use Rattle.std.proofs.Common.{slice_get, refl, sym, ap, ◌∙◌, arith}
use Rattle.std.proofs.lemmas.Bool.{cases_Bool, and_from, and_parts, eq-eqb, eqb-true, or_left, or_right}
use Rattle.corr_game.specs.declared.nodes.SetId.{SetId}
use Rattle.tree_recall.specs.OwnSequence.{latest}
use Rattle.sequences.specs.declared.places.Place.{Place}
use Rattle.sequences.specs.Number.{SideView, Ends, HasNumber, Holds, last, IsOwn, IsSide, Plays, nothing, last_of}
use Rattle.sequences.proofs.Holding.{holds-back, holds-none, holds-on, plays-back, plays-named, plays-on}
use Rattle.connected_pairs.specs.Connected.{IsPrefix, itself, longer}
use Rattle.equilibrium.specs.Leaves.{names_all}
use Rattle.equilibrium.specs.Reach.{names}
use Rattle.equilibrium.proofs.Descents.{names_is}
use Rattle.equilibrium_solutions.specs.Departure.{is_move, some_move}
use Rattle.equilibrium_solutions.proofs.Under.{is_at}

abbrev Moves : Type 0
Moves = List (SetId × ℕ)

-- this is the number of a sequence of moves
abbrev pub IsNumberOf : SideView → Moves → ℕ → Type 0
IsNumberOf v [] seq = seq ≡ 0
IsNumberOf v (move ∷ moves) seq = (last_of v seq ≡ Some move) × (own : ℕ) × IsOwn v move.0.0 own × IsNumberOf v moves own

same_move : (v : SideView) (seq : ℕ) (a b : SetId × ℕ) → last_of v seq ≡ Some a → last_of v seq ≡ Some b → a ≡ b
same_move v seq a b e f = cc

none_at_zero : (v : SideView) (seq : ℕ) (move : SetId × ℕ) → seq ≡ 0 → last_of v seq ≡ Some move → ⊥
none_at_zero v seq move e f = let none : last_of v seq ≡ None = ap (last_of v) e in cc

move_of : (set action : ℕ) (move : SetId × ℕ) → move.0.0 ≡ set → move.1 ≡ action → move ≡ (record { 0 = set }, action)
move_of set action move e f = rw (← e, ← f) refl

-- a set has one own sequence
own_once : (v : SideView) (set a b : ℕ) → IsOwn v set a → IsOwn v set b → a ≡ b
own_once v set a b o q =
    let same : o.0 ≡ q.0 = cc (o.1, q.1) in
    sym o.2 ∙ (ap (λ (x : Place). x.own) same ∙ q.2)

module _ (v : SideView) (rules : IsSide v) where
  -- the sequence with a move's number ends with it
  pub ends_with_move : (move : SetId × ℕ) (seq : ℕ) → Ends v.places move seq → last_of v seq ≡ Some move
  ends_with_move move zero h = absurd (omega (arith, h.3, rules.numbered.own_before move.0.0 h.0 h.1))
  ends_with_move move (suc k) h = rules.numbered.each_move move k (h.0, h.1, h.2, omega (arith, h.3))

  pub move_ends : (move : SetId × ℕ) (seq : ℕ) → last_of v seq ≡ Some move → Ends v.places move seq
  move_ends move zero e = absurd (cc)
  move_ends move (suc k) e =
      let at = rules.numbered.each_last k move e in
      (at.0, at.1, at.2, omega (arith, at.3))

  pub last_of_number : (last : Option (SetId × ℕ)) (seq : ℕ) → HasNumber v.places last seq → last_of v seq ≡ last
  last_of_number None seq h = ap (last_of v) h
  last_of_number (Some move) seq h = ends_with_move move seq h

  -- one sequence ends with a move
  pub one_ends : (move : SetId × ℕ) (a b : ℕ) → last_of v a ≡ Some move → last_of v b ≡ Some move → a ≡ b
  one_ends move a b e f =
      let one = move_ends move a e in
      let two = move_ends move b f in
      let same : one.0 ≡ two.0 = cc (one.1, two.1) in
      omega (arith, one.3, two.3, ap (λ (x : Place). x.first) same)

  pub last_move : (moves : Moves) (seq : ℕ) → IsNumberOf v moves seq → last_of v seq ≡ latest moves
  last_move [] seq k = ap (last_of v) k
  last_move (move ∷ moves) seq k = k.0

  holds_at : (set : ℕ) (moves : Moves) (seq : ℕ) → IsNumberOf v moves seq → Holds v set seq → is_at set moves ≡ true
  holds_at set [] seq k h = absurd (holds-none v set seq h (ap (last_of v) k))
  holds_at set (move ∷ moves) seq k h = elim (cases_Bool (nat_eq move.0.0 set)) [
    | inl here ↦ or_left (nat_eq move.0.0 set) (is_at set moves) here
    | inr away ↦
        let apart : move.0.0 ≡ set → ⊥ = λ e. (let here = eq-eqb move.0.0 set e in cc) in
        or_right (nat_eq move.0.0 set) (is_at set moves) (holds_at set moves k.1 k.3 (holds-back v set seq h move k.1 k.0 apart k.2))
  ]

  at_holds : (set : ℕ) (moves : Moves) (seq : ℕ) → IsNumberOf v moves seq → is_at set moves ≡ true → Holds v set seq
  at_holds set [] seq k h = absurd (cc)
  at_holds set (move ∷ moves) seq k h = elim (cases_Bool (nat_eq move.0.0 set)) [
    | inl here ↦ last seq move k.0 (eqb-true move.0.0 set here)
    | inr away ↦ holds-on v set seq move k.1 k.0 k.2 (at_holds set moves k.1 k.3 (rw away at h))
  ]

  -- a sequence holds a choice at a set exactly where one of its moves is there
  pub holds_by_moves : (set : ℕ) (moves : Moves) (seq : ℕ) → IsNumberOf v moves seq
      → Holds v set seq ↔ (some_move (is_move set None) moves ≡ true)
  holds_by_moves set moves seq k = (holds_at set moves seq k, at_holds set moves seq k)

  prefix_takes : (set action part seq : ℕ) → IsPrefix v part seq → (moves : Moves) → IsNumberOf v moves seq
      → last_of v part ≡ Some (record { 0 = set }, action) → some_move (is_move set (Some action)) moves ≡ true
  prefix_takes set action part _ itself [] k e = absurd (none_at_zero v part (record { 0 = set }, action) k e)
  prefix_takes set action part _ itself (move ∷ moves) k e =
      let same = same_move v part move (record { 0 = set }, action) k.0 e in
      let at : move.0.0 ≡ set = ap (λ (x : SetId × ℕ). x.0.0) same in
      let by : move.1 ≡ action = ap (λ (x : SetId × ℕ). x.1) same in
      or_left _ (some_move (is_move set (Some action)) moves)
      (and_from (nat_eq move.0.0 set) (nat_eq move.1 action) (eq-eqb move.0.0 set at) (eq-eqb move.1 action by))
  prefix_takes set action part _ (longer seq own taken f o rest) [] k e = absurd (none_at_zero v seq taken k f)
  prefix_takes set action part _ (longer seq own taken f o rest) (move ∷ moves) k e =
      let same = same_move v seq taken move f k.0 in
      let here : IsOwn v taken.0.0 k.1 = rw same k.2 in
      let before : own ≡ k.1 = own_once v taken.0.0 own k.1 o here in
      or_right (is_move set (Some action) move) (some_move (is_move set (Some action)) moves)
      (prefix_takes set action part own rest moves (rw before k.3) e)

  takes_prefix : (set action part : ℕ) (moves : Moves) (seq : ℕ) → IsNumberOf v moves seq
      → last_of v part ≡ Some (record { 0 = set }, action) → some_move (is_move set (Some action)) moves ≡ true → IsPrefix v part seq
  takes_prefix set action part [] seq k e h = absurd (cc)
  takes_prefix set action part (move ∷ moves) seq k e h = elim (cases_Bool (is_move set (Some action) move)) [
    | inl here ↦
        let both = and_parts (nat_eq move.0.0 set) (nat_eq move.1 action) here in
        let same = move_of set action move (eqb-true move.0.0 set both.0) (eqb-true move.1 action both.1) in
        let one = one_ends move part seq (rw same e) k.0 in
        rw one itself
    | inr away ↦ longer seq k.1 move k.0 k.2 (takes_prefix set action part moves k.1 k.3 e (rw away at h))
  ]

  -- it begins with the sequence that ends with a move exactly where it has that move
  pub begins_by_moves : (set action part : ℕ) (moves : Moves) (seq : ℕ) → IsNumberOf v moves seq
      → last_of v part ≡ Some (record { 0 = set }, action)
      → IsPrefix v part seq ↔ (some_move (is_move set (Some action)) moves ≡ true)
  begins_by_moves set action part moves seq k e =
      (λ h. prefix_takes set action part seq h moves k e, takes_prefix set action part moves seq k e)

  plays_names : (plan : List (Option ℕ)) (moves : Moves) (seq : ℕ) → IsNumberOf v moves seq → Plays v plan seq
      → names_all plan moves ≡ true
  plays_names plan [] seq k h = refl
  plays_names plan (move ∷ moves) seq k h =
      let named = plays-named v plan seq h move k.0 in
      let here : names move.1 (slice_get plan move.0.0) ≡ true = rw named (eq-eqb move.1 move.1 refl) in
      and_from (names move.1 (slice_get plan move.0.0)) (names_all plan moves) here
      (plays_names plan moves k.1 k.3 (plays-back v plan seq h move k.1 k.0 k.2))

  names_plays : (plan : List (Option ℕ)) (moves : Moves) (seq : ℕ) → IsNumberOf v moves seq → names_all plan moves ≡ true
      → Plays v plan seq
  names_plays plan [] seq k h = rw k nothing
  names_plays plan (move ∷ moves) seq k h =
      let both = and_parts (names move.1 (slice_get plan move.0.0)) (names_all plan moves) h in
      plays-on v plan seq move k.1 k.0 k.2 (names_is move.1 (slice_get plan move.0.0) both.0) (names_plays plan moves k.1 k.3 both.1)

  -- a plan plays it exactly where it names each move
  pub plays_by_moves : (plan : List (Option ℕ)) (moves : Moves) (seq : ℕ) → IsNumberOf v moves seq
      → Plays v plan seq ↔ (names_all plan moves ≡ true)
  plays_by_moves plan moves seq k = (plays_names plan moves seq k, names_plays plan moves seq k)

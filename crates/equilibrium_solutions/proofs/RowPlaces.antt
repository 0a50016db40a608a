-- The rows of a block by own moves: no two actions share a row, the row at the latest move is that of one action exactly where the moves
-- end with it, and there is none exactly where the latest move is given.
use Rattle.std.proofs.Common.{◌≡◌, ℕ, zero, suc, ◌+◌, ◌<◌, ◌≤◌, Bool, true, false, ◌&&◌, cond, nat_eq, List, [], ◌∷◌, Option, Some, None}
use Rattle.std.proofs.Common.{length, slice_get, refl, sym, ap, subst, inl, inr, arith}
use Rattle.std.specs.Prelude.{Decides, unwrap_or}
use Rattle.std.proofs.lemmas.Bool.{cases_lt}
use Rattle.std.proofs.lemmas.Bool.Decides.{Decides-and, Decides-eqb, Decides-like}
use Rattle.std.proofs.lemmas.Option.{slice_get_within}
use Rattle.corr_game.specs.declared.nodes.SetId.{SetId}
use Rattle.corr_game.specs.declared.nodes.SetInfo.{SetInfo}
use Rattle.corr_game.specs.declared.sides.Side.{Side}
use Rattle.corr_game.specs.Game.{GameView, sets_of}
use Rattle.tree_recall.specs.OwnSequence.{latest}
use Rattle.sequences.specs.Number.{last_of, side_of}
use Rattle.sequences.proofs.Adding.{within}
use Rattle.connected_pairs.specs.Connected.{PairsView, IsPairs, IsPairsOf}
use Rattle.incentive_rows.specs.declared.places.SetPlace.{SetPlace}
use Rattle.incentive_rows.specs.Coefficient.{row_at_move, row_from, row_left}
use Rattle.incentive_rows.specs.Places.{ArePlaces}
use Rattle.incentive_rows.specs.Size.{CountsFor, row_each}
use Rattle.incentive_rows.specs.Trigger.{HasSet}
use Rattle.incentive_rows.proofs.Counts.{counts_one}
use Rattle.incentive_rows.proofs.Sums.{sum_one, sum_room}
use Rattle.equilibrium_solutions.specs.Decision.{ends_with, is_given}
use Rattle.equilibrium_solutions.specs.Departure.{before_play}

-- a last move is none, or one of a set's actions
abbrev pub LastIn : Side → GameView → Option (SetId × ℕ) → Type 0
LastIn side g None = Unit {0}
LastIn side g (Some move) = (info : SetInfo) × (slice_get (sets_of side g) move.0.0 ≡ Some info) × (move.1 < info.actions)

pub last_in : (side : Side) (g : GameView) (p : PairsView) → IsPairs p → IsPairsOf g p → (seq : ℕ)
    → LastIn side g (last_of (side_of side p.seqs) seq)
last_in side g p rules whose zero = tt
last_in side g p rules whose (suc k) = by (slice_get (side_of side p.seqs).lasts k) refl
  where
    by : (last : Option (SetId × ℕ)) → slice_get (side_of side p.seqs).lasts k ≡ last → LastIn side g last
    by None e = tt
    by (Some move) e =
        let at = (rules.sides side).numbered.each_last k move e in
        let low = slice_get_within (side_of side p.seqs).places move.0.0 at.0 at.1 in
        let info = within (sets_of side g) move.0.0 (omega (arith, low, (whose.sides side).per_set)) in
        (info.0, info.1, omega (arith, at.2, (whose.sides side).same_actions move.0.0 at.0 info.0 at.1 info.1))

-- ---- rows of different sets

module _ (g : GameView) (p : PairsView) (side : Side) (top : Option SetId) (sets : List (Option SetPlace)) (values rows : ℕ)
    (placed : ArePlaces g p side top (length (sets_of side g)) sets values rows) where
  rows_before : (one two : ℕ) (a b : SetPlace) (info : SetInfo) → one < two → slice_get sets one ≡ Some (Some a)
      → slice_get sets two ≡ Some (Some b) → slice_get (sets_of side g) one ≡ Some info → a.row + info.actions ≤ b.row
  rows_before one two a b info low e f known =
      let first = placed.each one a e in
      let second = placed.each two b f in
      let Term : ℕ → ℕ → Type 0 = CountsFor row_each g p side top in
      let room = sum_room Term two b.row one second.2 low in
      let part = sum_one Term (counts_one row_each g p side top) one room.0 a.row room.2 first.2 in
      let infos : room.3.0 ≡ info = cc (room.3.1, known) in
      let actions = ap (λ (i : SetInfo). i.actions) infos in
      elim room.3.2 [
        | inl counted ↦ omega (arith, part, room.4, counted.1, actions)
        | inr apart ↦ absurd (apart.0 first.0)
      ]

  pub one_set : (one two r : ℕ) (a b : SetPlace) (i j : SetInfo) → slice_get sets one ≡ Some (Some a) → slice_get sets two ≡ Some (Some b)
      → slice_get (sets_of side g) one ≡ Some i → slice_get (sets_of side g) two ≡ Some j
      → a.row ≤ r → r < a.row + i.actions → b.row ≤ r → r < b.row + j.actions → one ≡ two
  one_set one two r a b i j e f known other above below from to = elim (cases_lt one two) [
    | inl low ↦ absurd (omega (arith, rows_before one two a b i low e f known))
    | inr high ↦ elim (cases_lt two one) [
      | inl low ↦ absurd (omega (arith, rows_before two one b a j low f e other))
      | inr same ↦ omega arith
    ]
  ]

  -- the row at the latest move is one of the rows of actions
  pub row_low : (last : Option (SetId × ℕ)) → LastIn side g last → (q : ℕ) → row_at_move sets last ≡ Some q → q < rows
  row_low None known q e = absurd (cc)
  row_low (Some move) known q e = by (slice_get sets move.0.0) refl e
    where
      by : (found : Option (Option SetPlace)) → slice_get sets move.0.0 ≡ found → row_from found move.1 ≡ Some q → q < rows
      by None at e = absurd (cc)
      by (Some None) at e = absurd (cc)
      by (Some (Some place)) at e =
          let here : place.row + move.1 ≡ q = cc in
          omega (arith, (placed.within move.0.0 place known.0 at known.1).1, known.2, here)

  module _ (set action : ℕ) (place : SetPlace) (info : SetInfo) (at : slice_get sets set ≡ Some (Some place))
      (known : slice_get (sets_of side g) set ≡ Some info) (low : action < info.actions) where
    pub row_inside : place.row + action < rows
    row_inside = omega (arith, (placed.within set place info at known).1, low)

    same_row : (move : SetId × ℕ) → LastIn side g (Some move) → (found : Option (Option SetPlace)) → slice_get sets move.0.0 ≡ found
        → row_from found move.1 ≡ Some (place.row + action) → (move.0.0 ≡ set) × (move.1 ≡ action)
    same_row move last None there e = absurd (cc)
    same_row move last (Some None) there e = absurd (cc)
    same_row move last (Some (Some found)) there e =
        let rows_same : found.row + move.1 ≡ place.row + action = cc in
        let sets_same = one_set move.0.0 set (place.row + action) found place last.0 info there at last.1 known
        (omega (arith, rows_same)) (omega (arith, rows_same, last.2)) (omega arith) (omega (arith, low)) in
        let Found : ℕ → Type 0 = λ n. slice_get sets n ≡ Some (Some found) in
        let here : slice_get sets set ≡ Some (Some found) = subst Found sets_same there in
        let places : found ≡ place = cc (here, at) in
        (sets_same, omega (arith, rows_same, ap (λ (q : SetPlace). q.row) places))

    row_there : (move : SetId × ℕ) → (move.0.0 ≡ set) × (move.1 ≡ action)
        → row_from (slice_get sets move.0.0) move.1 ≡ Some (place.row + action)
    row_there move same = rw (same.0, same.1, at) refl

    -- moves end with an action exactly where the row at the latest is its own
    pub at_action : (moves : List (SetId × ℕ)) → LastIn side g (latest moves)
        → Decides (ends_with set action moves) (row_at_move sets (latest moves) ≡ Some (place.row + action))
    at_action [] last = (λ e. absurd (cc), λ e. absurd (cc))
    at_action (move ∷ before) last =
        Decides-like (nat_eq move.0.0 set && nat_eq move.1 action) (row_there move) (same_row move last (slice_get sets move.0.0) refl)
        (Decides-and (nat_eq move.0.0 set) (nat_eq move.1 action) (Decides-eqb move.0.0 set) (Decides-eqb move.1 action))

  -- there is no row at the latest move exactly where that is given
  module _ (inside : ℕ → Bool)
      (has : (set : ℕ) → set < length (sets_of side g) → Decides (inside set) (HasSet (side_of side p.seqs) top set)) where
    pub at_none : (moves : List (SetId × ℕ)) → LastIn side g (latest moves)
        → Decides (is_given inside moves) (row_at_move sets (latest moves) ≡ None)
    at_none [] last = (λ e. refl, λ e. refl)
    at_none (move ∷ before) last = by (slice_get sets move.0.0) refl (inside move.0.0) refl
      where
        low : move.0.0 < length (sets_of side g)
        low = slice_get_within (sets_of side g) move.0.0 last.0 last.1

        by : (found : Option (Option SetPlace)) → slice_get sets move.0.0 ≡ found → (test : Bool) → inside move.0.0 ≡ test
            → Decides (cond test false true) (row_from found move.1 ≡ None)
        by None there test e = absurd (let here = within sets move.0.0 (omega (arith, placed.per_set, low)) in cc (there, here.1))
        by (Some None) there true e = absurd (placed.others move.0.0 there ((has move.0.0 low).0 e))
        by (Some None) there false e = (λ t. refl, λ t. refl)
        by (Some (Some place)) there true e = (λ t. absurd (cc), λ t. absurd (cc))
        by (Some (Some place)) there false e =
            let yes = (has move.0.0 low).1 (placed.each move.0.0 place there).0 in
            absurd (cc (yes, e))

-- ---- a row by the row at the latest move, in the rows of actions and in the last row

pub own_row : (test : Bool) (row : Option ℕ) (r follow : ℕ) → r < follow → Decides test (row ≡ Some r)
    → Decides test (r ≡ unwrap_or row follow)
own_row test None r follow low d = (λ t. absurd (cc (d.0 t)), λ e. absurd (omega arith))
own_row test (Some q) r follow low d = (λ t. let same : q ≡ r = cc (d.0 t) in sym same, λ e. d.1 (ap (λ (n : ℕ). Some n) (sym e)))

pub left_row : (top : Option SetId) (test : Bool) (row : Option ℕ) (r follow : ℕ) → r < follow → Decides test (row ≡ Some r)
    → Decides test (row_left top follow row ≡ Some r)
left_row None test None r follow low d = (λ t. absurd (cc (d.0 t)), λ e. absurd (let same : follow ≡ r = cc in omega (arith, same)))
left_row (Some set) test None r follow low d = (λ t. absurd (cc (d.0 t)), λ e. absurd (cc))
left_row top test (Some q) r follow low d = d

pub own_last : (test : Bool) (row : Option ℕ) (follow : ℕ) → ((q : ℕ) → row ≡ Some q → q < follow) → Decides test (row ≡ None)
    → Decides test (follow ≡ unwrap_or row follow)
own_last test None follow low d = (λ t. refl, λ e. d.1 refl)
own_last test (Some q) follow low d = (λ t. absurd (cc (d.0 t)), λ e. absurd (omega (arith, low q refl)))

pub left_last : (top : Option SetId) (test : Bool) (row : Option ℕ) (follow : ℕ) → ((q : ℕ) → row ≡ Some q → q < follow)
    → Decides test (row ≡ None) → Decides (before_play top && test) (row_left top follow row ≡ Some follow)
left_last None test None follow low d = (λ t. refl, λ e. d.1 refl)
left_last (Some set) test None follow low d = (λ t. absurd (cc), λ e. absurd (cc))
left_last None test (Some q) follow low d =
    (λ t. absurd (cc (d.0 t)), λ e. absurd (let same : q ≡ follow = cc in omega (arith, low q refl, same)))
left_last (Some set) test (Some q) follow low d =
    (λ t. absurd (cc), λ e. absurd (let same : q ≡ follow = cc in omega (arith, low q refl, same)))

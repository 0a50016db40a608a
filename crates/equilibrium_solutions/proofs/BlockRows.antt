-- The numbers of a solution, column by column, and what a row of a trigger's block leaves for its slack: where values are worth no more
-- than following, it is 0 or more.
use Rattle.std.proofs.Common.{◌≡◌, ◌↔◌, inl, inr, ℕ, ◌+◌, ◌<◌, ◌≤◌, Option, Some, None, length, slice_get, true}
use Rattle.std.proofs.Common.{ℤ, pos, ◌+ℤ◌, ◌-ℤ◌, ◌*ℤ◌, ◌≤ℤ◌, ap, subst, ◌∙◌, arith}
use Rattle.std.proofs.lemmas.Bool.{cases_lt}
use Rattle.std.proofs.lemmas.Int.{ints}
use Rattle.exact_algebra.specs.Sums.{sum_to}
use Rattle.corr_game.specs.declared.nodes.SetInfo.{SetInfo}
use Rattle.corr_game.specs.declared.notions.Notion.{Notion}
use Rattle.corr_game.specs.declared.sides.Side.{Side}
use Rattle.corr_game.specs.Game.{GameView, sets_of}
use Rattle.sequences.proofs.Adding.{within}
use Rattle.sequences.specs.Number.{side_of}
use Rattle.lp_form.specs.Program.{LpView, coefficient}
use Rattle.connected_pairs.specs.Connected.{IsPairs, PairsView}
use Rattle.incentive_rows.proofs.Counts.{counts_one}
use Rattle.incentive_rows.proofs.Sums.{sum_one}
use Rattle.incentive_rows.specs.declared.places.SetPlace.{SetPlace}
use Rattle.incentive_rows.specs.declared.triggers.Trigger.{Trigger}
use Rattle.incentive_rows.specs.Size.{CountsFor, row_each}
use Rattle.incentive_rows.specs.Standing.{HasRowsOf}
use Rattle.incentive_rows.specs.Sum.{IsWhere}
use Rattle.incentive_rows.specs.Trigger.{HasSet}
use Rattle.equilibrium_solutions.proofs.Agreement.{after_same, followed_same, start_same}
use Rattle.equilibrium_solutions.proofs.Spreading.{behind, in_sum}
use Rattle.equilibrium_solutions.proofs.ValueColumns.{HasColumns}
use Rattle.equilibrium_solutions.specs.Decision.{after, at_start}
use Rattle.equilibrium_solutions.specs.Departure.{OwnSequences, actions_there, departure, followed, is_of}

-- ---- the numbers

-- those of the pairs, lifted values behind them, then the floor, then the slacks
pub record AreNumbers (pairs values : ℕ) (x f : ℕ → ℤ) (lift : ℤ) (slacks y : ℕ → ℤ) : Type 0 where
  pub at_pairs : (k : ℕ) → k < pairs → y k ≡ x k
  pub at_values : (k : ℕ) → k < values → y (pairs + k) ≡ f k +ℤ lift
  pub at_floor : y (pairs + values) ≡ lift
  pub at_slacks : (k : ℕ) → y (pairs + values + 1 + k) ≡ slacks k

pub numbers : (pairs values : ℕ) (x f : ℕ → ℤ) (lift : ℤ) (slacks : ℕ → ℤ) → (y : ℕ → ℤ) × AreNumbers pairs values x f lift slacks y
numbers pairs values x f lift slacks =
    let last = behind 1 (λ k. lift) slacks in
    let rest = behind values (λ k. f k +ℤ lift) last.0 in
    let all = behind pairs x rest.0 in (
      all.0,
      record {
        at_pairs = all.1.front;
        at_values = λ k low. all.1.back k ∙ rest.1.front k low;
        at_floor =
            let place : pairs + values ≡ pairs + (values + 0) = omega arith in
            ap all.0 place ∙ all.1.back (values + 0) ∙ rest.1.back 0 ∙ last.1.front 0 (omega arith);
        at_slacks = λ k.
            let place : pairs + values + 1 + k ≡ pairs + (values + (1 + k)) = omega arith in
            ap all.0 place ∙ all.1.back (values + (1 + k)) ∙ rest.1.back (1 + k) ∙ last.1.back k;
      },
    )

-- ---- what the rows of a block say of any numbers

pub record RowsSay (g : GameView) (p : PairsView) (trigger : Trigger) (own : OwnSequences trigger.side g) (first values floor cols : ℕ)
    (more : LpView) (block : HasRowsOf g p trigger first values floor cols more) (y : ℕ → ℤ) : Type 0 where
  pub value : ℕ → ℤ
  pub stands : (set : ℕ) (place : SetPlace) → slice_get block.sets set ≡ Some (Some place)
      → value set ≡ y (length p.pairs + values + place.value) -ℤ y floor
  pub row_of_action : (set action : ℕ) (place : SetPlace) (info : SetInfo) → slice_get block.sets set ≡ Some (Some place)
      → slice_get (sets_of trigger.side g) set ≡ Some info → action < info.actions
      → sum_to cols (λ k. coefficient more (first + (place.row + action)) k *ℤ y k)
      ≡ value set -ℤ after (departure g p trigger own y) value set action -ℤ y (floor + 1 + first + (place.row + action))
  pub row_of_following : sum_to cols (λ k. coefficient more (first + block.row_count) k *ℤ y k)
      ≡ followed g p trigger own y -ℤ at_start (departure g p trigger own y) value -ℤ y (floor + 1 + first + block.row_count)

-- ---- a row of a block

-- what a row leaves for its slack, however the slacks stand
pub record Leaves (pairs values cols : ℕ) (more : LpView) (x f : ℕ → ℤ) (lift : ℤ) (row : ℕ) (left : ℤ) : Type 0 where
  pub not_negative : pos 0 ≤ℤ left
  pub each : (slacks y : ℕ → ℤ) → AreNumbers pairs values x f lift slacks y
      → sum_to cols (λ k. coefficient more row k *ℤ y k) ≡ left -ℤ slacks row

not_below : (a b : ℤ) → b ≤ℤ a → pos 0 ≤ℤ (a -ℤ b)
not_below a b h = omega (arith, ints, h)

-- a sum's term that holds a number isn't 0
counted : {Holds : Type 0} (full value offset : ℕ) → offset < value → IsWhere Holds full value → Holds × (value ≡ full)
counted full value offset low (inl is) = is
counted full value offset low (inr other) = absurd (omega (arith, low, other.1))

lifted : (a b v lift : ℤ) → a ≡ v +ℤ lift → b ≡ lift → a -ℤ b ≡ v
lifted a b v lift e f = omega (arith, ints, e, f)

less_slack : (s u a b t v : ℤ) → s ≡ u -ℤ a -ℤ t → u ≡ b → a ≡ v → s ≡ b -ℤ v -ℤ t
less_slack s u a b t v e f h = omega (arith, ints, e, f, h)

module _ (notion : Notion) (g : GameView) (p : PairsView) (rules : IsPairs p) (own : (side : Side) → OwnSequences side g) (x : ℕ → ℤ)
    (side : Side) (values cols : ℕ) (more : LpView) (f : ℕ → ℤ) (lift : ℤ) (trigger : Trigger) (first at : ℕ)
    (block : HasRowsOf g p trigger first (0 + at) (length p.pairs + values) cols more) (room : at + block.value_count ≤ values)
    (columns : HasColumns g p own x trigger at f)
    (known : (set : ℕ) → set < length (sets_of trigger.side g)
    → HasSet (side_of trigger.side p.seqs) trigger.set set ↔ (is_of trigger.side g trigger.set set ≡ true))
    (says : (y : ℕ → ℤ) → RowsSay g p trigger (own trigger.side) first (0 + at) (length p.pairs + values) cols more block y) where
  abbrev Here : (ℕ → ℤ) → (ℕ → ℤ) → Type 0
  Here slacks y = AreNumbers (length p.pairs) values x f lift slacks y

  -- a set of the trigger has a place
  placed : (set : ℕ) → set < length (sets_of trigger.side g) → HasSet (side_of trigger.side p.seqs) trigger.set set
      → (place : SetPlace) × (slice_get block.sets set ≡ Some (Some place))
  placed set low has = (let found = within block.sets set (omega (arith, low, block.placed.per_set)) in by found.0 found.1)
    where
      by : (entry : Option SetPlace) → slice_get block.sets set ≡ Some entry
          → (place : SetPlace) × (slice_get block.sets set ≡ Some (Some place))
      by None e = absurd (block.placed.others set e has)
      by (Some place) e = (place, e)

  -- the value that the rows read is the one that was put there
  same_value : (slacks y : ℕ → ℤ) → Here slacks y → (set : ℕ) → set < length (sets_of trigger.side g)
      → is_of trigger.side g trigger.set set ≡ true → (says y).value set ≡ columns.value set
  same_value slacks y here set low inside =
      let has = (known set low).1 inside in
      let found = placed set low has in
      let place = found.0 in
      let info = within (sets_of trigger.side g) set low in
      let fits = block.placed.within set place info.0 found.1 info.1 in
      let stands = block.placed.each set place found.1 in
      let column : length p.pairs + (0 + at) + place.value ≡ length p.pairs + (at + place.value) = omega arith in
      let read = ap y column ∙ here.at_values (at + place.value) (omega (arith, fits.0, room)) in
      let put = columns.each set place.value low has stands.1 in
      (says y).stands set place found.1 ∙ lifted _ _ (f (at + place.value)) lift read here.at_floor ∙ put

  slack_at : (slacks y : ℕ → ℤ) → Here slacks y → (r : ℕ) → y (length p.pairs + values + 1 + first + r) ≡ slacks (first + r)
  slack_at slacks y here r =
      let place : length p.pairs + values + 1 + first + r ≡ length p.pairs + values + 1 + (first + r) = omega arith in
      ap y place ∙ here.at_slacks (first + r)

  following_leaves : (left : ℤ) × Leaves (length p.pairs) values cols more x f lift (first + block.row_count) left
  following_leaves =
      let left = followed g p trigger (own trigger.side) x -ℤ at_start (departure g p trigger (own trigger.side) x) columns.value in (
        left,
        record {
          not_negative = not_below _ _ columns.worth;
          each = λ slacks y here.
              let say = says y in
              less_slack _ _ _ _ _ _ say.row_of_following (followed_same g p rules x y here.at_pairs trigger (own trigger.side))
              (start_same g p rules x y here.at_pairs trigger (own trigger.side) say.value columns.value (same_value slacks y here))
              ∙ ap (λ (t : ℤ). left -ℤ t) (slack_at slacks y here block.row_count);
        },
      )

  action_leaves : (r : ℕ) → r < block.row_count → (left : ℤ) × Leaves (length p.pairs) values cols more x f lift (first + r) left
  action_leaves r low =
      let term = CountsFor row_each g p trigger.side trigger.set in
      let found = in_sum term (length (sets_of trigger.side g)) block.row_count r block.placed.all_rows low in
      let set = found.at in
      let info = found.here.0 in
      let of_set = counted (row_each info) found.size found.offset found.inside found.here.2 in
      let entry = placed set found.low of_set.0 in
      let place = entry.0 in
      let stands = block.placed.each set place entry.1 in
      let row = sum_one term (counts_one row_each g p trigger.side trigger.set) set place.row found.before stands.2 found.sum in
      let action = found.offset in
      let same : place.row + action ≡ r = omega (arith, row, found.stands) in
      let inside = (known set found.low).0 of_set.0 in
      let less : action < info.actions = omega (arith, found.inside, of_set.1) in
      let in_range : action < actions_there (slice_get (sets_of trigger.side g) set) = rw found.here.1 less in
      let left =
      columns.value set -ℤ after (departure g p trigger (own trigger.side) x) columns.value set action in (
        left,
        record {
          not_negative = not_below _ _ (columns.are_values.each set action found.low inside in_range);
          each = λ slacks y here.
              let say = says y in
              let product = less_slack _ _ _ _ _ _ (say.row_of_action set action place info entry.1 found.here.1 less)
              (same_value slacks y here set found.low inside)
              (after_same g p rules x y here.at_pairs trigger (own trigger.side) say.value columns.value (same_value slacks y here) set
              action) in
              let whole = product ∙ ap (λ (t : ℤ). left -ℤ t) (slack_at slacks y here (place.row + action)) in
              let Says : ℕ → Type 0 =
              λ n. sum_to cols (λ k. coefficient more (first + n) k *ℤ y k) ≡ left -ℤ slacks (first + n) in
              subst Says same whole;
        },
      )

  pub block_leaves : (r : ℕ) → r ≤ block.row_count → (left : ℤ) × Leaves (length p.pairs) values cols more x f lift (first + r) left
  block_leaves r low = elim (cases_lt r block.row_count) [
    | inl less ↦ action_leaves r less
    | inr last ↦
        let same : block.row_count ≡ r = omega (arith, low, last) in
        subst (λ (n : ℕ). (left : ℤ) × Leaves (length p.pairs) values cols more x f lift (first + n) left) same following_leaves
  ]

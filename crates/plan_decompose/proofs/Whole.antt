-- For values that meet the rows: what is left meets them too, and a turn finds an entry.
use Rattle.std.proofs.Common.{◌≡◌, ℕ, ◌+◌, ◌*◌, ◌<◌, ◌≤◌, zero, suc, true, ℤ, pos, ◌≤ℤ◌, List, [], ◌∷◌, Option, Some, None, length, All, slice_get, slice_index_or, refl, sym, ap, inl, inr, arith}
use Rattle.std.proofs.lemmas.Bool.{cases_lt}
use Rattle.std.proofs.lemmas.Int.{ints}
use Rattle.std.proofs.lemmas.List.Elements.{All-from_get_or}
use Rattle.std.proofs.lemmas.Option.{slice_get_within, get_or_from_slice_get}
use Rattle.exact_algebra.specs.Sums.{sum_to}
use Rattle.corr_game.specs.declared.nodes.SetId.{SetId}
use Rattle.corr_game.specs.declared.sides.Side.{Side}
use Rattle.corr_game.specs.declared.sides.Side.TheVariants.{One, Two}
use Rattle.corr_game.specs.Game.{GameView, sets_of}
use Rattle.corr_game.specs.Plan.{IsPlan}
use Rattle.sequences.specs.declared.places.Place.{Place}
use Rattle.sequences.specs.Number.{SideView, IsSideOf, nothing, last_of, count_of, side_of}
use Rattle.sequences.proofs.Adding.{within}
use Rattle.connected_pairs.specs.Connected.{PairsView, IsPairs, IsPairsOf, are_connected, index_of, is_related, other, IsTouched}
use Rattle.plan_decompose.specs.Entry.{AreTakenOff, IsLeast, NonePlayed, PlayBoth}
use Rattle.plan_decompose.specs.Reduced.{IsReduced}
use Rattle.plan_decompose.specs.Solution.{ArePositive, MeetsRows, positives, value_at, value_of}
use Rattle.plan_decompose.proofs.Going.{near_one, near_two, setting_one, setting_two}
use Rattle.plan_decompose.proofs.Rest.{Loses, index_is, rows_kept}
use Rattle.plan_decompose.proofs.Turns.{at_most_total, positives_fall, zero_or_more}

pub past : (values : List ℤ) (k : ℕ) → length values ≤ k → slice_index_or values k (pos 0) ≡ pos 0
past [] k h = refl
past (z ∷ zs) zero h = absurd (omega arith)
past (z ∷ zs) (suc k) h = past zs k (omega arith)

-- an action that a plan of the game names is one of the place's
named_in : (side : Side) (g : GameView) (v : SideView) (plan : List (Option ℕ)) → IsSideOf side g v → IsPlan side g plan → (set action : ℕ) (place : Place) → slice_get v.places set ≡ Some place → slice_get plan set ≡ Some (Some action) → action < place.actions
named_in side g v plan of p set action place at named =
    let info = within (sets_of side g) set (omega (arith, slice_get_within v.places set place at, of.per_set)) in
    omega (arith, p.in_range set action info.0 named info.1, of.same_actions set place info.0 at info.1)

loses_one : (p : PairsView) → IsPairs p → (old new : List ℤ) (one two : List (Option ℕ)) (weight : ℤ) → AreTakenOff p one two weight old new
    → Loses p.seqs.one p.seqs.two (λ i k. are_connected p i k) (λ x y. value_of p old One x y) (λ x y. value_of p new One x y) one two weight
loses_one p rules old new one two weight off x y low_x low_y relevant =
    let at = index_is p rules x y low_x low_y relevant in
    rw at.1 (elim (off at.0 (x, y) at.2) [
      | inl lost ↦ inl (lost.0, lost.1)
      | inr kept ↦ inr (λ a b. kept.0 (a, b), kept.1)
    ])

loses_two : (p : PairsView) → IsPairs p → (old new : List ℤ) (one two : List (Option ℕ)) (weight : ℤ) → AreTakenOff p one two weight old new
    → Loses p.seqs.two p.seqs.one (λ k i. are_connected p i k) (λ y x. value_of p old Two y x) (λ y x. value_of p new Two y x) two one weight
loses_two p rules old new one two weight off y x low_y low_x relevant =
    elim (loses_one p rules old new one two weight off x y low_x low_y (λ a b e f. relevant b a f e)) [
      | inl lost ↦ inl ((lost.0.1, lost.0.0), lost.1)
      | inr kept ↦ inr (λ b a. kept.0 a b, kept.1)
    ]

-- what is left meets the rows
pub rows_left : (g : GameView) (p : PairsView) → IsPairsOf g p → IsPairs p → (old new : List ℤ) (one two : List (Option ℕ)) (weight : ℤ) → MeetsRows p old → AreTakenOff p one two weight old new
    → length new ≡ length p.pairs → IsPlan One g one → IsPlan Two g two → IsReduced p.seqs.one one → IsReduced p.seqs.two two
    → ((k : ℕ) (pair : ℕ × ℕ) → slice_get p.pairs k ≡ Some pair → PlayBoth p.seqs one two pair → weight ≤ℤ slice_index_or old k (pos 0)) → MeetsRows p new
rows_left g p of rules old new one two weight met off count plan_one plan_two reduced_one reduced_two least =
    let first = setting_one p old of rules met in
    let second = setting_two p old of rules met in
    let kept_one = rows_kept p.seqs.one p.seqs.two (λ i k. are_connected p i k) (λ x y. value_of p old One x y) (λ x y. value_of p new One x y) one two weight (rules.sides One) (rules.sides Two) first.closed_v first.rows_v
    (loses_one p rules old new one two weight off) reduced_one (named_in One g p.seqs.one one (of.sides One) plan_one) in
    let kept_two = rows_kept p.seqs.two p.seqs.one (λ k i. are_connected p i k) (λ y x. value_of p old Two y x) (λ y x. value_of p new Two y x) two one weight (rules.sides Two) (rules.sides One) second.closed_v second.rows_v
    (loses_two p rules old new one two weight off) reduced_two (named_in Two g p.seqs.two two (of.sides Two) plan_two) in
    record {
      row = λ side. elim side as (λ q. (set : ℕ) (place : Place) (beside : ℕ) → slice_get (side_of q p.seqs).places set ≡ Some place → beside < count_of (side_of (other q) p.seqs) → IsTouched p (other q) set (last_of (side_of (other q) p.seqs) beside)
          → sum_to place.actions (λ a. value_of p new q (place.first + a) beside) ≡ value_of p new q place.own beside) [
            | One ↦ λ set place y at low touched. kept_one.row set place y at low (near_two p set (last_of p.seqs.two y) touched)
            | Two ↦ λ set place x at low touched. kept_two.row set place x at low (near_one p set (last_of p.seqs.one x) touched)
          ];
      not_negative = λ k. elim (cases_lt k (length new)) [
        | inl low ↦
            let pair = within p.pairs k (omega arith) in
            let before = met.not_negative k in
            elim (off k pair.0 pair.1) [
              | inl lost ↦ omega (arith, ints, lost.1, least k pair.0 pair.1 lost.0)
              | inr kept ↦ rw kept.1 before
            ]
        | inr high ↦ rw (past new k high) (omega (arith, ints))
      ];
    }

related_at : (p : PairsView) (a b : Option (SetId × ℕ)) → is_related (length p.seqs.two.places) p.table a b ≡ true → (c d : SetId × ℕ) → a ≡ Some c → b ≡ Some d → are_connected p c.0.0 d.0.0 ≡ true
related_at p None b h c d e f = absurd (cc)
related_at p (Some a) None h c d e f = absurd (cc)
related_at p (Some a) (Some b) h c d e f = let one : a ≡ c = cc in let two : b ≡ d = cc in rw (← one, ← two) h

-- the value of a listed pair is that of its sequences
pub value_listed : (p : PairsView) → IsPairs p → (values : List ℤ) (k : ℕ) (pair : ℕ × ℕ) → slice_get p.pairs k ≡ Some pair → value_of p values One pair.0 pair.1 ≡ slice_index_or values k (pos 0)
value_listed p rules values k pair e =
    let at = rules.listed.each_index k pair e in
    let index : index_of p pair.0 pair.1 ≡ Some k = get_or_from_slice_get p.places (pair.0 * count_of p.seqs.two + pair.1) (Some k) None at in
    ap (value_at values) index

-- a turn finds a weight
pub weight_positive : (p : PairsView) → IsPairs p → (values : List ℤ) (one two : List (Option ℕ)) (place : ℕ) → IsLeast p one two values place
    → ArePositive p.seqs.one p.seqs.two (λ i k. are_connected p i k) (λ x y. value_of p values One x y) one two → pos 1 ≤ℤ slice_index_or values place (pos 0)
weight_positive p rules values one two place least positive =
    let pair = least.played.0 in
    let in_list = rules.listed.each_pair place pair least.played.1.0 in
    let both = least.played.1.1 in
    rw (sym (value_listed p rules values place pair least.played.1.0)) (positive pair.0 pair.1 both.0 both.1 (related_at p (last_of p.seqs.one pair.0) (last_of p.seqs.two pair.1) in_list.2))

pub some_played : (p : PairsView) → IsPairs p → (one two : List (Option ℕ)) → NonePlayed p one two → ⊥
some_played p rules one two none =
    let at = index_is p rules 0 0 (omega arith) (omega arith) (λ a b e f. absurd (cc)) in
    none at.0 (0, 0) at.2 (nothing, nothing)

-- each turn leaves fewer positive values
pub fewer_left : (p : PairsView) (old new : List ℤ) (one two : List (Option ℕ)) (place : ℕ) → AreTakenOff p one two (slice_index_or old place (pos 0)) old new → length old ≡ length p.pairs → length new ≡ length old → IsLeast p one two old place
    → pos 1 ≤ℤ slice_index_or old place (pos 0) → positives new + 1 ≤ positives old
fewer_left p old new one two place off count same least positive =
    let weight = slice_index_or old place (pos 0) in
    let lower = λ (k : ℕ) (low : k < length old). (
    let pair = within p.pairs k (omega arith) in
    let P : Type 0 = slice_index_or new k (pos 0) ≤ℤ slice_index_or old k (pos 0) in
    let answer : P = (elim (off k pair.0 pair.1) [
      | inl lost ↦ omega (arith, ints, lost.1, positive)
      | inr kept ↦ omega (arith, ints, kept.1)
    ]) in answer) in
    let gone : slice_index_or new place (pos 0) ≤ℤ pos 0 = (elim (off place least.played.0 least.played.1.0) [
      | inl lost ↦ omega (arith, ints, lost.1)
      | inr kept ↦ absurd (kept.0 least.played.1.1)
    ]) in
    positives_fall old new same lower place least.in_range positive gone

-- where some value is left, the total is
pub total_left : {g : GameView} (p : PairsView) → IsPairsOf g p → IsPairs p → (values : List ℤ) → MeetsRows p values → length values ≡ length p.pairs → (All (λ value. value ≡ pos 0) values → ⊥) → pos 1 ≤ℤ value_of p values One 0 0
total_left p of rules values rows count left =
    let setting = setting_one p values of rules rows in
    elim (zero_or_more (value_of p values One 0 0) (setting.not_negative 0 0)) [
      | inl none ↦ absurd (left (All-from_get_or (λ value. value ≡ pos 0) values (pos 0) (λ k low.
          let pair = within p.pairs k (omega arith) in
          let in_list = rules.listed.each_pair k pair.0 pair.1 in
          let most = at_most_total p.seqs.one p.seqs.two (λ i j. are_connected p i j) (λ x y. value_of p values One x y) setting pair.0.0 pair.0.1 in_list.0 in_list.1 (related_at p (last_of p.seqs.one pair.0.0) (last_of p.seqs.two pair.0.1) in_list.2) in
          omega (arith, ints, most, none, value_listed p rules values k pair.0 pair.1, rows.not_negative k))))
      | inr some ↦ some
    ]

-- No number is above the total: without its last move a sequence has no less beside the same sequence, as long as that is
-- empty or touched; so going back along player 1's sequence and then along player 2's leads up to the pair of empty ones.
-- On the way a pair may be missing, whose number counts as 0.
use Rattle.std.proofs.Common.{◌≡◌, ℕ, zero, suc, ◌+◌, ◌*◌, ◌<◌, true, ℤ, pos, ◌≤ℤ◌, Option, Some, None, slice_get, length, refl, sym, ap, subst, arith}
use Rattle.std.proofs.lemmas.Int.{ints}
use Rattle.std.proofs.lemmas.Option.{get_or_from_slice_get}
use Rattle.exact_algebra.proofs.SumOrder.{term_at_most}
use Rattle.corr_game.specs.declared.nodes.SetId.{SetId}
use Rattle.corr_game.specs.declared.sides.Side.{Side}
use Rattle.corr_game.specs.declared.sides.Side.TheVariants.{One, Two}
use Rattle.sequences.specs.declared.places.Place.{Place}
use Rattle.sequences.specs.Number.{SideView, IsSide, count_of, last_of, side_of}
use Rattle.sequences.proofs.Adding.{within}
use Rattle.sequences.proofs.Holding.{none-empty}
use Rattle.connected_pairs.specs.Connected.{PairsView, IsPairs, IsTouched, index_of, is_relevant, other}
use Rattle.plan_polytope.specs.CorrelationRow.{column_of}
use Rattle.plan_polytope.proofs.Columns.{pair_at}
use Rattle.plan_polytope.proofs.Equations.{HasRow, MeetsEquations, number_at}
use Rattle.plan_polytope.proofs.Units.{at}

-- a move's number is at most that of the own sequence of its set
move_at_most : (p : PairsView) (total : ℤ) (x : ℕ → ℤ) → MeetsEquations p total x
    → (side : Side) (set : ℕ) (place : Place) (action beside : ℕ) → HasRow p side set place beside → action < place.actions
    → number_at p x side (place.first + action) beside ≤ℤ number_at p x side place.own beside
move_at_most p total x m side set place action beside has low =
    let row = m.row side set place beside has in
    let move = λ (a : ℕ). number_at p x side (place.first + a) beside in
    let term = term_at_most place.actions action move low (λ a h. m.not_negative side (place.first + a) beside) in
    omega (arith, ints, row, term)

-- a sequence that isn't empty is a move at some place, behind the own sequence of its set
pub record IsMove (v : SideView) (seq : ℕ) : Type 0 where
  pub move : SetId × ℕ
  pub place : Place
  pub last : last_of v seq ≡ Some move
  pub here : slice_get v.places move.0.0 ≡ Some place
  pub action : move.1 < place.actions
  pub number : seq ≡ place.first + move.1
  pub own : place.own < seq

is_move : (v : SideView) → IsSide v → (k : ℕ) → suc k < count_of v → IsMove v (suc k)
is_move v side k low =
    let move = within v.lasts k (omega arith) in
    let end = side.numbered.each_last k move.0 move.1 in
    record {
      move = move.0;
      place = end.0;
      last = move.1;
      here = end.1;
      action = end.2;
      number = omega (arith, end.3);
      own = omega (arith, end.3, side.numbered.own_before move.0.0.0 end.0 end.1);
    }

-- without its last move a sequence has no less beside a sequence with which that move's set has a row
back : (p : PairsView) (total : ℤ) (x : ℕ → ℤ) → MeetsEquations p total x → (side : Side) (seq beside : ℕ) → (is : IsMove (side_of side p.seqs) seq)
    → beside < count_of (side_of (other side) p.seqs) → IsTouched p (other side) is.move.0.0 (last_of (side_of (other side) p.seqs) beside)
    → number_at p x side seq beside ≤ℤ number_at p x side is.place.own beside
back p total x m side seq beside is in_range touched =
    let has : HasRow p side is.move.0.0 is.place beside = record { here = is.here; in_range = in_range; touched = touched } in
    let less = move_at_most p total x m side is.move.0.0 is.place is.move.1 beside has is.action in
    omega (arith, ints, ap (λ (s : ℕ). number_at p x side s beside) is.number, less)

both_empty : (p : PairsView) (side : Side) → column_of p side 0 0 ≡ index_of p 0 0
both_empty p One = refl
both_empty p Two = refl

beside_empty : (p : PairsView) (total : ℤ) (x : ℕ → ℤ) → IsPairs p → MeetsEquations p total x → (side : Side) (bound seq : ℕ) → seq < bound
    → seq < count_of (side_of side p.seqs) → number_at p x side seq 0 ≤ℤ total
beside_empty p total x rules m side zero seq h low = absurd (omega arith)
beside_empty p total x rules m side (suc bound) zero h low =
    let here = ap (λ (found : Option ℕ). at found x) (both_empty p side) in
    omega (arith, ints, here, m.whole)
beside_empty p total x rules m side (suc bound) (suc k) h low =
    let is = is_move (side_of side p.seqs) (rules.sides side) k low in
    let less = back p total x m side (suc k) 0 is (omega arith) tt in
    let rest = beside_empty p total x rules m side bound is.place.own (omega (arith, is.own)) (omega (arith, is.own)) in
    omega (arith, ints, less, rest)

touched_of : (p : PairsView) (one two : ℕ) (a b : SetId × ℕ) → last_of p.seqs.one one ≡ Some a → last_of p.seqs.two two ≡ Some b
    → is_relevant p.seqs p.table one two ≡ true → IsTouched p Two a.0.0 (last_of p.seqs.two two)
touched_of p one two a b e f related =
    let Touched : Option (SetId × ℕ) → Type 0 = λ last. IsTouched p Two a.0.0 last in
    subst Touched (sym f) (rw (e, f) at related)

-- a relevant pair has at most the total where this holds without the last move of player 1
relevant_at_most : (p : PairsView) (total : ℤ) (x : ℕ → ℤ) → IsPairs p → MeetsEquations p total x → (one two : ℕ) → one < count_of p.seqs.one
    → two < count_of p.seqs.two → is_relevant p.seqs p.table one two ≡ true → (is : IsMove p.seqs.one one)
    → number_at p x One is.place.own two ≤ℤ total → number_at p x One one two ≤ℤ total
relevant_at_most p total x rules m one two low_one low_two related is rest =
    (elim (last_of p.seqs.two two) as (λ l. last_of p.seqs.two two ≡ l → number_at p x One one two ≤ℤ total) [
      | None ↦ λ e. (
          let empty = none-empty p.seqs.two two low_two e in
          rw empty (beside_empty p total x rules m One (suc one) one (omega arith) low_one))
      | Some b ↦ λ e. (
          let less = back p total x m One one two is low_two (touched_of p one two is.move b is.last e related) in
          omega (arith, ints, less, rest))
    ]) refl

not_below_0 : (p : PairsView) (total : ℤ) (x : ℕ → ℤ) → MeetsEquations p total x → pos 0 ≤ℤ total
not_below_0 p total x m = rw (← m.whole) (m.not_negative One 0 0)

beside_any : (p : PairsView) (total : ℤ) (x : ℕ → ℤ) → IsPairs p → MeetsEquations p total x → (bound one two : ℕ) → one < bound
    → one < count_of p.seqs.one → two < count_of p.seqs.two → number_at p x One one two ≤ℤ total
beside_any p total x rules m zero one two h low_one low_two = absurd (omega arith)
beside_any p total x rules m (suc bound) zero two h low_one low_two = beside_empty p total x rules m Two (suc two) two (omega arith) low_two
beside_any p total x rules m (suc bound) (suc k) two h low_one low_two =
    let is = is_move p.seqs.one (rules.sides One) k low_one in
    let rest = beside_any p total x rules m bound is.place.own two (omega (arith, is.own)) (omega (arith, is.own)) low_two in
    let AtMost : Option ℕ → Type 0 = λ found. at found x ≤ℤ total in
    (elim (index_of p (suc k) two) as (λ found. index_of p (suc k) two ≡ found → AtMost found) [
      | None ↦ λ e. not_below_0 p total x m
      | Some col ↦ λ e. (
          let related = (rules.listed.each_pair col (suc k, two) (pair_at p rules (suc k) two col low_two e)).2 in
          subst AtMost e (relevant_at_most p total x rules m (suc k) two low_one low_two related is rest))
    ]) refl

pub at_most_total : (p : PairsView) (total : ℤ) (x : ℕ → ℤ) → IsPairs p → MeetsEquations p total x → (k : ℕ) → k < length p.pairs
    → x k ≤ℤ total
at_most_total p total x rules m k low =
    let pair = within p.pairs k low in
    let in_list = rules.listed.each_pair k pair.0 pair.1 in
    let cell = pair.0.0 * count_of p.seqs.two + pair.0.1 in
    let column : index_of p pair.0.0 pair.0.1 ≡ Some k = get_or_from_slice_get p.places cell (Some k) None (rules.listed.each_index k pair.0 pair.1) in
    let AtMost : Option ℕ → Type 0 = λ found. at found x ≤ℤ total in
    subst AtMost column (beside_any p total x rules m (suc pair.0.0) pair.0.0 pair.0.1 (omega arith) in_list.0 in_list.1)

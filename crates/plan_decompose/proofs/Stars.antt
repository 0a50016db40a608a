-- What holds between the two players' parts of a walk, and that a choice at the centre of a star keeps it.
use Rattle.std.proofs.Common.{◌≡◌, ◌⊎◌, ℕ, ◌+◌, ◌<◌, Bool, true, ℤ, pos, ◌≤ℤ◌, List, Option, Some, None, length, set, slice_get, refl, sym, ap, ◌∙◌, inl, inr, arith}
use Rattle.std.proofs.lemmas.Bool.{cases_eq}
use Rattle.std.proofs.lemmas.Int.{ints}
use Rattle.std.proofs.lemmas.List.{length-set}
use Rattle.std.proofs.lemmas.Option.{slice_get_within}
use Rattle.corr_game.specs.declared.nodes.SetId.{SetId}
use Rattle.sequences.specs.declared.places.Place.{Place}
use Rattle.sequences.specs.Number.{SideView, Ends, IsOwn, Plays, further, last_of}
use Rattle.sequences.proofs.Adding.{within}
use Rattle.sequences.proofs.Holding.{none-empty}
use Rattle.connected_pairs.proofs.Indices.{move_in}
use Rattle.connected_pairs.specs.Connected.{IsPrefix, itself, longer}
use Rattle.plan_decompose.specs.Fair.{IsHalf, IsNotOne, IsOnlyJoined, Waits}
use Rattle.plan_decompose.specs.OpenSets.{AreOpened, Moves}
use Rattle.plan_decompose.specs.Solution.{ArePositive}
use Rattle.plan_decompose.proofs.Fairness.{IsSetting, Near, near_from, near_at, at_most_prefix, last_known, empty_prefix, plays_in, prefix_played, some_positive}
use Rattle.plan_decompose.proofs.Walking.{IsLed, set_same, set_other, last_is, plays_more, plays_less}

-- a choice of v at a centre: `move`, which ends `end`, at a set beside `t`, where `near` is the longest part of `t` that
-- is relevant
pub record IsChoice (v w : SideView) (join : ℕ → ℕ → Bool) (value : ℕ → ℕ → ℤ) (plan_v open_v after_v open_w after_w : List (Option ℕ)) (move : SetId × ℕ) (t end near : ℕ) : Type 0 where
  pub per_set : length open_v ≡ length v.places
  pub other_per_set : length open_w ≡ length w.places
  pub led : IsLed v plan_v
  pub none : slice_get plan_v move.0.0 ≡ Some None
  pub ends : Ends v.places move end
  pub own_played : Plays v plan_v ends.0.own
  pub is_open : Waits open_v move.0.0 t
  pub opened : AreOpened v end t (set open_v move.0.0 None) after_v
  pub moved : (k : ℕ) → k < length open_w → Moves (join move.0.0 k) end (slice_get open_w k) (slice_get after_w k)
  pub as_many : length after_w ≡ length open_w
  pub prefix : IsPrefix w near t
  pub touched : Near (join move.0.0) (last_of w near)
  pub longest : (y : ℕ) → IsPrefix w y t → Near (join move.0.0) (last_of w y) → IsPrefix w y near
  pub gain : pos 1 ≤ℤ value end near
  pub centre : (k u j s : ℕ) → Waits open_w k u → join move.0.0 k ≡ true → Waits open_v j s → join j k ≡ true → j ≡ move.0.0

-- a set that is open after the choice comes right after the move, or it was open before and is another
pub open_cases : (v w : SideView) (join : ℕ → ℕ → Bool) (value : ℕ → ℕ → ℤ) (plan_v open_v after_v open_w after_w : List (Option ℕ)) (move : SetId × ℕ) (t end near : ℕ)
    → IsChoice v w join value plan_v open_v after_v open_w after_w move t end near → (i s : ℕ) → Waits after_v i s
    → (((place : Place) × (slice_get v.places i ≡ Some place) × (place.own ≡ end)) × (s ≡ t)) ⊎ ((i ≡ move.0.0 → ⊥) × Waits open_v i s)
open_cases v w join value plan_v open_v after_v open_w after_w move t end near c i s o =
    let place = within v.places i (omega (arith, slice_get_within after_v i (Some s) o, c.opened.as_many, length-set open_v move.0.0 None, c.per_set)) in
    let closed : slice_get (set open_v move.0.0 None) move.0.0 ≡ Some None = set_same open_v move.0.0 None (slice_get_within open_v move.0.0 (Some t) c.is_open) in
    elim (c.opened.each i place.0 place.1) [
      | inl new ↦ let same : s ≡ t = cc (o, new.1) in inl ((place.0, place.1, new.0), same)
      | inr old ↦
          let there = sym old.1 ∙ o in
          let apart : i ≡ move.0.0 → ⊥ = λ same. (let clash = ap (λ (n : ℕ). slice_get (set open_v move.0.0 None) n) (sym same) ∙ there in cc (clash, closed)) in
          inr (apart, sym (set_other open_v move.0.0 i None apart) ∙ there)
    ]

-- an open set of w is connected to the settled set and stands beside the move, or it isn't and stands as before
pub moved_cases : (v w : SideView) (join : ℕ → ℕ → Bool) (value : ℕ → ℕ → ℤ) (plan_v open_v after_v open_w after_w : List (Option ℕ)) (move : SetId × ℕ) (t end near : ℕ)
    → IsChoice v w join value plan_v open_v after_v open_w after_w move t end near → (k u : ℕ) → Waits after_w k u
    → ((join move.0.0 k ≡ true) × ((was : ℕ) × Waits open_w k was) × (u ≡ end)) ⊎ ((join move.0.0 k ≡ true → ⊥) × Waits open_w k u)
moved_cases v w join value plan_v open_v after_v open_w after_w move t end near c k u o =
    elim (c.moved k (omega (arith, slice_get_within after_w k (Some u) o, c.as_many))) [
      | inl new ↦ let same : u ≡ end = cc (o, new.2) in inl (new.0, new.1, same)
      | inr old ↦ let there = sym old.1 ∙ o in inr (λ joined. old.0 joined u there, there)
    ]

pub positive_after : (v w : SideView) (join : ℕ → ℕ → Bool) (value : ℕ → ℕ → ℤ) (plan_v open_v after_v plan_w open_w after_w : List (Option ℕ)) (move : SetId × ℕ) (t end near : ℕ)
    → IsSetting v w join value → IsChoice v w join value plan_v open_v after_v open_w after_w move t end near → IsHalf v w join open_v plan_w open_w → ArePositive v w join value plan_v plan_w
    → ArePositive v w join value (set plan_v move.0.0 (Some move.1)) plan_w
positive_after v w join value plan_v open_v after_v plan_w open_w after_w move t end near s c half before x y px py relevant =
    elim (plays_less v s.side_v plan_v move end c.none c.led c.ends x px) [
      | inl old ↦ before x y old py relevant
      | inr same ↦
          let last = last_is v s.side_v move end c.ends in
          let last_x = ap (last_of v) same ∙ last in
          let near_y = near_from (join move.0.0) (last_of w y) (λ b h. relevant move b last_x h) in
          let near_played = prefix_played w plan_w near t c.prefix (half.played move.0.0 t c.is_open) in
          let in_w = plays_in w plan_w y py in
          let part : IsPrefix w y near = (elim (last_of w y) as (λ l. last_of w y ≡ l → IsPrefix w y near) [
            | None ↦ λ e. rw (none-empty w y in_w e) (empty_prefix w plan_w near near_played)
            | Some b ↦ λ e. c.longest y (half.lies move.0.0 t y b c.is_open py e (relevant move b last_x e)) near_y
          ]) refl in
          let low = move_in v s.side_v move end c.ends in
          let at_most = at_most_prefix v w join value s end move last low y near part c.touched in
          rw same (omega (arith, ints, c.gain, at_most))
    ]

-- v's own part
pub half_after : (v w : SideView) (join : ℕ → ℕ → Bool) (value : ℕ → ℕ → ℤ) (plan_v open_v after_v plan_w open_w after_w : List (Option ℕ)) (move : SetId × ℕ) (t end near : ℕ)
    → IsSetting v w join value → IsChoice v w join value plan_v open_v after_v open_w after_w move t end near → IsHalf v w join open_v plan_w open_w
    → IsHalf v w join after_v plan_w after_w
half_after v w join value plan_v open_v after_v plan_w open_w after_w move t end near s c half =
    let last = last_is v s.side_v move end c.ends in
    let cases = open_cases v w join value plan_v open_v after_v open_w after_w move t end near c in
    let before = moved_cases v w join value plan_v open_v after_v open_w after_w move t end near c in
    let was_open : (k u : ℕ) → Waits after_w k u → (x : ℕ) × Waits open_w k x = λ k u o. (elim (before k u o) [ inl new ↦ new.1 | inr old ↦ (u, old.1) ]) in
    record {
      played = λ i x o. elim (cases i x o) [
        | inl new ↦ rw new.1 (half.played move.0.0 t c.is_open)
        | inr old ↦ half.played i x old.1
      ];
      alike = λ i x k u place o p joined at.
          let there = was_open k u p in
          elim (cases i x o) [
            | inl new ↦
                let joined_here = s.closed_v.back i k new.0.0 move (omega (arith, slice_get_within open_w k (Some there.0) there.1, c.other_per_set)) joined new.0.1 (ap (last_of v) new.0.2 ∙ last) in
                half.alike move.0.0 t k there.0 place c.is_open there.1 joined_here at ∙ sym new.1
            | inr old ↦ half.alike i x k there.0 place old.1 there.1 joined at
          ];
      lies = λ i x y b o py e joined. elim (cases i x o) [
        | inl new ↦
            let joined_here = s.closed_v.back i b.0.0 new.0.0 move (last_known w s.side_w y b e) joined new.0.1 (ap (last_of v) new.0.2 ∙ last) in
            rw new.1 (half.lies move.0.0 t y b c.is_open py e joined_here)
        | inr old ↦ half.lies i x y b old.1 py e joined
      ];
    }

-- the other player's part
pub other_half_after : (v w : SideView) (join : ℕ → ℕ → Bool) (value : ℕ → ℕ → ℤ) (plan_v open_v after_v plan_w open_w after_w : List (Option ℕ)) (move : SetId × ℕ) (t end near : ℕ)
    → IsSetting v w join value → IsChoice v w join value plan_v open_v after_v open_w after_w move t end near → IsHalf w v (λ k i. join i k) open_w plan_v open_v
    → IsHalf w v (λ k i. join i k) after_w (set plan_v move.0.0 (Some move.1)) after_v
other_half_after v w join value plan_v open_v after_v plan_w open_w after_w move t end near s c half =
    let last = last_is v s.side_v move end c.ends in
    let cases = open_cases v w join value plan_v open_v after_v open_w after_w move t end near c in
    let before = moved_cases v w join value plan_v open_v after_v open_w after_w move t end near c in
    let more = plays_more v plan_v move.0.0 move.1 c.none in
    let is_chosen = set_same plan_v move.0.0 (Some move.1) (slice_get_within plan_v move.0.0 None c.none) in
    record {
      played = λ k u o. elim (before k u o) [
        | inl new ↦ rw new.2 (further end move c.ends.0 last is_chosen c.ends.1 (more c.ends.0.own c.own_played))
        | inr old ↦ more u (half.played k u old.1)
      ];
      alike = λ k u i x place o p joined at. elim (before k u o) [
        | inl new ↦ elim (cases i x p) [
          | inl opened ↦
              let one : place ≡ opened.0.0 = cc (at, opened.0.1) in
              ap (λ (q : Place). q.own) one ∙ (opened.0.2 ∙ sym new.2)
          | inr old ↦ absurd (old.0 (c.centre k new.1.0 i x new.1.1 new.0 old.1 joined))
        ]
        | inr apart ↦ elim (cases i x p) [
          | inl opened ↦ absurd (apart.0 (s.closed_v.back i k opened.0.0 move (omega (arith, slice_get_within open_w k (Some u) apart.1, c.other_per_set)) joined opened.0.1 (ap (last_of v) opened.0.2 ∙ last)))
          | inr old ↦ half.alike k u i x place apart.1 old.1 joined at
        ]
      ];
      lies = λ k u x a o px e joined. elim (plays_less v s.side_v plan_v move end c.none c.led c.ends x px) [
        | inl old ↦ elim (before k u o) [
          | inl new ↦
              let own = half.alike k new.1.0 move.0.0 t c.ends.0 new.1.1 c.is_open new.0 c.ends.1 in
              let part : IsPrefix v x c.ends.0.own = rw own (half.lies k new.1.0 x a new.1.1 old e joined) in
              rw new.2 (longer end c.ends.0.own move last (c.ends.0, c.ends.1, refl) part)
          | inr apart ↦ half.lies k u x a apart.1 old e joined
        ]
        | inr same ↦
            let last_x = ap (last_of v) same ∙ last in
            let one : a ≡ move = cc (e, last_x) in
            let joined_here : join move.0.0 k ≡ true = rw one at joined in
            elim (before k u o) [
              | inl new ↦ rw (new.2, same) itself
              | inr apart ↦ absurd (apart.0 joined_here)
            ]
      ];
    }

-- no three connected pairs in a row between siblings, two by two
abbrev pub HasNoPath : (v w : SideView) → (ℕ → ℕ → Bool) → Type 0
HasNoPath v w join = (i j k l own_v own_w : ℕ) → IsOwn v i own_v → IsOwn v j own_v → IsOwn w k own_w → IsOwn w l own_w → join i k ≡ true → join j k ≡ true → join j l ≡ true → (i ≡ j) ⊎ (k ≡ l)

-- the own sequence of an open set that is connected to an open set of v
own_at : (v w : SideView) (join : ℕ → ℕ → Bool) (open_v plan_w open_w : List (Option ℕ)) → IsHalf v w join open_v plan_w open_w → length open_w ≡ length w.places
    → (i t k u : ℕ) → Waits open_v i t → Waits open_w k u → join i k ≡ true → IsOwn w k t
own_at v w join open_v plan_w open_w half count i t k u o p joined =
    let place = within w.places k (omega (arith, slice_get_within open_w k (Some u) p, count)) in
    (place.0, place.1, half.alike i t k u place.0 o p joined place.1)

-- the only set that is connected to a first one is a centre
pub centre_only : (v w : SideView) (join : ℕ → ℕ → Bool) (plan_v open_v plan_w open_w : List (Option ℕ)) → HasNoPath v w join → IsHalf v w join open_v plan_w open_w → IsHalf w v (λ k i. join i k) open_w plan_v open_v
    → length open_v ≡ length v.places → length open_w ≡ length w.places → (first t centre s : ℕ) → Waits open_v first t → Waits open_w centre s → IsOnlyJoined (join first) open_w centre
    → (k u j x : ℕ) → Waits open_v k u → join k centre ≡ true → Waits open_w j x → join k j ≡ true → j ≡ centre
centre_only v w join plan_v open_v plan_w open_w no_path one two count_v count_w first t centre s f g only k u j x o joined p also =
    elim (cases_eq k first) [
      | inl same ↦ only.1 j x p (rw same at also)
      | inr apart ↦
          let own_first = own_at w v (λ b a. join a b) open_w plan_v open_v two count_v centre s first t g f only.0 in
          let own_k = own_at w v (λ b a. join a b) open_w plan_v open_v two count_v centre s k u g o joined in
          let own_centre = own_at v w join open_v plan_w open_w one count_w k u centre s o g joined in
          let own_j = own_at v w join open_v plan_w open_w one count_w k u j x o p also in
          elim (no_path first k centre j s u own_first own_k own_centre own_j only.0 joined also) [
            | inl same ↦ absurd (apart (sym same))
            | inr same ↦ sym same
          ]
    ]

-- a set that is connected to none, or to two, is a centre
pub centre_first : (v w : SideView) (join : ℕ → ℕ → Bool) (plan_v open_v plan_w open_w : List (Option ℕ)) → HasNoPath v w join → IsHalf v w join open_v plan_w open_w → IsHalf w v (λ k i. join i k) open_w plan_v open_v
    → length open_v ≡ length v.places → length open_w ≡ length w.places → (first t : ℕ) → Waits open_v first t → IsNotOne (join first) open_w
    → (k u j x : ℕ) → Waits open_w k u → join first k ≡ true → Waits open_v j x → join j k ≡ true → j ≡ first
centre_first v w join plan_v open_v plan_w open_w no_path one two count_v count_w first t f (inl none) k u j x o joined p also = absurd (none k u o joined)
centre_first v w join plan_v open_v plan_w open_w no_path one two count_v count_w first t f (inr (a, (b, more))) k u j x o joined p also =
    let own_first = own_at w v (λ d c. join c d) open_w plan_v open_v two count_v k u first t o f joined in
    let own_j = own_at w v (λ d c. join c d) open_w plan_v open_v two count_v k u j x o p also in
    let own_k = own_at v w join open_v plan_w open_w one count_w first t k u f o joined in
    let by = λ (l y : ℕ) (r : Waits open_w l y) (q : join first l ≡ true) (apart : k ≡ l → ⊥).
    (let own_l = own_at v w join open_v plan_w open_w one count_w first t l y f r q in
    let P : Type 0 = j ≡ first in
    let found : (j ≡ first) ⊎ (k ≡ l) = no_path j first k l u t own_j own_first own_k own_l also joined q in
    let answer : P = (elim found [ inl same ↦ same | inr same ↦ absurd (apart same) ]) in answer) in
    elim (cases_eq k a) [
      | inl same ↦ by b more.2.0 more.2.1 more.4 (λ e. more.0 (sym same ∙ e))
      | inr apart ↦ by a more.1.0 more.1.1 more.3 apart
    ]

-- an open set has a move of positive value beside the longest part of its sequence at which it has values
pub some_move : (v w : SideView) (join : ℕ → ℕ → Bool) (value : ℕ → ℕ → ℤ) (plan_v open_v plan_w open_w : List (Option ℕ)) → IsSetting v w join value → ArePositive v w join value plan_v plan_w → IsHalf v w join open_v plan_w open_w
    → (set : SetId) (t near : ℕ) (place : Place) → slice_get v.places set.0 ≡ Some place → Plays v plan_v place.own → Waits open_v set.0 t → IsPrefix w near t → Near (join set.0) (last_of w near)
    → ((action end : ℕ) → Ends v.places (set, action) end → value end near ≤ℤ pos 0) → ⊥
some_move v w join value plan_v open_v plan_w open_w s positive half set t near place at own o prefix touched stuck =
    let played = prefix_played w plan_w near t prefix (half.played set.0 t o) in
    let here = positive place.own near own played (λ a b e f. s.closed_v.back set.0 b.0.0 place a (last_known w s.side_w near b f) (near_at (join set.0) (last_of w near) touched b f) at e) in
    let row = s.rows_v.row set.0 place near at (plays_in w plan_w near played) touched in
    some_positive place.actions (λ a. value (place.first + a) near) (omega (arith, ints, row, here)) (λ a low. stuck a (place.first + a) (place, at, low, refl))

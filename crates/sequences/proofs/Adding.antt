-- A set's place and moves are added at the ends of both lists, so what was there keeps its number.
use Rattle.std.proofs.Common.{◌≡◌, ℕ, ◌+◌, ◌<◌, ◌≤◌, List, [], ◌∷◌, ◌++◌, Option, Some, None, zero, suc, length, map, slice_get, take, sum_by, refl, sym, ap, ◌∙◌, inl, inr, ◌⊎◌, arith}
use Rattle.std.specs.List.{range_with_len}
use Rattle.std.proofs.lemmas.List.{length_push, length-append}
use Rattle.std.proofs.lemmas.List.FromFn.{map-range_with_len_more, length-map-range_with_len, get_or-map-range_with_len}
use Rattle.std.proofs.lemmas.List.Sums.{sum_by_more, sum_by-take-le}
use Rattle.std.proofs.lemmas.Option.{get_or_from_slice_get, slice_get_read, slice_get_within}
use Rattle.corr_game.specs.declared.nodes.SetId.{SetId}
use Rattle.corr_game.specs.declared.nodes.SetInfo.{SetInfo}
use Rattle.tree_recall.specs.LastMove.{IsMoveBelow}
use Rattle.tree_recall.proofs.Progress.{slice_get-push}
use Rattle.sequences.specs.declared.places.Place.{Place}
use Rattle.sequences.specs.Number.{IsNumbered, IsNumberingOf, IsTaken, HasNumber, SameActions, AreInTurn}
use Rattle.sequences.proofs.Few.{actions_of}

pub within : {X : Type 0} (xs : List X) (k : ℕ) → k < length xs → (x : X) × (slice_get xs k ≡ Some x)
within [] k h = absurd (omega arith)
within (x ∷ xs) zero h = (x, refl)
within (x ∷ xs) (suc k) h = within xs k (omega arith)

pub still : {X : Type 0} (xs ys : List X) (k : ℕ) (x : X) → slice_get xs k ≡ Some x → slice_get (xs ++ ys) k ≡ Some x
still [] ys k x h = absurd (cc)
still (z ∷ zs) ys zero x h = h
still (z ∷ zs) ys (suc k) x h = still zs ys k x h

pub pushed : {X : Type 0} (xs : List X) (y : X) (k : ℕ) → k ≡ length xs → slice_get (xs ++ y ∷ []) k ≡ Some y
pushed [] y k e = rw e refl
pushed (z ∷ zs) y zero e = absurd (omega arith)
pushed (z ∷ zs) y (suc k) e = pushed zs y k (omega arith)

apart : {X : Type 0} (xs ys : List X) (k : ℕ) (x : X) → slice_get (xs ++ ys) k ≡ Some x → (slice_get xs k ≡ Some x) ⊎ ((j : ℕ) × (k ≡ length xs + j) × (slice_get ys j ≡ Some x))
apart [] ys k x h = inr (k, omega arith, h)
apart (z ∷ zs) ys zero x h = inl h
apart (z ∷ zs) ys (suc k) x h = elim (apart zs ys k x h) [ inl there ↦ inl there | inr here ↦ inr (here.0, omega (arith, here.1), here.2) ]

-- the moves of a set, by action
abbrev pub moves_at : SetId → ℕ → List (SetId × ℕ)
moves_at set actions = map (λ (a : ℕ). (set, a)) (range_with_len 0 actions)

pub moves_at-more : (set : SetId) (actions : ℕ) → moves_at set (actions + 1) ≡ moves_at set actions ++ (set, actions) ∷ []
moves_at-more set actions = map-range_with_len_more {X = SetId × ℕ} (λ (a : ℕ). (set, a)) 0 actions actions (omega arith)

move_at : (set : SetId) (actions j : ℕ) (move : SetId × ℕ) → slice_get (moves_at set actions) j ≡ Some move → (j < actions) × (move ≡ (set, j))
move_at set actions j move h =
    let count = length-map-range_with_len {X = SetId × ℕ} (λ (a : ℕ). (set, a)) 0 actions in
    let low : j < actions = omega (arith, slice_get_within (moves_at set actions) j move h, count) in
    (low, sym (get_or_from_slice_get (moves_at set actions) j move move h) ∙ get_or-map-range_with_len {X = SetId × ℕ} (λ (a : ℕ). (set, a)) 0 actions j j move low (omega arith))

moved_to : (set : SetId) (actions j : ℕ) → j < actions → slice_get (moves_at set actions) j ≡ Some (set, j)
moved_to set actions j low =
    let count = length-map-range_with_len {X = SetId × ℕ} (λ (a : ℕ). (set, a)) 0 actions in
    slice_get_read (moves_at set actions) actions j (set, j) (sym count) low (sym (get_or-map-range_with_len {X = SetId × ℕ} (λ (a : ℕ). (set, a)) 0 actions j j (set, j) low (omega arith)))

beyond : {X : Type 0} (xs ys : List X) (k j : ℕ) (x : X) → k ≡ length xs + j → slice_get ys j ≡ Some x → slice_get (xs ++ ys) k ≡ Some x
beyond [] ys k j x e h = let same : k ≡ j = omega arith in rw same h
beyond (z ∷ zs) ys zero j x e h = absurd (omega arith)
beyond (z ∷ zs) ys (suc k) j x e h = beyond zs ys k j x (omega arith) h

-- the sets up to this one are numbered
pub record IsPart (sets : List SetInfo) (set : ℕ) (places : List Place) (lasts : List (SetId × ℕ)) : Type 0 where
  pub numbered : IsNumbered places lasts
  pub count : length places ≡ set
  pub same_actions : SameActions sets places
  pub in_turn : AreInTurn sets places
  pub all : length lasts ≡ sum_by actions_of (take set sets)

pub no_part : (sets : List SetInfo) → IsPart sets 0 [] []
no_part sets = record {
  numbered = record { own_before = λ set place h. absurd (cc); in_range = λ set place h. absurd (cc); each_last = λ k move h. absurd (cc); each_move = λ move k h. absurd (cc (h.1)) };
  count = refl;
  same_actions = λ set place info h i. absurd (cc);
  in_turn = λ set place h. absurd (cc);
  all = refl;
}

pub part-few : (sets : List SetInfo) (set : ℕ) (places : List Place) (lasts : List (SetId × ℕ)) → IsPart sets set places lasts → sum_by actions_of sets < 4096 → length lasts < 4096
part-few sets set places lasts p few = omega (arith, p.all, few, sum_by-take-le actions_of sets set)

-- a last own move is at a place that is there
pub taken : (sets : List SetInfo) (set : ℕ) (places : List Place) (lasts : List (SetId × ℕ)) (last : Option (SetId × ℕ)) → IsPart sets set places lasts → set ≤ length sets → sum_by actions_of sets < 4096
    → IsMoveBelow set sets last → IsTaken places last
taken sets set places lasts None p room few below = tt
taken sets set places lasts (Some move) p room few below =
    let place = within places move.0.0 (omega (arith, below.0, p.count)) in
    let info = within sets move.0.0 (omega (arith, below.0)) in
    let same = p.same_actions move.0.0 place.0 info.0 place.1 info.1 in
    let range = p.numbered.in_range move.0.0 place.0 place.1 in
    (place.0, place.1, omega (arith, same, below.1 info.0 info.1), omega (arith, range, part-few sets set places lasts p few))

-- its number is one of those given
pub own_low : (places : List Place) (lasts : List (SetId × ℕ)) (last : Option (SetId × ℕ)) (own : ℕ) → IsNumbered places lasts → HasNumber places last own → own ≤ length lasts
own_low places lasts None own n h = omega (arith, h)
own_low places lasts (Some move) own n h = omega (arith, n.in_range move.0.0 h.0 h.1, h.2, h.3)

pub added : (sets : List SetInfo) (set : SetId) (places : List Place) (lasts : List (SetId × ℕ)) (place : Place) (info : SetInfo) → IsPart sets set.0 places lasts → set.0 < length sets
    → slice_get sets set.0 ≡ Some info → place.own ≤ length lasts → place.first ≡ length lasts + 1 → place.actions ≡ info.actions
    → IsPart sets (set.0 + 1) (places ++ place ∷ []) (lasts ++ moves_at set place.actions)
added sets set places lasts place info p room at own first same =
    let longer = length-append lasts (moves_at set place.actions) in
    let count = length-map-range_with_len {X = SetId × ℕ} (λ (a : ℕ). (set, a)) 0 place.actions in
    record {
      numbered = record {
        own_before = λ k x h. elim (slice_get-push places place x k h) [
          | inl there ↦ p.numbered.own_before k x there
          | inr end ↦ rw (← end.1) (omega (arith, own, first))
        ];
        in_range = λ k x h. elim (slice_get-push places place x k h) [
          | inl there ↦ omega (arith, p.numbered.in_range k x there, longer)
          | inr end ↦ rw (← end.1) (omega (arith, first, longer, count))
        ];
        each_last = λ k move h. elim (apart lasts (moves_at set place.actions) k move h) [
          | inl there ↦ let old = p.numbered.each_last k move there in (old.0, still places (place ∷ []) move.0.0 old.0 old.1, old.2, old.3)
          | inr here ↦
              let moved = move_at set place.actions here.0 move here.2 in
              rw moved.1 (place, pushed places place set.0 (sym p.count), moved.0, omega (arith, first, here.1))
        ];
        each_move = λ move k h. elim (slice_get-push places place h.0 move.0.0 h.1) [
          | inl there ↦ still lasts (moves_at set place.actions) k move (p.numbered.each_move move k (h.0, there, h.2, h.3))
          | inr end ↦
              let actions = ap (λ (x : Place). x.actions) end.1 in
              let start = ap (λ (x : Place). x.first) end.1 in
              let here : move.0.0 ≡ set.0 = end.0 ∙ p.count in
              let same : move ≡ (set, move.1) = ap (λ (n : ℕ). (record { 0 = n }, move.1)) here in
              rw same (beyond lasts (moves_at set place.actions) k move.1 (set, move.1) (omega (arith, h.3, start, first)) (moved_to set place.actions move.1 (omega (arith, h.2, actions))))
        ];
      };
      count = length_push places place ∙ ap (λ n. n + 1) p.count;
      same_actions = λ k x i h e. elim (slice_get-push places place x k h) [
        | inl there ↦ p.same_actions k x i there e
        | inr end ↦
            let index : k ≡ set.0 = end.0 ∙ p.count in
            let one : Some info ≡ Some i = sym at ∙ (ap (slice_get sets) (sym index) ∙ e) in
            let found : info ≡ i = cc in
            rw (← end.1, ← found) same
      ];
      in_turn = λ k x h. elim (slice_get-push places place x k h) [
        | inl there ↦ p.in_turn k x there
        | inr end ↦
            let index : k ≡ set.0 = end.0 ∙ p.count in
            rw (← end.1, index) (omega (arith, first, p.all))
      ];
      all = omega (arith, longer, count, p.all, sum_by_more actions_of sets set.0 info room, ap actions_of (get_or_from_slice_get sets set.0 info info at), same);
    }

pub whole : (sets : List SetInfo) (set : ℕ) (places : List Place) (lasts : List (SetId × ℕ)) → IsPart sets set places lasts → length sets ≡ set → sum_by actions_of sets < 4096 → IsNumberingOf sets places lasts
whole sets set places lasts p e few = record {
  numbered = p.numbered;
  few = part-few sets set places lasts p few;
  per_set = p.count ∙ sym e;
  same_actions = p.same_actions;
  in_turn = p.in_turn;
}

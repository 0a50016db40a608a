-- What is left of values that meet the rows, less the weight of two reduced plans, meets the rows.
use Rattle.std.proofs.Common.{◌≡◌, ◌⊎◌, ℕ, ◌+◌, ◌*◌, ◌<◌, zero, suc, Bool, true, ℤ, ◌-ℤ◌, List, Option, Some, None, length, slice_get, refl, sym, ap, ◌∙◌, inl, inr, arith}
use Rattle.std.proofs.lemmas.Bool.{cases_eq}
use Rattle.std.proofs.lemmas.Int.{ints}
use Rattle.std.proofs.lemmas.Nat.{same_from_place}
use Rattle.std.proofs.lemmas.Option.{slice_get-get_or}
use Rattle.exact_algebra.proofs.Sums.{sum_to-same, sum_to-changed}
use Rattle.corr_game.specs.declared.nodes.SetId.{SetId}
use Rattle.sequences.specs.declared.places.Place.{Place}
use Rattle.sequences.specs.Number.{SideView, IsSide, IsOwn, Plays, nothing, further, last_of, count_of}
use Rattle.sequences.proofs.Holding.{own_lower, plays-back, plays-named}
use Rattle.connected_pairs.specs.Connected.{PairsView, IsPairs, IsPlaced, are_connected, index_of, is_related, is_relevant}
use Rattle.connected_pairs.proofs.Listing.{cell}
use Rattle.plan_decompose.specs.Reduced.{IsReduced}
use Rattle.plan_decompose.proofs.Fairness.{HasRows, IsClosed, last_known, near_at}
use Rattle.plan_decompose.proofs.Walking.{last_is}

unlisted : (v : SideView) (plan : List (Option ℕ)) (k : ℕ) → Plays v plan (suc k) → slice_get v.lasts k ≡ None → ⊥
unlisted v plan k (further _ move place e named here rest) none = cc

-- whether a plan plays a sequence can be told
pub plays_or_not : (v : SideView) → IsSide v → (plan : List (Option ℕ)) (bound seq : ℕ) → seq < bound → Plays v plan seq ⊎ (Plays v plan seq → ⊥)
plays_or_not v s plan zero seq h = absurd (omega arith)
plays_or_not v s plan (suc bound) zero h = inl nothing
plays_or_not v s plan (suc bound) (suc k) h =
    (elim (slice_get v.lasts k) as (λ l. slice_get v.lasts k ≡ l → Plays v plan (suc k) ⊎ (Plays v plan (suc k) → ⊥)) [
      | None ↦ λ e. inr (λ r. unlisted v plan k r e)
      | Some move ↦ λ e. (elim (slice_get plan move.0.0) as (λ l. slice_get plan move.0.0 ≡ l → Plays v plan (suc k) ⊎ (Plays v plan (suc k) → ⊥)) [
        | None ↦ λ f. inr (λ r. (let named = plays-named v plan (suc k) r move e in cc (named, f)))
        | Some entry ↦ λ f. (elim entry as (λ x. slice_get plan move.0.0 ≡ Some x → Plays v plan (suc k) ⊎ (Plays v plan (suc k) → ⊥)) [
          | None ↦ λ g. inr (λ r. (let named = plays-named v plan (suc k) r move e in cc (named, g)))
          | Some action ↦ λ g. (elim (cases_eq action move.1) [
            | inl same ↦
                let at = s.numbered.each_last k move e in
                let own : IsOwn v move.0.0 at.0.own = (at.0, at.1, refl) in
                elim (plays_or_not v s plan bound at.0.own (omega (arith, own_lower v s (suc k) move at.0.own e own))) [
                  | inl r ↦ inl (further (suc k) move at.0 e (g ∙ ap (λ (n : ℕ). Some (Some n)) same) at.1 r)
                  | inr unplayed ↦ inr (λ r. unplayed (plays-back v plan (suc k) r move at.0.own e own))
                ]
            | inr apart ↦ inr (λ r. (let named = plays-named v plan (suc k) r move e in let one : action ≡ move.1 = cc (named, g) in apart one))
          ])
        ]) f
      ]) refl
    ]) refl

-- a relevant pair has an index, at which it is listed
related : (p : PairsView) (x y : ℕ) (a b : Option (SetId × ℕ)) → ((c d : SetId × ℕ) → a ≡ Some c → b ≡ Some d → are_connected p c.0.0 d.0.0 ≡ true) → is_related (length p.seqs.two.places) p.table a b ≡ true
related p x y None b h = refl
related p x y (Some a) None h = refl
related p x y (Some a) (Some b) h = h a b refl refl

listed : (p : PairsView) (x y : ℕ) (pair : ℕ × ℕ) (index : Option ℕ) → IsPlaced p.seqs p.table p.pairs pair index → x ≡ pair.0 → y ≡ pair.1 → is_relevant p.seqs p.table x y ≡ true → (k : ℕ) × (index ≡ Some k) × (slice_get p.pairs k ≡ Some (x, y))
listed p x y pair None placed e f relevant = absurd (let other = rw (← e, ← f) at placed in cc (other, relevant))
listed p x y pair (Some k) placed e f relevant = (k, refl, rw (e, f) placed)

pub index_is : (p : PairsView) → IsPairs p → (x y : ℕ) → x < count_of p.seqs.one → y < count_of p.seqs.two
    → ((a b : SetId × ℕ) → last_of p.seqs.one x ≡ Some a → last_of p.seqs.two y ≡ Some b → are_connected p a.0.0 b.0.0 ≡ true) → (k : ℕ) × (index_of p x y ≡ Some k) × (slice_get p.pairs k ≡ Some (x, y))
index_is p rules x y low_x low_y relevant =
    let wide = count_of p.seqs.two in
    let room = cell x y wide (count_of p.seqs.one) wide (length p.places) low_x low_y refl rules.listed.all in
    let at = rules.listed.each_place (x * wide + y) (index_of p x y) (slice_get-get_or p.places (x * wide + y) None room) in
    let same = same_from_place x y at.0.0 at.0.1 wide low_y at.1 at.2 in
    listed p x y at.0 (index_of p x y) at.3 same.0 same.1 (related p x y (last_of p.seqs.one x) (last_of p.seqs.two y) relevant)

-- the value of each relevant pair has lost the weight, where both plans play it
abbrev pub Loses : (v w : SideView) → (ℕ → ℕ → Bool) → (ℕ → ℕ → ℤ) → (ℕ → ℕ → ℤ) → List (Option ℕ) → List (Option ℕ) → ℤ → Type 0
Loses v w join value after plan_v plan_w weight = (x y : ℕ) → x < count_of v → y < count_of w → ((a b : SetId × ℕ) → last_of v x ≡ Some a → last_of w y ≡ Some b → join a.0.0 b.0.0 ≡ true)
    → ((Plays v plan_v x × Plays w plan_w y) × (after x y ≡ value x y -ℤ weight)) ⊎ ((Plays v plan_v x → Plays w plan_w y → ⊥) × (after x y ≡ value x y))

pub rows_kept : (v w : SideView) (join : ℕ → ℕ → Bool) (value after : ℕ → ℕ → ℤ) (plan_v plan_w : List (Option ℕ)) (weight : ℤ) → IsSide v → IsSide w → IsClosed v w join → HasRows v w join value → Loses v w join value after plan_v plan_w weight
    → IsReduced v plan_v → ((set action : ℕ) (place : Place) → slice_get v.places set ≡ Some place → slice_get plan_v set ≡ Some (Some action) → action < place.actions) → HasRows v w join after
rows_kept v w join value after plan_v plan_w weight sv sw closed rows loses reduced named_in = record {
  row = λ set place y at low near.
      let id : SetId = record { 0 = set } in
      let f = λ (a : ℕ). value (place.first + a) y in
      let g = λ (a : ℕ). after (place.first + a) y in
      let n = place.actions in
      let before = rows.row set place y at low near in
      let in_range = sv.numbered.in_range set place at in
      let earlier = sv.numbered.own_before set place at in
      let last = λ (a : ℕ) (h : a < n). last_is v sv (id, a) (place.first + a) (place, at, h, refl) in
      let own = loses place.own y (omega arith) low (λ a b e k. closed.back set b.0.0 place a (last_known w sw y b k) (near_at (join set) (last_of w y) near b k) at e) in
      let each = λ (a : ℕ) (h : a < n). loses (place.first + a) y (omega arith) low (λ m b e k. (let one : m ≡ (id, a) = cc (e, last a h) in rw one (near_at (join set) (last_of w y) near b k))) in
      let is_own : IsOwn v set place.own = (place, at, refl) in
      elim (plays_or_not w sw plan_w (suc y) y (omega arith)) [
        | inr unplayed ↦
            let same = sum_to-same n g f (λ a h. elim (each a h) [ inl lost ↦ absurd (unplayed lost.0.1) | inr kept ↦ kept.1 ]) in
            let own_same : after place.own y ≡ value place.own y = (elim own [ inl lost ↦ absurd (unplayed lost.0.1) | inr kept ↦ kept.1 ]) in
            same ∙ (before ∙ sym own_same)
        | inl played_y ↦ elim (plays_or_not v sv plan_v (suc place.own) place.own (omega arith)) [
          | inr unplayed ↦
              let same = sum_to-same n g f (λ a h. elim (each a h) [ inl lost ↦ absurd (unplayed (plays-back v plan_v (place.first + a) lost.0.0 (id, a) place.own (last a h) is_own)) | inr kept ↦ kept.1 ]) in
              let own_same : after place.own y ≡ value place.own y = (elim own [ inl lost ↦ absurd (unplayed lost.0.0) | inr kept ↦ kept.1 ]) in
              same ∙ (before ∙ sym own_same)
          | inl own_yes ↦
              let chosen = reduced.each set place at own_yes in
              let inside = named_in set chosen.0 place at chosen.1 in
              let played = further (place.first + chosen.0) (id, chosen.0) place (last chosen.0 inside) chosen.1 at own_yes in
              let there : g chosen.0 ≡ f chosen.0 -ℤ weight = (elim (each chosen.0 inside) [ inl lost ↦ lost.1 | inr kept ↦ absurd (kept.0 played played_y) ]) in
              let own_less : after place.own y ≡ value place.own y -ℤ weight = (elim own [ inl lost ↦ lost.1 | inr kept ↦ absurd (kept.0 own_yes played_y) ]) in
              let changed = sum_to-changed n chosen.0 g f inside (λ a h apart. elim (each a h) [
                | inl lost ↦ absurd (let named = plays-named v plan_v (place.first + a) lost.0.0 (id, a) (last a h) in let one : a ≡ chosen.0 = cc (named, chosen.1) in apart one)
                | inr kept ↦ kept.1
              ]) in
              omega (arith, ints, changed, before, there, own_less)
        ]
      ];
}

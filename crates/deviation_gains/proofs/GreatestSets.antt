-- From the last set back: a set's value is the greatest of the numbers at its sequences, and goes to the set's own sequence.
use Rattle.std.proofs.Common.{◌≡◌, ◌≢◌, ◌⊎◌, ℕ, zero, suc, ◌+◌, ◌-◌, ◌<◌, ◌≤◌, inl, inr, Bool, true, false, nat_eq, cond, List, [], ◌∷◌}
use Rattle.std.proofs.Common.{length, take, Option, Some, None, slice_get, ℤ, pos, ◌+ℤ◌, ◌-ℤ◌, ◌≤ℤ◌, get_or, refl, sym, ap, ap₂, subst₂, ◌∙◌, arith}
use Rattle.std.specs.Prelude.{slice_index_or, slice_set}
use Rattle.std.proofs.lemmas.Bool.{cases_eq, cases_lt, ne_eqb}
use Rattle.std.proofs.lemmas.Int.{ints}
use Rattle.std.proofs.lemmas.Option.{slice_get_within}
use Rattle.exact_algebra.specs.Sums.{sum_to}
use Rattle.exact_algebra.proofs.Families.{put, put-other, put-same}
use Rattle.exact_algebra.proofs.RingLaws.{+ℤ_idr}
use Rattle.exact_algebra.proofs.Sums.{sum_to-changed}
use Rattle.corr_game.specs.declared.nodes.SetId.{SetId}
use Rattle.sequences.specs.declared.places.Place.{Place}
use Rattle.sequences.specs.Number.{IsOwn, IsSide, SideView, last_of}
use Rattle.equilibrium_solutions.proofs.MoveNumbers.{move_ends}
use Rattle.deviation_gains.specs.Leaving.{AreSolved, IsGoneOver, IsLeft, IsSolved, IsWorth, StandInRow, leads_to, own_there}
use Rattle.deviation_gains.proofs.LeftSteps.{put_grows}
use Rattle.column_sums.proofs.ProductSizes.{put_length}

taken_at : (xs : List ℤ) (f k : ℕ) → k < f → slice_index_or (take f xs) k (pos 0) ≡ slice_index_or xs k (pos 0)
taken_at xs zero k h = absurd (omega arith)
taken_at [] (suc f) k h = refl
taken_at (x ∷ xs) (suc f) zero h = refl
taken_at (x ∷ xs) (suc f) (suc k) h = taken_at xs f k (omega arith)

taken_length : (xs : List ℤ) (f : ℕ) → f ≤ length xs → length (take f xs) ≡ f
taken_length xs zero h = refl
taken_length [] (suc f) h = absurd (omega arith)
taken_length (x ∷ xs) (suc f) h = ap suc (taken_length xs f (omega arith))

own_at : (places : List Place) (t : ℕ) (place : Place) → slice_get places t ≡ Some place → own_there (slice_get places t) ≡ place.own
own_at places t place at = ap own_there at

-- the numbers with one set's value put anew, where it was 0
leads_put : (places : List Place) (paid value : ℕ → ℤ) (t : ℕ) (place : Place) (best : ℤ) → slice_get places t ≡ Some place
    → value t ≡ pos 0 → (seq : ℕ)
    → leads_to places paid (put value t best) seq ≡ leads_to places paid value seq +ℤ cond (nat_eq place.own seq) best (pos 0)
leads_put places paid value t place best at none seq =
    let count = length places in
    let old : ℕ → ℤ = λ set. cond (nat_eq (own_there (slice_get places set)) seq) (value set) (pos 0) in
    let new : ℕ → ℤ = λ set. cond (nat_eq (own_there (slice_get places set)) seq) (put value t best set) (pos 0) in
    let others : (k : ℕ) → k < count → k ≢ t → new k ≡ old k =
    λ k h apart. ap (λ (z : ℤ). cond (nat_eq (own_there (slice_get places k)) seq) z (pos 0)) (put-other value t best k apart) in
    let changed = sum_to-changed count t new old (slice_get_within places t place at) others in
    let here : new t ≡ cond (nat_eq place.own seq) best (pos 0) =
    ap₂ (λ (o : ℕ) (z : ℤ). cond (nat_eq o seq) z (pos 0)) (own_at places t place at) (put-same value t best) in
    let was : old t ≡ pos 0 =
    ap (λ (z : ℤ). cond (nat_eq (own_there (slice_get places t)) seq) z (pos 0)) none
    ∙ nothing (nat_eq (own_there (slice_get places t)) seq) in
    together (paid seq) (sum_to count new) (sum_to count old) (new t) (old t) _ changed here was
  where
    nothing : (b : Bool) → cond b (pos 0) (pos 0) ≡ pos 0
    nothing true = refl
    nothing false = refl

    together : (p n o x y b : ℤ) → n ≡ o +ℤ (x -ℤ y) → x ≡ b → y ≡ pos 0 → p +ℤ n ≡ p +ℤ o +ℤ b
    together p n o x y b e f h = omega (arith, ints)

leads_kept : (places : List Place) (paid value : ℕ → ℤ) (t : ℕ) (place : Place) (best : ℤ) → slice_get places t ≡ Some place
    → value t ≡ pos 0 → (seq : ℕ) → place.own < seq → leads_to places paid (put value t best) seq ≡ leads_to places paid value seq
leads_kept places paid value t place best at none seq h =
    leads_put places paid value t place best at none seq
    ∙ ap (λ (b : Bool). leads_to places paid value seq +ℤ cond b best (pos 0)) (ne_eqb place.own seq (omega arith))
    ∙ +ℤ_idr (leads_to places paid value seq)

same_place : (places : List Place) (j k : ℕ) (a b : Place) → j ≡ k → slice_get places j ≡ Some a → slice_get places k ≡ Some b → a ≡ b
same_place places j k a b e f h = let moved : slice_get places k ≡ Some a = rw (← e) f in cc (moved, h)

same_first : (places : List Place) (j k : ℕ) (a b : Place) → j ≡ k → slice_get places j ≡ Some a → slice_get places k ≡ Some b
    → a.first ≡ b.first
same_first places j k a b e f h = ap (λ (p : Place). p.first) (same_place places j k a b e f h)

module _ (v : SideView) (rules : IsSide v) (row : StandInRow v.places) (paid : ℕ → ℤ) (left : List ℤ)
    (gone : IsGoneOver v.places paid left) where
  -- a sequence without a last move is the empty one
  only_empty : (seq : ℕ) → seq < length v.lasts + 1 → last_of v seq ≡ None → seq ≡ 0
  only_empty zero low e = refl
  only_empty (suc k) low e = absurd (some v.lasts k (omega arith) e)
    where
      some : {X : Type 0} (xs : List X) (k : ℕ) → k < length xs → slice_get xs k ≡ None → ⊥
      some [] k h e = omega arith
      some (x ∷ xs) zero h e = cc
      some (x ∷ xs) (suc k) h e = some xs k (omega arith) e

  all_gone : length left ≡ 1 → AreSolved v.places paid gone.value gone.choice 0
  all_gone one set place at low = gone.solved set place at (omega (arith, one, rules.numbered.own_before set place at))

  -- where the empty sequence is left all sets were gone over
  pub worth_at_last : (top : Option SetId) (x : ℤ) → IsLeft v.places (length left) top → 0 < length left
      → length left ≤ length v.lasts + 1 → last_of v (length left - 1) ≡ None → x ≡ slice_index_or left 0 (pos 0)
      → IsWorth v.places paid top x
  worth_at_last top x before some few none is =
      let empty = only_empty (length left - 1) (omega arith) none in
      by top before (omega arith)
    where
      by : (top : Option SetId) → IsLeft v.places (length left) top → length left ≡ 1 → IsWorth v.places paid top x
      by None before one = (gone.value, gone.choice, all_gone one, is ∙ gone.each 0 (omega arith))
      by (Some set) before one =
          absurd (omega (arith, one, before.2, row.some_action set.0 before.0 before.1, rules.numbered.own_before set.0 before.0 before.1))

  module _ (taken : SetId × ℕ) (last : last_of v (length left - 1) ≡ Some taken) (some : 0 < length left) (best : ℤ)
      (over : (k : ℕ) → length left - 1 - taken.1 ≤ k → k < length left → slice_index_or left k (pos 0) ≤ℤ best)
      (met : (k : ℕ) × (length left - 1 - taken.1 ≤ k) × (k < length left) × (best ≡ slice_index_or left k (pos 0))) where
    abbrev pub t : ℕ
    t = taken.0.0

    abbrev pub place : Place
    place = (move_ends v rules taken (length left - 1) last).0

    at : slice_get v.places t ≡ Some place
    at = (move_ends v rules taken (length left - 1) last).1

    own_less : place.own < place.first
    own_less = rules.numbered.own_before t place at

    reaches : (place.first + place.actions ≡ length left) × (length left - 1 - taken.1 ≡ place.first)
    reaches =
        let end = move_ends v rules taken (length left - 1) last in
        let whole = gone.whole t place at (omega (arith, end.3, end.2)) in
        (omega (arith, end.3, end.2, whole), omega (arith, end.3, end.2, whole))

    not_yet : gone.value t ≡ pos 0
    not_yet = gone.none_yet t place at (omega (arith, reaches.0, row.some_action t place at))

    abbrev pub value : ℕ → ℤ
    value = put gone.value t best

    abbrev pub choice : ℕ → ℕ
    choice = put gone.choice t (met.0 - place.first)

    -- another set stands before this one's sequences, or behind them
    before_or_behind : (set : ℕ) (p : Place) → slice_get v.places set ≡ Some p → set ≢ t
        → (p.first + p.actions ≤ place.first) ⊎ (length left ≤ p.first)
    before_or_behind set p e apart = elim (cases_lt set t) [
      | inl less ↦ inl (row.in_row set t p place e at less)
      | inr more ↦ inr (omega (arith, row.in_row t set place p at e (omega arith), reaches.0))
    ]

    numbers : (seq : ℕ) → place.first ≤ seq → seq < length left → slice_index_or left seq (pos 0) ≡ leads_to v.places paid value seq
    numbers seq low high =
        gone.each seq high ∙ sym (leads_kept v.places paid gone.value t place best at not_yet seq (omega (arith, low, own_less)))

    solved_here : IsSolved v.places paid value choice t place
    solved_here =
        let from : place.first ≤ met.0 = omega (arith, met.1, reaches.1) in (
          rw (put-same gone.choice t (met.0 - place.first)) (omega (arith, from, met.2, reaches.0)),
          rw (put-same gone.choice t (met.0 - place.first))
              (put-same gone.value t best ∙ met.3 ∙ numbers met.0 from met.2
              ∙ ap (leads_to v.places paid value) (let again : met.0 ≡ place.first + (met.0 - place.first) = omega (arith, from) in again)),
          λ action h. rw (← numbers (place.first + action) (omega arith) (omega (arith, h, reaches.0)), put-same gone.value t best)
              (over (place.first + action) (omega (arith, reaches.1)) (omega (arith, h, reaches.0))),
        )

    solved_there : (set : ℕ) (p : Place) → slice_get v.places set ≡ Some p → set ≢ t → length left ≤ p.first
        → IsSolved v.places paid value choice set p
    solved_there set p e apart behind =
        let is = gone.solved set p e behind in
        let kept : (action : ℕ) → leads_to v.places paid value (p.first + action) ≡ leads_to v.places paid gone.value (p.first + action) =
        λ action. leads_kept v.places paid gone.value t place best at not_yet (p.first + action)
        (omega (arith, behind, own_less, reaches.0)) in (
          rw (put-other gone.choice t (met.0 - place.first) set apart) is.0,
          rw (put-other gone.choice t (met.0 - place.first) set apart)
              (put-other gone.value t best set apart ∙ is.1 ∙ sym (kept (gone.choice set))),
          λ action h. rw (kept action, put-other gone.value t best set apart) (is.2 action h),
        )

    pub solved_more : AreSolved v.places paid value choice place.first
    solved_more set p e low = elim (cases_eq set t) [
      | inl same ↦
          let one : place ≡ p = same_place v.places t set place p (sym same) at e in
          let Is : ℕ → Place → Type 0 = λ s q. IsSolved v.places paid value choice s q in
          subst₂ Is (sym same) one solved_here
      | inr apart ↦ elim (before_or_behind set p e apart) [
        | inl before ↦ absurd (omega (arith, before, low, row.some_action set p e))
        | inr behind ↦ solved_there set p e apart behind
      ]
    ]

    -- the value of the trigger's set
    pub worth_here : (top : Option SetId) → top ≡ Some taken.0 → IsWorth v.places paid top best
    worth_here None e = absurd (cc)
    worth_here (Some set) e =
        let same : set.0 ≡ t = cc (e) in (
          value,
          choice,
          λ p f. (let first = same_first v.places set.0 t p place same f at in rw first solved_more),
          rw same (sym (put-same gone.value t best)),
        )

    pub left_more : (top : Option SetId) → (top ≡ Some taken.0 → ⊥) → IsLeft v.places (length left) top
        → IsLeft v.places (length left - 1 - taken.1) top
    left_more None apart before = tt
    left_more (Some set) apart before =
        let other : set.0 ≢ t = λ same. apart (ap (λ (k : ℕ). Some (record { 0 = k })) same) in
        elim (before_or_behind set.0 before.0 before.1 other) [
          | inl earlier ↦ (before.0, before.1, omega (arith, earlier, reaches.1))
          | inr later ↦ absurd (omega (arith, later, before.2, row.some_action set.0 before.0 before.1))
        ]

    module _ (own : ℕ) (x sum : ℤ) (of_set : IsOwn v t own) (stood : x ≡ get_or (take (length left - 1 - taken.1) left) own x)
        (grown : sum ≡ x +ℤ best) where
      abbrev pub short : List ℤ
      short = slice_set (take (length left - 1 - taken.1) left) own sum

      is_own : own ≡ place.own
      is_own = sym of_set.2 ∙ ap (λ (p : Place). p.own) (same_place v.places t t of_set.0 place refl of_set.1 at)

      short_length : length short ≡ place.first
      short_length =
          put_length (take (length left - 1 - taken.1) left) own sum
          ∙ taken_length left (length left - 1 - taken.1) (omega arith) ∙ reaches.1

      each_short : (seq : ℕ) → seq < length short → slice_index_or short seq (pos 0) ≡ leads_to v.places paid value seq
      each_short seq h =
          let low : seq < place.first = omega (arith, h, short_length) in
          let inside : own < length (take (length left - 1 - taken.1) left) =
          omega (arith, taken_length left (length left - 1 - taken.1) (omega arith), is_own, own_less, reaches.1) in
          put_grows (take (length left - 1 - taken.1) left) own x sum best inside stood grown seq
          ∙ ap₂ (λ (y : ℤ) (o : ℕ). y +ℤ cond (nat_eq o seq) best (pos 0))
          (taken_at left (length left - 1 - taken.1) seq (omega (arith, low, reaches.1))
          ∙ gone.each seq (omega (arith, low, reaches.0))) is_own
          ∙ sym (leads_put v.places paid gone.value t place best at not_yet seq)

      pub gone_more : IsGoneOver v.places paid short
      gone_more = record {
        value = value;
        choice = choice;
        none_yet = λ set p e h.
            let low : p.first < place.first = omega (arith, h, short_length) in
            let apart : set ≢ t = λ same. (let first = same_first v.places set t p place same e at in omega arith) in
            put-other gone.value t best set apart ∙ gone.none_yet set p e (omega (arith, low, reaches.0));
        whole = λ set p e h.
            let low : p.first < place.first = omega (arith, h, short_length) in
            let apart : set ≢ t = λ same. (let first = same_first v.places set t p place same e at in omega arith) in
            (elim (before_or_behind set p e apart) [
              | inl before ↦ omega (arith, before, short_length)
              | inr behind ↦ absurd (omega (arith, behind, low, reaches.0))
            ]);
        solved = λ set p e low. solved_more set p e (omega (arith, low, short_length));
        each = each_short;
      }

    -- the numbers left without those at the set's sequences
    pub gone_on : (first own : ℕ) (ys : List ℤ) (x sum : ℤ) → first ≡ length left - 1 - taken.1 → ys ≡ take first left → IsOwn v t own
        → x ≡ get_or ys own x → sum ≡ x +ℤ best → (top : Option SetId) → (top ≡ Some taken.0 → ⊥) → IsLeft v.places (length left) top
        → IsLeft v.places (length (slice_set ys own sum)) top × IsGoneOver v.places paid (slice_set ys own sum)
    gone_on first own ys x sum e f of_set stood grown top apart before =
        let cut : ys ≡ take (length left - 1 - taken.1) left = f ∙ ap (λ (k : ℕ). take k left) e in
        let here : x ≡ get_or (take (length left - 1 - taken.1) left) own x = stood ∙ ap (λ (zs : List ℤ). get_or zs own x) cut in
        let count = short_length own x sum of_set here grown in
        rw cut (
          rw (count, ← reaches.1) (left_more top apart before),
          gone_more own x sum of_set here grown,
        )

-- Full choices, action by action: one that begins with the actions of all sets has no more, and one that begins with
-- fewer goes on with some action of the next set.
use Rattle.std.proofs.Common.{◌≡◌, ◌↔◌, ◌⊎◌, ℕ, zero, suc, ◌<◌, ◌≤◌, inl, inr, Bool, List, [], ◌∷◌, ◌++◌, Some, length, slice_get}
use Rattle.std.proofs.Common.{IsTrue, refl, sym, ap, subst, ◌∙◌, append_assoc, length-append, arith}
use Rattle.corr_game.specs.declared.nodes.SetInfo.{SetInfo}
use Rattle.corr_game.specs.declared.notions.Notion.TheVariants.{Efce, Efcce}
use Rattle.corr_game.specs.declared.sides.Side.{Side}
use Rattle.corr_game.specs.Game.{GameView, sets_of}
use Rattle.equilibrium.specs.declared.triggers.Trigger.{Trigger}
use Rattle.equilibrium.specs.declared.triggers.Trigger.TheVariants.{Told, Reached, Start}
use Rattle.equilibrium.specs.Distribution.{Entry}
use Rattle.equilibrium.specs.Equilibrium.{GainsNoMore, NoneImproves, Slack}
use Rattle.equilibrium.specs.FullChoice.{IsFullChoice}
use Rattle.plain_programs.specs.Fronts.{IsFront, NoneGains}

append_none : (front : List ℕ) → front ++ [] ≡ front
append_none [] = refl
append_none (x ∷ xs) = ap (λ (rest : List ℕ). x ∷ rest) (append_none xs)

info_inside : (sets : List SetInfo) (k : ℕ) (info : SetInfo) → slice_get sets k ≡ Some info → k < length sets
info_inside [] k info e = absurd (cc)
info_inside (x ∷ xs) zero info e = omega arith
info_inside (x ∷ xs) (suc k) info e = omega (arith, info_inside xs k info e)

-- an entry of a longer front is one of the front, or the last
front_entry : (front : List ℕ) (a set x : ℕ) → slice_get (front ++ a ∷ []) set ≡ Some x
    → (slice_get front set ≡ Some x) ⊎ ((set ≡ length front) × (a ≡ x))
front_entry [] a zero x e = let same : a ≡ x = cc in inr (refl, same)
front_entry [] a (suc set) x e = absurd (cc)
front_entry (y ∷ ys) a zero x e = inl e
front_entry (y ∷ ys) a (suc set) x e = elim (front_entry ys a set x e) [
  | inl there ↦ inl there
  | inr last ↦ inr (omega (arith, last.0), last.1)
]

next_entry : (front : List ℕ) (a : ℕ) (rest : List ℕ) → slice_get (front ++ a ∷ rest) (length front) ≡ Some a
next_entry [] a rest = refl
next_entry (x ∷ xs) a rest = next_entry xs a rest

same_info : (x y : SetInfo) → Some x ≡ Some y → x ≡ y
same_info x y e = cc

pub longer_front : (side : Side) (g : GameView) (front longer : List ℕ) (action : ℕ) (info : SetInfo) → IsFront side g front
    → slice_get (sets_of side g) (length front) ≡ Some info → action < info.actions → longer ≡ front ++ action ∷ [] → IsFront side g longer
longer_front side g front longer action info is there low e = rw e (record {
  few = omega (arith, length-append front (action ∷ []), info_inside (sets_of side g) (length front) info there);
  in_range = λ set named found at k. elim (front_entry front action set named at) [
    | inl before ↦ is.in_range set named found before k
    | inr last ↦
        let here : slice_get (sets_of side g) (length front) ≡ Some found = rw last.0 at k in
        let same : info ≡ found = same_info info found (sym there ∙ here) in
        rw (← last.1, ← same) low
  ];
})

pub no_action : (side : Side) (g : GameView) → IsFront side g []
no_action side g = record { few = omega arith; in_range = λ set action info e k. absurd (cc (e)) }

module _ (side : Side) (g : GameView) (slack : Slack) (list : List Entry) (trigger : Trigger) where
  pub whole_front : (front : List ℕ) → length (sets_of side g) ≤ length front → IsFront side g front → (answer : Bool)
      → IsTrue answer ↔ GainsNoMore side g slack list trigger front → IsTrue answer ↔ NoneGains side g slack list trigger front
  whole_front front all is answer e = (λ h rest full. nothing_more rest full (e.0 h), λ none. e.1 (at_once none))
    where
      Gains : List ℕ → Type 0
      Gains = λ choice. GainsNoMore side g slack list trigger choice

      nothing_more : (rest : List ℕ) → IsFullChoice side g (front ++ rest) → Gains front → Gains (front ++ rest)
      nothing_more [] full h = subst Gains (sym (append_none front)) h
      nothing_more (a ∷ rest) full h = absurd (omega (arith, full.per_set, length-append front (a ∷ rest)))

      full_choice : IsFullChoice side g front
      full_choice = record { per_set = omega (arith, is.few); in_range = is.in_range }

      at_once : NoneGains side g slack list trigger front → Gains front
      at_once none =
          let Full : List ℕ → Type 0 = IsFullChoice side g in
          subst Gains (append_none front) (none [] (subst Full (sym (append_none front)) full_choice))

  pub each_next : (front : List ℕ) (info : SetInfo) → length front < length (sets_of side g)
      → slice_get (sets_of side g) (length front) ≡ Some info
      → ((a : ℕ) → a < info.actions → NoneGains side g slack list trigger (front ++ a ∷ [])) → NoneGains side g slack list trigger front
  each_next front info few there each [] full = absurd (omega (arith, full.per_set, length-append front []))
  each_next front info few there each (a ∷ rest) full =
      let low : a < info.actions = full.in_range (length front) a info (next_entry front a rest) there in
      let joined = append_assoc front (a ∷ []) rest in
      let Full : List ℕ → Type 0 = IsFullChoice side g in
      let Gains : List ℕ → Type 0 = λ choice. GainsNoMore side g slack list trigger choice in
      subst Gains joined (each a low rest (subst Full (sym joined) full))

pub none_told_anywhere : (side : Side) (g : GameView) (slack : Slack) (list : List Entry)
    → ((k action : ℕ) (info : SetInfo) → k < length (sets_of side g) → slice_get (sets_of side g) k ≡ Some info → action < info.actions
    → NoneGains side g slack list (Told (record { 0 = k }) action) []) → NoneImproves Efce side g slack list
none_told_anywhere side g slack list each (Told set action) choice is full =
    each set.0 action is.0 (info_inside (sets_of side g) set.0 is.0 is.1) is.1 is.2 choice full
none_told_anywhere side g slack list each (Reached set) choice is full = absurd is
none_told_anywhere side g slack list each Start choice is full = absurd is

pub none_reached_anywhere : (side : Side) (g : GameView) (slack : Slack) (list : List Entry)
    → ((k : ℕ) → k < length (sets_of side g) → NoneGains side g slack list (Reached (record { 0 = k })) [])
    → NoneImproves Efcce side g slack list
none_reached_anywhere side g slack list each (Told set action) choice is full = absurd is
none_reached_anywhere side g slack list each (Reached set) choice is full = each set.0 is choice full
none_reached_anywhere side g slack list each Start choice is full = absurd is

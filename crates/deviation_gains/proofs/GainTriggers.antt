-- The triggers of a notion, one by one: those of a set, and all of them.
use Rattle.std.proofs.Common.{◌≡◌, ◌↔◌, ℕ, ◌<◌, Bool, true, false, List, length, Some, slice_get, ◌≤ℤ◌, ℤ, refl, sym, ap, subst}
use Rattle.std.proofs.Common.{◌∙◌, arith}
use Rattle.std.proofs.Common.{Err, IfOk, Ok, Result}
use Rattle.std.proofs.lemmas.Int.{ints}
use lib.Signed.{lt_z}
use Rattle.exact_algebra.specs.Sums.{sum_to}
use Rattle.corr_game.specs.declared.nodes.SetId.{SetId}
use Rattle.corr_game.specs.declared.nodes.SetInfo.{SetInfo}
use Rattle.corr_game.specs.declared.notions.Notion.{Notion}
use Rattle.corr_game.specs.declared.notions.Notion.TheVariants.{Efce, Efcce, Nfcce}
use Rattle.corr_game.specs.declared.plans.Pair.{Pair}
use Rattle.corr_game.specs.declared.sides.Side.{Side}
use Rattle.corr_game.specs.Game.{GameView, sets_of}
use Rattle.sequences.specs.Number.{side_of}
use Rattle.connected_pairs.specs.Connected.{IsPairsOf, PairsView, other}
use Rattle.equilibrium.specs.declared.triggers.Trigger.{Trigger as Deviation}
use Rattle.equilibrium.specs.declared.triggers.Trigger.TheVariants.{Told, Reached, Start}
use Rattle.equilibrium.specs.Deviation.{IsTriggerOf}
use Rattle.equilibrium.specs.Distribution.{Entry, entries_of}
use Rattle.equilibrium.specs.Equilibrium.{NoneImproves, no_slack}
use Rattle.equilibrium_solutions.specs.Values.{IsProgramTrigger, stands_for, top_of}
use Rattle.equilibrium_solutions.proofs.Recalled.{has_recall}
use Rattle.equilibrium_solutions.proofs.SetNodes.{own_sequences}
use Rattle.deviation_gains.specs.Gains.{AreGiven, NoneGains, NoneGainsAt}
use Rattle.deviation_gains.specs.Leaving.{IsWorth, PlanTest, StandInRow, TellsFollowed, TellsLeft, paid_behind, paid_in_list}
use Rattle.deviation_gains.proofs.GainExact.{followed_test, known_top, left_test, none_gains_where, tells_followed, tells_left}
use Rattle.deviation_gains.proofs.GainRow.{stand_in_row}

-- one trigger, by the two numbers that are compared
pub one_trigger : (g : GameView) (p : PairsView) (of : IsPairsOf g p) (side : Side) (list : List Pair) (given : AreGiven g p list)
    → (notion : Notion) (left : Deviation) (seq : ℕ) (best follows : ℤ) → IsTriggerOf notion g side left
    → IsProgramTrigger notion g p side (stands_for side left seq)
    → ((passes : PlanTest) → TellsLeft p.seqs side seq (length g.nodes) passes → StandInRow (side_of side p.seqs).places
    → IsWorth (side_of side p.seqs).places
    (paid_behind (side_of side p.seqs).nodes (paid_in_list side g passes (entries_of list)) (length g.nodes)) (top_of left) best)
    → ((passes : PlanTest) → TellsFollowed p.seqs side (top_of left) seq (length g.nodes) passes
    → follows ≡ sum_to (length g.nodes) (λ n. paid_in_list side g passes (entries_of list) n))
    → NoneGains side g (entries_of list) left ↔ (best ≤ℤ follows)
one_trigger g p of side list given notion left seq best follows of_notion is worth sum =
    let recall = has_recall g given.rules p given.pairs of in
    let own = own_sequences side g given.rules (recall side) in
    let others = own_sequences (other side) g given.rules (recall (other side)) in
    let row = stand_in_row side g given.rules (side_of side p.seqs) (of.sides side) in
    none_gains_where g given.rules p given.pairs of side (recall side) own others notion left seq of_notion is (entries_of list)
    given.entries best follows row
    (worth (left_test g given.rules p given.pairs of side (recall side) own others notion left seq of_notion is)
    (tells_left g given.rules p given.pairs of side (recall side) own others notion left seq of_notion is) row)
    (sum (followed_test g given.rules p given.pairs of side (recall side) own others notion left seq of_notion is)
    (tells_followed g given.rules p given.pairs of side (recall side) own others notion left seq of_notion is))

-- ---- the triggers of a set

module _ (side : Side) (g : GameView) (list : List Entry) (set : ℕ) where
  abbrev here : SetId
  here = record { 0 = set }

  same_number : (at : SetId) → Some at ≡ Some here → at ≡ here
  same_number at e = cc (e)

  -- told actions, all of the set's
  pub none_told : (info : SetInfo) → slice_get (sets_of side g) set ≡ Some info
      → ((action : ℕ) → action < info.actions → NoneGains side g list (Told here action)) → NoneGainsAt Efce side g list set
  none_told info at each (Told other action) is e =
      let same = same_number other e in
      let there : slice_get (sets_of side g) set ≡ Some is.0 = ap (λ (s : SetId). slice_get (sets_of side g) s.0) (sym same) ∙ is.1 in
      let one : is.0 ≡ info = cc (there, at) in
      let low : action < info.actions = subst (λ (i : SetInfo). action < i.actions) one is.2 in
      subst (λ (s : SetId). NoneGains side g list (Told s action)) (sym same) (each action low)
  none_told info at each (Reached other) is e = absurd is
  none_told info at each Start is e = absurd is

  pub told_none : (info : SetInfo) → slice_get (sets_of side g) set ≡ Some info → NoneGainsAt Efce side g list set → (action : ℕ)
      → action < info.actions → NoneGains side g list (Told here action)
  told_none info at none action low = none (Told here action) (info, at, low) refl

  -- the set that is reached
  pub none_reached : NoneGains side g list (Reached here) → NoneGainsAt Efcce side g list set
  none_reached none (Told other action) is e = absurd is
  none_reached none (Reached other) is e = subst (λ (s : SetId). NoneGains side g list (Reached s)) (sym (same_number other e)) none
  none_reached none Start is e = absurd is

  pub reached_none : set < length (sets_of side g) → NoneGainsAt Efcce side g list set → NoneGains side g list (Reached here)
  reached_none low none = none (Reached here) low refl

-- ---- all triggers

module _ (side : Side) (g : GameView) (list : List Entry) where
  pub none_by_sets : (notion : Notion) → (notion ≡ Nfcce → ⊥)
      → ((set : ℕ) → set < length (sets_of side g) → NoneGainsAt notion side g list set) → NoneImproves notion side g no_slack list
  none_by_sets Nfcce apart each left choice is full = absurd (apart refl)
  none_by_sets Efce apart each (Told set action) choice is full =
      each set.0 (known_top Efce g side (Told set action) is set refl) (Told set action) is refl choice full
  none_by_sets Efce apart each (Reached set) choice is full = absurd is
  none_by_sets Efce apart each Start choice is full = absurd is
  none_by_sets Efcce apart each (Told set action) choice is full = absurd is
  none_by_sets Efcce apart each (Reached set) choice is full =
      each set.0 (known_top Efcce g side (Reached set) is set refl) (Reached set) is refl choice full
  none_by_sets Efcce apart each Start choice is full = absurd is

  pub sets_by_none : (notion : Notion) → NoneImproves notion side g no_slack list → (set : ℕ) → NoneGainsAt notion side g list set
  sets_by_none notion none set left is e choice full = none left choice is full

  pub none_at_start : NoneGains side g list Start → NoneImproves Nfcce side g no_slack list
  none_at_start none (Told set action) choice is full = absurd is
  none_at_start none (Reached set) choice is full = absurd is
  none_at_start none Start choice is full = none choice full

  pub start_none : NoneImproves Nfcce side g no_slack list → NoneGains side g list Start
  start_none none choice full = none Start choice tt full

-- ---- answers

pub never : {P : Type 0} (gained : Bool) → gained ≡ true → (gained ≡ false) ↔ P → P → true ≡ false
never gained e same h = sym e ∙ same.1 h

-- a comparison's answer
pub not_less : (f b : ℤ) → (lt_z f b ≡ false) ↔ (b ≤ℤ f)
not_less f b = (λ fails. omega (arith, ints), λ h. by (lt_z f b) refl h)
  where
    by : (t : Bool) → lt_z f b ≡ t → b ≤ℤ f → t ≡ false
    by false e h = refl
    by true e h = absurd (omega (arith, ints))

pub answered : (f b : ℤ) (P : Type 0) → P ↔ (b ≤ℤ f) → (lt_z f b ≡ false) ↔ P
answered f b P same = (λ h. same.1 ((not_less f b).0 h), λ h. (not_less f b).1 (same.0 h))

-- what holds of a result where there is one
pub where_ok : {A E : Type 0} (r : Result A E) (P Q : A → Type 0) → ((a : A) → P a → Q a) → IfOk r P → IfOk r Q
where_ok (Ok a) P Q next h = next a h
where_ok (Err e) P Q next h = h

pub only_efcce : (notion : Notion) → (notion ≡ Efce → ⊥) → (notion ≡ Nfcce → ⊥) → notion ≡ Efcce
only_efcce Efce a b = absurd (a refl)
only_efcce Efcce a b = refl
only_efcce Nfcce a b = absurd (b refl)

pub reached_at : (side : Side) (g : GameView) (list : List Entry) (notion : Notion) (set : ℕ) (gained : Bool) → notion ≡ Efcce
    → set < length (sets_of side g) → (gained ≡ false) ↔ NoneGains side g list (Reached (record { 0 = set }))
    → (gained ≡ false) ↔ NoneGainsAt notion side g list set
reached_at side g list notion set gained e low same =
    rw e (λ h. none_reached side g list set (same.0 h), λ none. same.1 (reached_none side g list set low none))

pub started : (side : Side) (g : GameView) (list : List Entry) (notion : Notion) (gained : Bool) → notion ≡ Nfcce
    → (gained ≡ false) ↔ NoneGains side g list Start → (gained ≡ false) ↔ NoneImproves notion side g no_slack list
started side g list notion gained e same =
    rw e (λ h. none_at_start side g list (same.0 h), λ none. same.1 (start_none side g list none))

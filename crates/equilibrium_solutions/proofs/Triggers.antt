-- The triggers of a notion are those whose rows its program has, and a plan meets one exactly where it plays the trigger's sequence.
use Rattle.std.proofs.Common.{◌≡◌, ◌↔◌, ℕ, ◌+◌, ◌<◌, true, List, length, Option, Some, None, slice_get}
use Rattle.std.proofs.Common.{refl, sym, ap, ap₂, subst₂, ◌∙◌, arith}
use Rattle.std.proofs.lemmas.Option.{slice_get_within}
use Rattle.corr_game.specs.declared.nodes.SetId.{SetId}
use Rattle.corr_game.specs.declared.notions.Notion.{Notion}
use Rattle.corr_game.specs.declared.notions.Notion.TheVariants.{Efce, Efcce, Nfcce}
use Rattle.corr_game.specs.declared.sides.Side.{Side}
use Rattle.corr_game.specs.Game.{GameView, IsGame, sets_of}
use Rattle.tree_recall.specs.OwnSequence.{HasRecall}
use Rattle.sequences.specs.Number.{Ends, IsOwn, Plays, nothing, side_of}
use Rattle.sequences.proofs.Adding.{within}
use Rattle.connected_pairs.specs.Connected.{IsPairs, IsPairsOf, PairsView}
use Rattle.equilibrium.specs.declared.triggers.Trigger.{Trigger}
use Rattle.equilibrium.specs.declared.triggers.Trigger.TheVariants.{Told, Reached, Start}
use Rattle.equilibrium.specs.Deviation.{IsTriggerOf, meets}
use Rattle.equilibrium.specs.Leaves.{names_all}
use Rattle.equilibrium.specs.Reach.{leads, names}
use Rattle.equilibrium.proofs.Descents.{leads_by_recall}
use Rattle.equilibrium.proofs.LeafSums.{names_all-plays}
use Rattle.incentive_rows.specs.declared.triggers.Trigger.{Trigger as ProgramTrigger}
use Rattle.equilibrium_solutions.specs.Departure.{OwnSequences}
use Rattle.equilibrium_solutions.specs.Values.{IsProgramTrigger, stands_for}
use Rattle.equilibrium_solutions.proofs.Numbers.{move_plays, set_plays}
use Rattle.equilibrium_solutions.proofs.SetNodes.{has_node, set_is_own}
use Rattle.equilibrium_solutions.proofs.Tests.{both_of, first_of, second_of}

module _ (g : GameView) (p : PairsView) (pairs : IsPairs p) (of : IsPairsOf g p) (side : Side) where
  -- each trigger of a notion has rows
  pub has_rows : (notion : Notion) (trigger : Trigger) → IsTriggerOf notion g side trigger
      → (seq : ℕ) × IsProgramTrigger notion g p side (stands_for side trigger seq)
  has_rows Efce (Told set action) is =
      let v = side_of side p.seqs in
      let low : set.0 < length v.places = omega (arith, (of.sides side).per_set, slice_get_within (sets_of side g) set.0 is.0 is.1) in
      let place = within v.places set.0 low in
      let actions = (of.sides side).same_actions set.0 place.0 is.0 place.1 is.1 in (
        place.0.first + action,
        (set.0, action, is.0.actions, (is.0, is.1, refl), is.2, (refl, refl, refl, (place.0, place.1, omega (arith, actions, is.2), refl))),
      )
  has_rows Efce (Reached set) is = absurd is
  has_rows Efce Start is = absurd is
  has_rows Efcce (Told set action) is = absurd is
  has_rows Efcce (Reached set) is =
      let v = side_of side p.seqs in
      let place = within v.places set.0 (omega (arith, (of.sides side).per_set, is)) in
      (place.0.own, (set.0, 0, 1, refl, omega arith, (refl, refl, refl, (place.0, place.1, refl))))
  has_rows Efcce Start is = absurd is
  has_rows Nfcce (Told set action) is = absurd is
  has_rows Nfcce (Reached set) is = absurd is
  has_rows Nfcce Start is = (0, refl)

  same_trigger : (t : ProgramTrigger) (s : Side) (set : Option SetId) (action : Option ℕ) → t.side ≡ s → t.set ≡ set → t.action ≡ action
      → t ≡ record { side = s; set = set; action = action; seq = t.seq }
  same_trigger t s set action e f h =
      let make : Side → Option SetId → Option ℕ → ProgramTrigger = λ a b c. record { side = a; set = b; action = c; seq = t.seq } in
      ap₂ (λ (a : Side) (b : Option SetId). make a b t.action) e f ∙ ap (λ (c : Option ℕ). make s set c) h

  -- and rows stand for triggers of the notion alone
  pub is_trigger : (notion : Notion) (trigger : ProgramTrigger) → IsProgramTrigger notion g p side trigger
      → (left : Trigger) × IsTriggerOf notion g side left × (trigger ≡ stands_for side left trigger.seq)
  is_trigger Efce trigger is = (
    Told (record { 0 = is.0 }) is.1,
    (is.3.0, is.3.1, omega (arith, is.3.2, is.4)),
    same_trigger trigger side (Some record { 0 = is.0 }) (Some is.1) is.5.0 is.5.1 is.5.2,
  )
  is_trigger Efcce trigger is = (
    Reached (record { 0 = is.0 }),
    (let v = side_of side p.seqs in omega (arith, (of.sides side).per_set, slice_get_within v.places is.0 is.5.3.0 is.5.3.1)),
    same_trigger trigger side (Some record { 0 = is.0 }) None is.5.0 is.5.1 is.5.2,
  )
  is_trigger Nfcce trigger is = rw is (Start, tt, refl)

  module _ (rules : IsGame g) (recall : HasRecall g side) (own : OwnSequences side g) where
    pub leads_named : (plan : List (Option ℕ)) (set : ℕ) → set < length (sets_of side g)
        → (leads side g plan set ≡ true) ↔ (names_all plan (own.set set) ≡ true)
    leads_named plan set low =
        let node = has_node side g rules set low in
        let by_leads = leads_by_recall side g rules recall plan node.0 set (own.set set) node.1 (set_is_own side g own node.0 set node.1) in
        let by_names = names_all-plays plan (own.set set) in
        (λ h. by_names.1 (by_leads.0 h), λ h. by_leads.1 (by_names.0 h))

    -- a plan meets a trigger exactly where it plays its sequence
    pub meets_plays : (notion : Notion) (trigger : Trigger) (seq : ℕ) → IsTriggerOf notion g side trigger
        → IsProgramTrigger notion g p side (stands_for side trigger seq) → (plan : List (Option ℕ))
        → (meets side g trigger plan ≡ true) ↔ Plays (side_of side p.seqs) plan seq
    meets_plays Efce (Told set action) seq of_notion is plan =
        let low = slice_get_within (sets_of side g) set.0 of_notion.0 of_notion.1 in
        let led = leads_named plan set.0 low in
        let named = names action (slice_get plan set.0) in
        let End : SetId → ℕ → Type 0 = λ s a. Ends (side_of side p.seqs).places (s, a) seq in
        let at : set ≡ record { 0 = is.0 } = cc (is.5.1) in
        let told : action ≡ is.1 = cc (is.5.2) in
        let ends : Ends (side_of side p.seqs).places (set, action) seq = subst₂ End (sym at) (sym told) is.5.3 in
        let by = move_plays g rules p pairs of side own plan set.0 action seq ends in (
          λ h. by.1 (both_of named (names_all plan (own.set set.0)) (second_of (leads side g plan set.0) named h)
              (led.0 (first_of (leads side g plan set.0) named h))),
          λ plays. both_of (leads side g plan set.0) named (led.1 (second_of named (names_all plan (own.set set.0)) (by.0 plays)))
              (first_of named (names_all plan (own.set set.0)) (by.0 plays)),
        )
    meets_plays Efce (Reached set) seq of_notion is plan = absurd of_notion
    meets_plays Efce Start seq of_notion is plan = absurd of_notion
    meets_plays Efcce (Told set action) seq of_notion is plan = absurd of_notion
    meets_plays Efcce (Reached set) seq of_notion is plan =
        let led = leads_named plan set.0 of_notion in
        let at : set ≡ record { 0 = is.0 } = cc (is.5.1) in
        let own_is : IsOwn (side_of side p.seqs) set.0 seq = rw at is.5.3 in
        let by = set_plays g rules p pairs of side own plan set.0 seq of_notion own_is in
        (λ h. by.1 (led.0 h), λ plays. led.1 (by.0 plays))
    meets_plays Efcce Start seq of_notion is plan = absurd of_notion
    meets_plays Nfcce (Told set action) seq of_notion is plan = absurd of_notion
    meets_plays Nfcce (Reached set) seq of_notion is plan = absurd of_notion
    meets_plays Nfcce Start seq of_notion is plan =
        let none : seq ≡ 0 = ap (λ (t : ProgramTrigger). t.seq) is in
        (λ h. rw none nothing, λ plays. refl)

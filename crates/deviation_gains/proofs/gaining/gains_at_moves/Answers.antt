-- The triggers at a set are its told actions.
use Rattle.std.proofs.Common.{rules, ◌≡◌, ℕ, ◌<◌, inl, inr, true, false, refl, subst, arith}
use Rattle.std.proofs.lemmas.Bool.{cases_lt}
use Rattle.corr_game.specs.declared.notions.Notion.TheVariants.{Efce}
use Rattle.equilibrium.specs.declared.triggers.Trigger.TheVariants.{Told}
use Rattle.equilibrium.specs.Distribution.{entries_of}
use Rattle.deviation_gains.specs.Gains.{NoneGains}
use Rattle.deviation_gains.proofs.GainTriggers.{never, none_told, told_none}
use Rattle.deviation_gains.proofs.gaining.gains_at_moves.Goals as goal

pub returns-then-branch : goal.returns-then-branch
returns-then-branch c =
    record {
      exact = λ given.
          let side = c.args.at.0 in
          let set = c.args.at.1 in
          let action = c.loop-action.action in
          let info = c.set.result.now in
          let low : action < info.actions = search rules in
          let one = c.in_ok-gains_by.ensures.exact Efce (Told set action) given (info, c.set.ensures.item, low)
          (set.0, action, info.actions, (info, c.set.ensures.item, refl), low, (refl, refl, refl, c.seq_with.ensures.ends)) refl in
          let gained : c.in_ok-gains_by.field-0 ≡ true = search rules in (
            λ e. absurd (cc),
            λ none. never c.in_ok-gains_by.field-0 gained one
                (told_none side c.args.game.now (entries_of c.args.list.now) set.0 info c.set.ensures.item none action low),
          );
    }

pub loop-action-preserved : goal.loop-action-preserved
loop-action-preserved c = λ given other high.
    let side = c.args.at.0 in
    let set = c.args.at.1 in
    let action = c.loop-action.action in
    let info = c.set.result.now in
    let low : action < info.actions = search rules in
    let one = c.in_ok-gains_by.ensures.exact Efce (Told set action) given (info, c.set.ensures.item, low)
    (set.0, action, info.actions, (info, c.set.ensures.item, refl), low, (refl, refl, refl, c.seq_with.ensures.ends)) refl in
    let not_gained : c.in_ok-gains_by.field-0 ≡ false = search rules in
    elim (cases_lt other action) [
      | inl before ↦ c.loop-action.invariant given other before
      | inr here ↦
          let same : action ≡ other = omega (arith, high, here) in
          subst (λ a. NoneGains side c.args.game.now (entries_of c.args.list.now) (Told set a)) same (one.0 not_gained)
    ]

pub returns : goal.returns
returns c =
    record {
      exact = λ given.
          let info = c.set.result.now in
          let all : (action : ℕ) → action < info.actions → action < c.loop-action.action = λ action low. search rules in (
            λ e. none_told c.args.at.0 c.args.game.now (entries_of c.args.list.now) c.args.at.1.0 info c.set.ensures.item
                (λ action low. c.loop-action.invariant given action (all action low)),
            λ none. refl,
          );
    }

-- All triggers of the notion: that of the start, or those of each set.
use Rattle.std.proofs.Common.{rules, ◌≡◌, ◌<◌, ℕ, length, refl}
use Rattle.corr_game.specs.declared.notions.Notion.TheVariants.{Nfcce}
use Rattle.corr_game.specs.Game.{sets_of}
use Rattle.equilibrium.specs.declared.triggers.Trigger.TheVariants.{Start}
use Rattle.equilibrium.specs.Distribution.{entries_of}
use Rattle.deviation_gains.specs.Gains.{AreGiven}
use Rattle.deviation_gains.proofs.GainTriggers.{none_by_sets, started, where_ok}
use Rattle.deviation_gains.proofs.gaining.gains.Goals as goal

pub returns-then-eq : goal.returns-then-eq
returns-then-eq c =
    let at_start : c.args.at.0 ≡ Nfcce = search rules in
    record {
      exact = where_ok c.gains_by.result _ _
          (λ gained by.
          let given : AreGiven c.args.game.now c.args.pairs.now c.args.list.now = record {
            rules = c.len.ensures.rules;
            pairs = c.len-2.ensures.rules;
            entries = c.requires.entries;
            ranges = c.requires.ranges;
          } in
          started c.args.at.1 c.args.game.now (entries_of c.args.list.now) c.args.at.0 gained at_start (by Nfcce Start given tt refl refl))
          c.gains_by.ensures.exact;
    }

pub returns : goal.returns
returns c =
    let apart : c.args.at.0 ≡ Nfcce → ⊥ = search rules in
    record {
      exact =
          let given : AreGiven c.args.game.now c.args.pairs.now c.args.list.now = record {
            rules = c.len.ensures.rules;
            pairs = c.len-2.ensures.rules;
            entries = c.requires.entries;
            ranges = c.requires.ranges;
          } in
          let all : (set : ℕ) → set < length (sets_of c.args.at.1 c.args.game.now) → set < c.loop-set.set = λ set low. search rules in (
            λ e. none_by_sets c.args.at.1 c.args.game.now (entries_of c.args.list.now) c.args.at.0 apart
                (λ set low. c.loop-set.invariant given apart set (all set low)),
            λ none. refl,
          );
    }

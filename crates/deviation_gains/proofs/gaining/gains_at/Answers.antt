-- In EFCCE the trigger at a set is that it is reached.
use Rattle.std.proofs.Common.{rules, ◌≡◌, refl, arith}
use Rattle.corr_game.specs.declared.notions.Notion.TheVariants.{Efce, Efcce}
use Rattle.equilibrium.specs.declared.triggers.Trigger.TheVariants.{Reached}
use Rattle.equilibrium.specs.Distribution.{entries_of}
use Rattle.deviation_gains.proofs.GainTriggers.{only_efcce, reached_at, where_ok}
use Rattle.deviation_gains.proofs.gaining.gains_at.Goals as goal

pub returns : goal.returns
returns c =
    let set = c.args.at.2 in
    let side = c.args.at.1 in
    let untold : c.args.at.0 ≡ Efce → ⊥ = search rules in
    let own = rw c.seqs.ensures at c.own.ensures.number in
    record {
      exact = where_ok c.gains_by.result _ _
          (λ gained by given apart.
          reached_at side c.args.game.now (entries_of c.args.list.now) c.args.at.0 set.0 gained (only_efcce c.args.at.0 untold apart)
          c.requires.known
          (by Efcce (Reached set) given c.requires.known (set.0, 0, 1, refl, omega arith, (refl, refl, refl, own)) refl))
          c.gains_by.ensures.exact;
    }

-- There are at most 4096 sets, each with a value among the trigger's.
use Rattle.std.proofs.Common.{◌≡◌, ◌<◌, ◌^◌, Some, None, length, slice_get, refl, sym, ap, ◌∙◌, arith}
use Rattle.std.proofs.lemmas.Option.{slice_get-get_or}
use Rattle.corr_game.specs.Game.{sets_of}
use Rattle.sequences.proofs.Adding.{within}
use Rattle.incentive_rows.specs.Coefficient.{IsSetTerm}
use Rattle.incentive_rows.proofs.Coefficients.{none_of}
use Rattle.incentive_rows.proofs.Counts.{few_sets}
use Rattle.incentive_rows.proofs.Growing.{grows-on, grows-none, same_columns}
use Rattle.incentive_rows.proofs.Placing.{stand_in}
use Rattle.incentive_rows.proofs.Terms.{changes_as, changes_both, changes_more, changes_none}
use Rattle.incentive_rows.proofs.blocks.add_values.Goals as goal
use Rattle.incentive_rows.proofs.blocks.add_values.Goals.{in-Some+in_ok-add_value+in_ok-add_value_above, in_default}

pub add_value-requires-clause-before : goal.add_value-requires-clause-before
add_value-requires-clause-before c = λ r k.
    omega (arith, few_sets c.args.trigger.now.side c.args.game.now c.set.ensures.rules, c.loop-set.invariant.0.within (2 ^ 41) c.requires.before r k)

pub add_value_above-requires-clause-stand : goal.add_value_above-requires-clause-stand
add_value_above-requires-clause-stand c =
    stand_in c.args.game.now c.args.pairs.now c.args.trigger.now.side c.args.trigger.now.set _ c.args.places.now.values c.args.places.now.rows c.requires.whose c.requires.placed

pub add_value_above-requires-clause-in_columns : goal.add_value_above-requires-clause-in_columns
add_value_above-requires-clause-in_columns c =
    let sets = c.args.places.now.sets.items in
    let low : c.loop-set.set < length sets = omega (arith, c.requires.placed.per_set) in
    let at : slice_get sets c.loop-set.set ≡ Some (Some c.in-Some.place) = slice_get-get_or sets c.loop-set.set c.index.result.now low ∙ ap Some (sym c.index.ensures ∙ c.in-Some.is) in
    let inside = c.requires.placed.within c.loop-set.set c.in-Some.place c.set.result.now at c.set.ensures.item in
    omega (arith, inside.0, same_columns c.loop-set.invariant.0, same_columns c.in_ok-add_value.ensures.grows)

pub add_value_above-requires-clause-before : goal.add_value_above-requires-clause-before
add_value_above-requires-clause-before c = λ r k.
    let few = few_sets c.args.trigger.now.side c.args.game.now c.set.ensures.rules in
    c.in_ok-add_value.ensures.grows.within (2 ^ 42) (λ i j. omega (arith, few, c.loop-set.invariant.0.within (2 ^ 41) c.requires.before i j)) r k

pub loop-set-preserved : goal.loop-set-preserved
loop-set-preserved c =
    let part = IsSetTerm c.args.game.now c.args.pairs.now c.args.trigger.now c.args.places.now.sets.items c.args.places.now.rows c.args.columns.now in
    let so_far = c.loop-set.invariant in
    let sets = c.args.places.now.sets.items in
    let low : c.loop-set.set < length sets = omega (arith, c.requires.placed.per_set) in
    let at : slice_get sets c.loop-set.set ≡ Some c.index.result.now = slice_get-get_or sets c.loop-set.set c.index.result.now low ∙ ap Some (sym c.index.ensures) in
    elim c.match-index.branch [
      | in-Some+in_ok-add_value+in_ok-add_value_above w ↦
          let above = w.in_ok-add_value_above.ensures.changes in
          let both = changes_both w.in_ok-add_value.ensures.changes above.2 in
          rw w.lp-is (
            grows-on _ so_far.0 (grows-on 130 w.in_ok-add_value.ensures.grows w.in_ok-add_value_above.ensures.grows (omega arith)) (omega arith),
            changes_more (λ r k. part r k) c.loop-set.set so_far.1 (changes_as both (λ r k v t. (w.set.result.now, Some w.in-Some.place, w.set.ensures.item, at ∙ ap Some w.in-Some.is, (above.0, above.1, t)))),
          )
      | in_default w ↦
          let info = within (sets_of c.args.trigger.now.side c.args.game.now) c.loop-set.set (omega arith) in
          rw w.lp-is (
            grows-on _ so_far.0 (grows-none 0 _) (omega arith),
            changes_more (λ r k. part r k) c.loop-set.set so_far.1 (changes_none (λ r k. part r k c.loop-set.set) c.loop-set.lp (λ r k. (info.0, None, info.1, at ∙ ap Some (none_of c.index.result.now w.in_default.not-Some), refl))),
          )
    ]

pub returns-clause-changes : goal.returns-clause-changes
returns-clause-changes c =
    let all : c.loop-set.set ≡ length (sets_of c.args.trigger.now.side c.args.game.now) = omega arith in
    rw (← all) c.loop-set.invariant.1

pub returns-clause-grows : goal.returns-clause-grows
returns-clause-grows c =
    let few = few_sets c.args.trigger.now.side c.args.game.now c.sets-set-end.ensures.rules in
    grows-on (2 ^ 20) c.loop-set.invariant.0 (grows-none 0 _) (omega (arith, few))

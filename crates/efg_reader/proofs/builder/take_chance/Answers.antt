use Rattle.std.proofs.Common.{List, map, ap, ◌∙◌}
use Rattle.corr_num.specs.Fraction.{Fraction}
use Rattle.number_words.specs.Number.{fraction_of}
use Rattle.efg_reader.specs.declared.events.Event.TheVariants.{Chance}
use Rattle.efg_reader.proofs.KnownSet.{found_list}
use Rattle.efg_reader.proofs.builder.take_chance.Goals as goal

pub returns-clause-kids : goal.returns-clause-kids
returns-clause-kids c = (
  c.list_at-first.result.now,
  found_list c.args.lists.now.entries c.args.set c.args.list c.define_set.new.lists.entries c.in_ok-index.index c.list_at-first.result.now c.in_ok-index.ensures.defined c.list_at-first.ensures,
  c.len.ensures.count,
)

pub returns-clause-event : goal.returns-clause-event
returns-clause-event c = (
  c.list_at-first.result.now,
  found_list c.args.lists.now.entries c.args.set c.args.list c.define_set.new.lists.entries c.in_ok-index.index c.list_at-first.result.now c.in_ok-index.ensures.defined c.list_at-first.ensures,
  ap (λ (probs : List Fraction). Chance probs) (c.in_ok-probs.ensures.values ∙ ap (map fraction_of) c.as_slice.ensures.value),
)

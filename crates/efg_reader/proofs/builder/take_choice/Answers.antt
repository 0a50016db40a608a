-- The set that the line names has the list at its index.
use Rattle.std.proofs.Common.{ℕ, Option, option_map, refl, ap, sym, ◌∙◌}
use Rattle.std.proofs.lemmas.Option.{slice_get-map}
use Rattle.efg_reader.specs.Sets.{info_of}
use Rattle.efg_reader.specs.declared.events.Event.TheVariants.{Choice}
use Rattle.efg_reader.specs.declared.first_lists.FirstList.{FirstList}
use Rattle.efg_reader.proofs.KnownSet.{found_list}
use Rattle.efg_reader.proofs.builder.take_choice.Goals as goal

pub returns-clause-choice : goal.returns-clause-choice
returns-clause-choice c =
    let found = c.list_at.ensures in
    record {
      index = c.in_ok-index.index;
      event_is = refl;
      defined = c.in_ok-index.ensures.defined;
      actions = (
        info_of (found.0, c.list_at.result.now),
        slice_get-map info_of c.define_set.new.lists.entries c.in_ok-index.index ∙ ap (λ (entry : Option (ℕ × FirstList)). option_map info_of entry) found.1,
        c.len-kids.ensures.count,
      );
    }

pub returns-clause-kids : goal.returns-clause-kids
returns-clause-kids c = (
  c.list_at.result.now,
  found_list c.args.lists.now.entries c.args.set c.args.list c.define_set.new.lists.entries c.in_ok-index.index c.list_at.result.now c.in_ok-index.ensures.defined c.list_at.ensures,
  c.len-kids.ensures.count,
)

pub returns-clause-event : goal.returns-clause-event
returns-clause-event c = ap (λ (n : ℕ). Choice c.args.side (record { 0 = n })) (sym c.in_ok-index.ensures.place)

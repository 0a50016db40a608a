use Rattle.std.proofs.Common.{[], map, ap}
use Rattle.std.proofs.lemmas.List.Elements.{All-nil}
use Rattle.corr_game.specs.declared.sides.Side.TheVariants.{One, Two}
use Rattle.efg_reader.specs.declared.events.Bare.{Bare}
use Rattle.efg_reader.specs.Assembly.{node_with}
use Rattle.efg_reader.specs.Lists.{entry_in}
use Rattle.efg_reader.specs.Taken.{IsKnown}
use Rattle.efg_reader.specs.Told.{firsts}
use Rattle.efg_reader.proofs.SetsSoFar.{no_sets}
use Rattle.efg_reader.proofs.builder.Builder.new.Goals as goal

pub returns-clause-one : goal.returns-clause-one
returns-clause-one c = no_sets One c.new-5.result.items c.new-2.result.entries c.new-5.ensures.items c.new-2.ensures.empty

pub returns-clause-two : goal.returns-clause-two
returns-clause-two c = no_sets Two c.new-5.result.items c.new-3.result.entries c.new-5.ensures.items c.new-3.ensures.empty

pub returns-clause-taken : goal.returns-clause-taken
unfolding firsts
returns-clause-taken c outcomes = record {
  sets_of_chance = ap (map entry_in) c.new.ensures.empty;
  sets_of_one = ap (map entry_in) c.new-2.ensures.empty;
  sets_of_two = ap (map entry_in) c.new-3.ensures.empty;
  outcomes_are = outcomes;
  nodes_are = ap (map node_with) c.new-5.ensures.items;
  kids = ap (map (λ (bare : Bare). bare.kids)) c.new-5.ensures.items;
  known = All-nil (IsKnown []);
  begun = c.new-4.ensures.begun;
}

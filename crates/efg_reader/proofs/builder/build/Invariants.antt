-- What the lines so far say is kept.
use Rattle.std.proofs.Common.{◌≡◌, ◌≤◌, Some, List, [], drop, vec_len, map}
use Rattle.corr_game.specs.declared.sides.Side.TheVariants.{One, Two}
use Rattle.efg_reader.specs.Above.{AreShallow}
use Rattle.efg_reader.specs.FirstRefusal.{lines_behind}
use Rattle.efg_reader.specs.Outline.{above, places}
use Rattle.efg_reader.specs.Places.{awaited}
use Rattle.efg_reader.specs.Sets.{turn_of, AreChances, AreSetsOf}
use Rattle.efg_reader.specs.Taken.{HasTaken}
use Rattle.efg_reader.specs.Told.{Told}
use Rattle.efg_reader.proofs.builder.build.Given as goal

abbrev pub invariant-loop-line : goal.invariant-loop-line
invariant-loop-line l = record {
  tree : awaited 1 l.builder.nodes.items ≡ Some (places l.builder.outline);
  shallow : AreShallow [] l.builder.nodes.items (above l.builder.outline);
  nodes : vec_len l.builder.nodes ≤ 4096;
  one : AreSetsOf One (map turn_of l.builder.nodes.items) l.builder.one.entries;
  two : AreSetsOf Two (map turn_of l.builder.nodes.items) l.builder.two.entries;
  chance : AreChances l.builder.chance.entries;
  lines : List Told;
  taken : HasTaken l.builder lines;
  rest : lines_behind lines (drop l.line-index l.fn.file.lines) ≡ lines_behind [] l.fn.file.lines;
  two_players : l.fn.file.players ≡ 2;
}

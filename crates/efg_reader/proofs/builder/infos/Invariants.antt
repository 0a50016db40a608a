-- The sets so far are those of the first entries.
use Rattle.std.proofs.Common.{◌≡◌, vec_len, map, take}
use Rattle.efg_reader.specs.Sets.{info_of}
use Rattle.efg_reader.proofs.builder.infos.Given as goal

abbrev pub invariant-loop-index : goal.invariant-loop-index
invariant-loop-index l = record {
  count : vec_len l.infos ≡ l.index;
  each : l.infos.items ≡ take l.index (map info_of l.lists.entries);
}

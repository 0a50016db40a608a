-- Each pair so far is an entry.
use Rattle.plain_programs.proofs.Entries.{AreEntriesBelow}
use Rattle.plain_programs.proofs.equilibria.are_entries.Given as goal

abbrev pub invariant-loop-k : goal.invariant-loop-k
invariant-loop-k l = AreEntriesBelow l.game l.list l.k

use Rattle.std.proofs.Common.{◌≡◌, List, [], replicate}
use Rattle.lp_form.specs.declared.entries.Entry.{Entry}
use Rattle.lp_form.proofs.programs.empty_rows.Given as goal

abbrev pub invariant-loop : goal.invariant-loop
invariant-loop l = let none : List Entry = [] in l.rows.items ≡ replicate l.counter none

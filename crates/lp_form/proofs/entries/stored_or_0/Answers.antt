-- Where the search has found the column its entry has the value, and elsewhere nothing is stored.
use Rattle.std.proofs.Common.{sym, ◌∙◌, arith}
use Rattle.std.proofs.lemmas.Int.{to_z-of_z}
use Rattle.std.specs.Int.{w64}
use Rattle.lp_form.proofs.Placing.{stored_value, free_value, stored_inside, stored_fits, few_entries}
use Rattle.lp_form.proofs.entries.stored_or_0.Goals as goal

pub offset_bounds-entries-at : goal.offset_bounds-entries-at
offset_bounds-entries-at c =
    let inside = stored_inside _ _ _ (c.in-Ok.ensures c.requires.0 c.requires.2) in
    omega (arith, inside, c.requires.1, few_entries c.args.entries.now 0 c.requires.0 (omega arith) c.requires.2)

pub bounds-entries-at : goal.bounds-entries-at
bounds-entries-at c = stored_inside _ _ _ (c.in-Ok.ensures c.requires.0 c.requires.2)

pub returns-in-Ok : goal.returns-in-Ok
returns-in-Ok c =
    let stored = c.in-Ok.ensures c.requires.0 c.requires.2 in
    let fits = stored_fits c.args.entries.now 0 c.requires.0 c.args.col c.in-Ok.at _ c.requires.2 stored in
    to_z-of_z w64 _ fits ∙ stored_value c.args.entries.now c.args.col c.in-Ok.at _ stored

pub returns-in-Err : goal.returns-in-Err
returns-in-Err c =
    sym (free_value c.args.entries.now 0 c.requires.0 c.args.col _ c.requires.2 (c.in-Err.ensures c.requires.0 c.requires.2))

-- The value that is handed on is the same, and the column found is the pair's.
use Rattle.std.proofs.Common.{◌≡◌, ◌^◌, w64, to_z, of_z, sym}
use Rattle.std.proofs.lemmas.Int.{to_z-of_z}
use Rattle.incentive_rows.proofs.Terms.{at_found, at_none}
use Rattle.incentive_rows.proofs.adding.add_at_pair.Goals as goal

pub returns-in-None-clause-changes : goal.returns-in-None-clause-changes
returns-in-None-clause-changes c = at_none c.args.lp.now (sym c.in-None.ensures.value)

pub returns-in_ok-add-in-Some-clause-changes : goal.returns-in_ok-add-in-Some-clause-changes
returns-in_ok-add-in-Some-clause-changes c =
    let number : to_z w64 (of_z w64 c.args.value) ≡ c.args.value = to_z-of_z w64 c.args.value c.ranges.value in
    at_found (sym c.in-Some.ensures.value) (rw number at c.in_ok-add-in-Some.ensures.changes)

pub returns-in_ok-add-in-Some-clause-grows : goal.returns-in_ok-add-in-Some-clause-grows
returns-in_ok-add-in-Some-clause-grows c =
    let number : to_z w64 (of_z w64 c.args.value) ≡ c.args.value = to_z-of_z w64 c.args.value c.ranges.value in
    c.in_ok-add-in-Some.ensures.grows (2 ^ 28) (rw number c.requires.small)

-- Where the column is stored its entry is written over, elsewhere one is put in: the record of what changed says it all.
use Rattle.std.proofs.Common.{◌≡◌, w64, to_z, of_z, ◌∙◌, arith}
use Rattle.std.proofs.lemmas.Int.{to_z-of_z}
use Rattle.lp_form.proofs.Placing.{set_over, put_in, stored_inside, free_inside}
use Rattle.lp_form.proofs.entries.SparseRow.set.Goals as goal

pub index_mut-requires : goal.index_mut-requires
index_mut-requires c =
    let same : c.deref.result.now ≡ c.args.self.now = c.deref.ensures.value ∙ c.self.view_is in
    let up = rw (← same) at c.requires.2 in
    omega (arith, c.deref.ensures.len, stored_inside _ _ _ (c.in-Ok.ensures c.requires.0 up))

pub insert-requires : goal.insert-requires
insert-requires c =
    let same : c.deref.result.now ≡ c.args.self.now = c.deref.ensures.value ∙ c.self.view_is in
    let up = rw (← same) at c.requires.2 in
    omega (arith, c.deref.ensures.len, free_inside _ _ _ (c.in-Err.ensures c.requires.0 up))

pub returns-in-Ok-clause-row : goal.returns-in-Ok-clause-row
returns-in-Ok-clause-row c = λ cols most up.
    let number : to_z w64 (of_z w64 c.args.value) ≡ c.args.value = to_z-of_z w64 c.args.value c.ranges.value in
    (set_over {cols = cols} _ c.self.view_is c.deref.ensures.value number c.ranges.value c.in-Ok.ensures up).row

pub returns-in-Ok-clause-placed : goal.returns-in-Ok-clause-placed
returns-in-Ok-clause-placed c =
    let number : to_z w64 (of_z w64 c.args.value) ≡ c.args.value = to_z-of_z w64 c.args.value c.ranges.value in
    (set_over {cols = c.requires.0} _ c.self.view_is c.deref.ensures.value number c.ranges.value c.in-Ok.ensures c.requires.2).placed

pub returns-in-Ok-clause-others : goal.returns-in-Ok-clause-others
returns-in-Ok-clause-others c =
    let number : to_z w64 (of_z w64 c.args.value) ≡ c.args.value = to_z-of_z w64 c.args.value c.ranges.value in
    (set_over {cols = c.requires.0} _ c.self.view_is c.deref.ensures.value number c.ranges.value c.in-Ok.ensures c.requires.2).others

pub returns-in_ok-insert-in-Err-clause-row : goal.returns-in_ok-insert-in-Err-clause-row
returns-in_ok-insert-in-Err-clause-row c = λ cols most up.
    let number : to_z w64 (of_z w64 c.args.value) ≡ c.args.value = to_z-of_z w64 c.args.value c.ranges.value in
    (put_in {cols = cols} _ c.self.view_is c.deref.ensures.value number c.ranges.value c.in-Err.ensures c.in_ok-insert-in-Err.ensures.items most up).row

pub returns-in_ok-insert-in-Err-clause-placed : goal.returns-in_ok-insert-in-Err-clause-placed
returns-in_ok-insert-in-Err-clause-placed c =
    let number : to_z w64 (of_z w64 c.args.value) ≡ c.args.value = to_z-of_z w64 c.args.value c.ranges.value in
    (put_in {cols = c.requires.0} _ c.self.view_is c.deref.ensures.value number c.ranges.value c.in-Err.ensures c.in_ok-insert-in-Err.ensures.items c.requires.1 c.requires.2).placed

pub returns-in_ok-insert-in-Err-clause-others : goal.returns-in_ok-insert-in-Err-clause-others
returns-in_ok-insert-in-Err-clause-others c =
    let number : to_z w64 (of_z w64 c.args.value) ≡ c.args.value = to_z-of_z w64 c.args.value c.ranges.value in
    (put_in {cols = c.requires.0} _ c.self.view_is c.deref.ensures.value number c.ranges.value c.in-Err.ensures c.in_ok-insert-in-Err.ensures.items c.requires.1 c.requires.2).others

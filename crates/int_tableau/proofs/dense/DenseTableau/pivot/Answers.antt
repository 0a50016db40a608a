-- The parts of the pivot are read off the calls, and the lemmas on a pivot of stored lists say the rest.
use Rattle.std.proofs.Common.{◌≡◌, true, ◌++◌, take, drop, set, to_z, of_z, ap, ◌∙◌, refl, sym, length, arith}
use Rattle.std.specs.Int.{w64}
use Rattle.std.proofs.lemmas.Int.{to_z-of_z}
use Rattle.std.proofs.lemmas.List.{length-set}
use Rattle.int_tableau.specs.Elimination.{at}
use Rattle.int_tableau.specs.Pivot.{EndsWide}
use Rattle.int_tableau.specs.Stored.{Stored, content_of}
use Rattle.int_tableau.proofs.ExactEntries.{narrow_fits_word}
use Rattle.int_tableau.proofs.Pivoting.{Parts, AllEliminated, after, chosen_row, own_width, parts_of, eliminated_of, wide_of, whole_written, stored_after, spent_after, pivoted_after, pivot_narrow, tableau_of}
use Rattle.int_tableau.proofs.dense.DenseTableau.pivot.Goals as goal

abbrev stored : goal.In-None → Stored
stored c = record {
  cols = c.self.inside.cols;
  rows = c.self.inside.rows.items;
  basis = c.self.inside.basis.items;
  denom = c.self.inside.denom;
  spent = c.self.inside.spent;
}

parts : (c : goal.In-None) → Parts (stored c) c.args.row c.args.col c.make_positive.new.self c.eliminate_others-wide.new.rows
parts c =
    parts_of (stored c) c.args.self.now c.args.row c.args.col c.index_mut.result.now c.replace-chosen.result c.make_positive.new.self c.replace-chosen.new.dest c.deref_mut.result.now c.eliminate_others-wide.new.rows
    c.self.view_is c.self.invariant c.requires.fresh c.requires.program_row c.requires.column c.requires.not_zero c.replace-chosen.ensures.value c.index_mut.ensures.value c.make_positive.ensures.width c.make_positive.ensures.turned c.deref_mut.ensures.value c.eliminate_others-wide.auto.rows

-- the pivot's row is a row of narrow entries
pub eliminate_others-wide-requires-clause-pivot_row : goal.eliminate_others-wide-requires-clause-pivot_row
eliminate_others-wide-requires-clause-pivot_row c =
    let s : Stored = record {
      cols = c.self.inside.cols;
      rows = c.self.inside.rows.items;
      basis = c.self.inside.basis.items;
      denom = c.self.inside.denom;
      spent = c.self.inside.spent;
    } in
    let p = parts_of s c.args.self.now c.args.row c.args.col c.index_mut.result.now c.replace-chosen.result c.make_positive.new.self c.replace-chosen.new.dest c.deref_mut.result.now c.deref_mut.result.now
    c.self.view_is c.self.invariant c.requires.fresh c.requires.program_row c.requires.column c.requires.not_zero c.replace-chosen.ensures.value c.index_mut.ensures.value c.make_positive.ensures.width c.make_positive.ensures.turned c.deref_mut.ensures.value refl in
    own_width (chosen_row s c.args.row c.args.col c.make_positive.new.self c.deref_mut.result.now p)

old_denom : (c : goal.In-None) → to_z w64 (of_z w64 c.self.inside.denom) ≡ c.self.inside.denom
old_denom c =
    let p = parts c in
    to_z-of_z w64 c.self.inside.denom (narrow_fits_word c.self.inside.denom (p.rules.narrow_denom p.fresh))

new_denom : (c : goal.In-None) → to_z w64 (of_z w64 c.at-self-inside.result) ≡ at c.make_positive.new.self c.args.col
new_denom c =
    let n = pivot_narrow (stored c) c.args.row c.args.col c.make_positive.new.self c.eliminate_others-wide.new.rows (parts c) in
    rw c.at-self-inside.ensures (to_z-of_z w64 (at c.make_positive.new.self c.args.col) (narrow_fits_word (at c.make_positive.new.self c.args.col) n))

written : (c : goal.In-None) → take c.self.inside.rows.len (c.eliminate_others-wide.new.rows ++ drop (length c.eliminate_others-wide.new.rows) (set c.self.inside.rows.items c.args.row c.replace-chosen.new.dest)) ≡ c.eliminate_others-wide.new.rows
written c =
    whole_written c.self.inside.rows.len c.eliminate_others-wide.new.rows (set c.self.inside.rows.items c.args.row c.replace-chosen.new.dest)
    (c.eliminate_others-wide.auto.rows ∙ ap length c.deref_mut.ensures.value)
    (c.self.inside.rows.ok.0 ∙ sym (length-set c.self.inside.rows.items c.args.row c.replace-chosen.new.dest))

eliminated : (c : goal.In-None) → AllEliminated (stored c) c.args.row c.args.col c.make_positive.new.self c.eliminate_others-wide.new.rows
eliminated c =
    eliminated_of (stored c) c.args.row c.args.col c.make_positive.new.self c.replace-chosen.new.dest c.deref_mut.result.now c.eliminate_others-wide.new.rows _ c.deref_mut.ensures.value (old_denom c) c.in-None.ensures

pub invariant_of-self : goal.invariant_of-self
invariant_of-self c =
    rw (written c, new_denom c) (stored_after (stored c) c.args.row c.args.col c.make_positive.new.self c.eliminate_others-wide.new.rows (parts c) (eliminated c))

pub returns-in-None-clause-answer : goal.returns-in-None-clause-answer
returns-in-None-clause-answer c =
    rw (← c.self.view_is, written c, new_denom c) (pivoted_after (stored c) c.args.row c.args.col c.make_positive.new.self c.eliminate_others-wide.new.rows (parts c) (eliminated c))

pub returns-in-None-clause-rules : goal.returns-in-None-clause-rules
returns-in-None-clause-rules c = tableau_of _ (invariant_of-self c)

abbrev stored_wide : goal.After-row_known-1 → Stored
stored_wide c = record {
  cols = c.self.inside.cols;
  rows = c.self.inside.rows.items;
  basis = c.self.inside.basis.items;
  denom = c.self.inside.denom;
  spent = c.self.inside.spent;
}

parts_wide : (c : goal.After-row_known-1) → Parts (stored_wide c) c.args.row c.args.col c.make_positive.new.self c.eliminate_others-wide.new.rows
parts_wide c =
    parts_of (stored_wide c) c.args.self.now c.args.row c.args.col c.index_mut.result.now c.replace-chosen.result c.make_positive.new.self c.replace-chosen.new.dest c.deref_mut.result.now c.eliminate_others-wide.new.rows
    c.self.view_is c.self.invariant c.requires.fresh c.requires.program_row c.requires.column c.requires.not_zero c.replace-chosen.ensures.value c.index_mut.ensures.value c.make_positive.ensures.width c.make_positive.ensures.turned c.deref_mut.ensures.value c.eliminate_others-wide.auto.rows

old_denom_wide : (c : goal.After-row_known-1) → to_z w64 (of_z w64 c.self.inside.denom) ≡ c.self.inside.denom
old_denom_wide c =
    let p = parts_wide c in
    to_z-of_z w64 c.self.inside.denom (narrow_fits_word c.self.inside.denom (p.rules.narrow_denom p.fresh))

new_denom_wide : (c : goal.After-row_known-1) → to_z w64 (of_z w64 c.at-self-inside.result) ≡ at c.make_positive.new.self c.args.col
new_denom_wide c =
    let n = pivot_narrow (stored_wide c) c.args.row c.args.col c.make_positive.new.self c.eliminate_others-wide.new.rows (parts_wide c) in
    rw c.at-self-inside.ensures (to_z-of_z w64 (at c.make_positive.new.self c.args.col) (narrow_fits_word (at c.make_positive.new.self c.args.col) n))

written_wide : (c : goal.After-row_known-1) → take c.self.inside.rows.len (c.eliminate_others-wide.new.rows ++ drop (length c.eliminate_others-wide.new.rows) (set c.self.inside.rows.items c.args.row c.replace-chosen.new.dest)) ≡ c.eliminate_others-wide.new.rows
written_wide c =
    whole_written c.self.inside.rows.len c.eliminate_others-wide.new.rows (set c.self.inside.rows.items c.args.row c.replace-chosen.new.dest)
    (c.eliminate_others-wide.auto.rows ∙ ap length c.deref_mut.ensures.value)
    (c.self.inside.rows.ok.0 ∙ sym (length-set c.self.inside.rows.items c.args.row c.replace-chosen.new.dest))

pub invariant_of-self-in-Some : goal.invariant_of-self-in-Some
invariant_of-self-in-Some c =
    rw (written_wide c, new_denom_wide c) (spent_after (stored_wide c) c.args.row c.args.col c.make_positive.new.self c.eliminate_others-wide.new.rows (parts_wide c))

-- the place of an entry that is wide, by what elimination says of it
ends_wide : (c : goal.After-row_known-1) → EndsWide (content_of (stored_wide c)) (content_of (after (stored_wide c) c.args.row c.args.col c.make_positive.new.self c.eliminate_others-wide.new.rows true)) c.args.row c.args.col record { row = c.row_name.result; col = c.in-Some.col }
ends_wide c =
    let said = rw c.in-Some.is at c.eliminate_others-wide.ensures in
    wide_of (stored_wide c) c.args.row c.args.col c.make_positive.new.self c.replace-chosen.new.dest c.deref_mut.result.now c.eliminate_others-wide.new.rows _ c.in-Some.row c.in-Some.col c.deref.result.now c.row_name.result (parts_wide c) c.deref_mut.ensures.value (old_denom_wide c) said.0 said.1 said.2 c.deref.ensures.value c.row_name.ensures

pub overflow_cast-result : goal.overflow_cast-result
overflow_cast-result c =
    let wide = ends_wide c in
    let rules = (parts_wide c).rules in
    omega (arith, wide.in_columns, rules.few_columns)

pub returns-in-Some-clause-answer : goal.returns-in-Some-clause-answer
returns-in-Some-clause-answer c = rw (← c.self.view_is, written_wide c, new_denom_wide c) (ends_wide c)

pub returns-in-Some-clause-rules : goal.returns-in-Some-clause-rules
returns-in-Some-clause-rules c = tableau_of _ (invariant_of-self-in-Some c)

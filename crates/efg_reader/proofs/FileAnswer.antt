-- What the rest of a file answers behind the lines taken is what the file answers.
use Rattle.std.proofs.Common.{◌≡◌, ℕ, ◌≤◌, Bool, true, false, cond, List, [], Some, None, length, drop, slice_get, refl, ap, sym, ◌∙◌}
use Rattle.std.specs.Prelude.{Ok, Err}
use Rattle.efg_lines.specs.File.{FileView}
use Rattle.efg_lines.specs.declared.node_line.NodeLine.{NodeLine}
use Rattle.efg_lines.specs.declared.refusal.FileRefusal.{FileRefusal}
use Rattle.efg_lines.specs.declared.refusal.FileRefusal.TheVariants.{MissingNode}
use Rattle.efg_reader.specs.FirstRefusal.{file_lines, file_refusal, last_line, lines_behind, next_line}
use Rattle.efg_reader.specs.Rules.{refusal_in}
use Rattle.efg_reader.specs.Told.{Told}
use Rattle.efg_reader.specs.TreeSoFar.{is_closed}
use Rattle.efg_reader.proofs.NextLine.{rest_none, rest_refused}
use Rattle.efg_reader.proofs.Refusing.{err_from}

two_named : (file : FileView) → file.players ≡ 2 → file_lines file ≡ lines_behind [] file.lines
two_named file two = rw two refl

module _ (file : FileView) (two : file.players ≡ 2) (lines : List Told) (k : ℕ) (rest : lines_behind lines (drop k file.lines) ≡ lines_behind [] file.lines) where
  -- a line is refused
  pub file_refused : (line : NodeLine) (refusal : FileRefusal) → slice_get file.lines k ≡ Some line → refusal_in (next_line lines line) ≡ Some refusal → file_refusal file ≡ Some refusal
  file_refused line refusal at is =
      ap refusal_in (two_named file two ∙ sym rest ∙ rest_refused lines line file.lines k refusal at (err_from (next_line lines line) refusal is))

  -- all lines are taken
  pub file_taken : length file.lines ≤ k → file_lines file ≡ last_line lines
  file_taken over = two_named file two ∙ sym rest ∙ rest_none lines file.lines k over

  ends : (closed : Bool) (n : ℕ) → refusal_in {A = List Told} (cond closed (Ok lines) (Err (MissingNode n))) ≡ cond closed None (Some (MissingNode n))
  ends true n = refl
  ends false n = refl

  pub file_ends : (closed : Bool) (n : ℕ) → length file.lines ≤ k → closed ≡ is_closed lines → n ≡ length lines → cond closed None (Some (MissingNode n)) ≡ file_refusal file
  file_ends closed n over same count = rw (same, count) (sym (ap refusal_in (file_taken over) ∙ ends (is_closed lines) (length lines)))

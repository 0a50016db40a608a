-- What a line answers behind the lines before, by the first rule that it breaks; and what the rest of the file then answers.
use Rattle.std.proofs.Common.{◌≡◌, ℕ, ◌+◌, ◌≤◌, List, [], ◌∷◌, ◌++◌, Option, Some, None, length, drop, slice_get, ap, ◌∙◌}
use Rattle.std.specs.Prelude.{Result, Ok, Err}
use Rattle.std.proofs.lemmas.List.{drop_more, drop_all}
use Rattle.std.proofs.lemmas.Option.{slice_get_within, get_or_from_slice_get}
use Rattle.efg_lines.specs.declared.node_line.NodeLine.{NodeLine}
use Rattle.efg_lines.specs.declared.refusal.FileRefusal.{FileRefusal}
use Rattle.efg_lines.specs.declared.refusal.FileRefusal.TheVariants.{NumberTooWide}
use Rattle.efg_reader.specs.Entry.{Numbers, numbers}
use Rattle.efg_reader.specs.FirstRefusal.{goes_on, last_line, lines_behind, next_line, told_line, told_refusal, unless}
use Rattle.efg_reader.specs.Rules.{place_rules}
use Rattle.efg_reader.specs.Told.{Told}
use Rattle.efg_reader.specs.TreeSoFar.{depth, is_closed}

-- a line with its numbers
abbrev pub told_of : NodeLine → Numbers → Told
told_of line amounts = record { line = line; numbers = amounts }

module _ (lines : List Told) (line : NodeLine) where
  abbrev pub place : Option FileRefusal
  place = place_rules (length lines) (is_closed lines) (depth lines)

  pub next_misplaced : (refusal : FileRefusal) → place ≡ Some refusal → next_line lines line ≡ Err refusal
  next_misplaced refusal is = ap (λ (rule : Option FileRefusal). unless rule (told_line lines line (numbers line))) is

  pub next_wide : place ≡ None → numbers line ≡ None → next_line lines line ≡ Err (NumberTooWide (length lines))
  next_wide fits wide = ap (λ (rule : Option FileRefusal). unless rule (told_line lines line (numbers line))) fits ∙ ap (told_line lines line) wide

  next_told : (amounts : Numbers) → place ≡ None → numbers line ≡ Some amounts → next_line lines line ≡ unless (told_refusal lines (told_of line amounts)) (Ok (told_of line amounts))
  next_told amounts fits are = ap (λ (rule : Option FileRefusal). unless rule (told_line lines line (numbers line))) fits ∙ ap (told_line lines line) are

  pub next_refused : (amounts : Numbers) (refusal : FileRefusal) → place ≡ None → numbers line ≡ Some amounts → told_refusal lines (told_of line amounts) ≡ Some refusal → next_line lines line ≡ Err refusal
  next_refused amounts refusal fits are is = next_told amounts fits are ∙ ap (λ (rule : Option FileRefusal). unless rule (Ok (told_of line amounts))) is

  pub next_taken : (amounts : Numbers) → place ≡ None → numbers line ≡ Some amounts → told_refusal lines (told_of line amounts) ≡ None → next_line lines line ≡ Ok (told_of line amounts)
  next_taken amounts fits are is = next_told amounts fits are ∙ ap (λ (rule : Option FileRefusal). unless rule (Ok (told_of line amounts))) is

  drop_at : (xs : List NodeLine) (k : ℕ) → slice_get xs k ≡ Some line → drop k xs ≡ line ∷ drop (k + 1) xs
  drop_at xs k at = drop_more xs k line (slice_get_within xs k line at) ∙ ap (λ (x : NodeLine). x ∷ drop (k + 1) xs) (get_or_from_slice_get xs k line line at)

  -- the rest of the file behind a line
  pub rest_refused : (xs : List NodeLine) (k : ℕ) (refusal : FileRefusal) → slice_get xs k ≡ Some line → next_line lines line ≡ Err refusal → lines_behind lines (drop k xs) ≡ Err refusal
  unfolding lines_behind
  rest_refused xs k refusal at is = ap (lines_behind lines) (drop_at xs k at) ∙ ap (λ (answer : Result Told FileRefusal). goes_on answer (λ (told : Told). lines_behind (lines ++ told ∷ []) (drop (k + 1) xs))) is

  pub rest_taken : (xs : List NodeLine) (k : ℕ) (told : Told) → slice_get xs k ≡ Some line → next_line lines line ≡ Ok told → lines_behind lines (drop k xs) ≡ lines_behind (lines ++ told ∷ []) (drop (k + 1) xs)
  unfolding lines_behind
  rest_taken xs k told at is = ap (lines_behind lines) (drop_at xs k at) ∙ ap (λ (answer : Result Told FileRefusal). goes_on answer (λ (told : Told). lines_behind (lines ++ told ∷ []) (drop (k + 1) xs))) is

-- behind the last line
pub rest_none : (lines : List Told) (xs : List NodeLine) (k : ℕ) → length xs ≤ k → lines_behind lines (drop k xs) ≡ last_line lines
unfolding lines_behind
rest_none lines xs k over = ap (lines_behind lines) (drop_all k xs over)

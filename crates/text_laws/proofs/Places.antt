-- Places in a report's bytes.
use Rattle.std.proofs.Common.{◌≡◌, ℕ, ◌+◌, ◌-◌, ◌≤◌, List, ◌++◌, length, take, drop, sym, ap, ◌∙◌, length-drop, take-append-drop, arith}
use Rattle.std.proofs.lemmas.List.{drop-drop}
use Rattle.report_reader.proofs.OnePlace.{place_within}
use Rattle.report_reader.specs.declared.refusals.ReportRefusal.{ReportRefusal}
use Rattle.report_reader.specs.declared.refusals.ReportRefusal.TheVariants.{Syntax, NoMemory}
use Rattle.report_reader.specs.Cursor.{Cursor}
use Rattle.report_reader.specs.Place.{IsPlace}
use Rattle.report_reader.specs.Syntax.{IsSyntaxAt}

pub places_stay : (count more : ℕ) (refusal : ReportRefusal) → count ≤ more → IsPlace count refusal → IsPlace more refusal
places_stay count more (Syntax at) h place = omega (arith, place)
places_stay count more NoMemory h place = tt

pub place_of_nothing : (at : ℕ) → IsPlace 0 (Syntax at) → at ≡ 0
place_of_nothing at place = omega (arith, place)

pub syntax_has_place : (bytes : List ℕ) (at : ℕ) → IsSyntaxAt bytes at → IsPlace (length bytes) (Syntax at)
syntax_has_place = place_within

same_at : (a b : Cursor) → length a.bytes ≡ length b.bytes → a.at ≤ length a.bytes → b.at ≤ length b.bytes
    → drop a.at a.bytes ≡ drop b.at b.bytes → a.at ≡ b.at
same_at a b whole within inside e =
    let counts : length (drop a.at a.bytes) ≡ length (drop b.at b.bytes) = ap (λ (bs : List ℕ). length bs) e in
    omega (arith, counts, length-drop a.at a.bytes, length-drop b.at b.bytes)

-- Among the cursors within some bytes one has what is left.
pub one_cursor : (a b : Cursor) → a.bytes ≡ b.bytes → a.at ≤ length a.bytes → b.at ≤ length b.bytes
    → drop a.at a.bytes ≡ drop b.at b.bytes → a ≡ b
one_cursor a b same within inside e =
    let there : a.at ≡ b.at = same_at a b (ap (λ (bs : List ℕ). length bs) same) within inside e in
    ap (λ (bs : List ℕ). record { bytes = bs; at = a.at }) same ∙ ap (λ (n : ℕ). record { bytes = b.bytes; at = n }) there

-- What is left at a cursor is what lies between it and a later one, and what is left there.
pub between_cursors : (a b : Cursor) → a.bytes ≡ b.bytes → a.at ≤ b.at
    → drop a.at a.bytes ≡ take (b.at - a.at) (drop a.at a.bytes) ++ drop b.at b.bytes
between_cursors a b same h =
    let sum : a.at + (b.at - a.at) ≡ b.at = omega (arith, h) in
    let behind : drop (b.at - a.at) (drop a.at a.bytes) ≡ drop b.at b.bytes =
    drop-drop (b.at - a.at) a.at a.bytes ∙ ap (λ (n : ℕ). drop n a.bytes) sum ∙ ap (λ (bs : List ℕ). drop b.at bs) same in
    sym (take-append-drop (b.at - a.at) (drop a.at a.bytes))
    ∙ ap (λ (bs : List ℕ). take (b.at - a.at) (drop a.at a.bytes) ++ bs) behind

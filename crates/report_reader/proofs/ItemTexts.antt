-- The text of a list with one item more is the text of the list and then that of the item: by induction on the list. So a loop
-- that reads items one by one has read the text of those it has.
use Rattle.std.proofs.Common.{◌≡◌, ℕ, ◌+◌, List, [], ◌∷◌, ◌++◌, length, sym, ap, ◌∙◌, append_assoc, append-nil, arith}
use Rattle.report_text.specs.Joined.{texts_from}
use Rattle.report_reader.specs.Cursor.{Cursor}
use Rattle.report_reader.specs.Reading.{Reads}
use Rattle.report_reader.proofs.Reading.{Reads-as, Reads-join, Reads-nil}

texts_push : {X : Type 0} (text : ℕ → X → List ℕ) (start : ℕ) (items : List X) (item : X)
    → texts_from text start items ++ text (start + length items) item ≡ texts_from text start (items ++ item ∷ [])
texts_push text start [] item =
    let here : start + 0 ≡ start = omega arith in
    ap (λ (k : ℕ). text k item) here ∙ sym (append-nil (text start item))
texts_push text start (x ∷ rest) item =
    let here : start + length (x ∷ rest) ≡ start + 1 + length rest = omega arith in
    append_assoc (text start x) (texts_from text (start + 1) rest) (text (start + length (x ∷ rest)) item)
    ∙ ap (λ (k : ℕ). text start x ++ (texts_from text (start + 1) rest ++ text k item)) here
    ∙ ap (λ (l : List ℕ). text start x ++ l) (texts_push text (start + 1) rest item)

-- no item
pub Reads-none : {X : Type 0} (a : Cursor) (text : ℕ → X → List ℕ) {items : List X} → items ≡ [] → Reads a a (texts_from text 0 items)
Reads-none a text none = Reads-as (texts_from text 0 _) (ap (texts_from text 0) (sym none)) (Reads-nil a)

-- one item more
pub Reads-item : {X : Type 0} {a b c : Cursor} (text : ℕ → X → List ℕ) (items : List X) (item : X) (k : ℕ) {more : List X}
    → length items ≡ k → more ≡ items ++ item ∷ [] → Reads a b (texts_from text 0 items) → Reads b c (text k item)
    → Reads a c (texts_from text 0 more)
Reads-item text items item k count is x y =
    let at : k ≡ 0 + length items = omega (arith, count) in
    let whole = ap (λ (n : ℕ). texts_from text 0 items ++ text n item) at ∙ texts_push text 0 items item in
    Reads-as (texts_from text 0 _) (whole ∙ ap (texts_from text 0) (sym is)) (Reads-join x y)

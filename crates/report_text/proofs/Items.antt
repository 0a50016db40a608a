-- The texts of a list's items are those of its first items, then that of the next one, then those of the rest: by
-- induction on the list. So a loop that adds them one by one has added a front of them at each step.
use Rattle.std.proofs.Common.{◌≡◌, ℕ, ◌+◌, suc, zero, List, [], ◌∷◌, ◌++◌, Some, length, take, drop, slice_get, refl, sym, ap, ◌∙◌, subst, append_assoc, append-nil, Result, Ok, Err, OnOk, OnErr, arith}
use Rattle.text_pieces.specs.Piece.{Adds, AddsFront}
use Rattle.text_pieces.proofs.Pieces.{Adds-join, AddsFront-behind, AddsFront-cut}
use Rattle.report_text.specs.Joined.{texts_from}

-- the items with numbers below k, then the item with number k
texts_take : {X : Type 0} (text : ℕ → X → List ℕ) (start k : ℕ) (items : List X) (item : X) → slice_get items k ≡ Some item → texts_from text start (take (suc k) items) ≡ texts_from text start (take k items) ++ text (start + k) item
texts_take text start k [] item e = absurd (cc)
texts_take text start zero (x ∷ rest) item e =
    let same : x ≡ item = cc in
    let here : start + 0 ≡ start = omega arith in
    rw (here, same) (append-nil (text start item))
texts_take text start (suc k) (x ∷ rest) item e =
    let here : start + suc k ≡ start + 1 + k = omega arith in
    rw (here, texts_take text (start + 1) k rest item e) (sym (append_assoc (text start x) (texts_from text (start + 1) (take k rest)) (text (start + 1 + k) item)))

-- the items with numbers below k, then those from k on
texts_split : {X : Type 0} (text : ℕ → X → List ℕ) (start k : ℕ) (items : List X) → texts_from text start items ≡ texts_from text start (take k items) ++ texts_from text (start + k) (drop k items)
texts_split text start zero [] = refl
texts_split text start (suc k) [] = refl
texts_split text start zero (x ∷ rest) = let here : start + 0 ≡ start = omega arith in rw here refl
texts_split text start (suc k) (x ∷ rest) =
    let here : start + suc k ≡ start + 1 + k = omega arith in
    ap (λ t. text start x ++ t) (texts_split text (start + 1) k rest) ∙ rw here (sym (append_assoc (text start x) (texts_from text (start + 1) (take k rest)) (texts_from text (start + 1 + k) (drop k rest))))

all_taken : {X : Type 0} (items : List X) → take (length items) items ≡ items
all_taken [] = refl
all_taken (x ∷ rest) = ap (λ l. x ∷ l) (all_taken rest)

-- one item more
pub Adds-item : {X : Type 0} {old middle new : List ℕ} (text : ℕ → X → List ℕ) (items : List X) (k : ℕ) (item : X) → slice_get items k ≡ Some item → Adds old middle (texts_from text 0 (take k items)) → Adds middle new (text k item) → Adds old new (texts_from text 0 (take (k + 1) items))
Adds-item {X} {old} {middle} {new} text items k item e a b =
    let here : 0 + k ≡ k = omega arith in
    let next : k + 1 ≡ suc k = omega arith in
    let whole : texts_from text 0 (take (suc k) items) ≡ texts_from text 0 (take k items) ++ text k item = texts_take text 0 k items item e ∙ rw here refl in
    rw (next, whole) (Adds-join a b)

-- a front of one item more is a front of them all
pub AddsFront-item : {X : Type 0} {old middle new : List ℕ} (text : ℕ → X → List ℕ) (items : List X) (k : ℕ) (item : X) → slice_get items k ≡ Some item → Adds old middle (texts_from text 0 (take k items)) → AddsFront middle new (text k item) → AddsFront old new (texts_from text 0 items)
AddsFront-item {X} {old} {middle} {new} text items k item e a b =
    let here : 0 + k ≡ k = omega arith in
    let whole : texts_from text 0 (take (suc k) items) ≡ texts_from text 0 (take k items) ++ text k item = texts_take text 0 k items item e ∙ rw here refl in
    rw (texts_split text 0 (suc k) items, whole) (AddsFront-cut (texts_from text (0 + suc k) (drop (suc k) items)) (AddsFront-behind a b))

-- the items up to the last are all
pub Adds-all : {X : Type 0} {old new : List ℕ} (text : ℕ → X → List ℕ) (items : List X) (k : ℕ) → k ≡ length items → Adds old new (texts_from text 0 (take k items)) → Adds old new (texts_from text 0 items)
Adds-all {X} {old} {new} text items k e a =
    let all : take k items ≡ items = rw e (all_taken items) in
    let P : List X → Type 0 = λ l. Adds old new (texts_from text 0 l) in
    subst P all a

-- what holds at an exit holds of the answer that it makes
pub at_exit : {T E P : Type 0} (answer : Result T E) → P → OnErr answer P
at_exit (Ok x) p = tt
at_exit (Err e) p = p

-- a piece, and then what another call has added
pub after : {T E : Type 0} {old middle p : List ℕ} (new q : List ℕ) (answer : Result T E) → Adds old middle p → OnOk answer (Adds middle new q) → OnOk answer (Adds old new (p ++ q))
after new q (Ok x) a b = Adds-join a b
after new q (Err e) a b = tt

-- A game has one table, one list of relevant pairs and one index of each: the numbering is one, the table tells what is
-- connected, and of two lists in order that have the same pairs the first pairs are the same, and so on.
use Rattle.std.proofs.Common.{◌≡◌, ℕ, ◌+◌, ◌*◌, ◌-◌, ◌<◌, ◌≤◌, Bool, true, false, List, [], ◌∷◌, Option, Some, None, zero, suc, length, slice_get, slice_index_or, refl, sym, ap, ap₂, ◌∙◌, subst, inl, inr, arith}
use Rattle.std.proofs.lemmas.Bool.{cases_lt}
use Rattle.std.proofs.lemmas.Nat.{mul-add-lt}
use Rattle.std.proofs.lemmas.Option.{slice_get_within, get_or_from_slice_get}
use Rattle.corr_game.specs.Game.{GameView, IsGame}
use Rattle.sequences.specs.Number.{SeqsView, count_of}
use Rattle.sequences.proofs.Adding.{within}
use Rattle.sequences.proofs.Numbering.{one_numbering, same_list}
use Rattle.connected_pairs.specs.Connected.{AreRowByRow, IsListed, IsPairs, IsPairsOf, PairsView, TellsConnected, is_relevant}

-- the code of a pair: row by row
abbrev code : ℕ → ℕ × ℕ → ℕ
code width pair = pair.0 * width + pair.1

-- one entry stands at one place of the rows
less_code : (width : ℕ) (a b : ℕ × ℕ) → a.1 < width → a.0 < b.0 → code width a < code width b
less_code width a b low less = omega (arith, mul-add-lt a.0 width a.1 b.0 less low)

same_code : (width : ℕ) (a b : ℕ × ℕ) → a.1 < width → b.1 < width → code width a ≡ code width b → a ≡ b
same_code width a b low left e = elim (cases_lt a.0 b.0) [
  | inl less ↦ absurd (omega (arith, e, less_code width a b low less))
  | inr most ↦ elim (cases_lt b.0 a.0) [
    | inl less ↦ absurd (omega (arith, e, less_code width b a left less))
    | inr least ↦
        let first : a.0 ≡ b.0 = omega arith in
        let second : a.1 ≡ b.1 = omega (arith, e, ap (λ (x : ℕ). x * width) first) in
        ap₂ (λ (x y : ℕ). (x, y)) first second
  ]
]

-- the codes rise
abbrev Rising : ℕ → List (ℕ × ℕ) → Type 0
Rising width pairs = (j k : ℕ) (a b : ℕ × ℕ) → slice_get pairs j ≡ Some a → slice_get pairs k ≡ Some b → j < k → code width a < code
    width b

abbrev Within : List (ℕ × ℕ) → List (ℕ × ℕ) → Type 0
Within xs ys = (k : ℕ) (pair : ℕ × ℕ) → slice_get xs k ≡ Some pair → (j : ℕ) × (slice_get ys j ≡ Some pair)

head_at_most : (width : ℕ) (x y : ℕ × ℕ) (ys : List (ℕ × ℕ)) → Rising width (y ∷ ys) → (j : ℕ) → slice_get (y ∷ ys) j ≡ Some x
    → code width y ≤ code width x
head_at_most width x y ys rising zero h = let same : y ≡ x = cc in omega (arith, ap (code width) same)
head_at_most width x y ys rising (suc j) h = omega (arith, rising 0 (suc j) y x refl h (omega arith))

tail_at : (width : ℕ) (x y : ℕ × ℕ) (xs ys : List (ℕ × ℕ)) → x ≡ y → Rising width (x ∷ xs) → (k : ℕ) (pair : ℕ × ℕ)
    → slice_get xs k ≡ Some pair → (j : ℕ) → slice_get (y ∷ ys) j ≡ Some pair → (j : ℕ) × (slice_get ys j ≡ Some pair)
tail_at width x y xs ys same rising k pair h zero e =
    let one : y ≡ pair = cc in
    absurd (omega (arith, rising 0 (suc k) x pair refl h (omega arith), ap (code width) (same ∙ one)))
tail_at width x y xs ys same rising k pair h (suc j) e = (j, e)

tail_within : (width : ℕ) (x y : ℕ × ℕ) (xs ys : List (ℕ × ℕ)) → x ≡ y → Rising width (x ∷ xs) → Within (x ∷ xs) (y ∷ ys) → Within xs ys
tail_within width x y xs ys same rising inside k pair h =
    let there = inside (suc k) pair h in
    tail_at width x y xs ys same rising k pair h there.0 there.1

tail_rising : (width : ℕ) (x : ℕ × ℕ) (xs : List (ℕ × ℕ)) → Rising width (x ∷ xs) → Rising width xs
tail_rising width x xs rising j k a b e f less = rising (suc j) (suc k) a b e f (omega arith)

pub same_pairs : (width : ℕ) (xs ys : List (ℕ × ℕ)) → ((k : ℕ) (pair : ℕ × ℕ) → slice_get xs k ≡ Some pair → pair.1 < width)
    → ((k : ℕ) (pair : ℕ × ℕ) → slice_get ys k ≡ Some pair → pair.1 < width)
    → Rising width xs → Rising width ys → Within xs ys → Within ys xs → xs ≡ ys
same_pairs width [] [] low left rising rises to from = refl
same_pairs width [] (y ∷ ys) low left rising rises to from = let none = (from 0 y refl).1 in absurd (cc)
same_pairs width (x ∷ xs) [] low left rising rises to from = let none = (to 0 x refl).1 in absurd (cc)
same_pairs width (x ∷ xs) (y ∷ ys) low left rising rises to from =
    let there = to 0 x refl in
    let back = from 0 y refl in
    let same : x ≡ y = same_code width x y (low 0 x refl) (left 0 y refl) (omega
    (arith, head_at_most width x y ys rises there.0 there.1, head_at_most width y x xs rising back.0 back.1)) in
    let rest : xs ≡ ys = same_pairs width xs ys (λ k pair h. low (suc k) pair h) (λ k pair h. left (suc k) pair h)
    (tail_rising width x xs rising) (tail_rising width y ys rises)
    (tail_within width x y xs ys same rising to) (tail_within width y x ys xs (sym same) rises from) in
    ap₂ (λ (z : ℕ × ℕ) (zs : List (ℕ × ℕ)). z ∷ zs) same rest

-- with one numbering and one table
module _ (s : SeqsView) (table : List Bool) where
  listed_at : (count : ℕ) (pairs : List (ℕ × ℕ)) (places : List (Option ℕ)) → IsListed s table count pairs places → (pair : ℕ × ℕ)
      → pair.1 < count_of s.two → is_relevant s table pair.0 pair.1 ≡ true
      → (place : Option ℕ) → slice_get places (code (count_of s.two) pair) ≡ Some place
      → (j : ℕ) × (slice_get pairs j ≡ Some pair) × (place ≡ Some j)
  listed_at count pairs places listed pair low related None e =
      let at = listed.each_place (code (count_of s.two) pair) None e in
      let same : at.0 ≡ pair = same_code (count_of s.two) at.0 pair at.1 low (sym at.2) in
      let apart : is_relevant s table pair.0 pair.1 ≡ false = subst (λ (x : ℕ × ℕ). is_relevant s table x.0 x.1 ≡ false) same at.3 in
      absurd (cc)
  listed_at count pairs places listed pair low related (Some j) e =
      let at = listed.each_place (code (count_of s.two) pair) (Some j) e in
      let same : at.0 ≡ pair = same_code (count_of s.two) at.0 pair at.1 low (sym at.2) in
      (j, subst (λ (x : ℕ × ℕ). slice_get pairs j ≡ Some x) same at.3, refl)

  module _ (count : ℕ) (pairs more : List (ℕ × ℕ)) (places others : List (Option ℕ)) (first : IsListed s table count pairs places)
      (second : IsListed s table count more others) where
    inside : Within pairs more
    inside k pair h =
        let is = first.each_pair k pair h in
        let low = slice_get_within places (code (count_of s.two) pair) (Some k) (first.each_index k pair h) in
        let place = within others (code (count_of s.two) pair) (omega (arith, low, first.all, second.all)) in
        let there = listed_at count more others second pair is.1 is.2 place.0 place.1 in
        (there.0, there.1)

    -- the index of a pair is one where the pairs are the same
    one_index : pairs ≡ more → (k : ℕ) (place : Option ℕ) → slice_get places k ≡ Some place → slice_get others k ≡ Some place
    one_index same k None h =
        let at = first.each_place k None h in
        let there = within others k (omega (arith, slice_get_within places k None h, first.all, second.all)) in
        elim there.0 as (λ (x : Option ℕ). slice_get others k ≡ Some x → slice_get others k ≡ Some None) [
          | None ↦ λ e. e
          | Some j ↦ λ e.
              let other = second.each_place k (Some j) e in
              let pair : other.0 ≡ at.0 = same_code (count_of s.two) other.0 at.0 other.1 at.1 (sym other.2 ∙ at.2) in
              let related = (second.each_pair j other.0 other.3).2 in
              let apart : is_relevant s table other.0.0 other.0.1 ≡ false = subst (λ (x : ℕ × ℕ). is_relevant s table x.0 x.1 ≡ false)
              (sym pair) at.3 in
              absurd (cc)
        ] there.1
    one_index same k (Some j) h =
        let at = first.each_place k (Some j) h in
        let there : slice_get more j ≡ Some at.0 = subst (λ (xs : List (ℕ × ℕ)). slice_get xs j ≡ Some at.0) same at.3 in
        subst (λ (x : ℕ). slice_get others x ≡ Some (Some j)) (sym at.2) (second.each_index j at.0 there)

  rising : (count : ℕ) (pairs : List (ℕ × ℕ)) (places : List (Option ℕ)) → IsListed s table count pairs places
      → Rising (count_of s.two) pairs
  unfolding AreRowByRow
  rising count pairs places listed = listed.in_order

  one_list : (count : ℕ) (pairs more : List (ℕ × ℕ)) (places others : List (Option ℕ)) → IsListed s table count pairs places
      → IsListed s table count more others → pairs ≡ more
  one_list count pairs more places others first second =
      same_pairs (count_of s.two) pairs more (λ k pair h. (first.each_pair k pair h).1) (λ k pair h. (second.each_pair k pair h).1)
      (rising count pairs places first) (rising count more others second)
      (inside count pairs more places others first second) (inside count more pairs others places second first)

  one_placing : (count : ℕ) (pairs more : List (ℕ × ℕ)) (places others : List (Option ℕ)) → IsListed s table count pairs places
      → IsListed s table count more others → places ≡ others
  one_placing count pairs more places others first second =
      let same = one_list count pairs more places others first second in
      same_list places others (one_index count pairs more places others first second same)
      (one_index count more pairs others places second first (sym same))

-- each index of a table is that of a row and a column
abbrev IsCell : ℕ → ℕ → ℕ → Type 0
IsCell width height k = (one : ℕ) × (two : ℕ) × (one < height) × (two < width) × (one * width + two ≡ k)

cell_of : (width height k : ℕ) → k < height * width → IsCell width height k
cell_of width zero k low = absurd (omega arith)
cell_of width (suc height) k low = elim (cases_lt k width) [
  | inl first ↦ (0, k, omega arith, first, omega arith)
  | inr later ↦
      let rest = cell_of width height (k - width) (omega arith) in
      (suc rest.0, rest.1, omega (arith, rest.2), rest.3, omega (arith, rest.4))
]

same_bool : (x y : Bool) → (x ≡ true → y ≡ true) → (y ≡ true → x ≡ true) → x ≡ y
same_bool true y to from = sym (to refl)
same_bool false true to from = from refl
same_bool false false to from = refl

-- tables that mark the same are the same
abbrev MarksIn : ℕ → ℕ → List Bool → List Bool → Type 0
MarksIn width height a b = (one two : ℕ) → one < height → two < width → slice_index_or a (one * width + two) false ≡ true →
    slice_index_or b (one * width + two) false ≡ true

cells_at : (width height : ℕ) (a b : List Bool) → length a ≡ height * width → length b ≡ height * width → MarksIn width height a b
    → MarksIn width height b a → (k : ℕ) (x : Bool) → slice_get a k ≡ Some x → slice_get b k ≡ Some x
cells_at width height a b size room to from k x h =
    let low : k < height * width = omega (arith, slice_get_within a k x h, size) in
    let there = within b k (omega (arith, low, room)) in
    let cell = cell_of width height k low in
    let first : slice_index_or a (cell.0 * width + cell.1) false ≡ x = ap (λ (n : ℕ). slice_index_or a n false) cell.4 ∙
    get_or_from_slice_get a k x false h in
    let second : slice_index_or b (cell.0 * width + cell.1) false ≡ there.0 = ap (λ (n : ℕ). slice_index_or b n false) cell.4 ∙
    get_or_from_slice_get b k there.0 false there.1 in
    let same = same_bool x there.0 (λ e. sym second ∙ to cell.0 cell.1 cell.2 cell.3 (first ∙ e))
    (λ e. sym first ∙ from cell.0 cell.1 cell.2 cell.3 (second ∙ e)) in
    there.1 ∙ ap Some (sym same)

same_cells : (width height : ℕ) (a b : List Bool) → length a ≡ height * width → length b ≡ height * width → MarksIn width height a b
    → MarksIn width height b a → a ≡ b
same_cells width height a b size room to from = same_list a b (cells_at width height a b size room to from)
    (cells_at width height b a room size from to)

abbrev pairs_with : SeqsView → List Bool → List (ℕ × ℕ) → List (Option ℕ) → PairsView
pairs_with seqs table pairs places = record { seqs = seqs; table = table; pairs = pairs; places = places }

-- with one numbering all is one
module _ (g : GameView) (s : SeqsView) where
  marks : (a b : List Bool) (pairs more : List (ℕ × ℕ)) (places others : List (Option ℕ))
      → TellsConnected g (pairs_with s a pairs places) → TellsConnected g (pairs_with s b more others)
      → MarksIn (length s.two.places) (length s.one.places) a b
  unfolding TellsConnected
  marks a b pairs more places others first second one two low left h = (second one two low left).1 ((first one two low left).0 h)

  one_table_of : (a b : List Bool) (pairs more : List (ℕ × ℕ)) (places others : List (Option ℕ)) → IsPairs (pairs_with s a pairs places)
      → IsPairs (pairs_with s b more others)
      → TellsConnected g (pairs_with s a pairs places) → TellsConnected g (pairs_with s b more others)
      → pairs_with s a pairs places ≡ pairs_with s b more others
  one_table_of a b pairs more places others first second told tells =
      let count = count_of s.one * count_of s.two in
      let table : a ≡ b = same_cells (length s.two.places) (length s.one.places) a b first.all_sets second.all_sets
      (marks a b pairs more places others told tells) (marks b a more pairs others places tells told) in
      let listed : IsListed s b count pairs places = subst (λ (t : List Bool). IsListed s t count pairs places) table first.listed in
      let list : pairs ≡ more = one_list s b count pairs more places others listed second.listed in
      let placing : places ≡ others = one_placing s b count pairs more places others listed second.listed in
      ap (λ (t : List Bool). pairs_with s t pairs places) table ∙ (ap (λ (xs : List (ℕ × ℕ)). pairs_with s b xs places) list ∙ ap
      (λ (xs : List (Option ℕ)). pairs_with s b more xs) placing)

-- a game has one table of pairs
pub one_table : (g : GameView) (p q : PairsView) → IsGame g → IsPairs p → IsPairs q → IsPairsOf g p → IsPairsOf g q → p ≡ q
one_table g p q rules first second of again =
    let one : p.seqs ≡ q.seqs = one_numbering g p.seqs q.seqs rules first.sides second.sides (record { sides = of.sides })
    (record { sides = again.sides }) in
    let P : SeqsView → Type 0 = λ s. IsPairs (pairs_with s q.table q.pairs q.places) → TellsConnected g
    (pairs_with s q.table q.pairs q.places) → p ≡ pairs_with s q.table q.pairs q.places in
    let here : P p.seqs = λ keeps tells. one_table_of g p.seqs p.table q.table p.pairs q.pairs p.places q.places first keeps of.connected
    tells in
    subst P one here second again.connected

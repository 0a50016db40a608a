-- The nodes that are assembled stand in preorder: from the last node to the first, the subtrees behind a node stand in
-- a row to the list's end, and the first of them become its kids.
use Rattle.std.proofs.Common.{◌≡◌, ℕ, zero, suc, ◌+◌, ◌<◌, ◌≤◌, List, [], ◌∷◌, Some, true, length, take, drop, slice_get, refl, ap, sym, subst, ◌∙◌, arith}
use Rattle.std.specs.Prelude.{All}
use Rattle.std.proofs.lemmas.List.Elements.{All-nil, All-head, All-tail, All-cons, All-take, All-drop, All-weaker}
use Rattle.std.proofs.lemmas.Bool.{eqb-true}
use Rattle.std.proofs.lemmas.Option.{same_Some}
use Rattle.corr_game.specs.declared.nodes.Node.{Node}
use Rattle.corr_game.specs.Node.{kids_of}
use Rattle.corr_game.specs.Preorder.{from_last, row_end, InRow}
use Rattle.corr_game.proofs.FromLast.{from_last-here, from_last-behind}
use Rattle.efg_reader.specs.declared.events.Bare.{Bare}
use Rattle.efg_reader.specs.declared.events.Event.{Event}
use Rattle.efg_reader.specs.declared.events.Event.TheVariants as event
use Rattle.efg_reader.specs.Assembly.{assembled, shape_with}
use Rattle.efg_reader.specs.Event.{is_fit}
use Rattle.efg_reader.specs.RawGame.{bare_node, bare_nodes}

-- each number of the list is this one or behind it
abbrev AllFrom : ℕ → List ℕ → Type 0
AllFrom at kids = All (λ kid. at ≤ kid) kids

-- where a row ends depends on where its own subtrees end alone
row_end-same : (at start : ℕ) (kids : List ℕ) (f g : ℕ → ℕ) → AllFrom (at + 1) kids → ((m : ℕ) → at < m → f m ≡ g m) → row_end start kids f ≡ row_end start kids g
row_end-same at start [] f g from agree = refl
row_end-same at start (kid ∷ kids) f g from agree =
    rw (agree kid (omega (arith, All-head (λ k. at + 1 ≤ k) kid kids from))) (row_end-same at (g kid) kids f g (All-tail (λ k. at + 1 ≤ k) kid kids from) agree)

in_row-same : (at start : ℕ) (kids : List ℕ) (f g : ℕ → ℕ) → AllFrom (at + 1) kids → ((m : ℕ) → at < m → f m ≡ g m) → InRow start kids g → InRow start kids f
in_row-same at start [] f g from agree row = tt
in_row-same at start (kid ∷ kids) f g from agree row =
    (row.0, rw (agree kid (omega (arith, All-head (λ k. at + 1 ≤ k) kid kids from))) (in_row-same at (g kid) kids f g (All-tail (λ k. at + 1 ≤ k) kid kids from) agree row.1))

-- the first part of a row, and the row behind it
row-take : (n start : ℕ) (kids : List ℕ) (ends : ℕ → ℕ) → InRow start kids ends → InRow start (take n kids) ends
row-take zero start kids ends row = tt
row-take (suc n) start [] ends row = tt
row-take (suc n) start (kid ∷ kids) ends row = (row.0, row-take n (ends kid) kids ends row.1)

row-drop : (n start : ℕ) (kids : List ℕ) (ends : ℕ → ℕ) → InRow start kids ends → InRow (row_end start (take n kids) ends) (drop n kids) ends
row-drop zero start kids ends row = row
row-drop (suc n) start [] ends row = tt
row-drop (suc n) start (kid ∷ kids) ends row = row-drop n (ends kid) kids ends row.1

row_end-split : (n start : ℕ) (kids : List ℕ) (ends : ℕ → ℕ) → row_end (row_end start (take n kids) ends) (drop n kids) ends ≡ row_end start kids ends
row_end-split zero start kids ends = refl
row_end-split (suc n) start [] ends = refl
row_end-split (suc n) start (kid ∷ kids) ends = row_end-split n (ends kid) kids ends

-- where the first of these subtrees begins, or `last` where there is none
abbrev pub first_or : ℕ → List ℕ → ℕ
first_or last [] = last
first_or last (root ∷ roots) = root

-- a row up to `last` begins with its first subtree
pub first_in_row : (last start : ℕ) (roots : List ℕ) (ends : ℕ → ℕ) → InRow start roots ends → row_end start roots ends ≡ last → first_or last roots ≡ start
first_in_row last start [] ends row whole = sym whole
first_in_row last start (root ∷ roots) ends row whole = row.0

-- a kid stands behind its node and in the list
abbrev pub IsWithin : ℕ → ℕ → ℕ → Type 0
IsWithin at count kid = (at ≤ kid) × (kid < count)

from-within : (at count : ℕ) (kids : List ℕ) → All (IsWithin at count) kids → AllFrom at kids
from-within at count kids h = All-weaker (IsWithin at count) (λ kid. at ≤ kid) (λ kid w. w.0) kids h

abbrev pub end_step : ℕ → Node → (ℕ → ℕ) → ℕ
end_step n node ends = row_end (n + 1) (kids_of node) ends

no_kids : (e : Event) (kids : ℕ) → is_fit e kids ≡ true → e ≡ event.Leaf → kids ≡ 0
no_kids event.Leaf kids fit leaf = omega (arith, eqb-true kids 0)
no_kids (event.Chance probs) kids fit leaf = absurd (cc)
no_kids (event.Choice side set) kids fit leaf = absurd (cc)

kids-with : (e : Event) (kids : List ℕ) → (e ≡ event.Leaf → kids ≡ []) → kids_of (bare_node (shape_with e kids)) ≡ kids
kids-with event.Leaf kids h = sym (h refl)
kids-with (event.Chance probs) kids h = refl
kids-with (event.Choice side set) kids h = refl

take-none : (n : ℕ) (xs : List ℕ) → n ≡ 0 → take n xs ≡ []
take-none n xs h = rw h

-- What the nodes behind `at` are: subtrees that stand in a row up to the end of the list.
pub record Stands (at : ℕ) (bares : List Bare) : Type 0 where
  pub within : All (IsWithin at (at + length bares)) (assembled at bares).1
  pub row : InRow at (assembled at bares).1 (from_last end_step 0 at (bare_nodes (assembled at bares).0))
  pub whole : row_end at (assembled at bares).1 (from_last end_step 0 at (bare_nodes (assembled at bares).0)) ≡ at + length bares
  pub behind : (j : ℕ) (node : Node) → slice_get (bare_nodes (assembled at bares).0) j ≡ Some node → All (IsWithin (at + j + 1) (at + length bares)) (kids_of node)
  pub rows : (j : ℕ) (node : Node) → slice_get (bare_nodes (assembled at bares).0) j ≡ Some node → InRow (at + j + 1) (kids_of node) (from_last end_step 0 at (bare_nodes (assembled at bares).0))

module _ (at : ℕ) (bare : Bare) (rest : List Bare) (tail : Stands (at + 1) rest) where
  kids : List ℕ
  kids = take bare.kids (assembled (at + 1) rest).1

  others : List ℕ
  others = drop bare.kids (assembled (at + 1) rest).1

  nodes : List Node
  nodes = bare_nodes (assembled (at + 1) rest).0

  own : Node
  own = bare_node (shape_with bare.event kids)

  inner : ℕ → ℕ
  inner = from_last end_step 0 (at + 1) nodes

  ends : ℕ → ℕ
  ends = from_last end_step 0 at (own ∷ nodes)

  own_kids : kids_of own ≡ kids
  unfolding own kids
  own_kids = kids-with bare.event (take bare.kids (assembled (at + 1) rest).1) (λ leaf. take-none bare.kids (assembled (at + 1) rest).1 (no_kids bare.event bare.kids bare.fits leaf))

  agree : (m : ℕ) → at < m → ends m ≡ inner m
  unfolding ends inner
  agree m behind = from_last-behind end_step 0 at own nodes m behind

  own_end : ends at ≡ row_end (at + 1) kids inner
  unfolding ends inner
  own_end = from_last-here end_step 0 at own nodes ∙ ap (λ (ks : List ℕ). row_end (at + 1) ks (from_last end_step 0 (at + 1) nodes)) own_kids

  -- the first node's subtree ends where the first subtree begins that isn't its kid's
  pub own_last : from_last end_step 0 at (bare_nodes (assembled at (bare ∷ rest)).0) at ≡ first_or (at + length (bare ∷ rest)) (drop bare.kids (assembled (at + 1) rest).1)
  unfolding assembled own kids nodes ends inner others
  own_last =
      let last : at + 1 + length rest ≡ at + length (bare ∷ rest) = omega arith in
      own_end
      ∙ sym (first_in_row (at + length (bare ∷ rest)) (row_end (at + 1) kids inner) others inner (row-drop bare.kids (at + 1) (assembled (at + 1) rest).1 inner tail.row)
      (row_end-split bare.kids (at + 1) (assembled (at + 1) rest).1 inner ∙ tail.whole ∙ last))

  all_from : AllFrom (at + 1) (assembled (at + 1) rest).1
  all_from = from-within (at + 1) (at + 1 + length rest) (assembled (at + 1) rest).1 tail.within

  kids_from : AllFrom (at + 1) kids
  unfolding kids
  kids_from = All-take (λ kid. at + 1 ≤ kid) bare.kids (assembled (at + 1) rest).1 all_from

  others_from : AllFrom (at + 1) others
  unfolding others
  others_from = All-drop (λ kid. at + 1 ≤ kid) bare.kids (assembled (at + 1) rest).1 all_from

  inner_row : InRow (at + 1) (assembled (at + 1) rest).1 inner
  unfolding inner nodes
  inner_row = tail.row

  inner_whole : row_end (at + 1) (assembled (at + 1) rest).1 inner ≡ at + 1 + length rest
  unfolding inner nodes
  inner_whole = tail.whole

  others_row : InRow (ends at) others ends
  unfolding others kids
  others_row =
      subst (λ (s : ℕ). InRow s others ends) (sym own_end)
      (in_row-same at (row_end (at + 1) kids inner) others ends inner others_from agree (row-drop bare.kids (at + 1) (assembled (at + 1) rest).1 inner inner_row))

  others_whole : row_end (ends at) others ends ≡ at + length (bare ∷ rest)
  unfolding others kids
  others_whole =
      let last : at + 1 + length rest ≡ at + suc (length rest) = omega arith in
      row_end-same at (ends at) others ends inner others_from agree
      ∙ ap (λ (s : ℕ). row_end s others inner) own_end
      ∙ row_end-split bare.kids (at + 1) (assembled (at + 1) rest).1 inner
      ∙ inner_whole
      ∙ last

  wider : (low : ℕ) (ks : List ℕ) → at ≤ low → All (IsWithin low (at + 1 + length rest)) ks → All (IsWithin at (at + length (bare ∷ rest))) ks
  wider low ks h all = All-weaker (IsWithin low (at + 1 + length rest)) (IsWithin at (at + length (bare ∷ rest))) (λ kid w. (omega (arith, w.0), omega (arith, w.1))) ks all

  others_within : All (IsWithin at (at + length (bare ∷ rest))) others
  unfolding others
  others_within = wider (at + 1) (drop bare.kids (assembled (at + 1) rest).1) (omega arith) (All-drop (IsWithin (at + 1) (at + 1 + length rest)) bare.kids (assembled (at + 1) rest).1 tail.within)

  kids_within : All (IsWithin (at + 0 + 1) (at + length (bare ∷ rest))) (kids_of own)
  unfolding kids
  kids_within =
      rw own_kids (All-weaker (IsWithin (at + 1) (at + 1 + length rest)) (IsWithin (at + 0 + 1) (at + length (bare ∷ rest))) (λ kid w. (omega (arith, w.0), omega (arith, w.1)))
      (take bare.kids (assembled (at + 1) rest).1) (All-take (IsWithin (at + 1) (at + 1 + length rest)) bare.kids (assembled (at + 1) rest).1 tail.within))

  kids_row : InRow (at + 0 + 1) (kids_of own) ends
  unfolding kids
  kids_row =
      let first : at + 1 ≡ at + 0 + 1 = omega arith in
      rw own_kids (subst (λ (s : ℕ). InRow s kids ends) first (in_row-same at (at + 1) kids ends inner kids_from agree (row-take bare.kids (at + 1) (assembled (at + 1) rest).1 inner inner_row)))

  behind-more : (j : ℕ) (node : Node) → slice_get (own ∷ nodes) j ≡ Some node → All (IsWithin (at + j + 1) (at + length (bare ∷ rest))) (kids_of node)
  unfolding nodes
  behind-more zero node e = let same : own ≡ node = same_Some own node e in subst (λ (n : Node). All (IsWithin (at + 0 + 1) (at + length (bare ∷ rest))) (kids_of n)) same kids_within
  behind-more (suc j) node e =
      All-weaker (IsWithin (at + 1 + j + 1) (at + 1 + length rest)) (IsWithin (at + suc j + 1) (at + length (bare ∷ rest))) (λ kid w. (omega (arith, w.0), omega (arith, w.1))) (kids_of node) (tail.behind j node e)

  rows-more : (j : ℕ) (node : Node) → slice_get (own ∷ nodes) j ≡ Some node → InRow (at + j + 1) (kids_of node) ends
  unfolding nodes inner
  rows-more zero node e = let same : own ≡ node = same_Some own node e in subst (λ (n : Node). InRow (at + 0 + 1) (kids_of n) ends) same kids_row
  rows-more (suc j) node e =
      let first : at + 1 + j + 1 ≡ at + suc j + 1 = omega arith in
      let from : AllFrom (at + 1) (kids_of node) = All-weaker (IsWithin (at + 1 + j + 1) (at + 1 + length rest)) (λ kid. at + 1 ≤ kid) (λ kid w. omega (arith, w.0)) (kids_of node) (tail.behind j node e) in
      subst (λ (s : ℕ). InRow s (kids_of node) ends) first (in_row-same at (at + 1 + j + 1) (kids_of node) ends inner from agree (tail.rows j node e))

  stands-more : Stands at (bare ∷ rest)
  unfolding assembled kids others nodes own ends
  stands-more = record {
    within = All-cons (IsWithin at (at + length (bare ∷ rest))) at others (omega arith, omega arith) others_within;
    row = (refl, others_row);
    whole = others_whole;
    behind = behind-more;
    rows = rows-more;
  }

pub stands : (at : ℕ) (bares : List Bare) → Stands at bares
unfolding assembled
stands at [] = record {
  within = All-nil (IsWithin at (at + 0));
  row = tt;
  whole = omega arith;
  behind = λ j node e. absurd (cc);
  rows = λ j node e. absurd (cc);
}
stands at (bare ∷ rest) = stands-more at bare rest (stands (at + 1) rest)

-- A list of nodes that leaves nothing waiting is one tree: what the nodes up to a place wait for is as many subtrees as
-- stand in a row behind it.
use Rattle.std.proofs.Common.{◌≡◌, ℕ, suc, ◌+◌, ◌-◌, ◌<◌, Bool, true, false, cond, eqb, List, [], ◌∷◌, ◌++◌, Some, None, length, slice_get, refl, ◌⊎◌, inl, inr, ap, sym, subst, arith}
use Rattle.std.proofs.lemmas.Bool.{eqb-false}
use Rattle.std.proofs.lemmas.Bool.Decides.{nat_tests}
use Rattle.std.proofs.lemmas.List.Elements.{All-weaker}
use Rattle.std.proofs.lemmas.List.{length-drop}
use Rattle.std.proofs.lemmas.Option.{none-some, same_Some}
use Rattle.efg_reader.specs.declared.events.Bare.{Bare}
use Rattle.efg_reader.specs.Assembly.{assembled}
use Rattle.corr_game.specs.declared.nodes.Node.{Node}
use Rattle.corr_game.specs.Node.{kids_of}
use Rattle.corr_game.specs.Game.{AreBehind}
use Rattle.corr_game.specs.Preorder.{from_last, row_end, InRow, end_of}
use Rattle.efg_reader.specs.RawGame.{bare_nodes}
use Rattle.efg_reader.proofs.OneTree.{IsWithin, end_step, stands}
use Rattle.efg_reader.specs.Places.{awaited}

-- the two ways of a test
chosen : {A : Type 0} (b : Bool) (x y z : A) → cond b x y ≡ z → ((b ≡ true) × (x ≡ z)) ⊎ ((b ≡ false) × (y ≡ z))
chosen true x y z e = inl (refl, e)
chosen false x y z e = inr (refl, e)

-- a node stands where something was waited for
pub awaited-head : (places : ℕ) (bare : Bare) (rest : List Bare) (left : ℕ) → awaited places (bare ∷ rest) ≡ Some left → (0 < places) × (awaited (places - 1 + bare.kids) rest ≡ Some left)
awaited-head places bare rest left e =
    elim (chosen (eqb places 0) None (awaited (places - 1 + bare.kids) rest) (Some left) e) [
      | inl over ↦ absurd (none-some left over.1)
      | inr more ↦ (omega (arith, eqb-false places 0 more.0), more.1)
    ]

pub width : (at places : ℕ) (bares : List Bare) → awaited places bares ≡ Some 0 → length (assembled at bares).1 ≡ places
unfolding assembled
width at places [] e = sym (same_Some places 0 e)
width at places (bare ∷ rest) e =
    let head = awaited-head places bare rest 0 e in
    let behind = width (at + 1) (places - 1 + bare.kids) rest head.1 in
    omega (arith, head.0, behind, length-drop bare.kids (assembled (at + 1) rest).1)

-- one node more
pub awaited-push : (places : ℕ) (bares : List Bare) (bare : Bare) (left next : ℕ) → awaited places bares ≡ Some left → 0 < left → next + 1 ≡ left + bare.kids → awaited places (bares ++ bare ∷ []) ≡ Some next
awaited-push places [] bare left next e some more =
    let same = same_Some places left e in
    let test : eqb places 0 ≡ false = grind (arith, nat_tests) in
    rw test (ap (λ (n : ℕ). Some n) (omega arith))
awaited-push places (b ∷ rest) bare left next e some more =
    let head = awaited-head places b rest left e in
    let waits = head.0 in
    let test : eqb places 0 ≡ false = grind (arith, nat_tests) in
    rw test (awaited-push (places - 1 + b.kids) rest bare left next head.1 some more)

one_root : (roots : List ℕ) (ends : ℕ → ℕ) (count : ℕ) → length roots ≡ 1 → InRow 0 roots ends → row_end 0 roots ends ≡ count → ends 0 ≡ count
one_root [] ends count one row whole = absurd (omega arith)
one_root (root ∷ []) ends count one row whole = subst (λ (n : ℕ). ends n ≡ count) row.0 whole
one_root (root ∷ next ∷ roots) ends count one row whole = absurd (omega arith)

-- one tree, up to the end of the list
pub one_tree : (bares : List Bare) → awaited 1 bares ≡ Some 0 → end_of (bare_nodes (assembled 0 bares).0) 0 ≡ length bares
unfolding end_of
one_tree bares closed =
    let tree = stands 0 bares in
    let whole = tree.whole in
    one_root (assembled 0 bares).1 (from_last end_step 0 0 (bare_nodes (assembled 0 bares).0)) (length bares) (width 0 1 bares closed) tree.row (omega arith)

pub in_row : (bares : List Bare) → (n : ℕ) (node : Node) → slice_get (bare_nodes (assembled 0 bares).0) n ≡ Some node → InRow (n + 1) (kids_of node) (end_of (bare_nodes (assembled 0 bares).0))
unfolding end_of
in_row bares n node e =
    let first : 0 + n + 1 ≡ n + 1 = omega arith in
    subst (λ (s : ℕ). InRow s (kids_of node) (from_last end_step 0 0 (bare_nodes (assembled 0 bares).0))) first ((stands 0 bares).rows n node e)

pub behind : (bares : List Bare) → (n : ℕ) (node : Node) → slice_get (bare_nodes (assembled 0 bares).0) n ≡ Some node → AreBehind (length bares) n (kids_of node)
behind bares n node e =
    All-weaker (IsWithin (0 + n + 1) (0 + length bares)) (λ kid. (n < kid) × (kid < length bares)) (λ kid w. (omega (arith, w.0), omega (arith, w.1))) (kids_of node) ((stands 0 bares).behind n node e)

-- a tree has a root
pub some_node : (bares : List Bare) → awaited 1 bares ≡ Some 0 → 0 < length bares
some_node [] closed = absurd (omega (arith, same_Some 1 0 closed))
some_node (bare ∷ rest) closed = omega arith

pub length-assembled : (at : ℕ) (bares : List Bare) → length (bare_nodes (assembled at bares).0) ≡ length bares
unfolding assembled
length-assembled at [] = refl
length-assembled at (bare ∷ rest) = ap suc (length-assembled (at + 1) rest)

-- the node that a line adds takes the place of a subtree that was waited for
pub tree_more : (before now after : List Bare) (bare : Bare) (left next : ℕ) → awaited 1 before ≡ Some left → now ≡ before → after ≡ now ++ bare ∷ [] → 0 < left → next + 1 ≡ left + bare.kids → awaited 1 after ≡ Some next
tree_more before now after bare left next tree same push some more = rw (push, same) (awaited-push 1 before bare left next tree some more)

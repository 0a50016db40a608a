-- A node is a kid in one place at most: from the last line to the first, the subtrees that wait for a parent stand once in
-- their list, and those that a node takes are gone from it.
use Rattle.std.proofs.Common.{◌≡◌, ℕ, zero, suc, ◌+◌, ◌<◌, ◌≤◌, List, [], ◌∷◌, Some, take, drop, slice_get, refl, sym, subst, arith}
use Rattle.std.proofs.lemmas.Option.{same_Some}
use Rattle.corr_game.specs.Node.{kids_of}
use Rattle.efg_lines.specs.File.{FileView}
use Rattle.efg_reader.specs.declared.raw_game.RawNode.{RawNode}
use Rattle.efg_reader.specs.Entry.{Mover, draws, moves, nobody}
use Rattle.efg_reader.specs.FileGame.{node_at, nodes_from, shape_at, IsGameOf}
use Rattle.efg_reader.specs.RawGame.{RawGameView, bare_node}
use Rattle.efg_reader.specs.Told.{Told}
use Rattle.efg_reader.specs.TreeSoFar.{kid_count}

-- the kids of a raw node
abbrev kids_in : RawNode → List ℕ
kids_in node = kids_of (bare_node node.shape)

-- kids stand behind their nodes, in one place at most, and wait for no further parent
record IsParted (at : ℕ) (nodes : List RawNode) (roots : List ℕ) : Type 0 where
  from : (i root : ℕ) → slice_get roots i ≡ Some root → at ≤ root
  apart : (i j root : ℕ) → slice_get roots i ≡ Some root → slice_get roots j ≡ Some root → i ≡ j
  behind : (m k kid : ℕ) (a : RawNode) → slice_get nodes m ≡ Some a → slice_get (kids_in a) k ≡ Some kid → at + m < kid
  taken : (m k i kid : ℕ) (a : RawNode) → slice_get nodes m ≡ Some a → slice_get (kids_in a) k ≡ Some kid → slice_get roots i ≡ Some kid → ⊥
  once : (m n k l kid : ℕ) (a b : RawNode) → slice_get nodes m ≡ Some a → slice_get nodes n ≡ Some b
      → slice_get (kids_in a) k ≡ Some kid → slice_get (kids_in b) l ≡ Some kid → (m ≡ n) × (k ≡ l)

-- an element of the first part of a list, and of what is behind it
in_take : (n : ℕ) (xs : List ℕ) (k x : ℕ) → slice_get (take n xs) k ≡ Some x → (k < n) × (slice_get xs k ≡ Some x)
in_take zero xs k x h = absurd (cc)
in_take (suc n) [] k x h = absurd (cc)
in_take (suc n) (y ∷ ys) zero x h = (omega arith, h)
in_take (suc n) (y ∷ ys) (suc k) x h = let more = in_take n ys k x h in (omega (arith, more.0), more.1)

in_drop : (n : ℕ) (xs : List ℕ) (k x : ℕ) → slice_get (drop n xs) k ≡ Some x → slice_get xs (n + k) ≡ Some x
in_drop zero xs k x h = let same : 0 + k ≡ k = omega arith in rw same h
in_drop (suc n) [] k x h = absurd (cc)
in_drop (suc n) (y ∷ ys) k x h = let same : suc n + k ≡ suc (n + k) = omega arith in rw same (in_drop n ys k x h)

module _ (at count : ℕ) (own : RawNode) (nodes : List RawNode) (roots : List ℕ) (tail : IsParted (at + 1) nodes roots)
    (takes : (k kid : ℕ) → slice_get (kids_in own) k ≡ Some kid → (k < count) × (slice_get roots k ≡ Some kid)) where
  own_kid : (k kid : ℕ) (a : RawNode) → own ≡ a → slice_get (kids_in a) k ≡ Some kid → (k < count) × (slice_get roots k ≡ Some kid)
  own_kid k kid a same h = takes k kid (subst (λ (r : RawNode). slice_get (kids_in r) k ≡ Some kid) (sym same) h)

  from : (i root : ℕ) → slice_get (at ∷ drop count roots) i ≡ Some root → at ≤ root
  from zero root h = omega (arith, same_Some at root h)
  from (suc i) root h = omega (arith, tail.from (count + i) root (in_drop count roots i root h))

  apart : (i j root : ℕ) → slice_get (at ∷ drop count roots) i ≡ Some root → slice_get (at ∷ drop count roots) j ≡ Some root → i ≡ j
  apart zero zero root h e = refl
  apart zero (suc j) root h e = absurd (omega (arith, same_Some at root h, tail.from (count + j) root (in_drop count roots j root e)))
  apart (suc i) zero root h e = absurd (omega (arith, same_Some at root e, tail.from (count + i) root (in_drop count roots i root h)))
  apart (suc i) (suc j) root h e =
      omega (arith, tail.apart (count + i) (count + j) root (in_drop count roots i root h) (in_drop count roots j root e))

  behind : (m k kid : ℕ) (a : RawNode) → slice_get (own ∷ nodes) m ≡ Some a → slice_get (kids_in a) k ≡ Some kid → at + m < kid
  behind zero k kid a here h = let is = own_kid k kid a (same_Some own a here) h in omega (arith, tail.from k kid is.1)
  behind (suc m) k kid a here h = omega (arith, tail.behind m k kid a here h)

  taken : (m k i kid : ℕ) (a : RawNode) → slice_get (own ∷ nodes) m ≡ Some a → slice_get (kids_in a) k ≡ Some kid
      → slice_get (at ∷ drop count roots) i ≡ Some kid → ⊥
  taken m k zero kid a here h e = absurd (omega (arith, same_Some at kid e, behind m k kid a here h))
  taken zero k (suc i) kid a here h e =
      let is = own_kid k kid a (same_Some own a here) h in
      absurd (omega (arith, is.0, tail.apart k (count + i) kid is.1 (in_drop count roots i kid e)))
  taken (suc m) k (suc i) kid a here h e = tail.taken m k (count + i) kid a here h (in_drop count roots i kid e)

  once : (m n k l kid : ℕ) (a b : RawNode) → slice_get (own ∷ nodes) m ≡ Some a → slice_get (own ∷ nodes) n ≡ Some b
      → slice_get (kids_in a) k ≡ Some kid → slice_get (kids_in b) l ≡ Some kid → (m ≡ n) × (k ≡ l)
  once zero zero k l kid a b here there h e =
      (refl, tail.apart k l kid (own_kid k kid a (same_Some own a here) h).1 (own_kid l kid b (same_Some own b there) e).1)
  once zero (suc n) k l kid a b here there h e = absurd (tail.taken n l k kid b there e (own_kid k kid a (same_Some own a here) h).1)
  once (suc m) zero k l kid a b here there h e = absurd (tail.taken m k l kid a here h (own_kid l kid b (same_Some own b there) e).1)
  once (suc m) (suc n) k l kid a b here there h e = let same = tail.once m n k l kid a b here there h e in (omega (arith, same.0), same.1)

  parted_more : IsParted at (own ∷ nodes) (at ∷ drop count roots)
  parted_more = record { from = from; apart = apart; behind = behind; taken = taken; once = once }

-- a node's kids are some that are handed to it
shape_kids : (lines : List Told) (mover : Mover) (kids : List ℕ) (k kid : ℕ)
    → slice_get (kids_of (bare_node (shape_at lines mover kids))) k ≡ Some kid → slice_get kids k ≡ Some kid
shape_kids lines nobody kids k kid h = absurd (cc)
shape_kids lines (draws set probs) kids k kid h = h
shape_kids lines (moves who set) kids k kid h = h

parted : (lines : List Told) (at : ℕ) (rest : List Told) → IsParted at (nodes_from lines at rest).0 (nodes_from lines at rest).1
unfolding nodes_from
parted lines at [] = record {
  from = λ i root h. absurd (cc);
  apart = λ i j root h e. absurd (cc);
  behind = λ m k kid a here h. absurd (cc);
  taken = λ m k i kid a here h e. absurd (cc);
  once = λ m n k l kid a b here there h e. absurd (cc);
}
parted lines at (told ∷ rest) =
    let count = kid_count lines told in
    let behind = nodes_from lines (at + 1) rest in
    parted_more at count (node_at lines told (take count behind.1)) behind.0 behind.1 (parted lines (at + 1) rest)
    (λ k kid h. in_take count behind.1 k kid (shape_kids lines told.numbers.mover (take count behind.1) k kid h))

parted_game : (file : FileView) (raw : RawGameView) → IsGameOf file raw → (roots : List ℕ) × IsParted 0 raw.nodes roots
parted_game file raw said =
    let roots = (nodes_from said.lines 0 said.lines).1 in
    (roots, subst (λ (r : RawGameView). IsParted 0 r.nodes roots) (sym said.game_is) (parted said.lines 0 said.lines))

-- a node of a file's game is a kid in one place at most
pub kid_once : (file : FileView) (raw : RawGameView) (m n k l kid : ℕ) (a b : RawNode) → IsGameOf file raw
    → slice_get raw.nodes m ≡ Some a → slice_get raw.nodes n ≡ Some b
    → slice_get (kids_of (bare_node a.shape)) k ≡ Some kid → slice_get (kids_of (bare_node b.shape)) l ≡ Some kid → (m ≡ n) × (k ≡ l)
kid_once file raw m n k l kid a b said here there h e = (parted_game file raw said).1.once m n k l kid a b here there h e

-- and it stands behind its parent
pub kid_behind : (file : FileView) (raw : RawGameView) (m k kid : ℕ) (a : RawNode) → IsGameOf file raw
    → slice_get raw.nodes m ≡ Some a → slice_get (kids_of (bare_node a.shape)) k ≡ Some kid → m < kid
kid_behind file raw m k kid a said here h = omega (arith, (parted_game file raw said).1.behind m k kid a here h)

-- A triangle of information sets (Farina and Sandholm 2020).
use Rattle.std.specs.Prelude.{◌≡◌, ℕ, ◌<◌, true}
use Rattle.sequences.specs.Number.{SideView, IsOwn}
use Rattle.connected_pairs.specs.Connected.{PairsView, are_connected}
use Rattle.triangle_test.specs.declared.triangles.Quad.{Quad}

-- two sets of a player are different and have one own sequence
abbrev pub AreSiblings : SideView → ℕ → ℕ → Type 0
AreSiblings v a b = (a ≡ b → ⊥) × ((own : ℕ) × IsOwn v a own × IsOwn v b own)

-- two siblings of each player, of which the first are connected, the second are, and player 1's first is with player
-- 2's second
pub record IsTriangle (p : PairsView) (q : Quad) : Type 0 where
  pub one : AreSiblings p.seqs.one q.one_a.0 q.one_b.0
  pub two : AreSiblings p.seqs.two q.two_a.0 q.two_b.0
  pub first : are_connected p q.one_a.0 q.two_a.0 ≡ true
  pub second : are_connected p q.one_b.0 q.two_b.0 ≡ true
  pub across : are_connected p q.one_a.0 q.two_b.0 ≡ true

-- there is no triangle
abbrev pub HasNoTriangle : PairsView → Type 0
HasNoTriangle p = (quad : Quad) → IsTriangle p quad → ⊥

-- no triangle has this first set of player 1
abbrev pub NoneFrom : PairsView → ℕ → Type 0
NoneFrom p one_a = (q : Quad) → q.one_a.0 ≡ one_a → IsTriangle p q → ⊥

-- no triangle has these two sets of player 1
abbrev pub NoneWith : PairsView → ℕ → ℕ → Type 0
NoneWith p one_a one_b = (q : Quad) → q.one_a.0 ≡ one_a → q.one_b.0 ≡ one_b → IsTriangle p q → ⊥

-- no triangle has these two sets of player 1 and this first set of player 2
abbrev pub NoneOver : PairsView → ℕ → ℕ → ℕ → Type 0
NoneOver p one_a one_b two_a = (q : Quad) → q.one_a.0 ≡ one_a → q.one_b.0 ≡ one_b → q.two_a.0 ≡ two_a → IsTriangle p q → ⊥

-- no triangle has this first set of player 1 and this second set of player 2
abbrev pub NoneAcross : PairsView → ℕ → ℕ → Type 0
NoneAcross p one_a two_b = (q : Quad) → q.one_a.0 ≡ one_a → q.two_b.0 ≡ two_b → IsTriangle p q → ⊥

-- these two sets, and the set of player 1 and that of player 2 between them, make a pair of a triangle
abbrev pub IsPartner : PairsView → ℕ → ℕ → ℕ → Type 0
IsPartner p one_a two_a two_b = (are_connected p one_a two_a ≡ true) × AreSiblings p.seqs.two two_a two_b

abbrev pub IsMet : PairsView → ℕ → ℕ → ℕ → Type 0
IsMet p one_a one_b two_b = (are_connected p one_b two_b ≡ true) × AreSiblings p.seqs.one one_a one_b

-- the last set of a triangle whose other three are these
abbrev pub IsLast : PairsView → ℕ → ℕ → ℕ → ℕ → Type 0
IsLast p one_a one_b two_a two_b = (are_connected p one_a two_b ≡ true) × (are_connected p one_b two_b ≡ true) × AreSiblings p.seqs.two two_a two_b

-- no triangle is of these four sets
abbrev pub NoneOf : PairsView → ℕ → ℕ → ℕ → ℕ → Type 0
NoneOf p one_a one_b two_a two_b = (q : Quad) → q.one_a.0 ≡ one_a → q.one_b.0 ≡ one_b → q.two_a.0 ≡ two_a → q.two_b.0 ≡ two_b → IsTriangle p q → ⊥

-- a triangle with these three sets, whose last set is the least of all
pub record IsLeastOver (p : PairsView) (one_a one_b two_a : ℕ) (q : Quad) : Type 0 where
  pub first : q.one_a.0 ≡ one_a
  pub second : q.one_b.0 ≡ one_b
  pub third : q.two_a.0 ≡ two_a
  pub triangle : IsTriangle p q
  pub none_before : (k : ℕ) → k < q.two_b.0 → NoneOf p one_a one_b two_a k

-- a triangle with these two sets of player 1, least by the sets of player 2 from the left
pub record IsLeastWith (p : PairsView) (one_a one_b : ℕ) (q : Quad) : Type 0 where
  pub least : IsLeastOver p one_a one_b q.two_a.0 q
  pub none_before : (k : ℕ) → k < q.two_a.0 → NoneOver p one_a one_b k

-- a triangle with this first set, least by its other sets from the left
pub record IsLeastFrom (p : PairsView) (one_a : ℕ) (q : Quad) : Type 0 where
  pub least : IsLeastWith p one_a q.one_b.0 q
  pub none_before : (k : ℕ) → k < q.one_b.0 → NoneWith p one_a k

-- the least triangle by its sets' numbers from the left
pub record IsLeastTriangle (p : PairsView) (q : Quad) : Type 0 where
  pub least : IsLeastFrom p q.one_a.0 q
  pub none_before : (k : ℕ) → k < q.one_a.0 → NoneFrom p k

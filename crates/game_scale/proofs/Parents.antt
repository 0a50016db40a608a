-- Every node but the root is a kid of a node before it: below a node the kids' subtrees stand in a row, so a node there
-- is a kid or stands below one.
use Rattle.std.proofs.Common.{◌≡◌, ℕ, zero, suc, ◌+◌, ◌<◌, ◌≤◌, inl, inr, List, [], ◌∷◌, Some, length, slice_get, refl, sym, subst, arith}
use Rattle.std.proofs.lemmas.Bool.{cases_lt}
use Rattle.std.proofs.lemmas.List.{length-map}
use Rattle.std.proofs.lemmas.Option.{same_Some}
use Rattle.corr_game.specs.declared.nodes.Node.{Node}
use Rattle.corr_game.specs.Game.{GameView, IsGame}
use Rattle.corr_game.specs.Node.{kids_of}
use Rattle.corr_game.specs.Preorder.{InRow, row_end, end_of}
use Rattle.corr_game.proofs.Rows.{found, behind_at, kids_behind, end_of-node}
use Rattle.efg_reader.specs.RawGame.{RawGameView, IsRawGame, bare_game, bare_node, bare_nodes}
use Rattle.efg_reader.specs.declared.raw_game.RawNode.{RawNode}

-- the kid of a row whose subtree holds node n
record IsIn (kids : List ℕ) (ends : ℕ → ℕ) (n : ℕ) : Type 0 where
  k : ℕ
  kid : ℕ
  here : slice_get kids k ≡ Some kid
  from : kid ≤ n
  to : n < ends kid

in_row : (start : ℕ) (kids : List ℕ) (ends : ℕ → ℕ) (n : ℕ) → InRow start kids ends → start ≤ n → n < row_end start kids ends → IsIn kids ends n
in_row start [] ends n row low high = absurd (omega arith)
in_row start (kid ∷ kids) ends n row low high =
    elim (cases_lt n (ends kid)) [
      | inl inside ↦ record { k = 0; kid = kid; here = refl; from = omega (arith, row.0); to = inside }
      | inr behind ↦
          let rest = in_row (ends kid) kids ends n row.1 behind high in
          record { k = suc rest.k; kid = rest.kid; here = rest.here; from = rest.from; to = rest.to }
    ]

-- node n is a kid of node p, which stands before it
pub record IsKid (nodes : List Node) (n : ℕ) : Type 0 where
  pub p : ℕ
  pub k : ℕ
  pub node : Node
  pub before : p < n
  pub here : slice_get nodes p ≡ Some node
  pub kid : slice_get (kids_of node) k ≡ Some n

-- from a node above n on: `left` bounds how many nodes stand behind it
below : (g : GameView) → IsGame g → (left m n : ℕ) → length g.nodes ≤ m + left → m < length g.nodes → m < n → n < end_of g.nodes m → IsKid g.nodes n
below g rules zero m n bound low behind inside = absurd (omega arith)
below g rules (suc left) m n bound low behind inside =
    let at = found g.nodes m low in
    let e = end_of-node g rules m at.0 at.1 in
    let in_it = in_row (m + 1) (kids_of at.0) (end_of g.nodes) n (rules.in_row m at.0 at.1) (omega arith) (omega (arith, e)) in
    let within = behind_at (length g.nodes) m (kids_of at.0) in_it.k in_it.kid (kids_behind g m at.0 (rules.each_node m at.0 at.1)) in_it.here in
    elim (cases_lt in_it.kid n) [
      | inl deeper ↦ below g rules left in_it.kid n (omega (arith, within.0)) within.1 deeper in_it.to
      | inr last ↦
          let same : in_it.kid ≡ n = omega (arith, in_it.from) in
          record { p = m; k = in_it.k; node = at.0; before = behind; here = at.1; kid = subst (λ (z : ℕ). slice_get (kids_of at.0) in_it.k ≡ Some z) same in_it.here }
    ]

pub is_kid : (g : GameView) → IsGame g → (n : ℕ) → 0 < n → n < length g.nodes → IsKid g.nodes n
is_kid g rules n some low = below g rules (length g.nodes) 0 n (omega arith) rules.has_root some (omega (arith, rules.one_tree))

-- the same of a game as its file says
pub record IsRawKid (nodes : List RawNode) (n : ℕ) : Type 0 where
  pub p : ℕ
  pub k : ℕ
  pub node : RawNode
  pub before : p < n
  pub here : slice_get nodes p ≡ Some node
  pub kid : slice_get (kids_of (bare_node node.shape)) k ≡ Some n

bare_back : (nodes : List RawNode) (p : ℕ) (x : Node) → slice_get (bare_nodes nodes) p ≡ Some x → (node : RawNode) × (slice_get nodes p ≡ Some node) × (bare_node node.shape ≡ x)
bare_back [] p x h = absurd (cc)
bare_back (y ∷ ys) zero x h = (y, refl, same_Some (bare_node y.shape) x h)
bare_back (y ∷ ys) (suc p) x h = bare_back ys p x h

pub is_raw_kid : (raw : RawGameView) → IsRawGame raw → (n : ℕ) → 0 < n → n < length raw.nodes → IsRawKid raw.nodes n
is_raw_kid raw rules n some low =
    let is = is_kid (bare_game raw) rules.tree n some (omega (arith, length-map raw.nodes (λ (r : RawNode). bare_node r.shape))) in
    let at = bare_back raw.nodes is.p is.node is.here in
    record { p = is.p; k = is.k; node = at.0; before = is.before; here = at.1; kid = subst (λ (x : Node). slice_get (kids_of x) is.k ≡ Some n) (sym at.2) is.kid }

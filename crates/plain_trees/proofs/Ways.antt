-- The way down from a node begins at one of its kids; nodes of sets and kids are in the list.
use Rattle.std.proofs.Common.{◌≡◌, ◌⊎◌, ℕ, zero, suc, ◌<◌, ◌≤◌, inl, inr, List, [], ◌∷◌, Some, length, get_or, slice_get, refl, sym, ap, subst, ◌∙◌, arith}
use Rattle.corr_game.specs.declared.nodes.Node.{Node}
use Rattle.corr_game.specs.Game.{GameView, IsGame}
use Rattle.corr_game.specs.Node.{kids_of}
use Rattle.tree_recall.specs.Tree.{IsAbove, further, kid_of, kid_there, parent}
use Rattle.tree_recall.proofs.Kids.{above_joined}

-- a node is this one or below it
abbrev pub IsFrom : GameView → ℕ → ℕ → Type 0
IsFrom g kid n = (kid ≡ n) ⊎ IsAbove g kid n

pub first_kid : (g : GameView) (m n : ℕ) → IsAbove g m n → (action : ℕ) × (kid : ℕ) × (kid_of g m action ≡ Some kid) × IsFrom g kid n
first_kid g m _ (parent action n e) = (action, n, e, inl refl)
first_kid g m _ (further between action n up e) =
    let first = first_kid g m between up in
    elim first.3 [
      | inl same ↦
          let here : kid_of g first.1 action ≡ Some n = rw same e in
          (first.0, first.1, first.2, inr (parent action n here))
      | inr above ↦ (first.0, first.1, first.2, inr (further between action n above e))
    ]

pub by_kid : (g : GameView) → IsGame g → (m action kid n : ℕ) → kid_of g m action ≡ Some kid → IsFrom g kid n → IsAbove g m n
by_kid g rules m action kid n e (inl same) = rw (← same) (parent action kid e)
by_kid g rules m action kid n e (inr above) = above_joined g rules m kid n (parent action kid e) above

-- what stands at a place of a list of numbers
pub kid_at : (kids : List ℕ) (k : ℕ) → k < length kids → slice_get kids k ≡ Some (get_or kids k 0)
kid_at [] k h = absurd (omega arith)
kid_at (x ∷ xs) zero h = refl
kid_at (x ∷ xs) (suc k) h = kid_at xs k (omega arith)

pub place_of : (kids : List ℕ) (k kid : ℕ) → slice_get kids k ≡ Some kid → (k < length kids) × (get_or kids k 0 ≡ kid)
place_of [] k kid e = absurd (cc)
place_of (x ∷ xs) zero kid e = (omega arith, cc)
place_of (x ∷ xs) (suc k) kid e = let rest = place_of xs k kid e in (omega (arith, rest.0), rest.1)

pub kid_here : (g : GameView) (m : ℕ) (node : Node) (k : ℕ) → slice_get g.nodes m ≡ Some node → k < length (kids_of node)
    → kid_of g m k ≡ Some (get_or (kids_of node) k 0)
kid_here g m node k there h = ap (kid_there k) there ∙ kid_at (kids_of node) k h

-- a kid of a node is among the kids that were gone over
pub kid_among : (g : GameView) (m : ℕ) (node : Node) (action kid : ℕ) → slice_get g.nodes m ≡ Some node → kid_of g m action ≡ Some kid
    → (action < length (kids_of node)) × (get_or (kids_of node) action 0 ≡ kid)
kid_among g m node action kid there e = place_of (kids_of node) action kid (sym (ap (kid_there action) there) ∙ e)

pub none_below : (g : GameView) (m : ℕ) (node : Node) (n k : ℕ) → slice_get g.nodes m ≡ Some node → length (kids_of node) ≤ k
    → ((j : ℕ) → j < k → IsFrom g (get_or (kids_of node) j 0) n → ⊥) → IsAbove g m n → ⊥
none_below g m node n k there all none above =
    let first = first_kid g m n above in
    let among = kid_among g m node first.0 first.1 there first.2 in
    let P : ℕ → Type 0 = λ kid. IsFrom g kid n in
    none first.0 (omega (arith, among.0)) (subst P (sym among.1) first.3)

pub kid_is : (g : GameView) (m : ℕ) (node : Node) (kids : List ℕ) (k kid : ℕ) → slice_get g.nodes m ≡ Some node → kids ≡ kids_of node
    → k < length kids → kid ≡ get_or kids k 0 → kid_of g m k ≡ Some kid
kid_is g m node kids k kid there e h same = rw (same, e) (kid_here g m node k there (rw e at h))

-- From the last node to the first, a node ends where the row of its kids does.
use Rattle.std.proofs.Common.{◌≡◌, ℕ, ◌+◌, ◌<◌, ◌≤◌, List, [], ◌∷◌, Some, length, get_or, slice_index, slice_get, drop, set, refl, sym, ap, ◌∙◌, inl, inr, arith}
use Rattle.std.proofs.lemmas.Bool.{cases_eq}
use Rattle.std.proofs.lemmas.List.{drop_all, drop_more, get_or-set_same, get_or-set_other}
use Rattle.corr_game.specs.declared.nodes.Node.{Node}
use Rattle.corr_game.specs.Node.{kids_of}
use Rattle.corr_game.specs.Preorder.{row_end, end_of}
use Rattle.corr_game.specs.Game.{GameView, IsGame, AreBehind}
use Rattle.corr_game.proofs.Rows.{behind-head, behind-tail, kids_behind, end_of-node}

-- the ends of the nodes from n on are found
abbrev pub AreEnds : GameView → ℕ → List ℕ → Type 0
AreEnds g n ends = (m : ℕ) → n ≤ m → m < length g.nodes → slice_index ends m ≡ end_of g.nodes m

row_end-found : (count n start : ℕ) (kids : List ℕ) (f h : ℕ → ℕ) → AreBehind count n kids → ((m : ℕ) → n < m → m < count → f m ≡ h m) → row_end start kids f ≡ row_end start kids h
row_end-found count n start [] f h b same = refl
row_end-found count n start (kid ∷ kids) f h b same =
    let here = behind-head count n kid kids b in
    rw (same kid here.0 here.1) (row_end-found count n (h kid) kids f h (behind-tail count n kid kids b) same)

-- a row's end is what is left to go over, from the end so far
pub row_end-drop : (start : ℕ) (kids : List ℕ) (ends : ℕ → ℕ) (k : ℕ) → k < length kids → row_end start (drop k kids) ends ≡ row_end (ends (get_or kids k 0)) (drop (k + 1) kids) ends
row_end-drop start kids ends k h = ap (λ (xs : List ℕ). row_end start xs ends) (drop_more kids k 0 h)

pub row_end-whole : (start : ℕ) (kids : List ℕ) (ends : ℕ → ℕ) (k : ℕ) → length kids ≤ k → row_end start (drop k kids) ends ≡ start
row_end-whole start kids ends k h = ap (λ (xs : List ℕ). row_end start xs ends) (drop_all k kids h)

pub one_more : (g : GameView) → IsGame g → (n : ℕ) (node : Node) (ends : List ℕ) (end : ℕ) → slice_get g.nodes n ≡ Some node → n < length g.nodes → length ends ≡ length g.nodes → AreEnds g (n + 1) ends
    → end ≡ row_end (n + 1) (kids_of node) (λ kid. slice_index ends kid) → AreEnds g n (set ends n end)
one_more g rules n node ends end h low count found e m from to =
    elim (cases_eq m n) [
      | inl same ↦
          let here : get_or (set ends n end) n 0 ≡ end = get_or-set_same ends n end 0 (omega (arith, count)) in
          let row = row_end-found (length g.nodes) n (n + 1) (kids_of node) (λ kid. slice_index ends kid) (end_of g.nodes) (kids_behind g n node (rules.each_node n node h)) (λ k l r. found k (omega arith) r) in
          rw same (here ∙ (e ∙ (row ∙ sym (end_of-node g rules n node h))))
      | inr apart ↦ get_or-set_other ends n m end 0 apart ∙ found m (omega arith) to
    ]

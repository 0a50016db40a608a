-- Own sequences from a node to its kids and back, and one for each node.
use Rattle.std.proofs.Common.{◌≡◌, ◌↔◌, ℕ, ◌<◌, inl, inr, List, [], ◌∷◌, Some, None, length, sym, ap, subst, ◌∙◌, arith}
use Rattle.std.proofs.lemmas.Bool.{cases_lt}
use Rattle.corr_game.specs.declared.nodes.SetId.{SetId}
use Rattle.corr_game.specs.declared.sides.Side.{Side}
use Rattle.corr_game.specs.Game.{GameView, IsGame}
use Rattle.tree_recall.specs.OwnSequence.{IsOwnAt, other_move, own_move}
use Rattle.tree_recall.specs.Tree.{kid_of, set_of}
use Rattle.tree_recall.proofs.OwnSequences.{has_own, own_of_kid, own_same}
use Rattle.equilibrium.specs.Leaves.{AreOwn}

abbrev Moves : Type 0
Moves = List (SetId × ℕ)

pub kid_of_own : (side : Side) (g : GameView) → IsGame g → (n action kid : ℕ) (set : SetId) (seq : Moves) → set_of g side n ≡ Some set.0
    → kid_of g n action ≡ Some kid → IsOwnAt g side kid seq ↔ ((before : Moves) × IsOwnAt g side n before × (seq ≡ (set, action) ∷ before))
kid_of_own side g rules n action kid set seq at e = (
  λ own.
      let parts = own_of_kid g rules side n action kid e seq own in
      elim parts.2 [
        | inl here ↦
            let number : here.0.0 ≡ set.0 = cc (here.1, at) in
            let same : here.0 ≡ set = ap (λ (x : ℕ). (let id : SetId = record { 0 = x } in id)) number in
            (parts.0, parts.1, here.2 ∙ ap (λ (x : SetId). (x, action) ∷ parts.0) same)
        | inr away ↦ absurd (cc (away.0, at))
      ],
  λ parts.
      let P : Moves → Type 0 = IsOwnAt g side kid in
      subst P (sym parts.2) (own_move n action kid set parts.0 parts.1 at e),
)

pub kid_of_other : (side : Side) (g : GameView) → IsGame g → (n action kid : ℕ) (seq : Moves) → set_of g side n ≡ None
    → kid_of g n action ≡ Some kid → IsOwnAt g side kid seq ↔ IsOwnAt g side n seq
kid_of_other side g rules n action kid seq at e = (
  λ own.
      let parts = own_of_kid g rules side n action kid e seq own in
      let P : Moves → Type 0 = IsOwnAt g side n in
      elim parts.2 [ inl here ↦ absurd (cc (here.1, at)) | inr away ↦ subst P (sym away.1) parts.1 ],
  λ own. other_move n action kid seq own at e,
)

-- the sequence of a node of the tree, and nothing beyond
own_or_none : (side : Side) (g : GameView) → IsGame g → (n : ℕ) → (seq : Moves) × (n < length g.nodes → IsOwnAt g side n seq)
own_or_none side g rules n = elim (cases_lt n (length g.nodes)) [
  | inl low ↦ (let own = has_own g rules side n low in (own.0, λ h. own.1))
  | inr high ↦ ([], λ h. absurd (omega arith))
]

pub owns : (side : Side) (g : GameView) → IsGame g → (own : ℕ → Moves) × AreOwn side g own
owns side g rules = (λ n. (own_or_none side g rules n).0, record { each = λ n low. (own_or_none side g rules n).1 low })

pub one_own : (side : Side) (g : GameView) → IsGame g → (n : ℕ) (a b : Moves) → IsOwnAt g side n a → IsOwnAt g side n b → a ≡ b
one_own side g rules n a b own other = own_same g rules side n a b own other

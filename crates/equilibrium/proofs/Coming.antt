-- A walk down from a node comes to a set by the step there, since kids stand behind their node in the list.
use Rattle.std.proofs.Common.{◌≡◌, ℕ, zero, suc, ◌+◌, ◌<◌, Bool, true, false, ◌&&◌, ◌||◌, List, [], ◌∷◌, Some, length, slice_get}
use Rattle.std.proofs.Common.{refl, ap, ap₂, arith}
use Rattle.std.proofs.lemmas.Bool.{or_right}
use Rattle.corr_game.specs.declared.nodes.Node.{Node}
use Rattle.corr_game.specs.declared.sides.Side.{Side}
use Rattle.corr_game.specs.Game.{GameView, IsGame, AreBehind}
use Rattle.corr_game.specs.Node.{kids_of, set_at}
use Rattle.corr_game.proofs.FromLast.{from_last-step}
use Rattle.corr_game.proofs.Rows.{behind-head, behind-tail, kids_behind}
use Rattle.equilibrium.specs.Reach.{comes_step, comes_to, is_set, some_kid}

some_kid-same : (count n : ℕ) (allowed f g : ℕ → Bool) (action : ℕ) (kids : List ℕ) → AreBehind count n kids → ((m : ℕ) → n < m → f m ≡ g m)
    → some_kid allowed f action kids ≡ some_kid allowed g action kids
some_kid-same count n allowed f g action [] behind same = refl
some_kid-same count n allowed f g action (kid ∷ kids) behind same =
    ap₂ (λ (a b : Bool). allowed action && a || b) (same kid (behind-head count n kid kids behind).0)
    (some_kid-same count n allowed f g (action + 1) kids (behind-tail count n kid kids behind) same)

pub comes_to-node : (allowed : Node → ℕ → Bool) (side : Side) (g : GameView) → IsGame g → (set n : ℕ) (node : Node)
    → slice_get g.nodes n ≡ Some node
    → comes_to allowed side g set n ≡ comes_step allowed side set node (comes_to allowed side g set)
unfolding comes_to
comes_to-node allowed side g rules set n node there =
    from_last-step (λ m x comes. comes_step allowed side set x comes) false g.nodes n node there
    (λ a b same. ap (λ (t : Bool). is_set set (set_at side node) || t)
    (some_kid-same (length g.nodes) n (allowed node) a b 0 (kids_of node) (kids_behind g n node (rules.each_node n node there)) same))

-- an allowed kid with the property is some kid
pub some_kid-at : (allowed has : ℕ → Bool) (first : ℕ) (kids : List ℕ) (k action kid : ℕ) → action ≡ first + k
    → slice_get kids k ≡ Some kid → allowed action ≡ true
    → has kid ≡ true → some_kid allowed has first kids ≡ true
some_kid-at allowed has first [] k action kid e there a h = absurd (cc)
some_kid-at allowed has first (x ∷ xs) zero action kid e there a h =
    let same : x ≡ kid = cc in
    let at : action ≡ first = omega arith in
    let allowed_here : allowed first ≡ true = rw (← at) a in
    let has_here : has x ≡ true = rw same h in
    rw (allowed_here, has_here) refl
some_kid-at allowed has first (x ∷ xs) (suc k) action kid e there a h =
    or_right (allowed first && has x) _ (some_kid-at allowed has (first + 1) xs k action kid (omega arith) there a h)

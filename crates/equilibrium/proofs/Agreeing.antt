-- Plans that agree at each set from a node down pay alike there: by going from the last node to the first.
use Rattle.std.proofs.Common.{◌≡◌, ℕ, zero, suc, ◌+◌, ◌<◌, ◌≤◌, ◌⊎◌, inl, inr, List, [], ◌∷◌, Option, Some, None, length, slice_get}
use Rattle.std.proofs.Common.{ℤ, ◌+ℤ◌, refl, sym, ap, ap₂, ◌∙◌, arith}
use Rattle.corr_game.specs.declared.nodes.Node.{Node}
use Rattle.corr_game.specs.declared.nodes.Node.TheVariants.{Leaf, Chance, Choice}
use Rattle.corr_game.specs.declared.sides.Side.{Side}
use Rattle.corr_game.specs.declared.sides.Side.TheVariants.{One, Two}
use Rattle.corr_game.specs.Game.{GameView, IsGame}
use Rattle.corr_game.specs.Node.{kids_of, set_at}
use Rattle.corr_game.specs.Plan.{plan_of}
use Rattle.corr_game.specs.Walk.{named, paid_at, step, total, walk}
use Rattle.corr_game.proofs.Rows.{found}
use Rattle.corr_game.proofs.WalkSteps.{walk-node}
use Rattle.tree_recall.specs.Tree.{IsAbove, further, kid_of, kid_there, parent, set_of, set_there}
use Rattle.equilibrium.proofs.Descents.{kid_inside}

-- a node is this one or below it
abbrev pub IsFrom : GameView → ℕ → ℕ → Type 0
IsFrom g n m = (n ≡ m) ⊎ IsAbove g n m

-- what is below a kid is below its node
below_kid : (g : GameView) (n action kid m : ℕ) → kid_of g n action ≡ Some kid → IsAbove g kid m → IsAbove g n m
below_kid g n action kid _ e (parent turn m k) = further kid turn m (parent action kid e) k
below_kid g n action kid _ e (further between turn m up k) = further between turn m (below_kid g n action kid between e up) k

pub from_kid : (g : GameView) (n action kid m : ℕ) → kid_of g n action ≡ Some kid → IsFrom g kid m → IsAbove g n m
from_kid g n action kid m e (inl same) = rw (← same) (parent action kid e)
from_kid g n action kid m e (inr above) = below_kid g n action kid m e above

-- two pairs of plans have the same entries at each set from a node down
abbrev pub AgreeFrom : GameView → ℕ → List (Option ℕ) → List (Option ℕ) → List (Option ℕ) → List (Option ℕ) → Type 0
AgreeFrom g n one two new_one new_two =
    (mover : Side) (m set : ℕ) → IsFrom g n m → set_of g mover m ≡ Some set
    → slice_get (plan_of mover one two) set ≡ slice_get (plan_of mover new_one new_two) set

total_same : (kids : List ℕ) (f h : ℕ → ℤ) → ((action kid : ℕ) → slice_get kids action ≡ Some kid → f kid ≡ h kid)
    → total f kids ≡ total h kids
total_same [] f h each = refl
total_same (kid ∷ kids) f h each = ap₂ (λ (a b : ℤ). a +ℤ b) (each 0 kid refl) (total_same kids f h (λ action k e. each (suc action) k e))

paid_same : (kids : List ℕ) (f h : ℕ → ℤ) (action : ℕ) (there : Option ℕ) → slice_get kids action ≡ there
    → ((turn kid : ℕ) → slice_get kids turn ≡ Some kid → f kid ≡ h kid) → paid_at f there ≡ paid_at h there
paid_same kids f h action None e each = refl
paid_same kids f h action (Some kid) e each = each action kid e

named_same : (kids : List ℕ) (f h : ℕ → ℤ) (entry : Option (Option ℕ))
    → ((action kid : ℕ) → slice_get kids action ≡ Some kid → f kid ≡ h kid) → named f kids entry ≡ named h kids entry
named_same kids f h None each = refl
named_same kids f h (Some None) each = refl
named_same kids f h (Some (Some action)) each = paid_same kids f h action (slice_get kids action) refl each

step_same : (side : Side) (one two new_one new_two : List (Option ℕ)) (node : Node) (f h : ℕ → ℤ)
    → ((mover : Side) (set : ℕ) → set_at mover node ≡ Some set
    → slice_get (plan_of mover one two) set ≡ slice_get (plan_of mover new_one new_two) set)
    → ((action kid : ℕ) → slice_get (kids_of node) action ≡ Some kid → f kid ≡ h kid)
    → step side one two node f ≡ step side new_one new_two node h
step_same side one two new_one new_two (Leaf pay) f h entries each = refl
step_same side one two new_one new_two (Chance kids) f h entries each = total_same kids f h each
step_same side one two new_one new_two (Choice One set kids) f h entries each =
    ap (named f kids) (entries One set.0 refl) ∙ named_same kids f h (slice_get new_one set.0) each
step_same side one two new_one new_two (Choice Two set kids) f h entries each =
    ap (named f kids) (entries Two set.0 refl) ∙ named_same kids f h (slice_get new_two set.0) each

-- `left` bounds how many nodes stand behind n
alike_from : (side : Side) (g : GameView) → IsGame g → (one two new_one new_two : List (Option ℕ)) (left n : ℕ) → length g.nodes ≤ n + left
    → n < length g.nodes → AgreeFrom g n one two new_one new_two → walk side g one two n ≡ walk side g new_one new_two n
alike_from side g rules one two new_one new_two zero n bound low agree = absurd (omega arith)
alike_from side g rules one two new_one new_two (suc left) n bound low agree =
    let at = found g.nodes n low in
    let here : (mover : Side) (set : ℕ) → set_at mover at.0 ≡ Some set
    → slice_get (plan_of mover one two) set ≡ slice_get (plan_of mover new_one new_two) set =
    λ mover set e. agree mover n set (inl refl) (ap (set_there mover) at.1 ∙ e) in
    let each : (action kid : ℕ) → slice_get (kids_of at.0) action ≡ Some kid
    → walk side g one two kid ≡ walk side g new_one new_two kid =
    λ action kid e.
    let inside = kid_inside g rules n action kid at.0 at.1 e in
    let down : kid_of g n action ≡ Some kid = ap (kid_there action) at.1 ∙ e in
    alike_from side g rules one two new_one new_two left kid (omega arith) inside.1
    (λ mover m set from f. agree mover m set (inr (from_kid g n action kid m down from)) f) in
    walk-node side g rules one two n at.0 at.1
    ∙ step_same side one two new_one new_two at.0 (walk side g one two) (walk side g new_one new_two) here each
    ∙ sym (walk-node side g rules new_one new_two n at.0 at.1)

pub pay_alike : (side : Side) (g : GameView) → IsGame g → (one two new_one new_two : List (Option ℕ)) (n : ℕ) → n < length g.nodes
    → AgreeFrom g n one two new_one new_two → walk side g one two n ≡ walk side g new_one new_two n
pay_alike side g rules one two new_one new_two n low agree = alike_from side g rules one two new_one new_two (length g.nodes) n (omega arith) low agree

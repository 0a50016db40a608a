-- A set is below another one exactly where some node of it is below some node of that: the walk down from a node's kids
-- comes to nodes below it
-- alone, and to each of them.
use Rattle.std.proofs.Common.{◌≡◌, ℕ, zero, suc, inl, inr, Bool, true, ◌&&◌, ◌||◌, List, [], ◌∷◌, Option, Some, length, slice_get}
use Rattle.std.proofs.Common.{refl, sym, ap, ◌∙◌, arith}
use Rattle.std.proofs.lemmas.Bool.{cases_Bool, or_right}
use Rattle.corr_game.specs.declared.nodes.Node.{Node}
use Rattle.corr_game.specs.declared.sides.Side.{Side}
use Rattle.corr_game.specs.Game.{GameView, IsGame}
use Rattle.corr_game.specs.Node.{kids_of, set_at}
use Rattle.tree_recall.specs.Tree.{IsAbove, further, kid_there, parent, set_there}
use Rattle.equilibrium.specs.Below.{HasNodeAbove}
use Rattle.equilibrium.specs.Reach.{comes_to, has_below, is_below, is_set, some_kid}
use Rattle.equilibrium.proofs.Coming.{some_kid-at}
use Rattle.equilibrium.proofs.Descents.{HandsOn, comes_from_kid, comes_here, first_true, handed_down, is_set-here, is_set-same}
use Rattle.equilibrium.proofs.Descents.{kid_inside, node_there, second_true, some_kid-found}

abbrev every : Node → ℕ → Bool
every = λ at action. true

-- a node of a list is of the set above, and a walk from one of its kids comes to the other set
abbrev IsFound : Side → GameView → ℕ → ℕ → List Node → ℕ → Type 0
IsFound side g above set nodes k =
    (node : Node) × (slice_get nodes k ≡ Some node) × (set_at side node ≡ Some above) ×
    (some_kid (λ action. true) (comes_to every side g set) 0 (kids_of node) ≡ true)

found_in : (side : Side) (g : GameView) (above set : ℕ) (nodes : List Node) → has_below side g above set nodes ≡ true
    → (k : ℕ) × IsFound side g above set nodes k
found_in side g above set [] h = absurd (cc)
found_in side g above set (node ∷ nodes) h =
    let kids = some_kid (λ action. true) (comes_to every side g set) 0 (kids_of node) in
    let here = is_set above (set_at side node) && kids in
    elim (cases_Bool here) [
      | inl e ↦ (
        0,
        (
          node,
          refl,
          is_set-same above (set_at side node)
              (first_true (is_set above (set_at side node)) kids e),
          second_true (is_set above (set_at side node)) kids e,
        ),
      )
      | inr e ↦ let rest = found_in side g above set nodes
          (sym (ap (λ (b : Bool). b || has_below side g above set nodes) e) ∙ h) in (suc rest.0, rest.1)
    ]

in_found : (side : Side) (g : GameView) (above set : ℕ) (nodes : List Node) (k : ℕ) → IsFound side g above set nodes k
    → has_below side g above set nodes ≡ true
in_found side g above set [] k f = absurd (cc (f.1))
in_found side g above set (x ∷ nodes) zero f =
    let same : x ≡ f.0 = cc (f.1) in
    let kids : some_kid (λ action. true) (comes_to every side g set) 0 (kids_of x) ≡ true = rw same f.3 in
    let here : is_set above (set_at side x) ≡ true = rw same (is_set-here above (set_at side f.0) f.2) in
    rw (here, kids) refl
in_found side g above set (x ∷ nodes) (suc k) f = or_right _ (has_below side g above set nodes) (in_found side g above set nodes k f)

below_hands : (g : GameView) (top : ℕ) → HandsOn every g (IsAbove g top)
below_hands g top = λ n action kid node at a e above. further n action kid above (ap (kid_there action) at ∙ e)

pub below_is_above : (side : Side) (g : GameView) → IsGame g → (above set : ℕ) → is_below side g above set ≡ true
    → HasNodeAbove side g above set
below_is_above side g rules above set h =
    let top = found_in side g above set g.nodes h in
    let node = top.1.0 in
    let kid = some_kid-found (λ action. true) (comes_to every side g set) 0 (kids_of node) top.1.3 in
    let inside = kid_inside g rules top.0 kid.0 kid.1 node top.1.1 kid.2 in
    let first : IsAbove g top.0 kid.1 = parent kid.0 kid.1 (ap (kid_there kid.0) top.1.1 ∙ kid.2) in
    let end = handed_down every side g rules set (IsAbove g top.0) (below_hands g top.0) (length g.nodes) kid.1
    (omega arith) inside.1 first kid.4 in
    (top.0, end.0, ap (set_there side) top.1.1 ∙ top.1.2, end.1, end.2)

-- up from a node from which one comes to the set, to the kids of a node above it
kids_come : (side : Side) (g : GameView) → IsGame g → (set m n : ℕ) → IsAbove g m n → comes_to every side g set n ≡ true
    → (node : Node) × (slice_get g.nodes m ≡ Some node) × (some_kid (λ action. true) (comes_to every side g set) 0 (kids_of node) ≡ true)
kids_come side g rules set m _ (parent action n k) comes =
    let at = node_there side g.nodes m action n k in
    (at.0, at.1, some_kid-at (λ a. true) (comes_to every side g set) 0 (kids_of at.0) action action n (omega arith) at.2 refl comes)
kids_come side g rules set m _ (further between action n up k) comes =
    let at = node_there side g.nodes between action n k in
    kids_come side g rules set m between up (comes_from_kid every side g rules set between action n at.0 at.1 at.2 refl comes)

same_set : (side : Side) (x : Option Node) (node : Node) (above : ℕ) → x ≡ Some node → set_there side x ≡ Some above
    → set_at side node ≡ Some above
same_set side x node above e h = sym (ap (set_there side) e) ∙ h

pub above_is_below : (side : Side) (g : GameView) → IsGame g → (above set : ℕ) → HasNodeAbove side g above set
    → is_below side g above set ≡ true
above_is_below side g rules above set h =
    let kids = kids_come side g rules set h.0 h.1 h.4 (comes_here every side g rules set h.1 h.3) in
    in_found side g above set g.nodes h.0 (kids.0, kids.1, same_set side (slice_get g.nodes h.0) kids.0 above kids.1 h.2, kids.2)

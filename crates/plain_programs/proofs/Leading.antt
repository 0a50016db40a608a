-- A walk down from a node, kid by kid: the kids left give what all kids give.
use Rattle.std.proofs.Common.{◌≡◌, ℕ, ◌+◌, ◌<◌, ◌≤◌, Bool, true, false, ◌&&◌, ◌||◌, List, ◌∷◌, Some, length, drop, get_or}
use Rattle.std.proofs.Common.{slice_get, refl, sym, ap, ◌∙◌, arith}
use Rattle.std.proofs.lemmas.Bool.{or_left}
use Rattle.std.proofs.lemmas.List.{drop_all, drop_more}
use Rattle.std.proofs.lemmas.Option.{slice_get-get_or}
use Rattle.corr_game.specs.declared.nodes.Node.{Node}
use Rattle.corr_game.specs.declared.nodes.Node.TheVariants.{Leaf, Chance, Choice}
use Rattle.corr_game.specs.declared.nodes.SetId.{SetId}
use Rattle.corr_game.specs.declared.sides.Side.{Side}
use Rattle.corr_game.specs.declared.sides.Side.TheVariants.{One, Two}
use Rattle.corr_game.specs.Game.{GameView, IsGame, IsNode, sets_of}
use Rattle.corr_game.specs.Node.{kids_of, same_side, set_at}
use Rattle.corr_game.proofs.Rows.{kids_behind}
use Rattle.equilibrium.specs.Reach.{comes_to, has_below, is_set, some_kid}
use Rattle.equilibrium.proofs.Coming.{comes_to-node}

next_kid : (allowed has : ℕ → Bool) (kids : List ℕ) (k : ℕ) → k < length kids
    → some_kid allowed has k (drop k kids) ≡ (allowed k && has (get_or kids k 0) || some_kid allowed has (k + 1) (drop (k + 1) kids))
next_kid allowed has kids k h = ap (some_kid allowed has k) (drop_more kids k 0 h)

pub kid_passed : (allowed has : ℕ → Bool) (kids : List ℕ) (k : ℕ) → k < length kids
    → some_kid allowed has k (drop k kids) ≡ some_kid allowed has 0 kids
    → (allowed k && has (get_or kids k 0)) ≡ false → some_kid allowed has (k + 1) (drop (k + 1) kids) ≡ some_kid allowed has 0 kids
kid_passed allowed has kids k h so_far not_here =
    let rest = some_kid allowed has (k + 1) (drop (k + 1) kids) in
    sym (ap (λ (b : Bool). b || rest) not_here) ∙ sym (next_kid allowed has kids k h) ∙ so_far

pub kid_found : (allowed has : ℕ → Bool) (kids : List ℕ) (k : ℕ) → k < length kids
    → some_kid allowed has k (drop k kids) ≡ some_kid allowed has 0 kids
    → allowed k ≡ true → has (get_or kids k 0) ≡ true → true ≡ some_kid allowed has 0 kids
kid_found allowed has kids k h so_far is here =
    let rest = some_kid allowed has (k + 1) (drop (k + 1) kids) in
    let both : (allowed k && has (get_or kids k 0)) ≡ true = rw (is, here) refl in
    sym (or_left (allowed k && has (get_or kids k 0)) rest both) ∙ sym (next_kid allowed has kids k h) ∙ so_far

pub no_kid_left : (allowed has : ℕ → Bool) (kids : List ℕ) (k : ℕ) → length kids ≤ k
    → some_kid allowed has k (drop k kids) ≡ some_kid allowed has 0 kids
    → false ≡ some_kid allowed has 0 kids
no_kid_left allowed has kids k h so_far = sym (ap (some_kid allowed has k) (drop_all k kids h)) ∙ so_far

pub comes_at_once : (allowed : Node → ℕ → Bool) (side : Side) (g : GameView) → IsGame g → (set n : ℕ) (node : Node)
    → slice_get g.nodes n ≡ Some node
    → is_set set (set_at side node) ≡ true → true ≡ comes_to allowed side g set n
comes_at_once allowed side g rules set n node there is =
    sym (comes_to-node allowed side g rules set n node there ∙ or_left (is_set set (set_at side node)) _ is)

pub comes_by_kids : (allowed : Node → ℕ → Bool) (side : Side) (g : GameView) → IsGame g → (set n : ℕ) (node : Node)
    → slice_get g.nodes n ≡ Some node
    → is_set set (set_at side node) ≡ false → (kids : List ℕ) → kids ≡ kids_of node → (answer : Bool)
    → answer ≡ some_kid (allowed node) (comes_to allowed side g set) 0 kids → answer ≡ comes_to allowed side g set n
comes_by_kids allowed side g rules set n node there is kids e answer h =
    let some = some_kid (allowed node) (comes_to allowed side g set) 0 (kids_of node) in
    h ∙ ap (some_kid (allowed node) (comes_to allowed side g set) 0) e
    ∙ sym (comes_to-node allowed side g rules set n node there ∙ ap (λ (b : Bool). b || some) is)

pub kid_inside : (g : GameView) → IsGame g → (n : ℕ) (node : Node) → slice_get g.nodes n ≡ Some node → (kids : List ℕ)
    → kids ≡ kids_of node → (k : ℕ) → k < length kids
    → (n < get_or kids k 0) × (get_or kids k 0 < length g.nodes)
kid_inside g rules n node there kids e k h =
    let behind = kids_behind g n node (rules.each_node n node there) in
    rw e (behind k 0 (rw e at h))

pub set_inside : (side : Side) (g : GameView) (n : ℕ) (node : Node) → IsNode g n node → (set : ℕ) → set_at side node ≡ Some set
    → set < length (sets_of side g)
set_inside side g n (Leaf pay) is set e = absurd (cc)
set_inside side g n (Chance kids) is set e = absurd (cc)
set_inside One g n (Choice One at kids) is set e = let same : at.0 ≡ set = cc in omega (arith, is.0)
set_inside One g n (Choice Two at kids) is set e = absurd (cc)
set_inside Two g n (Choice One at kids) is set e = absurd (cc)
set_inside Two g n (Choice Two at kids) is set e = let same : at.0 ≡ set = cc in omega (arith, is.0)

pub own_set : (side mover : Side) (at : SetId) (kids : List ℕ) → same_side side mover ≡ true
    → set_at side (Choice mover at kids) ≡ Some at.0
own_set side mover at kids h = rw h refl

-- a kid comes to a set where it is of the set or one of its own kids does
pub comes_or_kids : (allowed : Node → ℕ → Bool) (side : Side) (g : GameView) → IsGame g → (set n : ℕ) (node : Node)
    → slice_get g.nodes n ≡ Some node
    → comes_to allowed side g set n ≡ (is_set set (set_at side node) || some_kid (allowed node) (comes_to allowed side g set) 0
    (kids_of node))
comes_or_kids allowed side g rules set n node there = comes_to-node allowed side g rules set n node there

-- the nodes left give what all nodes give
next_node : (side : Side) (g : GameView) (above set n : ℕ) (node : Node) → n < length g.nodes → slice_get g.nodes n ≡ Some node
    → has_below side g above set (drop n g.nodes)
    ≡ (is_set above (set_at side node) && some_kid (λ action. true) (comes_to (λ at action. true) side g set) 0
    (kids_of node) || has_below side g above set (drop (n + 1) g.nodes))
next_node side g above set n node low there =
    let same : get_or g.nodes n node ≡ node = some_same _ _ (sym (slice_get-get_or g.nodes n node low) ∙ there) in
    ap (has_below side g above set) (drop_more g.nodes n node low)
    ∙ ap (λ (x : Node). has_below side g above set (x ∷ drop (n + 1) g.nodes)) same
  where
    some_same : (x y : Node) → Some x ≡ Some y → x ≡ y
    some_same x y e = cc

pub node_passed : (side : Side) (g : GameView) (above set n : ℕ) (node : Node) → n < length g.nodes → slice_get g.nodes n ≡ Some node
    → has_below side g above set (drop n g.nodes) ≡ has_below side g above set g.nodes
    → (is_set above (set_at side node) && some_kid (λ action. true) (comes_to (λ at action. true) side g set) 0 (kids_of node)) ≡ false
    → has_below side g above set (drop (n + 1) g.nodes) ≡ has_below side g above set g.nodes
node_passed side g above set n node low there so_far not_here =
    sym (next_node side g above set n node low there
    ∙ ap (λ (b : Bool). b || has_below side g above set (drop (n + 1) g.nodes)) not_here) ∙ so_far

pub node_found : (side : Side) (g : GameView) (above set n : ℕ) (node : Node) → n < length g.nodes → slice_get g.nodes n ≡ Some node
    → has_below side g above set (drop n g.nodes) ≡ has_below side g above set g.nodes
    → is_set above (set_at side node) ≡ true → some_kid (λ action. true) (comes_to (λ at action. true) side g set) 0 (kids_of node) ≡ true
    → true ≡ has_below side g above set g.nodes
node_found side g above set n node low there so_far is here =
    let kids = some_kid (λ action. true) (comes_to (λ at action. true) side g set) 0 (kids_of node) in
    let both : (is_set above (set_at side node) && kids) ≡ true = rw (is, here) refl in
    sym (next_node side g above set n node low there ∙ or_left (is_set above (set_at side node) && kids) _ both) ∙ so_far

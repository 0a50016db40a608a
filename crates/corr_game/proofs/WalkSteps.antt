-- The walk at a node is its step there, and no walk leaves 2^40: what a subtree pays is at most 2^28 for each of its
-- nodes, because the subtrees of the kids stand in a row.
use Rattle.std.proofs.Common.{◌≡◌, ℕ, ◌+◌, ◌*◌, ◌^◌, ◌<◌, ◌≤◌, suc, zero, List, [], ◌∷◌, Option, Some, None, length, get_or, drop, slice_get, refl, ap, ◌∙◌, arith, ℤ, pos, ◌+ℤ◌}
use Rattle.std.specs.Prelude.{unsigned_abs}
use Rattle.std.proofs.lemmas.Int.{ints}
use Rattle.std.proofs.lemmas.List.{drop_all, drop_more, length-drop}
use Rattle.std.proofs.lemmas.List.Elements.{All-drop}
use Rattle.std.proofs.lemmas.Option.{slice_get-get_or}
use Rattle.corr_game.specs.declared.nodes.Node.{Node}
use Rattle.corr_game.specs.declared.nodes.Node.TheVariants.{Leaf, Chance, Choice}
use Rattle.corr_game.specs.declared.nodes.SetId.{SetId}
use Rattle.corr_game.specs.declared.nodes.SetInfo.{SetInfo}
use Rattle.corr_game.specs.declared.payoffs.Pay.{Pay}
use Rattle.corr_game.specs.declared.sides.Side.{Side}
use Rattle.corr_game.specs.declared.sides.Side.TheVariants.{One, Two}
use Rattle.corr_game.specs.Node.{kids_of, amount_of}
use Rattle.corr_game.specs.Plan.{IsPlan, plan_of}
use Rattle.corr_game.specs.Preorder.{row_end, InRow, end_of}
use Rattle.corr_game.specs.Game.{GameView, IsGame, IsNode, AreBehind, sets_of}
use Rattle.corr_game.specs.Walk.{total, paid_at, named, step, walk}
use Rattle.corr_game.proofs.FromLast.{from_last-step}
use Rattle.corr_game.proofs.Rows.{behind-head, behind_at, behind-tail, kids_behind, end_of-node, Rises, row_end-at_least, kid_in_row, found, rises, end_of-at_most}

total-same : (count n : ℕ) (kids : List ℕ) (f g : ℕ → ℤ) → AreBehind count n kids → ((m : ℕ) → n < m → f m ≡ g m) → total f kids ≡ total g kids
total-same count n [] f g b h = refl
total-same count n (kid ∷ kids) f g b h =
    rw (h kid (behind-head count n kid kids b).0, total-same count n kids f g (behind-tail count n kid kids b) h) refl

paid_at-same : (count n : ℕ) (kids : List ℕ) (f g : ℕ → ℤ) (action : ℕ) → AreBehind count n kids → ((m : ℕ) → n < m → f m ≡ g m) → paid_at f (slice_get kids action) ≡ paid_at g (slice_get kids action)
paid_at-same count n [] f g action b h = refl
paid_at-same count n (kid ∷ kids) f g zero b h = h kid (behind-head count n kid kids b).0
paid_at-same count n (kid ∷ kids) f g (suc action) b h = paid_at-same count n kids f g action (behind-tail count n kid kids b) h

named-same : (count n : ℕ) (kids : List ℕ) (f g : ℕ → ℤ) (entry : Option (Option ℕ)) → AreBehind count n kids → ((m : ℕ) → n < m → f m ≡ g m) → named f kids entry ≡ named g kids entry
named-same count n kids f g None b h = refl
named-same count n kids f g (Some None) b h = refl
named-same count n kids f g (Some (Some action)) b h = paid_at-same count n kids f g action b h

step-same : (side : Side) (one two : List (Option ℕ)) (count n : ℕ) (node : Node) (f g : ℕ → ℤ) → AreBehind count n (kids_of node) → ((m : ℕ) → n < m → f m ≡ g m) → step side one two node f ≡ step side one two node g
step-same side one two count n (Leaf pay) f g b h = refl
step-same side one two count n (Chance kids) f g b h = total-same count n kids f g b h
step-same side one two count n (Choice mover set kids) f g b h = named-same count n kids f g (slice_get (plan_of mover one two) set.0) b h

pub walk-node : (side : Side) (g : GameView) (rules : IsGame g) (one two : List (Option ℕ)) (n : ℕ) (node : Node) → slice_get g.nodes n ≡ Some node → walk side g one two n ≡ step side one two node (walk side g one two)
unfolding walk
walk-node side g rules one two n node h =
    from_last-step (λ m x paid. step side one two x paid) (pos 0) g.nodes n node h
    (λ a b agree. step-same side one two (length g.nodes) n node a b (kids_behind g n node (rules.each_node n node h)) agree)

triangle : (a b : ℤ) → unsigned_abs (a +ℤ b) ≤ unsigned_abs a + unsigned_abs b
triangle a b = omega (arith, ints)

-- a node's pay is at most 2^28 for each node of its subtree
abbrev pub IsPaid : ℕ → ℕ → (ℕ → ℤ) → (ℕ → ℕ) → Type 0
IsPaid count n paid ends = (m : ℕ) → n < m → m < count → unsigned_abs (paid m) + 2 ^ 28 * m ≤ 2 ^ 28 * ends m

total-bound : (count n start : ℕ) (kids : List ℕ) (paid : ℕ → ℤ) (ends : ℕ → ℕ) → AreBehind count n kids → InRow start kids ends → IsPaid count n paid ends → unsigned_abs (total paid kids) + 2 ^ 28 * start ≤ 2 ^ 28 * row_end start kids ends
total-bound count n start [] paid ends b r p = omega arith
total-bound count n start (kid ∷ kids) paid ends b r p =
    let here = behind-head count n kid kids b in
    omega (arith, r.0, p kid here.0 here.1, triangle (paid kid) (total paid kids), total-bound count n (ends kid) kids paid ends (behind-tail count n kid kids b) r.1 p)

paid_at-bound : (count n start : ℕ) (kids : List ℕ) (paid : ℕ → ℤ) (ends : ℕ → ℕ) (kid : Option ℕ) (action : ℕ) → slice_get kids action ≡ kid → AreBehind count n kids → InRow start kids ends → Rises count n ends → IsPaid count n paid ends → n < start → unsigned_abs (paid_at paid kid) + 2 ^ 28 * start ≤ 2 ^ 28 * row_end start kids ends
paid_at-bound count n start kids paid ends None action e b r up p behind = omega (arith, row_end-at_least count n start kids ends b r up)
paid_at-bound count n start kids paid ends (Some kid) action e b r up p behind =
    let here = behind_at count n kids action kid b e in
    let row = kid_in_row count n start kids ends action kid b r up e in
    omega (arith, p kid here.0 here.1, row.0, row.1)

named-bound : (count n start : ℕ) (kids : List ℕ) (paid : ℕ → ℤ) (ends : ℕ → ℕ) (entry : Option (Option ℕ)) → AreBehind count n kids → InRow start kids ends → Rises count n ends → IsPaid count n paid ends → n < start → unsigned_abs (named paid kids entry) + 2 ^ 28 * start ≤ 2 ^ 28 * row_end start kids ends
named-bound count n start kids paid ends None b r up p behind = omega (arith, row_end-at_least count n start kids ends b r up)
named-bound count n start kids paid ends (Some None) b r up p behind = omega (arith, row_end-at_least count n start kids ends b r up)
named-bound count n start kids paid ends (Some (Some action)) b r up p behind = paid_at-bound count n start kids paid ends (slice_get kids action) action refl b r up p behind

amount-bound : (side : Side) (pay : Pay) → (unsigned_abs pay.one ≤ 2 ^ 28) × (unsigned_abs pay.two ≤ 2 ^ 28) → unsigned_abs (amount_of side pay) ≤ 2 ^ 28
amount-bound One pay h = h.0
amount-bound Two pay h = h.1

step-bound : (side : Side) (g : GameView) (one two : List (Option ℕ)) (n : ℕ) (node : Node) (paid : ℕ → ℤ) (ends : ℕ → ℕ) → IsNode g n node → InRow (n + 1) (kids_of node) ends → Rises (length g.nodes) n ends → IsPaid (length g.nodes) n paid ends → unsigned_abs (step side one two node paid) + 2 ^ 28 * n ≤ 2 ^ 28 * row_end (n + 1) (kids_of node) ends
step-bound side g one two n (Leaf pay) paid ends h r up p = omega (arith, amount-bound side pay h)
step-bound side g one two n (Chance kids) paid ends h r up p = omega (arith, total-bound (length g.nodes) n (n + 1) kids paid ends h.2 r p)
step-bound side g one two n (Choice mover set kids) paid ends h r up p =
    omega (arith, named-bound (length g.nodes) n (n + 1) kids paid ends (slice_get (plan_of mover one two) set.0) h.2 r up p (omega arith))

-- from the last node to the first: `left` bounds how many nodes stand behind n
walk-bound_from : (side : Side) (g : GameView) → IsGame g → (one two : List (Option ℕ)) (left n : ℕ) → length g.nodes ≤ n + left → n < length g.nodes → unsigned_abs (walk side g one two n) + 2 ^ 28 * n ≤ 2 ^ 28 * end_of g.nodes n
walk-bound_from side g rules one two zero n bound h = absurd (omega arith)
walk-bound_from side g rules one two (suc left) n bound h =
    let at = found g.nodes n h in
    let paid : IsPaid (length g.nodes) n (walk side g one two) (end_of g.nodes) = λ m low high. walk-bound_from side g rules one two left m (omega arith) high in
    let up : Rises (length g.nodes) n (end_of g.nodes) = λ m low high. rises g rules m high in
    let e = walk-node side g rules one two n at.0 at.1 in
    let bounded = step-bound side g one two n at.0 (walk side g one two) (end_of g.nodes) (rules.each_node n at.0 at.1) (rules.in_row n at.0 at.1) up paid in
    rw (e, end_of-node g rules n at.0 at.1) bounded

-- no walk pays 2^40 or more
pub walk-bound : (side : Side) (g : GameView) → IsGame g → (one two : List (Option ℕ)) (n : ℕ) → n < length g.nodes → unsigned_abs (walk side g one two n) ≤ 2 ^ 40
walk-bound side g rules one two n h =
    omega (arith, walk-bound_from side g rules one two (length g.nodes) n (omega arith) h, end_of-at_most g rules n h, rules.at_most)

-- a sum over kids stays within as many times that
total-at_most : (count n : ℕ) (kids : List ℕ) (paid : ℕ → ℤ) → AreBehind count n kids → ((m : ℕ) → m < count → unsigned_abs (paid m) ≤ 2 ^ 40) → unsigned_abs (total paid kids) ≤ 2 ^ 40 * length kids
total-at_most count n [] paid b p = omega arith
total-at_most count n (kid ∷ kids) paid b p =
    omega (arith, p kid (behind-head count n kid kids b).1, triangle (paid kid) (total paid kids), total-at_most count n kids paid (behind-tail count n kid kids b) p)

-- what is left of a sum over the kids of a chance node
pub rest-at_most : (side : Side) (g : GameView) → IsGame g → (one two : List (Option ℕ)) (n : ℕ) (kids : List ℕ) (k : ℕ) → IsNode g n (Chance kids) → unsigned_abs (total (walk side g one two) (drop k kids)) ≤ 2 ^ 46
rest-at_most side g rules one two n kids k h =
    let behind = All-drop (λ m. (n < m) × (m < length g.nodes)) k kids h.2 in
    omega (arith, total-at_most (length g.nodes) n (drop k kids) (walk side g one two) behind (λ m r. walk-bound side g rules one two m r), length-drop k kids, h.1)

-- a sum over what is left begins with the next kid
pub total-drop : (paid : ℕ → ℤ) (kids : List ℕ) (k : ℕ) → k < length kids → total paid (drop k kids) ≡ paid (get_or kids k 0) +ℤ total paid (drop (k + 1) kids)
total-drop paid kids k h = ap (total paid) (drop_more kids k 0 h)

-- The arms of the walk: what each owes at a call and at its return.

pub chance-kid : (g : GameView) → IsGame g → (n : ℕ) (kids : List ℕ) (k : ℕ) → slice_get g.nodes n ≡ Some (Chance kids) → k < length kids → (n < get_or kids k 0) × (get_or kids k 0 < length g.nodes)
chance-kid g rules n kids k h l = (rules.each_node n (Chance kids) h).2 k 0 l

pub choice-kid : (g : GameView) → IsGame g → (n : ℕ) (mover : Side) (set : SetId) (kids : List ℕ) (k : ℕ) → slice_get g.nodes n ≡ Some (Choice mover set kids) → k < length kids → (n < get_or kids k 0) × (get_or kids k 0 < length g.nodes)
choice-kid g rules n mover set kids k h l = (rules.each_node n (Choice mover set kids) h).2 k 0 l

pub leaf-pay : (side : Side) (g : GameView) → IsGame g → (one two : List (Option ℕ)) (n : ℕ) (pay : Pay) → slice_get g.nodes n ≡ Some (Leaf pay) → walk side g one two n ≡ amount_of side pay
leaf-pay side g rules one two n pay h = walk-node side g rules one two n (Leaf pay) h

pub sum-bound : (side : Side) (g : GameView) → IsGame g → (one two : List (Option ℕ)) (n : ℕ) (kids : List ℕ) (k : ℕ) (sum paid : ℤ) → slice_get g.nodes n ≡ Some (Chance kids) → k < length kids → sum +ℤ total (walk side g one two) (drop k kids) ≡ total (walk side g one two) kids → paid ≡ walk side g one two (get_or kids k 0) → unsigned_abs (sum +ℤ paid) ≤ 2 ^ 47
sum-bound side g rules one two n kids k sum paid h l s p =
    let node = rules.each_node n (Chance kids) h in
    omega (arith, ints, s, p, total-drop (walk side g one two) kids k l, rest-at_most side g rules one two n kids (k + 1) node, rest-at_most side g rules one two n kids 0 node)

pub sum-step : (side : Side) (g : GameView) (one two : List (Option ℕ)) (kids : List ℕ) (k : ℕ) (sum paid : ℤ) → k < length kids → sum +ℤ total (walk side g one two) (drop k kids) ≡ total (walk side g one two) kids → paid ≡ walk side g one two (get_or kids k 0) → sum +ℤ paid +ℤ total (walk side g one two) (drop (k + 1) kids) ≡ total (walk side g one two) kids
sum-step side g one two kids k sum paid l s p = omega (arith, ints, s, p, total-drop (walk side g one two) kids k l)

pub sum-whole : (side : Side) (g : GameView) → IsGame g → (one two : List (Option ℕ)) (n : ℕ) (kids : List ℕ) (k : ℕ) (sum : ℤ) → slice_get g.nodes n ≡ Some (Chance kids) → length kids ≤ k → sum +ℤ total (walk side g one two) (drop k kids) ≡ total (walk side g one two) kids → sum ≡ walk side g one two n
sum-whole side g rules one two n kids k sum h l s =
    let none : total (walk side g one two) (drop k kids) ≡ pos 0 = ap (total (walk side g one two)) (drop_all k kids l) in
    omega (arith, ints, s, none, walk-node side g rules one two n (Chance kids) h)

pub plan-length : (g : GameView) (one two : List (Option ℕ)) → IsPlan One g one → IsPlan Two g two → (mover : Side) → length (plan_of mover one two) ≡ length (sets_of mover g)
plan-length g one two p q One = p.per_set
plan-length g one two p q Two = q.per_set

plan-range : (g : GameView) (one two : List (Option ℕ)) → IsPlan One g one → IsPlan Two g two → (mover : Side) (set action : ℕ) (info : SetInfo) → slice_get (plan_of mover one two) set ≡ Some (Some action) → slice_get (sets_of mover g) set ≡ Some info → action < info.actions
plan-range g one two p q One set action info e i = p.in_range set action info e i
plan-range g one two p q Two set action info e i = q.in_range set action info e i

pub plan-covers : (g : GameView) → IsGame g → (one two : List (Option ℕ)) → IsPlan One g one → IsPlan Two g two → (n : ℕ) (mover : Side) (set : SetId) (kids : List ℕ) → slice_get g.nodes n ≡ Some (Choice mover set kids) → (plan : List (Option ℕ)) → plan ≡ plan_of mover one two → set.0 < length plan
plan-covers g rules one two p q n mover set kids h plan e =
    rw e (omega (arith, plan-length g one two p q mover, (rules.each_node n (Choice mover set kids) h).0))

info_at : (sets : List SetInfo) (k : ℕ) → k < length sets → (info : SetInfo) × (slice_get sets k ≡ Some info)
info_at [] k h = absurd (omega arith)
info_at (x ∷ xs) zero h = (x, refl)
info_at (x ∷ xs) (suc k) h = info_at xs k (omega arith)

pub action-in_range : (g : GameView) → IsGame g → (one two : List (Option ℕ)) → IsPlan One g one → IsPlan Two g two → (n : ℕ) (mover : Side) (set : SetId) (kids : List ℕ) → slice_get g.nodes n ≡ Some (Choice mover set kids) → (plan : List (Option ℕ)) → plan ≡ plan_of mover one two → (action : ℕ) → slice_get plan set.0 ≡ Some (Some action) → action < length kids
action-in_range g rules one two p q n mover set kids h plan e action named =
    let node = rules.each_node n (Choice mover set kids) h in
    let info = info_at (sets_of mover g) set.0 node.0 in
    let entry : slice_get (plan_of mover one two) set.0 ≡ Some (Some action) = rw (← e) named in
    omega (arith, node.1 info.0 info.1, plan-range g one two p q mover set.0 action info.0 entry info.1)

pub choice-none : (side : Side) (g : GameView) → IsGame g → (one two : List (Option ℕ)) (n : ℕ) (mover : Side) (set : SetId) (kids : List ℕ) → slice_get g.nodes n ≡ Some (Choice mover set kids) → (plan : List (Option ℕ)) → plan ≡ plan_of mover one two → slice_get plan set.0 ≡ Some None → walk side g one two n ≡ pos 0
choice-none side g rules one two n mover set kids h plan e named_none =
    let entry : slice_get (plan_of mover one two) set.0 ≡ Some None = rw (← e) named_none in
    walk-node side g rules one two n (Choice mover set kids) h ∙ ap (named (walk side g one two) kids) entry

pub choice-some : (side : Side) (g : GameView) → IsGame g → (one two : List (Option ℕ)) (n : ℕ) (mover : Side) (set : SetId) (kids : List ℕ) → slice_get g.nodes n ≡ Some (Choice mover set kids) → (plan : List (Option ℕ)) → plan ≡ plan_of mover one two → (action : ℕ) → slice_get plan set.0 ≡ Some (Some action) → action < length kids → walk side g one two n ≡ walk side g one two (get_or kids action 0)
choice-some side g rules one two n mover set kids h plan e action named_some l =
    let entry : slice_get (plan_of mover one two) set.0 ≡ Some (Some action) = rw (← e) named_some in
    walk-node side g rules one two n (Choice mover set kids) h
    ∙ (ap (named (walk side g one two) kids) entry
    ∙ ap (paid_at (walk side g one two)) (slice_get-get_or kids action 0 l))

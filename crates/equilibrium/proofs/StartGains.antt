-- Leaving at the start of play for a full choice gains what leaving for it at the first sets gains together: at a node of
-- a first set the graft at that set plays the full choice from there down, and every other graft leaves the plan as it is;
-- above, gains add up.
use Rattle.std.proofs.Common.{◌≡◌, ◌≢◌, ℕ, zero, suc, ◌+◌, ◌<◌, ◌≤◌, inl, inr, Bool, true, false, cond, nat_eq, List, [], ◌∷◌}
use Rattle.std.proofs.Common.{length, Option, Some, None, slice_get, ℤ, pos, ◌+ℤ◌, ◌-ℤ◌, ◌*ℤ◌, ◌≤ℤ◌, refl, sym, ap, ap₂, ◌∙◌, arith}
use Rattle.std.proofs.lemmas.Bool.{eq-eqb, or_left, or_right}
use Rattle.std.proofs.lemmas.Int.{ints}
use Rattle.exact_algebra.specs.Sums.{sum_over, sum_to}
use Rattle.exact_algebra.proofs.Sums.{sum_to-add, sum_to-nothing, sum_to-one, sum_to-same}
use Rattle.exact_algebra.proofs.SumOrder.{sum_to_at_most}
use Rattle.corr_game.specs.declared.nodes.Node.{Node}
use Rattle.corr_game.specs.declared.nodes.Node.TheVariants.{Leaf, Chance, Choice}
use Rattle.corr_game.specs.declared.notions.Notion.TheVariants.{Efcce, Nfcce}
use Rattle.corr_game.specs.declared.sides.Side.{Side}
use Rattle.corr_game.specs.declared.sides.Side.TheVariants.{One, Two}
use Rattle.corr_game.specs.Game.{GameView, IsGame, IsNode, scale_of, sets_of}
use Rattle.corr_game.specs.Node.{amount_of, kids_of, set_at}
use Rattle.corr_game.specs.Walk.{named, paid_at, step, total, walk}
use Rattle.corr_game.proofs.Rows.{found}
use Rattle.corr_game.proofs.WalkSteps.{walk-node}
use Rattle.tree_recall.specs.OwnSequence.{HasRecall, IsOwnAt, at_root, other_move}
use Rattle.tree_recall.specs.Tree.{kid_of, kid_there, set_of, set_there}
use Rattle.tree_recall.proofs.Kids.{set_node}
use Rattle.equilibrium.specs.declared.triggers.Trigger.{Trigger}
use Rattle.equilibrium.specs.declared.triggers.Trigger.TheVariants.{Told, Reached, Start}
use Rattle.equilibrium.specs.Deviation.{IsTriggerOf, deviated_pay, following, leaving}
use Rattle.equilibrium.specs.Distribution.{Entry, IsEntry, pay}
use Rattle.equilibrium.specs.Distribution.{total as weights_total}
use Rattle.equilibrium.specs.Equilibrium.{GainsNoMore, IsEquilibriumList, no_slack}
use Rattle.equilibrium.specs.FullChoice.{IsFullChoice, graft, is_under, replaced}
use Rattle.equilibrium.specs.Reach.{leads}
use Rattle.equilibrium.proofs.Agreeing.{AgreeFrom, IsFrom, pay_alike}
use Rattle.equilibrium.proofs.Choosing.{chosen_there, kept_there}
use Rattle.equilibrium.proofs.Descents.{kid_inside}
use Rattle.equilibrium.proofs.FirstSets.{apart_under, first_led, first_there, is_first}
use Rattle.equilibrium.proofs.Nesting.{no_gain, no_gain_together, no_more, no_more_back}
use Rattle.equilibrium.proofs.NodesBelow.{above_is_below}
use Rattle.equilibrium.proofs.Splitting.{gains_split}

abbrev Plan : Type 0
Plan = List (Option ℕ)

-- the plans of players 1 and 2, where a player plays `own` and the other player `others`
abbrev one_of : Side → Plan → Plan → Plan
one_of One others own = own
one_of Two others own = others

abbrev two_of : Side → Plan → Plan → Plan
two_of One others own = others
two_of Two others own = own

-- what the player gets from a node on
abbrev pays : Side → GameView → Plan → Plan → ℕ → ℤ
pays side g others own n = walk side g (one_of side others own) (two_of side others own) n

own_agree : (side : Side) (g : GameView) (n : ℕ) (others x y : Plan)
    → ((m set : ℕ) → IsFrom g n m → set_of g side m ≡ Some set → slice_get x set ≡ slice_get y set)
    → AgreeFrom g n (one_of side others x) (two_of side others x) (one_of side others y) (two_of side others y)
own_agree One g n others x y own One m set from f = own m set from f
own_agree One g n others x y own Two m set from f = refl
own_agree Two g n others x y own One m set from f = refl
own_agree Two g n others x y own Two m set from f = own m set from f

pays_alike : (side : Side) (g : GameView) → IsGame g → (others x y : Plan) (n : ℕ) → n < length g.nodes
    → ((m set : ℕ) → IsFrom g n m → set_of g side m ≡ Some set → slice_get x set ≡ slice_get y set)
    → pays side g others x n ≡ pays side g others y n
pays_alike side g rules others x y n low own =
    pay_alike side g rules (one_of side others x) (two_of side others x) (one_of side others y) (two_of side others y) n low
    (own_agree side g n others x y own)

-- ---- gains that split at each kid split at the node

gathered : (a b c d : ℤ) → a +ℤ b -ℤ (c +ℤ d) ≡ (a -ℤ c) +ℤ (b -ℤ d)
gathered a b c d = omega (arith, ints)

nothing_left : (a : ℤ) → a -ℤ a ≡ pos 0
nothing_left a = omega (arith, ints)

no_gains : (count : ℕ) (a : ℤ) → a -ℤ a ≡ sum_to count (λ k. a -ℤ a)
no_gains count a = nothing_left a ∙ sym (sum_to-nothing count (λ k. a -ℤ a) (λ k h. nothing_left a))

-- at each kid the gain of f over h is the gains of t over h together
abbrev SplitAt : ℕ → (ℕ → ℤ) → (ℕ → ℤ) → (ℕ → ℕ → ℤ) → List ℕ → Type 0
SplitAt count f h t kids = (action kid : ℕ) → slice_get kids action ≡ Some kid → f kid -ℤ h kid ≡ sum_to count (λ k. t k kid -ℤ h kid)

total_split : (count : ℕ) (f h : ℕ → ℤ) (t : ℕ → ℕ → ℤ) (kids : List ℕ) → SplitAt count f h t kids
    → total f kids -ℤ total h kids ≡ sum_to count (λ k. total (t k) kids -ℤ total h kids)
total_split count f h t [] each = no_gains count (pos 0)
total_split count f h t (kid ∷ kids) each =
    let rest = total_split count f h t kids (λ action k e. each (suc action) k e) in
    gathered (f kid) (total f kids) (h kid) (total h kids)
    ∙ ap₂ (λ (a b : ℤ). a +ℤ b) (each 0 kid refl) rest
    ∙ sym (sum_to-add count (λ k. t k kid -ℤ h kid) (λ k. total (t k) kids -ℤ total h kids))
    ∙ sym (sum_to-same count _ _ (λ k l. gathered (t k kid) (total (t k) kids) (h kid) (total h kids)))

paid_split : (count : ℕ) (f h : ℕ → ℤ) (t : ℕ → ℕ → ℤ) (kids : List ℕ) (action : ℕ) (there : Option ℕ) → slice_get kids action ≡ there
    → SplitAt count f h t kids → paid_at f there -ℤ paid_at h there ≡ sum_to count (λ k. paid_at (t k) there -ℤ paid_at h there)
paid_split count f h t kids action None e each = no_gains count (pos 0)
paid_split count f h t kids action (Some kid) e each = each action kid e

named_split : (count : ℕ) (f h : ℕ → ℤ) (t : ℕ → ℕ → ℤ) (kids : List ℕ) (entry : Option (Option ℕ)) → SplitAt count f h t kids
    → named f kids entry -ℤ named h kids entry ≡ sum_to count (λ k. named (t k) kids entry -ℤ named h kids entry)
named_split count f h t kids None each = no_gains count (pos 0)
named_split count f h t kids (Some None) each = no_gains count (pos 0)
named_split count f h t kids (Some (Some action)) each = paid_split count f h t kids action (slice_get kids action) refl each

-- the step at a node where one plays `own`
abbrev step_of : Side → Node → Plan → (Plan → ℕ → ℤ) → Plan → ℤ
step_of side node others f own = step side (one_of side others own) (two_of side others own) node (f own)

step_split : (side : Side) (node : Node) (others new old : Plan) (count : ℕ) (part : ℕ → Plan) (f : Plan → ℕ → ℤ) → set_at side node ≡ None
    → SplitAt count (f new) (f old) (λ k. f (part k)) (kids_of node)
    → step_of side node others f new -ℤ step_of side node others f old
    ≡ sum_to count (λ k. step_of side node others f (part k) -ℤ step_of side node others f old)
step_split side (Leaf pay) others new old count part f e each = no_gains count (amount_of side pay)
step_split side (Chance kids) others new old count part f e each = total_split count (f new) (f old) (λ k. f (part k)) kids each
step_split One (Choice One set kids) others new old count part f e each = absurd (cc)
step_split One (Choice Two set kids) others new old count part f e each =
    named_split count (f new) (f old) (λ k. f (part k)) kids (slice_get others set.0) each
step_split Two (Choice One set kids) others new old count part f e each =
    named_split count (f new) (f old) (λ k. f (part k)) kids (slice_get others set.0) each
step_split Two (Choice Two set kids) others new old count part f e each = absurd (cc)

-- the plan of one who leaves at a set if that is a first one
abbrev left_at : Side → GameView → List ℕ → Plan → ℕ → Plan
left_at side g choice plan set = cond (is_first side g set) (graft side g set choice plan) plan

kept_or_left : (b : Bool) (set : ℕ) (x y : Plan) → (b ≡ true → slice_get x set ≡ slice_get y set)
    → slice_get (cond b x y) set ≡ slice_get y set
kept_or_left true set x y h = h refl
kept_or_left false set x y h = refl

-- a node's set is one of the player's
set_here : (side : Side) (g : GameView) (n : ℕ) (node : Node) → IsNode g n node → (set : ℕ) → set_at side node ≡ Some set
    → set < length (sets_of side g)
set_here side g n (Leaf pay) is set e = absurd (cc)
set_here side g n (Chance kids) is set e = absurd (cc)
set_here One g n (Choice One at kids) is set e = let same : at.0 ≡ set = cc in omega (arith, is.0)
set_here One g n (Choice Two at kids) is set e = absurd (cc)
set_here Two g n (Choice One at kids) is set e = absurd (cc)
set_here Two g n (Choice Two at kids) is set e = let same : at.0 ≡ set = cc in omega (arith, is.0)

set_inside : (side : Side) (g : GameView) → IsGame g → (n set : ℕ) → set_of g side n ≡ Some set → set < length (sets_of side g)
set_inside side g rules n set h =
    let at = set_node g side n set h in
    set_here side g n at.1.0 (rules.each_node n at.1.0 at.1.1) set at.1.2

module _ (side : Side) (g : GameView) (rules : IsGame g) (recall : HasRecall g side) (others : Plan) (choice : List ℕ) (plan : Plan)
    (whole : length plan ≡ length (sets_of side g)) where
  -- from a node of a first set down, leaving at another first set changes nothing
  others_stay : (n set : ℕ) → IsOwnAt g side n [] → set_of g side n ≡ Some set → n < length g.nodes → (other : ℕ) → other ≢ set
      → pays side g others (left_at side g choice plan other) n ≡ pays side g others plan n
  others_stay n set own at low other apart =
      pays_alike side g rules others (left_at side g choice plan other) plan n low
      (λ m below from f. kept_or_left (is_first side g other) below (graft side g other choice plan) plan
      (λ first. kept_there (is_under side g other) choice 0 plan below below (omega arith)
      (apart_under side g rules recall set n own at other m below apart first from f)))

  -- the sets from a node of a set down are that set or below it
  under_here : (n set m below : ℕ) → set_of g side n ≡ Some set → IsFrom g n m → set_of g side m ≡ Some below
      → is_under side g set below ≡ true
  under_here n set m below at (inl same) f =
      let here : set_of g side n ≡ Some below = rw same f in
      let number : below ≡ set = one_set (sym here ∙ at) in
      or_left (nat_eq below set) _ (eq-eqb below set number)
    where
      one_set : Some below ≡ Some set → below ≡ set
      one_set e = cc
  under_here n set m below at (inr above) f =
      or_right (nat_eq below set) _ (above_is_below side g rules set below (n, m, at, f, above))

  -- leaving there plays the full choice from there down
  leaves_whole : (n set : ℕ) → IsOwnAt g side n [] → set_of g side n ≡ Some set → n < length g.nodes
      → pays side g others (left_at side g choice plan set) n ≡ pays side g others (replaced choice plan) n
  leaves_whole n set own at low =
      pays_alike side g rules others (left_at side g choice plan set) (replaced choice plan) n low
      (λ m below from f.
      let inside : below < length plan = rw whole (set_inside side g rules m below f) in
      let there = chosen_there (is_under side g set) choice 0 plan below below (omega arith) inside (under_here n set m below at from f) in
      let all = chosen_there (λ k. true) choice 0 plan below below (omega arith) inside refl in
      ap (λ (b : Bool). slice_get (cond b (graft side g set choice plan) plan) below) (first_there side g rules set n own at)
      ∙ there ∙ sym all)

  abbrev Splits : ℕ → Type 0
  Splits n =
      pays side g others (replaced choice plan) n -ℤ pays side g others plan n
      ≡ sum_to (length (sets_of side g)) (λ k. pays side g others (left_at side g choice plan k) n -ℤ pays side g others plan n)

  split_at_set : (n set : ℕ) → IsOwnAt g side n [] → set_of g side n ≡ Some set → n < length g.nodes → Splits n
  split_at_set n set own at low =
      let term = λ (k : ℕ). pays side g others (left_at side g choice plan k) n -ℤ pays side g others plan n in
      let rest : (k : ℕ) → k < length (sets_of side g) → k ≢ set → term k ≡ pos 0 =
      λ k h apart. ap (λ (z : ℤ). z -ℤ pays side g others plan n) (others_stay n set own at low k apart)
      ∙ nothing_left (pays side g others plan n) in
      ap (λ (z : ℤ). z -ℤ pays side g others plan n) (sym (leaves_whole n set own at low))
      ∙ sym (sum_to-one (length (sets_of side g)) set term (set_inside side g rules n set at) rest)

  -- where it holds at the nodes behind
  split_by : (n : ℕ) → ((kid : ℕ) → n < kid → kid < length g.nodes → IsOwnAt g side kid [] → Splits kid) → n < length g.nodes
      → IsOwnAt g side n [] → (node : Node) → slice_get g.nodes n ≡ Some node → (there : Option ℕ) → set_at side node ≡ there → Splits n
  split_by n behind low own node at (Some set) e = split_at_set n set own (ap (set_there side) at ∙ e) low
  split_by n behind low own node at None e =
      let f = λ (x : Plan) (m : ℕ). pays side g others x m in
      let each : SplitAt (length (sets_of side g)) (f (replaced choice plan)) (f plan) (λ k. f (left_at side g choice plan k)) (kids_of node) =
      λ action kid k.
      let inside = kid_inside g rules n action kid node at k in
      let down : kid_of g n action ≡ Some kid = ap (kid_there action) at ∙ k in
      let own_kid = other_move n action kid [] own (ap (set_there side) at ∙ e) down in
      behind kid inside.0 inside.1 own_kid in
      let steps = step_split side node others (replaced choice plan) plan (length (sets_of side g)) (left_at side g choice plan) f e each in
      let walks = λ (x : Plan). walk-node side g rules (one_of side others x) (two_of side others x) n node at in
      ap₂ (λ (a b : ℤ). a -ℤ b) (walks (replaced choice plan)) (walks plan)
      ∙ steps
      ∙ sym (sum_to-same (length (sets_of side g)) _ _
      (λ k h. ap₂ (λ (a b : ℤ). a -ℤ b) (walks (left_at side g choice plan k)) (walks plan)))

  -- `left` bounds how many nodes stand behind n
  splits_from : (left n : ℕ) → length g.nodes ≤ n + left → n < length g.nodes → IsOwnAt g side n [] → Splits n
  splits_from zero n bound low own = absurd (omega arith)
  splits_from (suc left) n bound low own =
      let at = found g.nodes n low in
      split_by n (λ kid above room own_kid. splits_from left kid (omega arith) room own_kid) low own at.0 at.1 (set_at side at.0) refl

  pub splits : pays side g others (replaced choice plan) 0 -ℤ pays side g others plan 0
      ≡ sum_to (length (sets_of side g)) (λ k. pays side g others (left_at side g choice plan k) 0 -ℤ pays side g others plan 0)
  splits = splits_from (length g.nodes) 0 (omega arith) rules.has_root at_root

-- ---- entries and lists

-- what a player gets in an entry who leaves at a set if that is a first one
abbrev left_pay : Side → GameView → List ℕ → ℕ → Entry → ℤ
left_pay side g choice set entry =
    cond (is_first side g set) (deviated_pay side g (Reached (record { 0 = set })) choice entry) (pay side g entry)

left_or_kept : (f : Plan → ℤ) (side : Side) (g : GameView) → IsGame g → (choice : List ℕ) (plan : Plan) (set : ℕ) (first : Bool)
    → is_first side g set ≡ first
    → f (cond first (graft side g set choice plan) plan)
    ≡ cond first (f (cond (leads side g plan set) (graft side g set choice plan) plan)) (f plan)
left_or_kept f side g rules choice plan set false e = refl
left_or_kept f side g rules choice plan set true e =
    ap (λ (b : Bool). f (cond b (graft side g set choice plan) plan)) (sym (first_led side g rules plan set e))

entry_splits : (side : Side) (g : GameView) → IsGame g → HasRecall g side → (choice : List ℕ) (entry : Entry) → IsEntry g entry
    → deviated_pay side g Start choice entry -ℤ pay side g entry
    ≡ sum_to (length (sets_of side g)) (λ k. left_pay side g choice k entry -ℤ pay side g entry)
entry_splits One g rules recall choice entry is =
    splits One g rules recall entry.two choice entry.one is.one.is_plan.per_set
    ∙ sum_to-same (length g.one) _ _ (λ k h. ap (λ (z : ℤ). z -ℤ pay One g entry)
    (left_or_kept (λ plan. walk One g plan entry.two 0) One g rules choice entry.one k (is_first One g k) refl))
entry_splits Two g rules recall choice entry is =
    splits Two g rules recall entry.one choice entry.two is.two.is_plan.per_set
    ∙ sum_to-same (length g.two) _ _ (λ k h. ap (λ (z : ℤ). z -ℤ pay Two g entry)
    (left_or_kept (λ plan. walk Two g entry.one plan 0) Two g rules choice entry.two k (is_first Two g k) refl))

-- what leaving at a first set gains, or at no set, is nothing
part_gains : (side : Side) (g : GameView) (list : List Entry) → IsEquilibriumList Efcce g no_slack list → (choice : List ℕ)
    → IsFullChoice side g choice → (set : ℕ) → set < length (sets_of side g) → (first : Bool)
    → (sum_over (λ (e : Entry). pos e.weight *ℤ cond first (deviated_pay side g (Reached (record { 0 = set })) choice e) (pay side g e)) list
    -ℤ following side g list) ≤ℤ pos 0
part_gains side g list eq choice full set low true =
    let trigger = Reached (record { 0 = set }) in
    no_gain (leaving side g trigger choice list) (following side g list)
    (no_more (leaving side g trigger choice list) (following side g list) (scale_of side g) (weights_total list)
    (eq.none_improves side trigger choice low full))
part_gains side g list eq choice full set low false = no_gain (following side g list) (following side g list) (omega (arith, ints))

start_none : (side : Side) (g : GameView) → IsGame g → HasRecall g side → (list : List Entry) → IsEquilibriumList Efcce g no_slack list
    → (trigger : Trigger) (choice : List ℕ) → IsTriggerOf Nfcce g side trigger → IsFullChoice side g choice
    → GainsNoMore side g no_slack list trigger choice
start_none side g rules recall list eq (Told set action) choice is full = absurd is
start_none side g rules recall list eq (Reached set) choice is full = absurd is
start_none side g rules recall list eq Start choice is full =
    let count = length (sets_of side g) in
    let f = following side g list in
    let split = gains_split count (λ (e : Entry). pos e.weight) (pay side g) (deviated_pay side g Start choice)
    (left_pay side g choice) list (λ k d h. entry_splits side g rules recall choice _ (eq.entries k d h)) in
    let each : (k : ℕ) → k < count → (sum_over (λ (e : Entry). pos e.weight *ℤ left_pay side g choice k e) list -ℤ f) ≤ℤ pos 0 =
    λ k h. part_gains side g list eq choice full k h (is_first side g k) in
    let most = sum_to_at_most count (λ (k : ℕ). sum_over (λ (e : Entry). pos e.weight *ℤ left_pay side g choice k e) list -ℤ f) (λ k. pos 0) each in
    let none = sum_to-nothing count (λ k. pos 0) (λ k h. refl) in
    no_more_back (leaving side g Start choice list) f (scale_of side g) (weights_total list)
    (no_gain_together (leaving side g Start choice list) f _ _ split most none)

pub reached_start : (g : GameView) (list : List Entry) → IsGame g → ((side : Side) → HasRecall g side)
    → IsEquilibriumList Efcce g no_slack list → IsEquilibriumList Nfcce g no_slack list
reached_start g list rules recall eq = record {
  entries = eq.entries;
  some_weight = eq.some_weight;
  none_improves = λ side trigger choice is full. start_none side g rules (recall side) list eq trigger choice is full;
}

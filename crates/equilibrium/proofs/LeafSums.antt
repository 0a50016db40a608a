-- What two plans pay from a node on is what the leaves in its subtree pay whose own sequences they name: subtrees stand in a row, so sums
-- over them telescope; from the last node to the first.
use Rattle.std.proofs.Common.{◌≡◌, ◌↔◌, ℕ, zero, suc, ◌+◌, ◌<◌, ◌≤◌, Bool, true, false, nat_eq, ◌&&◌, cond, List, [], ◌∷◌, length}
use Rattle.std.proofs.Common.{Option, Some, None, slice_get, ℤ, pos, ◌+ℤ◌, refl, sym, ap, ap₂, ◌∙◌, arith}
use Rattle.std.proofs.lemmas.Bool.Decides.{nat_tests}
use Rattle.std.proofs.lemmas.Int.{ints}
use Rattle.exact_algebra.specs.Sums.{sum_to}
use Rattle.exact_algebra.proofs.Sums.{sum_to-add_one, sum_to-zero}
use Rattle.corr_game.specs.declared.nodes.Node.{Node}
use Rattle.corr_game.specs.declared.nodes.Node.TheVariants.{Leaf, Chance, Choice}
use Rattle.corr_game.specs.declared.nodes.SetId.{SetId}
use Rattle.corr_game.specs.declared.sides.Side.{Side}
use Rattle.corr_game.specs.declared.sides.Side.TheVariants.{One, Two}
use Rattle.corr_game.specs.Game.{GameView, IsGame}
use Rattle.corr_game.specs.Node.{kids_of}
use Rattle.corr_game.specs.Preorder.{InRow, end_of, row_end}
use Rattle.corr_game.specs.Walk.{named, paid_at, total, walk}
use Rattle.corr_game.proofs.Rows.{end_of-node, found}
use Rattle.corr_game.proofs.WalkSteps.{walk-node}
use Rattle.tree_recall.specs.OwnSequence.{at_root, other_move, own_move}
use Rattle.tree_recall.specs.Tree.{kid_of, kid_there, set_of, set_there}
use Rattle.tree_recall.proofs.OwnSequences.{own_same}
use Rattle.equilibrium.specs.Leaves.{AreOwn, leaf_amount, leaves_pay, names_all}
use Rattle.equilibrium.specs.OwnSequence.{PlaysMoves}
use Rattle.equilibrium.specs.Reach.{names}
use Rattle.equilibrium.proofs.Descents.{first_true, kid_inside, names_is, second_true}

abbrev Plan : Type 0
Plan = List (Option ℕ)

abbrev Moves : Type 0
Moves = List (SetId × ℕ)

-- ---- plans that name each move play the moves

both_true : (a b : Bool) → a ≡ true → b ≡ true → (a && b) ≡ true
both_true a b h k = rw (h, k) refl

is_named : (action : ℕ) (entry : Option (Option ℕ)) → entry ≡ Some (Some action) → names action entry ≡ true
is_named action entry e = rw e (grind (arith, nat_tests))

plays_named : (plan : Plan) (seq : Moves) → names_all plan seq ≡ true → PlaysMoves plan seq
plays_named plan [] h = tt
plays_named plan (move ∷ moves) h = (
  names_is move.1 (slice_get plan move.0.0) (first_true _ _ h),
  plays_named plan moves (second_true (names move.1 (slice_get plan move.0.0)) _ h),
)

named_played : (plan : Plan) (seq : Moves) → PlaysMoves plan seq → names_all plan seq ≡ true
named_played plan [] h = refl
named_played plan (move ∷ moves) h = both_true _ _ (is_named move.1 (slice_get plan move.0.0) h.0) (named_played plan moves h.1)

pub names_all-plays : (plan : Plan) (seq : Moves) → (names_all plan seq ≡ true) ↔ PlaysMoves plan seq
names_all-plays plan seq = (plays_named plan seq, named_played plan seq)

-- ---- what is paid over kids

-- a number where a test holds
abbrev if_so : Bool → ℤ → ℤ
if_so test z = cond test z (pos 0)

-- the sum over the kids to which an allowed action leads
abbrev kids_pay : (ℕ → Bool) → (ℕ → ℤ) → ℕ → List ℕ → ℤ
kids_pay allowed paid action [] = pos 0
kids_pay allowed paid action (kid ∷ kids) = if_so (allowed action) (paid kid) +ℤ kids_pay allowed paid (action + 1) kids

nothing_and : (z : ℤ) → z ≡ pos 0 → pos 0 +ℤ z ≡ pos 0
nothing_and z h = omega (arith, ints)

and_nothing : (y z : ℤ) → z ≡ pos 0 → y +ℤ z ≡ y
and_nothing y z h = omega (arith, ints)

-- where each action is allowed all kids pay
all_pay : (c : Bool) (paid : ℕ → ℤ) (action : ℕ) (kids : List ℕ) → kids_pay (λ a. c) paid action kids ≡ if_so c (total paid kids)
all_pay true paid action [] = refl
all_pay false paid action [] = refl
all_pay true paid action (kid ∷ kids) = ap (λ (z : ℤ). paid kid +ℤ z) (all_pay true paid (action + 1) kids)
all_pay false paid action (kid ∷ kids) = nothing_and _ (all_pay false paid (action + 1) kids)

none_pays : (allowed : ℕ → Bool) (paid : ℕ → ℤ) (action : ℕ) (kids : List ℕ) → ((a : ℕ) → action ≤ a → allowed a ≡ false)
    → kids_pay allowed paid action kids ≡ pos 0
none_pays allowed paid action [] none = refl
none_pays allowed paid action (kid ∷ kids) none =
    rw (none action (omega arith)) (nothing_and _ (none_pays allowed paid (action + 1) kids (λ a h. none a (omega arith))))

not_same : (a b : ℕ) → a < b → nat_eq a b ≡ false
not_same a b h = grind (arith, nat_tests)

not_before : (a b : ℕ) → b < a → nat_eq a b ≡ false
not_before a b h = grind (arith, nat_tests)

same_number : (a b : ℕ) → a ≡ b → nat_eq a b ≡ true
same_number a b h = grind (arith, nat_tests)

-- where one action is allowed the kid to which it leads pays
one_pays : (paid : ℕ → ℤ) (choice action k : ℕ) (kids : List ℕ) → choice ≡ action + k
    → kids_pay (λ a. nat_eq choice a) paid action kids ≡ paid_at paid (slice_get kids k)
one_pays paid choice action k [] at = refl
one_pays paid choice action zero (kid ∷ kids) at =
    let here : nat_eq choice action ≡ true = same_number choice action (omega arith) in
    rw here (and_nothing (paid kid) _ (none_pays (λ a. nat_eq choice a) paid (action + 1) kids
    (λ a h. not_same choice a (omega arith))))
one_pays paid choice action (suc k) (kid ∷ kids) at =
    let here : nat_eq choice action ≡ false = not_before choice action (omega arith) in
    rw here (zero_first (one_pays paid choice (action + 1) k kids (omega arith)))
  where
    zero_first : {y z : ℤ} → y ≡ z → pos 0 +ℤ y ≡ z
    zero_first h = omega (arith, ints)

-- the kid that an entry names pays
named_pays : (paid : ℕ → ℤ) (kids : List ℕ) (entry : Option (Option ℕ))
    → kids_pay (λ a. names a entry) paid 0 kids ≡ named paid kids entry
named_pays paid kids None = none_pays (λ a. false) paid 0 kids (λ a h. refl)
named_pays paid kids (Some None) = none_pays (λ a. false) paid 0 kids (λ a h. refl)
named_pays paid kids (Some (Some choice)) = one_pays paid choice 0 choice kids (omega arith)

and_true : (a : Bool) → (a && true) ≡ a
and_true true = refl
and_true false = refl

and_false : (a : Bool) → (a && false) ≡ false
and_false true = refl
and_false false = refl

same_allowed : (f h : ℕ → Bool) (paid : ℕ → ℤ) (action : ℕ) (kids : List ℕ) → ((a : ℕ) → f a ≡ h a)
    → kids_pay f paid action kids ≡ kids_pay h paid action kids
same_allowed f h paid action [] same = refl
same_allowed f h paid action (kid ∷ kids) same =
    ap₂ (λ (b : Bool) (z : ℤ). if_so b (paid kid) +ℤ z) (same action) (same_allowed f h paid (action + 1) kids same)

choice_pays : (c : Bool) (paid : ℕ → ℤ) (kids : List ℕ) (entry : Option (Option ℕ))
    → kids_pay (λ a. names a entry && c) paid 0 kids ≡ if_so c (named paid kids entry)
choice_pays true paid kids entry =
    same_allowed (λ a. names a entry && true) (λ a. names a entry) paid 0 kids (λ a. and_true (names a entry))
    ∙ named_pays paid kids entry
choice_pays false paid kids entry = none_pays (λ a. names a entry && false) paid 0 kids (λ a h. and_false (names a entry))

-- ---- sums over the subtrees of kids in a row

joined : (a b c d e : ℤ) → a ≡ b +ℤ c → b ≡ d +ℤ e → a ≡ d +ℤ (e +ℤ c)
joined a b c d e h k = omega (arith, ints)

row_sums : (f paid : ℕ → ℤ) (allowed : ℕ → Bool) (action start : ℕ) (kids : List ℕ) (ends : ℕ → ℕ) → InRow start kids ends
    → ((k kid : ℕ) → slice_get kids k ≡ Some kid → sum_to (ends kid) f ≡ sum_to kid f +ℤ if_so (allowed (action + k)) (paid kid))
    → sum_to (row_end start kids ends) f ≡ sum_to start f +ℤ kids_pay allowed paid action kids
row_sums f paid allowed action start [] ends r each = sym (and_nothing (sum_to start f) (pos 0) refl)
row_sums f paid allowed action start (kid ∷ kids) ends r each =
    let at : action + 0 ≡ action = omega arith in
    let head : sum_to (ends kid) f ≡ sum_to kid f +ℤ if_so (allowed action) (paid kid) = rw at at (each 0 kid refl) in
    let here = head ∙ ap (λ (m : ℕ). sum_to m f +ℤ if_so (allowed action) (paid kid)) r.0 in
    joined _ _ _ _ _ (row_sums f paid allowed (action + 1) (ends kid) kids ends r.1 (λ k x e. next k x (each (suc k) x e))) here
  where
    next : (k x : ℕ) → sum_to (ends x) f ≡ sum_to x f +ℤ if_so (allowed (action + suc k)) (paid x)
        → sum_to (ends x) f ≡ sum_to x f +ℤ if_so (allowed (action + 1 + k)) (paid x)
    next k x h = let number : action + 1 + k ≡ action + suc k = omega arith in rw number h

closing : (s t k w : ℤ) → t ≡ pos 0 → k ≡ w → s +ℤ t +ℤ k ≡ s +ℤ w
closing s t k w none same = omega (arith, ints)

nothing_if : (b : Bool) → if_so b (pos 0) ≡ pos 0
nothing_if true = refl
nothing_if false = refl

and_joined : (x y z : Bool) → (x && y && z) ≡ (x && (y && z))
and_joined true y z = refl
and_joined false y z = refl

and_other : (x y z : Bool) → (y && (x && z)) ≡ (x && (y && z))
and_other true y z = refl
and_other false true z = refl
and_other false false z = refl

-- own sequences at a kid
own_on : (side : Side) (g : GameView) → IsGame g → (own : ℕ → Moves) → AreOwn side g own → (n action kid : ℕ) → n < length g.nodes
    → kid < length g.nodes → kid_of g n action ≡ Some kid → set_of g side n ≡ None → own kid ≡ own n
own_on side g rules own are n action kid low inside e at =
    own_same g rules side kid (own kid) (own n) (are.each kid inside) (other_move n action kid (own n) (are.each n low) at e)

own_more : (side : Side) (g : GameView) → IsGame g → (own : ℕ → Moves) → AreOwn side g own → (n action kid : ℕ) (set : SetId)
    → n < length g.nodes → kid < length g.nodes → kid_of g n action ≡ Some kid → set_of g side n ≡ Some set.0
    → own kid ≡ (set, action) ∷ own n
own_more side g rules own are n action kid set low inside e at =
    own_same g rules side kid (own kid) ((set, action) ∷ own n) (are.each kid inside)
    (own_move n action kid set (own n) (are.each n low) at e)

module _ (side : Side) (g : GameView) (rules : IsGame g) (first second : ℕ → Moves) (ones : AreOwn One g first)
    (twos : AreOwn Two g second) (one two : Plan) where
  -- both plans name the moves to a node
  abbrev both : ℕ → Bool
  both n = names_all one (first n) && names_all two (second n)

  abbrev term : ℕ → ℤ
  term n = cond (both n) (leaf_amount side (slice_get g.nodes n)) (pos 0)

  abbrev paid : ℕ → ℤ
  paid n = walk side g one two n

  -- what a subtree's leaves pay is what the walk from its root does, where both plans name the moves to that
  abbrev Sums : ℕ → Type 0
  Sums n = sum_to (end_of g.nodes n) term ≡ sum_to n term +ℤ if_so (both n) (paid n)

  over_kids : (n : ℕ) (node : Node) → slice_get g.nodes n ≡ Some node → (allowed : ℕ → Bool)
      → ((k kid : ℕ) → kid < length g.nodes → kid_of g n k ≡ Some kid → both kid ≡ allowed k)
      → ((kid : ℕ) → n < kid → kid < length g.nodes → Sums kid)
      → sum_to (end_of g.nodes n) term ≡ sum_to n term +ℤ term n +ℤ kids_pay allowed paid 0 (kids_of node)
  over_kids n node at allowed each behind =
      let row = row_sums term paid allowed 0 (n + 1) (kids_of node) (end_of g.nodes) (rules.in_row n node at)
      (λ k kid e. kid_sums k kid e) in
      ap (λ (m : ℕ). sum_to m term) (end_of-node g rules n node at)
      ∙ row
      ∙ ap (λ (z : ℤ). z +ℤ kids_pay allowed paid 0 (kids_of node)) (sum_to-add_one n term)
    where
      kid_sums : (k kid : ℕ) → slice_get (kids_of node) k ≡ Some kid
          → sum_to (end_of g.nodes kid) term ≡ sum_to kid term +ℤ if_so (allowed (0 + k)) (paid kid)
      kid_sums k kid e =
          let inside = kid_inside g rules n k kid node at e in
          let number : 0 + k ≡ k = omega arith in
          let same = each k kid inside.1 (ap (kid_there k) at ∙ e) in
          rw (number, ← same) (behind kid inside.0 inside.1)

  -- the node's own amount, where it is no leaf
  no_amount : (n : ℕ) (node : Node) → slice_get g.nodes n ≡ Some node → leaf_amount side (Some node) ≡ pos 0 → term n ≡ pos 0
  no_amount n node at none = ap (λ (x : Option Node). if_so (both n) (leaf_amount side x)) at
      ∙ ap (if_so (both n)) none ∙ nothing_if (both n)

  sums_by : (n : ℕ) → ((kid : ℕ) → n < kid → kid < length g.nodes → Sums kid) → n < length g.nodes → (node : Node)
      → slice_get g.nodes n ≡ Some node → Sums n
  sums_by n behind low (Leaf pay) at =
      let over = over_kids n (Leaf pay) at (λ a. true) (λ k kid inside e. absurd (no_kid k kid (sym (ap (kid_there k) at) ∙ e))) behind in
      let here = ap (λ (x : Option Node). if_so (both n) (leaf_amount side x)) at in
      over ∙ leaf_end _ _ _ (here ∙ ap (if_so (both n)) (sym (walk-node side g rules one two n (Leaf pay) at)))
    where
      no_kid : (k kid : ℕ) → None ≡ Some kid → ⊥
      no_kid k kid e = cc

      leaf_end : (s t w : ℤ) → t ≡ w → s +ℤ t +ℤ pos 0 ≡ s +ℤ w
      leaf_end s t w e = omega (arith, ints)
  sums_by n behind low (Chance kids) at =
      let none : (mover : Side) → set_of g mover n ≡ None = λ mover. ap (set_there mover) at in
      let over = over_kids n (Chance kids) at (λ a. both n)
      (λ k kid inside e. ap₂ (λ (x y : Moves). names_all one x && names_all two y)
      (own_on One g rules first ones n k kid low inside e (none One))
      (own_on Two g rules second twos n k kid low inside e (none Two))) behind in
      over ∙ closing _ _ _ _ (no_amount n (Chance kids) at refl)
      (all_pay (both n) paid 0 kids ∙ ap (if_so (both n)) (sym (walk-node side g rules one two n (Chance kids) at)))
  sums_by n behind low (Choice One set kids) at =
      let own : set_of g One n ≡ Some set.0 = ap (set_there One) at in
      let none : set_of g Two n ≡ None = ap (set_there Two) at in
      let entry = slice_get one set.0 in
      let over = over_kids n (Choice One set kids) at (λ a. names a entry && both n)
      (λ k kid inside e. ap₂ (λ (x y : Moves). names_all one x && names_all two y)
      (own_more One g rules first ones n k kid set low inside e own)
      (own_on Two g rules second twos n k kid low inside e none)
      ∙ and_joined (names k entry) (names_all one (first n)) (names_all two (second n))) behind in
      over ∙ closing _ _ _ _ (no_amount n (Choice One set kids) at refl)
      (choice_pays (both n) paid kids entry ∙ ap (if_so (both n)) (sym (walk-node side g rules one two n (Choice One set kids) at)))
  sums_by n behind low (Choice Two set kids) at =
      let none : set_of g One n ≡ None = ap (set_there One) at in
      let own : set_of g Two n ≡ Some set.0 = ap (set_there Two) at in
      let entry = slice_get two set.0 in
      let over = over_kids n (Choice Two set kids) at (λ a. names a entry && both n)
      (λ k kid inside e. ap₂ (λ (x y : Moves). names_all one x && names_all two y)
      (own_on One g rules first ones n k kid low inside e none)
      (own_more Two g rules second twos n k kid set low inside e own)
      ∙ and_other (names k entry) (names_all one (first n)) (names_all two (second n))) behind in
      over ∙ closing _ _ _ _ (no_amount n (Choice Two set kids) at refl)
      (choice_pays (both n) paid kids entry ∙ ap (if_so (both n)) (sym (walk-node side g rules one two n (Choice Two set kids) at)))

  -- `left` bounds how many nodes stand behind n
  sums_from : (left n : ℕ) → length g.nodes ≤ n + left → n < length g.nodes → Sums n
  sums_from zero n bound low = absurd (omega arith)
  sums_from (suc left) n bound low =
      let at = found g.nodes n low in
      sums_by n (λ kid above room. sums_from left kid (omega arith) room) low at.0 at.1

  pub leaves_paid : walk side g one two 0 ≡ leaves_pay side g first second one two
  leaves_paid =
      let root : both 0 ≡ true = ap₂ (λ (x y : Moves). names_all one x && names_all two y)
      (own_same g rules One 0 (first 0) [] (ones.each 0 rules.has_root) at_root)
      (own_same g rules Two 0 (second 0) [] (twos.each 0 rules.has_root) at_root) in
      let whole = sums_from (length g.nodes) 0 (omega arith) rules.has_root in
      all_paid _ _ _ (ap (λ (b : Bool). if_so b (paid 0)) root) (sum_to-zero term)
      (ap (λ (m : ℕ). sum_to m term) (sym rules.one_tree) ∙ whole)
    where
      all_paid : {w : ℤ} (t s c : ℤ) → c ≡ w → s ≡ pos 0 → t ≡ s +ℤ c → w ≡ t
      all_paid t s c e none h = omega (arith, ints)

-- Two nodes part at a chance node where neither is at or below a kid that the other is at or below; a node is at or below
-- the last kid up to it. Of a set's nodes in their order, some two in a row part where any two do.
use Rattle.std.proofs.Common.{◌≡◌, ◌⊎◌, ℕ, ◌+◌, ◌-◌, ◌<◌, ◌≤◌, List, [], ◌∷◌, Option, Some, None, zero, suc, length, slice_get, inl, inr, refl, sym, ap, subst, ◌∙◌, arith}
use Rattle.std.proofs.lemmas.Bool.{cases_lt}
use Rattle.std.proofs.lemmas.Option.{slice_get_within}
use Rattle.corr_game.specs.declared.nodes.Node.{Node}
use Rattle.corr_game.specs.declared.nodes.Node.TheVariants.{Leaf, Chance, Choice}
use Rattle.corr_game.specs.declared.sides.Side.{Side}
use Rattle.corr_game.specs.declared.sides.Side.TheVariants.{One, Two}
use Rattle.corr_game.specs.Node.{kids_of, set_at}
use Rattle.corr_game.specs.Game.{GameView, IsGame, AreBehind}
use Rattle.corr_game.specs.Preorder.{InRow, end_of}
use Rattle.corr_game.proofs.Rows.{Rises, behind-head, behind-tail, kid_in_row, kids_behind, rises}
use Rattle.tree_recall.specs.Tree.{IsAbove, kid_of, kid_there, set_of}
use Rattle.tree_recall.proofs.Kids.{above_joined, above_within, kid_below, set_node, within_above}
use Rattle.sequences.proofs.Adding.{within}
use Rattle.triangle_test.specs.Parting.{AreUpTo, IsCommonKid, IsLastOfSet, IsNextOfSet, IsUnder, PartAtChance, PartsFromNext}
use Rattle.triangle_test.specs.PublicChance.{IsAtOrBelow, IsChance, IsPublicChance}
use Rattle.triangle_test.proofs.OneKid.{below_kid, one_kid, same_or_apart, some_kid}

-- an earlier kid has a smaller number
row_rises : (count n start : ℕ) (kids : List ℕ) (ends : ℕ → ℕ) (i j a b : ℕ) → AreBehind count n kids → InRow start kids ends
    → Rises count n ends
    → i < j → slice_get kids i ≡ Some a → slice_get kids j ≡ Some b → a < b
row_rises count n start [] ends i j a b behind row up less e f = absurd (cc)
row_rises count n start (x ∷ xs) ends i zero a b behind row up less e f = absurd (omega (arith, less))
row_rises count n start (x ∷ xs) ends zero (suc j) a b behind row up less e f =
    let same : x ≡ a = cc in
    let here = behind-head count n x xs behind in
    let later = kid_in_row count n (ends x) xs ends j b (behind-tail count n x xs behind) row.1 up f in
    omega (arith, same, up x here.0 here.1, later.0)
row_rises count n start (x ∷ xs) ends (suc i) (suc j) a b behind row up less e f =
    row_rises count n (ends x) xs ends i j a b (behind-tail count n x xs behind) row.1 up (omega (arith, less)) e f

one_count : (kids : List ℕ) (n a b : ℕ) → AreUpTo kids n a → AreUpTo kids n b → a < b → ⊥
one_count kids n a b h k less =
    let there = within kids a (omega (arith, less, k.0)) in
    omega (arith, h.2 there.0 there.1, k.1 a there.0 there.1 less)

pub same_count : (kids : List ℕ) (n a b : ℕ) → AreUpTo kids n a → AreUpTo kids n b → a ≡ b
same_count kids n a b h k = elim (cases_lt a b) [
  | inl less ↦ absurd (one_count kids n a b h k less)
  | inr most ↦ elim (cases_lt b a) [
    | inl less ↦ absurd (one_count kids n b a k h less)
    | inr least ↦ omega arith
  ]
]

pub under_kid : (g : GameView) → IsGame g → (top mid m : ℕ) → IsAtOrBelow g top mid → IsAbove g mid m → IsAtOrBelow g top m
under_kid g rules top mid m (inl same) above = inr (subst (λ (x : ℕ). IsAbove g x m) (sym same) above)
under_kid g rules top mid m (inr over) above = inr (above_joined g rules top mid m over above)

module _ (g : GameView) (rules : IsGame g) (n : ℕ) (node : Node) (at : slice_get g.nodes n ≡ Some node) where
  pub kid_is : (action kid : ℕ) → slice_get (kids_of node) action ≡ Some kid → kid_of g n action ≡ Some kid
  kid_is action kid e = ap (kid_there action) at ∙ e

  pub kid_from : (action kid : ℕ) → kid_of g n action ≡ Some kid → slice_get (kids_of node) action ≡ Some kid
  kid_from action kid e = sym (ap (kid_there action) at) ∙ e

  kids_rise : (i j a b : ℕ) → i < j → kid_of g n i ≡ Some a → kid_of g n j ≡ Some b → a < b
  kids_rise i j a b less e f =
      row_rises (length g.nodes) n (n + 1) (kids_of node) (end_of g.nodes) i j a b (kids_behind g n node (rules.each_node n node at))
      (rules.in_row n node at)
      (λ m low high. rises g rules m high) less (kid_from i a e) (kid_from j b f)

  -- a node at or below a kid has a number of that kid's on, and before the next kid's
  after_kid : (i a m : ℕ) → kid_of g n i ≡ Some a → IsAtOrBelow g a m → a ≤ m
  after_kid i a m e (inl same) = omega (arith, same)
  after_kid i a m e (inr below) = omega (arith, above_within g rules a m below)

  before_next : (i j a b m : ℕ) → i < j → kid_of g n i ≡ Some a → kid_of g n j ≡ Some b → IsAtOrBelow g a m → m < b
  before_next i j a b m less e f (inl same) = omega (arith, same, kids_rise i j a b less e f)
  before_next i j a b m less e f (inr below) = elim (cases_lt m b) [
    | inl before ↦ before
    | inr after ↦
        let low = above_within g rules a m below in
        let held : IsAtOrBelow g a b = inr (within_above g rules a b (kid_below g rules n i a e).1 (kids_rise i j a b less e f)
        (omega (arith, after, low.1))) in
        let same = one_kid g rules n i j a b b e f held (inl refl) in
        absurd (omega (arith, same, kids_rise i j a b less e f))
  ]

  pub up_to_kid : (i a m : ℕ) → kid_of g n i ≡ Some a → IsAtOrBelow g a m → AreUpTo (kids_of node) m (i + 1)
  up_to_kid i a m e h =
      let low = slice_get_within (kids_of node) i a (kid_from i a e) in (
        omega (arith, low),
        λ j kid there less. elim (cases_lt j i) [
          | inl before ↦ omega (arith, kids_rise j i kid a before (kid_is j kid there) e, after_kid i a m e h)
          | inr last ↦
              let same : j ≡ i = omega arith in
              let here : slice_get (kids_of node) i ≡ Some kid = rw (← same) there in
              let one : Some a ≡ Some kid = sym (kid_from i a e) ∙ here in
              let kid_is_a : a ≡ kid = cc in
              omega (arith, kid_is_a, after_kid i a m e h)
        ],
        λ kid there. before_next i (i + 1) a kid m (omega arith) e (kid_is (i + 1) kid there) h,
      )

  -- what is under the node, and has this kid last before it, is at or below that kid
  pub towards_kid : (k kid m : ℕ) → slice_get (kids_of node) k ≡ Some kid → AreUpTo (kids_of node) m (k + 1) → IsAtOrBelow g n m
      → IsAtOrBelow g kid m
  towards_kid k kid m e up (inl same) = absurd (omega (
    arith,
    same,
    up.1 k kid e (omega arith),
    (kid_below g rules n k kid (kid_is k kid e)).0,
  ))
  towards_kid k kid m e up (inr below) =
      let first = some_kid g n m below in
      let count = same_count (kids_of node) m (k + 1) (first.0 + 1) up (up_to_kid first.0 first.1 m first.2 first.3) in
      let index : first.0 ≡ k = omega arith in
      let there : slice_get (kids_of node) k ≡ Some first.1 = rw (← index) (kid_from first.0 first.1 first.2) in
      let same : first.1 ≡ kid = cc in
      subst (λ (x : ℕ). IsAtOrBelow g x m) same first.3

  -- where they have a common kid they part at or below that
  pub part_at_kid : (first second kid : ℕ) → IsCommonKid (kids_of node) first second kid → IsAtOrBelow g n first → IsAtOrBelow g n second
      → PartAtChance g n first second → PartAtChance g kid first second
  part_at_kid first second kid common under beside h =
      let one = towards_kid common.0 kid first common.1 common.2 under in
      let two = towards_kid common.0 kid second common.1 common.3 beside in
      let e = kid_is common.0 kid common.1 in
      elim h.5 as (λ x. PartAtChance g kid first second) [
        | inl same ↦
            let first_kid : kid_of g n h.1 ≡ Some h.3 = rw same h.7 in
            let second_kid : kid_of g n h.2 ≡ Some h.4 = rw same h.8 in
            let left = one_kid g rules n h.1 common.0 h.3 kid first first_kid e h.10 one in
            let right = one_kid g rules n h.2 common.0 h.4 kid second second_kid e h.11 two in
            absurd (h.9 (left ∙ sym right))
        | inr below ↦
            let top = some_kid g n h.0 below in
            let held : IsAbove g h.0 first = below_kid g rules h.0 h.1 h.3 first h.7 h.10 in
            let through = under_kid g rules top.1 h.0 first top.3 held in
            let same = one_kid g rules n top.0 common.0 top.1 kid first top.2 e through one in
            (h.0, h.1, h.2, h.3, h.4, subst (λ (x : ℕ). IsAtOrBelow g x h.0) same top.3, h.6, h.7, h.8, h.9, h.10, h.11)
      ]

  -- what parts at or below a kid parts at or below the node
  pub part_from_kid : (first second k kid : ℕ) → slice_get (kids_of node) k ≡ Some kid → PartAtChance g kid first second
      → PartAtChance g n first second
  part_from_kid first second k kid e h =
      (h.0, h.1, h.2, h.3, h.4, inr (below_kid g rules n k kid h.0 (kid_is k kid e) h.5), h.6, h.7, h.8, h.9, h.10, h.11)

  -- without a common kid they can part at the node alone
  pub part_here : (first second : ℕ) → ((k : ℕ) → AreUpTo (kids_of node) first (k + 1) → AreUpTo (kids_of node) second (k + 1) → ⊥)
      → (h : PartAtChance g n first second) → n ≡ h.0
  part_here first second none h = elim h.5 [
    | inl same ↦ same
    | inr below ↦
        let top = some_kid g n h.0 below in
        let one = under_kid g rules top.1 h.0 first top.3 (below_kid g rules h.0 h.1 h.3 first h.7 h.10) in
        let two = under_kid g rules top.1 h.0 second top.3 (below_kid g rules h.0 h.2 h.4 second h.8 h.11) in
        absurd (none top.0 (up_to_kid top.0 top.1 first top.2 one) (up_to_kid top.0 top.1 second top.2 two))
  ]

  -- and at a chance node they do
  pub part_without : (first second : ℕ) → IsChance g n → IsAbove g n first → IsAbove g n second
      → ((k : ℕ) → AreUpTo (kids_of node) first (k + 1) → AreUpTo (kids_of node) second (k + 1) → ⊥) → PartAtChance g n first second
  part_without first second is under beside none =
      let one = some_kid g n first under in
      let two = some_kid g n second beside in
      let apart : one.1 ≡ two.1 → ⊥ = λ same.
      none one.0 (up_to_kid one.0 one.1 first one.2 one.3)
      (up_to_kid one.0 one.1 second one.2 (subst (λ (x : ℕ). IsAtOrBelow g x second) (sym same) two.3)) in
      (n, one.0, two.0, one.1, two.1, inl refl, is, one.2, two.2, apart, one.3, two.3)

-- what is under a chance node and is none is below it
pub below_chance : (g : GameView) (n m : ℕ) → IsChance g n → IsUnder g n m → IsAbove g n m
below_chance g n m is under = elim under.0 [
  | inl same ↦ absurd (under.1 (subst (IsChance g) same is))
  | inr below ↦ below
]

-- nothing parts at a leaf or below it
pub none_at_leaf : (g : GameView) (rules : IsGame g) (n : ℕ) (node : Node) → slice_get g.nodes n ≡ Some node → kids_of node ≡ []
    → (IsChance g n → ⊥)
    → (first second : ℕ) → PartAtChance g n first second → ⊥
none_at_leaf g rules n node at none calm first second h = elim h.5 [
  | inl same ↦ calm (subst (IsChance g) (sym same) h.6)
  | inr below ↦
      let top = some_kid g n h.0 below in
      let there = kid_from g rules n node at top.0 top.1 top.2 in
      let empty : slice_get {X = ℕ} [] top.0 ≡ Some top.1 = rw none at there in
      absurd (cc)
]

mover_same : (node : Node) (s t : Side) (a b : ℕ) → set_at s node ≡ Some a → set_at t node ≡ Some b → s ≡ t
mover_same (Leaf pay) s t a b e f = absurd (cc)
mover_same (Chance kids) s t a b e f = absurd (cc)
mover_same (Choice mover set kids) One One a b e f = refl
mover_same (Choice mover set kids) Two Two a b e f = refl
mover_same (Choice One set kids) One Two a b e f = absurd (cc)
mover_same (Choice Two set kids) One Two a b e f = absurd (cc)
mover_same (Choice One set kids) Two One a b e f = absurd (cc)
mover_same (Choice Two set kids) Two One a b e f = absurd (cc)

one_side : (g : GameView) (n : ℕ) (s t : Side) (a b : ℕ) → set_of g s n ≡ Some a → set_of g t n ≡ Some b → s ≡ t
one_side g n s t a b e f =
    let at = (set_node g s n a e).1 in
    mover_same at.0 s t a b at.2 (rw at.1 at f)

-- the sets of a node are one
one_set : (g : GameView) (n : ℕ) (s t : Side) (a b m : ℕ) → set_of g s n ≡ Some a → set_of g t n ≡ Some b → set_of g s m ≡ Some a
    → set_of g t m ≡ Some b
one_set g n s t a b m e f h =
    let side = one_side g n s t a b e f in
    let there : set_of g t n ≡ Some a = subst (λ (x : Side). set_of g x n ≡ Some a) side e in
    let set : a ≡ b = cc in
    subst (λ (x : Side). set_of g x m ≡ Some b) side (h ∙ ap Some set)

pub same_next : (g : GameView) (n x y : ℕ) → IsNextOfSet g n x → IsNextOfSet g n y → x ≡ y
same_next g n x y h k = elim (cases_lt x y) [
  | inl less ↦ absurd (k.5 x h.0 less (one_set g n h.1 k.1 h.2 k.2 x h.3 k.3 h.4))
  | inr most ↦ elim (cases_lt y x) [
    | inl less ↦ absurd (h.5 y k.0 less (one_set g n k.1 h.1 k.2 h.2 y k.3 h.3 k.4))
    | inr least ↦ omega arith
  ]
]

pub no_next : (g : GameView) (n x : ℕ) → IsLastOfSet g n → IsNextOfSet g n x → ⊥
no_next g n x last h = last h.1 h.2 x h.3 h.0 h.4

in_set : (here : Option ℕ) (set : ℕ) → (here ≡ Some set) ⊎ (here ≡ Some set → ⊥)
in_set None set = inr (λ e. cc)
in_set (Some x) set = elim (same_or_apart x set) [
  | inl same ↦ inl (ap Some same)
  | inr apart ↦ inr (λ e. (let same : x ≡ set = cc in apart same))
]

-- of a set with a later node, the next node
next_up_to : (g : GameView) (side : Side) (set m n : ℕ) → set_of g side m ≡ Some set → set_of g side n ≡ Some set → (left k : ℕ)
    → k + left ≡ n → m < k
    → ((j : ℕ) → m < j → j < k → set_of g side j ≡ Some set → ⊥) → (next : ℕ) × (next ≤ n) × IsNextOfSet g m next
next_up_to g side set m n at_m at_n zero k e low none =
    (n, omega arith, (omega (arith, e, low), side, set, at_m, at_n, λ j more less. none j more (omega (arith, e, less))))
next_up_to g side set m n at_m at_n (suc left) k e low none = elim (in_set (set_of g side k) set) [
  | inl here ↦ (k, omega (arith, e), (low, side, set, at_m, here, none))
  | inr apart ↦ next_up_to g side set m n at_m at_n left (k + 1) (omega (arith, e)) (omega (arith, low))
      (λ j more less there. elim (cases_lt j k) [
        | inl before ↦ none j more before there
        | inr last ↦
            let same : j ≡ k = omega arith in
            apart (subst (λ (x : ℕ). set_of g side x ≡ Some set) same there)
      ])
]

pub root_over : (g : GameView) → IsGame g → (n : ℕ) → n < length g.nodes → IsAtOrBelow g 0 n
root_over g rules n room = elim (cases_lt 0 n) [
  | inl low ↦ inr (within_above g rules 0 n rules.has_root low (omega (arith, rules.one_tree)))
  | inr root ↦ inl (omega arith)
]

pub at_same_kid : (g : GameView) (a b x : ℕ) → a ≡ b → IsAtOrBelow g b x → IsAtOrBelow g a x
at_same_kid g a b x same h = subst (λ (y : ℕ). IsAtOrBelow g y x) (sym same) h

pub at_same_node : (g : GameView) (a x y : ℕ) → x ≡ y → IsAtOrBelow g a x → IsAtOrBelow g a y
at_same_node g a x y same h = subst (IsAtOrBelow g a) same h

-- no two nodes in a row of a set part
abbrev pub NoneInRow : GameView → Type 0
NoneInRow g = (k : ℕ) → k < length g.nodes → PartsFromNext g k → ⊥

none_part : (g : GameView) → IsGame g → NoneInRow g → (side : Side) (set chance i j a b : ℕ) → IsChance g chance
    → kid_of g chance i ≡ Some a → kid_of g chance j ≡ Some b
    → (a ≡ b → ⊥) → (left m n : ℕ) → n ≤ m + left → m < n → set_of g side m ≡ Some set → set_of g side n ≡ Some set → IsAtOrBelow g a m
    → IsAtOrBelow g b n → ⊥
none_part g rules none side set chance i j a b is e f apart zero m n bound less at_m at_n in_a in_b = omega arith
none_part g rules none side set chance i j a b is e f apart (suc left) m n bound less at_m at_n in_a in_b =
    let next = next_up_to g side set m n at_m at_n (n - (m + 1)) (m + 1) (omega (arith, less)) (omega arith)
    (λ x more few. absurd (omega arith)) in
    let x = next.0 in
    let at_x : set_of g side x ≡ Some set = one_set g m next.2.1 side next.2.2 set x next.2.3 at_m next.2.4 in
    let over_m = above_within g rules chance m (below_kid g rules chance i a m e in_a) in
    let over_n = above_within g rules chance n (below_kid g rules chance j b n f in_b) in
    let over : IsAbove g chance x = within_above g rules chance x over_m.2 (omega (arith, over_m.0, next.2.0))
    (omega (arith, next.1, over_n.1)) in
    let kid = some_kid g chance x over in
    elim (same_or_apart a kid.1) [
      | inl same ↦
          let held : IsAtOrBelow g a x = at_same_kid g a kid.1 x same kid.3 in
          elim (cases_lt x n) [
            | inl before ↦ none_part g rules none side set chance i j a b is e f apart left x n (omega (arith, bound, next.2.0)) before
                at_x at_n held in_b
            | inr last ↦
                let here : x ≡ n = omega (arith, last, next.1) in
                apart (one_kid g rules chance i j a b n e f (at_same_node g a x n here held) in_b)
          ]
      | inr other ↦
          none m over_m.3 (x, next.2, (chance, i, kid.0, a, kid.1, root_over g rules chance over_m.2, is, e, kid.2, other, in_a, kid.3))
    ]

pub public_in_row : (g : GameView) → IsGame g → NoneInRow g → IsPublicChance g
unfolding IsPublicChance
public_in_row g rules none chance i j a b is e f apart share =
    let m = share.1 in
    let n = share.2 in
    elim (cases_lt m n) [
      | inl less ↦ none_part g rules none share.0 share.3 chance i j a b is e f apart n m n (omega arith) less share.4 share.5 share.6
          share.7
      | inr most ↦ elim (cases_lt n m) [
        | inl less ↦ none_part g rules none share.0 share.3 chance j i b a is f e (λ same. apart (sym same)) m n m (omega arith) less
            share.5 share.4 share.7 share.6
        | inr least ↦
            let same : m ≡ n = omega arith in
            apart (one_kid g rules chance i j a b n e f (at_same_node g a m n same share.6) share.7)
      ]
    ]

pub parted : (g : GameView) (m : ℕ) → PartsFromNext g m → IsPublicChance g → ⊥
unfolding IsPublicChance
parted g m parts public =
    let next = parts.0 in
    let h = parts.1 in
    let k = parts.2 in
    public k.0 k.1 k.2 k.3 k.4 k.6 k.7 k.8 k.9 (h.1, m, next, h.2, h.3, h.4, k.10, k.11)

-- a node of a set is no chance node
pub no_chance : (g : GameView) (side : Side) (n set : ℕ) → set_of g side n ≡ Some set → IsChance g n → ⊥
no_chance g side n set e is =
    let none : set_of g side n ≡ None = rw is.1 refl in
    cc

-- A game whose players recall their moves is refused for no set that is forgotten, and no game for two: the node that is told is
-- the least, and the set, its player and its first node are those of that node.
use Rattle.std.proofs.Common.{◌≡◌, ℕ, ◌+◌, ◌<◌, Option, Some, None, arith, ap, sym, ◌∙◌, inl, inr, subst, slice_get}
use Rattle.std.proofs.lemmas.Bool.{cases_lt}
use Rattle.corr_game.specs.declared.nodes.Node.{Node}
use Rattle.corr_game.specs.declared.nodes.Node.TheVariants.{Leaf, Chance, Choice}
use Rattle.corr_game.specs.declared.nodes.SetId.{SetId}
use Rattle.corr_game.specs.declared.nodes.SetInfo.{SetInfo}
use Rattle.corr_game.specs.declared.sides.Side.{Side}
use Rattle.corr_game.specs.declared.sides.Side.TheVariants.{One, Two}
use Rattle.corr_game.specs.Game.{GameView, IsGame, sets_of}
use Rattle.corr_game.specs.Node.{set_at}
use Rattle.report_form.specs.declared.refusals.Refusal.{Refusal}
use Rattle.report_form.specs.declared.refusals.Refusal.TheVariants.{Forgets}
use Rattle.tree_recall.specs.Forgetting.{IsFirstOf, IsForgottenAt, NoneForgotten}
use Rattle.tree_recall.specs.OwnSequence.{HasRecall}
use Rattle.tree_recall.specs.Tree.{set_of, set_there}
use Rattle.tree_recall.proofs.Firsts.{none_at_all}
use Rattle.corr_run.specs.FirstRefusal.{HasFileNumber, IsOfRecall}

-- a node is of one player's set
node_mover : (node : Node) (a b : ℕ) → set_at One node ≡ Some a → set_at Two node ≡ Some b → ⊥
node_mover (Leaf pay) a b e f = absurd (cc)
node_mover (Chance kids) a b e f = absurd (cc)
node_mover (Choice One set kids) a b e f = absurd (cc)
node_mover (Choice Two set kids) a b e f = absurd (cc)

there_mover : (node : Option Node) (a b : ℕ) → set_there One node ≡ Some a → set_there Two node ≡ Some b → ⊥
there_mover None a b e f = absurd (cc)
there_mover (Some node) a b e f = node_mover node a b e f

one_mover : (g : GameView) (n : ℕ) (side other : Side) (a b : ℕ) → set_of g side n ≡ Some a → set_of g other n ≡ Some b → side ≡ other
one_mover g n One One a b e f = cc
one_mover g n Two Two a b e f = cc
one_mover g n One Two a b e f = absurd (there_mover (slice_get g.nodes n) a b e f)
one_mover g n Two One a b e f = absurd (there_mover (slice_get g.nodes n) b a f e)

none_before : (g : GameView) (side : Side) (set first second before : ℕ) → NoneForgotten g side before → IsForgottenAt g side set first second → second < before → ⊥
unfolding NoneForgotten
none_before g side set first second before none forgotten lt = none set first second lt forgotten

-- where both recall no set is forgotten
pub no_recall_refusal : (g : GameView) → IsGame g → ((side : Side) → HasRecall g side) → (refusal : Refusal) → IsOfRecall g refusal → ⊥
no_recall_refusal g rules recall refusal of =
    none_before g of.side of.set.0 of.first of.second (of.second + 1) (none_at_all g of.side (of.second + 1) rules (recall of.side)) of.least.0 (omega arith)

first_same : (g : GameView) (side : Side) (set a b : ℕ) → IsFirstOf g side set a → IsFirstOf g side set b → a ≡ b
first_same g side set a b x y = elim (cases_lt a b) [
  | inl lt ↦ absurd (y.1 a lt x.0)
  | inr le ↦ elim (cases_lt b a) [ inl lt ↦ absurd (x.1 b lt y.0) | inr more ↦ omega (arith, le, more) ]
]

-- a set has one number in the file
pub file_same : (g : GameView) (side : Side) (set named : SetId) (a b : ℕ) → set.0 ≡ named.0 → HasFileNumber g side set a → HasFileNumber g side named b → a ≡ b
file_same g side set named a b e x y =
    let there : slice_get (sets_of side g) named.0 ≡ Some x.0 = rw (← e) x.1 in
    let same : x.0 ≡ y.0 = cc (there, y.1) in
    sym x.2 ∙ ap (λ (info : SetInfo). info.file) same ∙ y.2

second_same : (g : GameView) (a b : Refusal) (x : IsOfRecall g a) (y : IsOfRecall g b) → x.second ≡ y.second
second_same g a b x y = elim (cases_lt x.second y.second) [
  | inl lt ↦ absurd (none_before g x.side x.set.0 x.first x.second y.second (y.least.1 x.side) x.least.0 lt)
  | inr le ↦ elim (cases_lt y.second x.second) [
    | inl lt ↦ absurd (none_before g y.side y.set.0 y.first y.second x.second (x.least.1 y.side) y.least.0 lt)
    | inr more ↦ omega (arith, le, more)
  ]
]

told_same : (g : GameView) (side other : Side) (set named : SetId) (first former file number : ℕ) → side ≡ other → set.0 ≡ named.0
    → IsFirstOf g side set.0 first → IsFirstOf g other named.0 former → HasFileNumber g side set file → HasFileNumber g other named number → (file ≡ number) × (first ≡ former)
told_same g side other set named first former file number same_side same_set x y h k =
    let turned = subst (λ (s : Side). IsFirstOf g s named.0 former) (sym same_side) y in
    let of_set = subst (λ (n : ℕ). IsFirstOf g side n former) (sym same_set) turned in
    let in_file = subst (λ (s : Side). HasFileNumber g s named number) (sym same_side) k in
    (file_same g side set named file number same_set h in_file, first_same g side set.0 first former x of_set)

-- of one game one forgotten set is told
pub one_recall_refusal : (g : GameView) (a b : Refusal) → IsOfRecall g a → IsOfRecall g b → a ≡ b
one_recall_refusal g a b x y =
    let seconds = second_same g a b x y in
    let there = subst (λ (n : ℕ). set_of g y.side n ≡ Some y.set.0) (sym seconds) y.least.0.1 in
    let sides = one_mover g x.second x.side y.side x.set.0 y.set.0 x.least.0.1 there in
    let turned = subst (λ (s : Side). set_of g s x.second ≡ Some y.set.0) (sym sides) there in
    let sets : x.set.0 ≡ y.set.0 = cc (x.least.0.1, turned) in
    let told = told_same g x.side y.side x.set y.set x.first y.first x.file y.file sides sets x.least.0.0 y.least.0.0 x.in_file y.in_file in
    x.named ∙ ap (λ (s : Side). Forgets s x.file x.first x.second) sides ∙ ap (λ (n : ℕ). Forgets y.side n x.first x.second) told.0
    ∙ ap (λ (n : ℕ). Forgets y.side y.file n x.second) told.1 ∙ ap (λ (n : ℕ). Forgets y.side y.file y.first n) seconds ∙ sym y.named

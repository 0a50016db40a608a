-- The leaves of one pair of plans, one after the other: each number grows by what the leaves pay whose own sequence it stands for.
use Rattle.std.proofs.Common.{◌≡◌, ◌↔◌, ℕ, ◌+◌, ◌<◌, Bool, true, false, nat_eq, cond, List, length, slice_index, Option, Some}
use Rattle.std.proofs.Common.{slice_get, ℤ, pos, ◌+ℤ◌, ◌*ℤ◌, refl, sym, ap, ap₂, ◌∙◌, arith}
use Rattle.std.specs.Prelude.{slice_index_or}
use Rattle.exact_algebra.proofs.RingLaws.{*ℤ-zero, zero-*ℤ, +ℤ_assoc, +ℤ_idr}
use Rattle.exact_algebra.proofs.Sums.{sum_to-add_one, sum_to-nothing, sum_to-zero}
use Rattle.corr_game.specs.declared.nodes.Node.{Node}
use Rattle.corr_game.specs.declared.nodes.Node.TheVariants.{Leaf, Chance, Choice}
use Rattle.corr_game.specs.declared.payoffs.Pay.{Pay}
use Rattle.corr_game.specs.declared.plans.Pair.{Pair}
use Rattle.corr_game.specs.declared.sides.Side.{Side}
use Rattle.corr_game.specs.Game.{GameView}
use Rattle.corr_game.specs.Plan.{plan_of}
use Rattle.sequences.specs.Number.{Plays, SeqsView, side_of}
use Rattle.connected_pairs.specs.Connected.{other}
use Rattle.equilibrium.specs.Leaves.{leaf_amount}
use Rattle.deviation_gains.specs.Leaving.{GrowBy, PlanTest, TellsLeft, paid_behind, paid_in_pair}
use Rattle.deviation_gains.proofs.LeftSteps.{told_false}

no_node : (test : Bool) (x : ℤ) → x ≡ pos 0 → cond test x (pos 0) ≡ pos 0
no_node true x e = e
no_node false x e = refl

pub grown_not_yet : (nodes : List ℕ) (pays : ℕ → ℤ) (old : List ℤ) → GrowBy (paid_behind nodes pays 0) old old
grown_not_yet nodes pays old q low =
    sym (+ℤ_idr (slice_index_or old q (pos 0))) ∙ ap (λ (z : ℤ). slice_index_or old q (pos 0) +ℤ z) (sym (sum_to-zero _))

-- a node that pays
pub grown_more : (nodes : List ℕ) (pays : ℕ → ℤ) (n : ℕ) (a : ℤ) (old mid new : List ℤ) → length mid ≡ length old → pays n ≡ a
    → GrowBy (paid_behind nodes pays n) old mid → GrowBy (λ q. cond (nat_eq (slice_index nodes n) q) a (pos 0)) mid new
    → GrowBy (paid_behind nodes pays (n + 1)) old new
grown_more nodes pays n a old mid new same is before more q low =
    more q (omega (arith, same))
    ∙ ap₂ (λ (x y : ℤ). x +ℤ cond (nat_eq (slice_index nodes n) q) y (pos 0)) (before q low) (sym is)
    ∙ +ℤ_assoc (slice_index_or old q (pos 0)) (paid_behind nodes pays n q) (cond (nat_eq (slice_index nodes n) q) (pays n) (pos 0))
    ∙ ap (λ (z : ℤ). slice_index_or old q (pos 0) +ℤ z) (sym (sum_to-add_one n _))

-- and one that doesn't
pub grown_no_more : (nodes : List ℕ) (pays : ℕ → ℤ) (n : ℕ) (old new : List ℤ) → pays n ≡ pos 0
    → GrowBy (paid_behind nodes pays n) old new → GrowBy (paid_behind nodes pays (n + 1)) old new
grown_no_more nodes pays n old new is before q low =
    let none = no_node (nat_eq (slice_index nodes n) q) (pays n) is in
    before q low
    ∙ ap (λ (z : ℤ). slice_index_or old q (pos 0) +ℤ z)
    (sym (+ℤ_idr (paid_behind nodes pays n q)) ∙ ap (λ (z : ℤ). paid_behind nodes pays n q +ℤ z) (sym none) ∙ sym (sum_to-add_one n _))

-- nothing grows where no node pays
pub grown_nothing : (nodes : List ℕ) (pays : ℕ → ℤ) (count : ℕ) (old : List ℤ) → ((n : ℕ) → n < count → pays n ≡ pos 0)
    → GrowBy (paid_behind nodes pays count) old old
grown_nothing nodes pays count old each q low =
    sym (+ℤ_idr (slice_index_or old q (pos 0)))
    ∙ ap (λ (z : ℤ). slice_index_or old q (pos 0) +ℤ z)
    (sym (sum_to-nothing count _ (λ n h. no_node (nat_eq (slice_index nodes n) q) (pays n) (each n h))))

pub amount_nowhere : (side : Side) (there : Option Node) (w : ℤ) → leaf_amount side there ≡ pos 0 → leaf_amount side there *ℤ w ≡ pos 0
amount_nowhere side there w e = ap (λ (a : ℤ). a *ℤ w) e ∙ zero-*ℤ w

module _ (s : SeqsView) (side : Side) (seq : ℕ) (g : GameView) (count : ℕ) (passes : PlanTest) (tells : TellsLeft s side seq count passes)
    (pair : Pair) where
  abbrev mine : List (Option ℕ)
  mine = plan_of side pair.one pair.two

  abbrev theirs : List (Option ℕ)
  theirs = plan_of (other side) pair.one pair.two

  -- where a plan plays the trigger's sequence the test says what the other's plan plays
  pub tells_other : Plays (side_of side s) mine seq → (n : ℕ) → n < count
      → (passes n mine theirs ≡ true) ↔ Plays (side_of (other side) s) theirs (slice_index (side_of (other side) s).nodes n)
  tells_other own n low = (
    λ h. ((tells n low mine theirs).0 h).1,
    λ plays. (tells n low mine theirs).1 (own, plays),
  )

  -- where it doesn't the pair pays nothing
  pub pays_nothing : (Plays (side_of side s) mine seq → ⊥) → (n : ℕ) → n < count → paid_in_pair side g passes pair n ≡ pos 0
  pays_nothing away n low =
      let fails = told_false (passes n mine theirs) (tells n low mine theirs) (λ plays. away plays.0) in
      ap (λ (b : Bool). leaf_amount side (slice_get g.nodes n) *ℤ cond b pair.weight (pos 0)) fails
      ∙ *ℤ-zero (leaf_amount side (slice_get g.nodes n))

pub no_leaf : (side : Side) (there : Option Node) (node : Node) → there ≡ Some node → ((pay : Pay) → node ≡ Leaf pay → ⊥)
    → leaf_amount side there ≡ pos 0
no_leaf side there (Leaf pay) e not_leaf = absurd (not_leaf pay refl)
no_leaf side there (Chance kids) e not_leaf = ap (leaf_amount side) e
no_leaf side there (Choice mover set kids) e not_leaf = ap (leaf_amount side) e

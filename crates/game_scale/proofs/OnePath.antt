-- A node of a file's game has one path: it is a kid in one place at most, and a fraction has one form in lowest terms.
use Rattle.std.proofs.Common.{◌≡◌, ℕ, ◌<◌, pos, Some, slice_get, ap, sym, subst, ◌∙◌, arith}
use Rattle.std.proofs.lemmas.Int.{ints}
use Rattle.std.proofs.lemmas.Option.{same_Some}
use Rattle.exact_algebra.proofs.Fractions.{fraction_trans_same}
use Rattle.corr_game.specs.Node.{kids_of}
use Rattle.corr_num.specs.Fraction.{Fraction, IsReduced, fraction_product, fraction_sum}
use Rattle.corr_num.proofs.LowestTerms.{lowest_unique}
use Rattle.efg_lines.specs.File.{FileView}
use Rattle.efg_reader.proofs.OneParent.{kid_behind, kid_once}
use Rattle.efg_reader.specs.FileGame.{IsGameOf}
use Rattle.efg_reader.specs.RawGame.{RawGameView, bare_node}
use Rattle.efg_reader.specs.declared.raw_game.RawNode.{RawNode}
use Rattle.efg_reader.specs.declared.raw_game.Shape.{Shape}
use Rattle.efg_reader.specs.declared.raw_game.Shape.TheVariants.{Leaf, Chance, Choice}
use Rattle.game_scale.specs.Paths.{PathView, IsPath, IsReached, LeadsWith, before_root, certain}
use Rattle.game_scale.specs.Paths.IsPath.{root, further}

-- each node is a kid in one place at most, behind its parent
pub record IsTree (raw : RawGameView) : Type 0 where
  pub once : (m n k l kid : ℕ) (a b : RawNode) → slice_get raw.nodes m ≡ Some a → slice_get raw.nodes n ≡ Some b
      → slice_get (kids_of (bare_node a.shape)) k ≡ Some kid → slice_get (kids_of (bare_node b.shape)) l ≡ Some kid → (m ≡ n) × (k ≡ l)
  pub behind : (m k kid : ℕ) (a : RawNode) → slice_get raw.nodes m ≡ Some a → slice_get (kids_of (bare_node a.shape)) k ≡ Some kid → m < kid

pub tree_of : (file : FileView) (raw : RawGameView) → IsGameOf file raw → IsTree raw
tree_of file raw said = record {
  once = λ m n k l kid a b here there h e. kid_once file raw m n k l kid a b said here there h e;
  behind = λ m k kid a here h. kid_behind file raw m k kid a said here h;
}

-- a fraction has one form in lowest terms
reduced_once : (a b p : Fraction) → IsReduced a p → IsReduced b p → a ≡ b
reduced_once a b p h k =
    let some : (p.den ≡ pos 0) → ⊥ = λ z. absurd (omega (arith, ints, h.lowest.positive, h.den_bound, z)) in
    lowest_unique a b h.lowest k.lowest (fraction_trans_same a.num a.den p.num p.den b.num b.den some h.same (sym k.same))

path_with : Fraction → Fraction → Fraction → PathView
path_with chance one two = record { chance = chance; one = one; two = two }

reached_once : (a b before : PathView) (prob : Fraction) (node : RawNode) → IsReached a before prob node → IsReached b before prob node
    → a ≡ b
unfolding path_with
reached_once a b before prob node h k =
    let chance = reduced_once a.chance b.chance (fraction_product before.chance prob) h.chance k.chance in
    let one = reduced_once a.one b.one (fraction_sum before.one node.one) h.one k.one in
    let two = reduced_once a.two b.two (fraction_sum before.two node.two) h.two k.two in
    λ i. path_with (chance i) (one i) (two i)

leads_once : (shape : Shape) (k : ℕ) (p q : Fraction) → LeadsWith shape k p → LeadsWith shape k q → p ≡ q
leads_once Leaf k p q h e = absurd h
leads_once (Chance kids probs) k p q h e = same_Some p q (sym h ∙ e)
leads_once (Choice side set kids) k p q h e = h ∙ sym e

-- how the path to the root is reached
record IsFirst (raw : RawGameView) (path : PathView) : Type 0 where
  node : RawNode
  here : slice_get raw.nodes 0 ≡ Some node
  reached : IsReached path before_root certain node

-- and the path to a kid of a node
record IsNext (raw : RawGameView) (n k kid : ℕ) (node : RawNode) (longer : PathView) : Type 0 where
  below : RawNode
  prob : Fraction
  path : PathView
  before : IsPath raw n path
  leads : LeadsWith node.shape k prob
  there : slice_get raw.nodes kid ≡ Some below
  reached : IsReached longer path prob below

module _ (raw : RawGameView) (tree : IsTree raw) where
  to_root : (path : PathView) → IsPath raw 0 path → IsFirst raw path
  to_root _ (root node path here reached) = record { node = node; here = here; reached = reached }
  to_root _ (further n k _ node below prob path longer before here at leads there reached) =
      absurd (omega (arith, tree.behind n k 0 node here at))

  to_kid : (n k kid : ℕ) (node : RawNode) → slice_get raw.nodes n ≡ Some node → slice_get (kids_of (bare_node node.shape)) k ≡ Some kid
      → (longer : PathView) → IsPath raw kid longer → IsNext raw n k kid node longer
  to_kid n k _ node here at _ (root first path at_root reached) = absurd (omega (arith, tree.behind n k 0 node here at))
  to_kid n k _ node here at _ (further m l kid own below prob path longer before there on leads under reached) =
      let place = tree.once m n l k kid own node there here on at in
      let same : own ≡ node = same_Some own node (sym there ∙ ap (λ (j : ℕ). slice_get raw.nodes j) place.0 ∙ here) in
      let step : LeadsWith node.shape l prob = subst (λ (r : RawNode). LeadsWith r.shape l prob) same leads in
      record {
        below = below;
        prob = prob;
        path = path;
        before = subst (λ (j : ℕ). IsPath raw j path) place.0 before;
        leads = subst (λ (j : ℕ). LeadsWith node.shape j prob) place.1 step;
        there = under;
        reached = reached;
      }

  pub path_once : (n : ℕ) (a b : PathView) → IsPath raw n a → IsPath raw n b → a ≡ b
  path_once _ _ b (root node path here reached) h =
      let other = to_root b h in
      let same : other.node ≡ node = same_Some other.node node (sym other.here ∙ here) in
      reached_once path b before_root certain node reached (subst (λ (r : RawNode). IsReached b before_root certain r) same other.reached)
  path_once _ _ b (further n k kid node below prob path longer before here at leads there reached) h =
      let other = to_kid n k kid node here at b h in
      let same : other.below ≡ below = same_Some other.below below (sym other.there ∙ there) in
      let way : other.path ≡ path = sym (path_once n path other.path before other.before) in
      let chance : other.prob ≡ prob = leads_once node.shape k other.prob prob other.leads leads in
      let first : IsReached b path other.prob other.below =
      subst (λ (p : PathView). IsReached b p other.prob other.below) way other.reached in
      let second : IsReached b path prob other.below = subst (λ (p : Fraction). IsReached b path p other.below) chance first in
      reached_once longer b path prob below reached (subst (λ (r : RawNode). IsReached b path prob r) same second)

pub file_path_once : (file : FileView) (raw : RawGameView) (n : ℕ) (a b : PathView) → IsGameOf file raw → IsPath raw n a → IsPath raw n b
    → a ≡ b
file_path_once file raw n a b said h k = path_once raw (tree_of file raw said) n a b h k

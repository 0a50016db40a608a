-- The game of a file has one game with whole amounts: one list of paths, the least scale of each player, one amount a leaf.
use Rattle.std.proofs.Common.{◌≡◌, ℕ, suc, ℤ, pos, ◌<ℤ◌, List, [], ◌∷◌, Some, length, slice_get, refl, ap, sym, subst, ◌∙◌, arith}
use Rattle.std.proofs.lemmas.Int.{ints}
use Rattle.exact_algebra.proofs.Order.{product_positive}
use Rattle.corr_game.specs.declared.nodes.Node.{Node}
use Rattle.corr_game.specs.declared.nodes.Node.TheVariants as node
use Rattle.corr_game.specs.declared.nodes.SetInfo.{SetInfo}
use Rattle.corr_game.specs.declared.payoffs.Pay.{Pay}
use Rattle.corr_game.specs.declared.sides.Side.{Side}
use Rattle.corr_game.specs.declared.sides.Side.TheVariants.{One, Two}
use Rattle.corr_game.specs.Game.{GameView, scale_of}
use Rattle.efg_lines.specs.File.{FileView}
use Rattle.efg_reader.specs.FileGame.{IsGameOf}
use Rattle.efg_reader.specs.RawGame.{RawGameView}
use Rattle.efg_reader.specs.declared.raw_game.RawNode.{RawNode}
use Rattle.efg_reader.specs.declared.raw_game.Shape.{Shape}
use Rattle.efg_reader.specs.declared.raw_game.Shape.TheVariants as shape
use Rattle.game_scale.specs.Amounts.{IsPaid, IsScaledNode}
use Rattle.game_scale.specs.Paths.{ArePaths, IsPath, PathView, weighted}
use Rattle.game_scale.specs.Paths.IsPath.{root, further}
use Rattle.game_scale.specs.Scaled.{IsScaled}
use Rattle.game_scale.specs.Scales.{AreScales, IsLeastScale, IsTimes}
use Rattle.game_scale.proofs.Multiples.{times_unique}
use Rattle.game_scale.proofs.OnePath.{path_once, tree_of, IsTree}
use Rattle.game_scale.proofs.RawTree.{same_count}
use Rattle.game_scale.proofs.ScaledNodes.{there, within}

-- lists whose elements are the same are one
list_same : {X : Type 0} (xs ys : List X) → length xs ≡ length ys
    → ((n : ℕ) (x y : X) → slice_get xs n ≡ Some x → slice_get ys n ≡ Some y → x ≡ y) → xs ≡ ys
list_same [] [] count each = refl
list_same [] (y ∷ ys) count each = absurd (omega (arith, count))
list_same (x ∷ xs) [] count each = absurd (omega (arith, count))
list_same (x ∷ xs) (y ∷ ys) count each =
    let first : x ≡ y = each 0 x y refl refl in
    let rest : xs ≡ ys = list_same xs ys (omega (arith, count)) (λ n u v e f. each (suc n) u v e f) in
    λ i. first i ∷ rest i

-- what a path pays has a denominator above 0
pub weighted_some : (raw : RawGameView) (side : Side) (n : ℕ) (path : PathView) → IsPath raw n path → pos 0 <ℤ (weighted side path).den
weighted_some raw One _ _ (root own path here reached) = product_positive reached.chance.lowest.positive reached.one.lowest.positive
weighted_some raw Two _ _ (root own path here reached) = product_positive reached.chance.lowest.positive reached.two.lowest.positive
weighted_some raw One _ _ (further n k kid own below prob path longer before here at leads under reached) =
    product_positive reached.chance.lowest.positive reached.one.lowest.positive
weighted_some raw Two _ _ (further n k kid own below prob path longer before here at leads under reached) =
    product_positive reached.chance.lowest.positive reached.two.lowest.positive

least_once : (side : Side) (nodes : List RawNode) (paths : List PathView) (s t : ℤ) → IsLeastScale side nodes paths s
    → IsLeastScale side nodes paths t → s ≡ t
least_once side nodes paths s t h k = omega (arith, ints, h.least t k.positive k.whole, k.least s h.positive h.whole)

pays : ℤ → ℤ → Pay
pays one two = record { one = one; two = two }

-- a path pays one amount at a scale
pub amount_once : (side : Side) (path : PathView) (s t a b : ℤ) → s ≡ t → pos 0 <ℤ (weighted side path).den
    → IsTimes s (weighted side path) a → IsTimes t (weighted side path) b → a ≡ b
amount_once side path s t a b same some h k =
    times_unique (weighted side path) s a b some h (subst (λ (z : ℤ). IsTimes z (weighted side path) b) (sym same) k)

module _ (s t : Side → ℤ) (same : (side : Side) → s side ≡ t side) (path : PathView)
    (some : (side : Side) → pos 0 <ℤ (weighted side path).den) where
  pay_once : (x y : Pay) → IsPaid s path x → IsPaid t path y → x ≡ y
  unfolding pays
  pay_once x y h k =
      let one : x.one ≡ y.one = amount_once One path (s One) (t One) x.one y.one (same One) (some One) (h One).0 (k One).0 in
      let two : x.two ≡ y.two = amount_once Two path (s Two) (t Two) x.two y.two (same Two) (some Two) (h Two).0 (k Two).0 in
      λ i. pays (one i) (two i)

  pub node_once : (happening : Shape) (x y : Node) → IsScaledNode s path happening x → IsScaledNode t path happening y → x ≡ y
  node_once shape.Leaf x y (pay, is, paid) (other, are, too) = is ∙ ap (λ (p : Pay). node.Leaf p) (pay_once pay other paid too) ∙ sym are
  node_once (shape.Chance kids probs) x y h k = h ∙ sym k
  node_once (shape.Choice side set kids) x y h k = h ∙ sym k

game_with : List Node → List SetInfo → List SetInfo → ℤ → ℤ → GameView
game_with nodes one two a b = record { nodes = nodes; one = one; two = two; scale_one = a; scale_two = b }

module _ (raw : RawGameView) (tree : IsTree raw) where
  -- a game has one list of paths
  pub paths_once : (ps qs : List PathView) → ArePaths raw ps → ArePaths raw qs → ps ≡ qs
  paths_once ps qs h k =
      list_same ps qs (h.per_node ∙ sym k.per_node) (λ n x y e f. path_once raw tree n x y (h.each n x e).0 (k.each n y f).0)

  -- and each player one scale
  pub scales_once : (ps qs : List PathView) (s t : Side → ℤ) → ArePaths raw ps → ArePaths raw qs → AreScales raw.nodes ps s
      → AreScales raw.nodes qs t → (side : Side) → s side ≡ t side
  scales_once ps qs s t h k least smallest side =
      least_once side raw.nodes ps (s side) (t side) (least side).0
      (subst (λ (paths : List PathView). IsLeastScale side raw.nodes paths (t side)) (sym (paths_once ps qs h k)) (smallest side).0)

  pub scaling_once : (a b : GameView) → IsScaled raw a → IsScaled raw b → a ≡ b
  unfolding game_with
  scaling_once a b h k =
      let scales = scales_once h.paths k.paths (λ side. scale_of side a) (λ side. scale_of side b) h.reached k.reached h.scales k.scales in
      let count = same_count a.nodes raw.nodes h.tree.nodes in
      let nodes = list_same a.nodes b.nodes (count ∙ sym (same_count b.nodes raw.nodes k.tree.nodes)) (λ n x y e f.
      let low = within a.nodes n x e in
      let own = there raw.nodes n (omega (arith, low, count)) in
      let path = there h.paths n (omega (arith, low, count, h.reached.per_node)) in
      let other = there k.paths n (omega (arith, low, count, k.reached.per_node)) in
      let is = (h.reached.each n path.0 path.1).0 in
      let same : other.0 ≡ path.0 = path_once raw tree n other.0 path.0 (k.reached.each n other.0 other.1).0 is in
      let second = subst (λ (p : PathView). IsScaledNode (λ side. scale_of side b) p own.0.shape y) same
      (k.nodes n own.0 other.0 y own.1 other.1 f) in
      node_once (λ side. scale_of side a) (λ side. scale_of side b) scales path.0
      (λ side. weighted_some raw side n path.0 is) own.0.shape x y (h.nodes n own.0 path.0 x own.1 path.1 e) second) in
      let one = h.tree.one ∙ sym k.tree.one in
      let two = h.tree.two ∙ sym k.tree.two in
      let first : a.scale_one ≡ b.scale_one = scales One in
      let second : a.scale_two ≡ b.scale_two = scales Two in
      λ i. game_with (nodes i) (one i) (two i) (first i) (second i)

pub file_scaling_once : (file : FileView) (raw : RawGameView) (a b : GameView) → IsGameOf file raw → IsScaled raw a → IsScaled raw b → a ≡ b
file_scaling_once file raw a b said h k = scaling_once raw (tree_of file raw said) a b h k

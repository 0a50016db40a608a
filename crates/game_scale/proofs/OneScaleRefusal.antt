-- A file's game is refused for its scales in one way, and in none where it has a game with whole amounts.
use Rattle.std.proofs.Common.{◌≡◌, ℕ, ◌<◌, ◌≤◌, ◌^◌, ℤ, pos, ◌<ℤ◌, ◌≤ℤ◌, unsigned_abs, inl, inr, List, Some, length, slice_get, refl, ap}
use Rattle.std.proofs.Common.{subst, arith}
use Rattle.std.proofs.lemmas.Bool.{cases_lt}
use Rattle.std.proofs.lemmas.Int.{ints}
use Rattle.corr_game.specs.declared.payoffs.Pay.{Pay}
use Rattle.corr_game.specs.declared.sides.Side.{Side}
use Rattle.corr_game.specs.declared.sides.Side.TheVariants.{One, Two}
use Rattle.corr_game.specs.Game.{GameView, scale_of}
use Rattle.corr_game.specs.Node.{amount_of}
use Rattle.efg_lines.specs.File.{FileView}
use Rattle.efg_reader.specs.FileGame.{IsGameOf}
use Rattle.efg_reader.specs.RawGame.{RawGameView}
use Rattle.efg_reader.specs.declared.raw_game.RawNode.{RawNode}
use Rattle.efg_reader.specs.declared.raw_game.Shape.{Shape}
use Rattle.efg_reader.specs.declared.raw_game.Shape.TheVariants as shape
use Rattle.game_scale.specs.declared.refusal.ScaleRefusal.{ScaleRefusal}
use Rattle.game_scale.specs.declared.refusal.ScaleRefusal.TheVariants.{PathTooFine, ScaleTooLarge, AmountTooLarge, NoMemory}
use Rattle.game_scale.specs.Amounts.{IsOverpaid, IsPaid, IsScaledNode}
use Rattle.game_scale.specs.Paths.{ArePaths, IsPath, IsWithin, PathView, weighted}
use Rattle.game_scale.specs.Paths.IsPath.{root, further}
use Rattle.game_scale.specs.Refusal.{IsPathTooFine}
use Rattle.game_scale.specs.Scaled.{HasNoAmount, HasNoScale, IsRefused, IsScaled}
use Rattle.game_scale.specs.Scales.{AreScales, IsLeastScale, IsScaleTooLarge}
use Rattle.game_scale.proofs.OnePath.{path_once, tree_of, IsTree}
use Rattle.game_scale.proofs.OneScaling.{amount_once, paths_once, scales_once, weighted_some}
use Rattle.game_scale.proofs.RawTree.{same_count}
use Rattle.game_scale.proofs.ScaledNodes.{there, within}

-- a path leads to a node
path_there : (raw : RawGameView) (n : ℕ) (path : PathView) → IsPath raw n path → n < length raw.nodes
path_there raw _ _ (root own path here reached) = within raw.nodes 0 own here
path_there raw _ _ (further n k kid own below prob path longer before here at leads under reached) = within raw.nodes kid below under

-- what is paid within the limits isn't over them
paid_or_over : (s t : Side → ℤ) (path : PathView) → ((side : Side) → s side ≡ t side) → ((side : Side) → pos 0 <ℤ (weighted side path).den)
    → (pay : Pay) → IsPaid s path pay → IsOverpaid t path → ⊥
paid_or_over s t path same some pay paid (side, amount, is, over) =
    let equal : amount_of side pay ≡ amount =
    amount_once side path (s side) (t side) (amount_of side pay) amount (same side) (some side) (paid side).0 is in
    let low : unsigned_abs amount ≤ 2 ^ 28 = subst (λ (z : ℤ). unsigned_abs z ≤ 2 ^ 28) equal (paid side).1 in
    omega (arith, low, over)

-- a scale within 2^24 isn't over it
scale_or_over : (side : Side) (nodes : List RawNode) (ps qs : List PathView) (scale : ℤ) → qs ≡ ps → IsLeastScale side nodes ps scale
    → scale ≤ℤ pos (2 ^ 24)
    → IsScaleTooLarge side nodes qs → ⊥
scale_or_over side nodes ps qs scale same least low over =
    let large = subst (λ (paths : List PathView). IsScaleTooLarge side nodes paths) same over in
    omega (arith, ints, low, large scale least.positive least.whole)

-- a leaf of a game with whole amounts is paid
leaf_paid : (raw : RawGameView) (g : GameView) (n : ℕ) (scaled : IsScaled raw g) (own : RawNode) (path : PathView)
    → slice_get raw.nodes n ≡ Some own
    → slice_get scaled.paths n ≡ Some path → own.shape ≡ shape.Leaf → (pay : Pay) × IsPaid (λ side. scale_of side g) path pay
leaf_paid raw g n scaled own path here at leaf =
    let node = there g.nodes n (omega (arith, within raw.nodes n own here, same_count g.nodes raw.nodes scaled.tree.nodes)) in
    let is : IsScaledNode (λ side. scale_of side g) path shape.Leaf node.0 =
    subst (λ (happening : Shape). IsScaledNode (λ side. scale_of side g) path happening node.0) leaf
    (scaled.nodes n own path node.0 here at node.1) in
    (is.0, is.2)

module _ (raw : RawGameView) (tree : IsTree raw) where
  -- paths that are all within the limits
  paths_or_fine : (ps : List PathView) (n : ℕ) → ArePaths raw ps → IsPathTooFine raw n → ⊥
  paths_or_fine ps n paths fine =
      let at = there ps n (omega (arith, paths.per_node, path_there raw n fine.path fine.reached)) in
      let own = paths.each n at.0 at.1 in
      fine.beyond (subst (λ (p : PathView). IsWithin p) (path_once raw tree n at.0 fine.path own.0 fine.reached) own.1)

  -- scales that are all within the limits
  scales_or_over : (side : Side) (ps : List PathView) (scale : Side → ℤ) → ArePaths raw ps → AreScales raw.nodes ps scale
      → HasNoScale raw (ScaleTooLarge side) → ⊥
  scales_or_over One ps scale paths scales no_scale =
      let same = paths_once raw tree no_scale.paths ps no_scale.reached paths in
      scale_or_over One raw.nodes ps no_scale.paths (scale One) same (scales One).0 (scales One).1 no_scale.refused
  scales_or_over Two ps scale paths scales no_scale =
      let same = paths_once raw tree no_scale.paths ps no_scale.reached paths in
      scale_or_over Two raw.nodes ps no_scale.paths (scale Two) same (scales Two).0 (scales Two).1 no_scale.refused.0

  -- where player 2 is refused, player 1 has a scale
  one_or_two : HasNoScale raw (ScaleTooLarge One) → HasNoScale raw (ScaleTooLarge Two) → ⊥
  one_or_two first second =
      let same = paths_once raw tree first.paths second.paths first.reached second.reached in
      let scale = second.refused.1 in
      scale_or_over One raw.nodes second.paths first.paths scale.0 same scale.1 scale.2 first.refused

  -- a leaf that is paid within the limits
  leaf_or_over : (n : ℕ) (no_amount : HasNoAmount raw n) (ps : List PathView) (scale : Side → ℤ) → ArePaths raw ps
      → AreScales raw.nodes ps scale
      → ((own : RawNode) (path : PathView) → slice_get raw.nodes n ≡ Some own → slice_get ps n ≡ Some path
      → own.shape ≡ shape.Leaf → (pay : Pay) × IsPaid scale path pay)
      → ⊥
  leaf_or_over n no_amount ps scale paths scales each =
      let refused = no_amount.refused in
      let list : no_amount.paths ≡ ps = paths_once raw tree no_amount.paths ps no_amount.reached paths in
      let here : slice_get ps n ≡ Some refused.path =
      subst (λ (qs : List PathView). slice_get qs n ≡ Some refused.path) list refused.reached in
      let paid = each refused.raw refused.path refused.node here refused.leaf in
      let is = (no_amount.reached.each n refused.path refused.reached).0 in
      paid_or_over scale no_amount.scale refused.path
      (scales_once raw tree ps no_amount.paths scale no_amount.scale paths no_amount.reached scales no_amount.scales)
      (λ side. weighted_some raw side n refused.path is) paid.0 paid.1 refused.over

  pub scaled_refusal : (g : GameView) (refusal : ScaleRefusal) → IsScaled raw g → IsRefused raw refusal → refusal ≡ NoMemory
  scaled_refusal g (PathTooFine n) scaled refused = absurd (paths_or_fine scaled.paths n scaled.reached refused)
  scaled_refusal g (ScaleTooLarge side) scaled refused =
      absurd (scales_or_over side scaled.paths (λ s. scale_of s g) scaled.reached scaled.scales refused)
  scaled_refusal g (AmountTooLarge n) scaled refused =
      absurd (leaf_or_over n refused scaled.paths (λ s. scale_of s g) scaled.reached scaled.scales
      (λ own path here at leaf. leaf_paid raw g n scaled own path here at leaf))
  scaled_refusal g NoMemory scaled refused = refl

  -- of two nodes whose paths are beyond the limits the first has none before it
  fine_before : (n m : ℕ) → n < m → IsPathTooFine raw n → IsPathTooFine raw m → ⊥
  fine_before n m low first second =
      let earlier = second.before n low in
      first.beyond (subst (λ (p : PathView). IsWithin p) (path_once raw tree n earlier.0 first.path earlier.1 first.reached) earlier.2)

  fine_once : (n m : ℕ) → IsPathTooFine raw n → IsPathTooFine raw m → n ≡ m
  fine_once n m h k = elim (cases_lt n m) [
    | inl low ↦ absurd (fine_before n m low h k)
    | inr high ↦ elim (cases_lt m n) [ inl low ↦ absurd (fine_before m n low k h) | inr equal ↦ omega (arith, high, equal) ]
  ]

  amount_before : (n m : ℕ) → n < m → HasNoAmount raw n → HasNoAmount raw m → ⊥
  amount_before n m low h k =
      leaf_or_over n h k.paths k.scale k.reached k.scales (λ own path here at leaf. k.refused.before n own path low here at leaf)

  amount_once_too_large : (n m : ℕ) → HasNoAmount raw n → HasNoAmount raw m → n ≡ m
  amount_once_too_large n m h k = elim (cases_lt n m) [
    | inl low ↦ absurd (amount_before n m low h k)
    | inr high ↦ elim (cases_lt m n) [ inl low ↦ absurd (amount_before m n low k h) | inr equal ↦ omega (arith, high, equal) ]
  ]

  scales_refused_once : (a b : Side) → HasNoScale raw (ScaleTooLarge a) → HasNoScale raw (ScaleTooLarge b) → a ≡ b
  scales_refused_once One One h k = refl
  scales_refused_once One Two h k = absurd (one_or_two h k)
  scales_refused_once Two One h k = absurd (one_or_two k h)
  scales_refused_once Two Two h k = refl

  pub refusal_once : (a b : ScaleRefusal) → (a ≡ NoMemory → ⊥) → (b ≡ NoMemory → ⊥) → IsRefused raw a → IsRefused raw b → a ≡ b
  refusal_once NoMemory b some other h k = absurd (some refl)
  refusal_once (PathTooFine n) NoMemory some other h k = absurd (other refl)
  refusal_once (PathTooFine n) (PathTooFine m) some other h k = ap (λ (x : ℕ). PathTooFine x) (fine_once n m h k)
  refusal_once (PathTooFine n) (ScaleTooLarge side) some other h k = absurd (paths_or_fine k.paths n k.reached h)
  refusal_once (PathTooFine n) (AmountTooLarge m) some other h k = absurd (paths_or_fine k.paths n k.reached h)
  refusal_once (ScaleTooLarge side) NoMemory some other h k = absurd (other refl)
  refusal_once (ScaleTooLarge side) (PathTooFine m) some other h k = absurd (paths_or_fine h.paths m h.reached k)
  refusal_once (ScaleTooLarge a) (ScaleTooLarge b) some other h k = ap (λ (x : Side). ScaleTooLarge x) (scales_refused_once a b h k)
  refusal_once (ScaleTooLarge side) (AmountTooLarge m) some other h k = absurd (scales_or_over side k.paths k.scale k.reached k.scales h)
  refusal_once (AmountTooLarge n) NoMemory some other h k = absurd (other refl)
  refusal_once (AmountTooLarge n) (PathTooFine m) some other h k = absurd (paths_or_fine h.paths m h.reached k)
  refusal_once (AmountTooLarge n) (ScaleTooLarge side) some other h k = absurd (scales_or_over side h.paths h.scale h.reached h.scales k)
  refusal_once (AmountTooLarge n) (AmountTooLarge m) some other h k = ap (λ (x : ℕ). AmountTooLarge x) (amount_once_too_large n m h k)

pub scaled_not_refused : (file : FileView) (raw : RawGameView) (g : GameView) (refusal : ScaleRefusal) → IsGameOf file raw → IsScaled raw g
    → IsRefused raw refusal → refusal ≡ NoMemory
scaled_not_refused file raw g refusal said scaled refused = scaled_refusal raw (tree_of file raw said) g refusal scaled refused

pub refused_once : (file : FileView) (raw : RawGameView) (a b : ScaleRefusal) → IsGameOf file raw → (a ≡ NoMemory → ⊥) → (b ≡ NoMemory → ⊥)
    → IsRefused raw a → IsRefused raw b → a ≡ b
refused_once file raw a b said some other h k = refusal_once raw (tree_of file raw said) a b some other h k

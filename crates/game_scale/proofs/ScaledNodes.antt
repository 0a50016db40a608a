-- One node more is scaled: the first that is left of the file's nodes goes behind those that are scaled.
use Rattle.std.proofs.Common.{◌≡◌, ℕ, zero, suc, ◌+◌, ◌<◌, get_or, ℤ, List, [], ◌∷◌, ◌++◌, ◌⊎◌, inl, inr, Some, length, map, drop, slice_get, refl, ap, sym, subst, ◌∙◌, arith}
use Rattle.std.proofs.lemmas.List.{append_assoc, map_push}
use Rattle.std.proofs.lemmas.Option.{slice_get-get_or, same_Some}
use Rattle.corr_game.specs.declared.nodes.Node.{Node}
use Rattle.corr_game.specs.declared.sides.Side.{Side}
use Rattle.corr_game.specs.declared.sides.Side.TheVariants.{One, Two}
use Rattle.efg_reader.specs.RawGame.{bare_node, bare_nodes}
use Rattle.efg_reader.specs.declared.raw_game.RawNode.{RawNode}
use Rattle.efg_reader.specs.declared.raw_game.Shape.{Shape}
use Rattle.efg_reader.specs.declared.raw_game.Shape.TheVariants as shape
use Rattle.corr_game.specs.declared.payoffs.Pay.{Pay}
use Rattle.game_scale.specs.Amounts.{IsPaid, IsOverpaid, IsScaledNode, AreScaledNodes}
use Rattle.game_scale.specs.Paths.{PathView, IsLeaf}
use Rattle.game_scale.specs.Refusal.{IsAmountTooLarge}
use Rattle.game_scale.specs.Tree.{without_pay}
use Rattle.game_scale.proofs.SameTree.{IsFewPaid}

-- the first of what is left is the next element
pub front : {X : Type 0} (xs : List X) (n : ℕ) (x : X) (rest : List X) → drop n xs ≡ x ∷ rest → (slice_get xs n ≡ Some x) × (drop (n + 1) xs ≡ rest)
front [] zero x rest h = absurd (cc)
front [] (suc n) x rest h = absurd (cc)
front (y ∷ ys) zero x rest h = let first : y ≡ x = cc in let behind : ys ≡ rest = cc in (ap Some first, behind)
front (y ∷ ys) (suc n) x rest h = let e : suc n + 1 ≡ suc (n + 1) = omega arith in rw e (front ys n x rest h)

-- an element of a list with one more at its end
pub slice_get-push : {X : Type 0} (xs : List X) (y x : X) (k : ℕ) → slice_get (xs ++ y ∷ []) k ≡ Some x → (slice_get xs k ≡ Some x) ⊎ ((k ≡ length xs) × (y ≡ x))
slice_get-push [] y x zero h = inr (refl, (cc))
slice_get-push [] y x (suc k) h = absurd (cc)
slice_get-push (z ∷ zs) y x zero h = inl h
slice_get-push (z ∷ zs) y x (suc k) h =
    elim (slice_get-push zs y x k h) [ inl there ↦ inl there | inr here ↦ inr (omega (arith, here.0), here.1) ]

-- what stands at an index
pub found : {X : Type 0} (xs : List X) (n k : ℕ) (x : X) → n ≡ k → n < length xs → x ≡ get_or xs n x → slice_get xs k ≡ Some x
found xs n k x same low is = rw (← same) (slice_get-get_or xs n x low ∙ ap Some (sym is))

-- without what it pays, a scaled node is that of the file
pub bare_scaled : (scale : Side → ℤ) (path : PathView) (here : Shape) (own : Node) → IsScaledNode scale path here own → without_pay own ≡ bare_node here
bare_scaled scale path shape.Leaf own (pay, is, paid) = ap without_pay is
bare_scaled scale path (shape.Chance kids probs) own is = ap without_pay is
bare_scaled scale path (shape.Choice side set kids) own is = ap without_pay is

pub tree_more : (all rest : List RawNode) (raw : RawNode) (scaled more : List Node) (own : Node) (left : List RawNode)
    → map without_pay scaled ++ bare_nodes left ≡ bare_nodes all → left ≡ raw ∷ rest → more ≡ scaled ++ own ∷ [] → without_pay own ≡ bare_node raw.shape
    → map without_pay more ++ bare_nodes rest ≡ bare_nodes all
tree_more all rest raw scaled more own left before first push same =
    let longer : map without_pay more ≡ map without_pay scaled ++ without_pay own ∷ [] = ap (map without_pay) push ∙ map_push without_pay scaled own in
    let own_is : without_pay own ∷ bare_nodes rest ≡ bare_nodes left = ap (λ (n : Node). n ∷ bare_nodes rest) same ∙ ap bare_nodes (sym first) in
    ap (λ (ns : List Node). ns ++ bare_nodes rest) longer
    ∙ append_assoc (map without_pay scaled) (without_pay own ∷ []) (bare_nodes rest)
    ∙ ap (λ (ns : List Node). map without_pay scaled ++ ns) own_is
    ∙ before

pub each_more : (scale : Side → ℤ) (nodes : List RawNode) (paths : List PathView) (scaled more : List Node) (raw : RawNode) (path : PathView) (own : Node)
    → AreScaledNodes scale nodes paths scaled → more ≡ scaled ++ own ∷ [] → slice_get nodes (length scaled) ≡ Some raw → slice_get paths (length scaled) ≡ Some path
    → IsScaledNode scale path raw.shape own → AreScaledNodes scale nodes paths more
each_more scale nodes paths scaled more raw path own before push raw_at path_at is n raw' path' own' e f g =
    let pushed : slice_get (scaled ++ own ∷ []) n ≡ Some own' = subst (λ (ns : List Node). slice_get ns n ≡ Some own') push g in
    elim (slice_get-push scaled own own' n pushed) [
      | inl there ↦ before n raw' path' own' e f there
      | inr (last, same) ↦
          let raws : raw ≡ raw' = same_Some raw raw' (sym raw_at ∙ subst (λ (k : ℕ). slice_get nodes k ≡ Some raw') last e) in
          let paths_same : path ≡ path' = same_Some path path' (sym path_at ∙ subst (λ (k : ℕ). slice_get paths k ≡ Some path') last f) in
          let first : IsScaledNode scale path' raw.shape own = subst (λ (p : PathView). IsScaledNode scale p raw.shape own) paths_same is in
          let second : IsScaledNode scale path' raw'.shape own = subst (λ (r : RawNode). IsScaledNode scale path' r.shape own) raws first in
          subst (λ (o : Node). IsScaledNode scale path' raw'.shape o) same second
    ]

-- an element that is there stands below the length
pub within : {X : Type 0} (xs : List X) (n : ℕ) (x : X) → slice_get xs n ≡ Some x → n < length xs
within [] n x h = absurd (cc)
within (y ∷ ys) zero x h = omega arith
within (y ∷ ys) (suc n) x h = omega (arith, within ys n x h)

pub there : {X : Type 0} (xs : List X) (n : ℕ) → n < length xs → (x : X) × (slice_get xs n ≡ Some x)
there [] n h = absurd (omega arith)
there (x ∷ xs) zero h = (x, refl)
there (x ∷ xs) (suc n) h = there xs n (omega arith)

-- a leaf that is scaled is paid
leaf_paid : (scale : Side → ℤ) (path : PathView) (here : Shape) (own : Node) → IsLeaf here → IsScaledNode scale path here own → (pay : Pay) × IsPaid scale path pay
leaf_paid scale path shape.Leaf own leaf (pay, is, paid) = (pay, paid)
leaf_paid scale path (shape.Chance kids probs) own leaf is = absurd (cc)
leaf_paid scale path (shape.Choice side set kids) own leaf is = absurd (cc)

pub too_large : (scale : Side → ℤ) (nodes : List RawNode) (paths : List PathView) (scaled : List Node) (raw : RawNode) (path : PathView)
    → AreScaledNodes scale nodes paths scaled → slice_get nodes (length scaled) ≡ Some raw → slice_get paths (length scaled) ≡ Some path
    → IsLeaf raw.shape → IsOverpaid scale path → IsAmountTooLarge scale nodes paths (length scaled)
too_large scale nodes paths scaled raw path before raw_at path_at leaf over = record {
  raw = raw;
  path = path;
  node = raw_at;
  reached = path_at;
  leaf = leaf;
  over = over;
  before = λ m earlier on low e f is_leaf. let own = there scaled m low in leaf_paid scale on earlier.shape own.0 is_leaf (before m earlier on own.0 e f own.1);
}

few_paid : (scale : Side → ℤ) (path : PathView) (here : Shape) (own : Node) → IsScaledNode scale path here own → IsFewPaid own
few_paid scale path shape.Leaf own (pay, is, paid) = subst IsFewPaid (sym is) ((paid One).1, (paid Two).1)
few_paid scale path (shape.Chance kids probs) own is = subst IsFewPaid (sym is) tt
few_paid scale path (shape.Choice side set kids) own is = subst IsFewPaid (sym is) tt

-- the amounts of every scaled node are within the limit
pub all_few_paid : (scale : Side → ℤ) (nodes : List RawNode) (paths : List PathView) (scaled : List Node) → length scaled ≡ length nodes → length nodes ≡ length paths
    → AreScaledNodes scale nodes paths scaled → (n : ℕ) (x : Node) → slice_get scaled n ≡ Some x → IsFewPaid x
all_few_paid scale nodes paths scaled same per_node each n x h =
    let low = within scaled n x h in
    let raw = there nodes n (omega arith) in
    let path = there paths n (omega arith) in
    few_paid scale path.0 raw.0.shape x (each n raw.0 path.0 x raw.1 path.1 h)

-- What is known of the ways before node n is taken: those of its root and of the kids before lead where they should, and
-- other nodes are kids of no node before.
use Rattle.std.proofs.Common.{◌≡◌, ℕ, zero, suc, ◌+◌, ◌<◌, inl, inr, List, [], ◌∷◌, ◌++◌, Some, length, slice_get, refl, sym, subst, ◌∙◌, arith}
use Rattle.std.proofs.lemmas.Bool.{cases_lt}
use Rattle.std.proofs.lemmas.Option.{same_Some}
use lib.ListN.{replicate}
use Rattle.corr_num.specs.Fraction.{Fraction, IsReduced, fraction_sum, fraction_product}
use Rattle.corr_game.specs.Node.{kids_of}
use Rattle.efg_reader.specs.RawGame.{RawGameView, IsRawGame, bare_node}
use Rattle.efg_reader.specs.declared.raw_game.RawNode.{RawNode}
use Rattle.game_scale.specs.declared.ways.Way.{Way}
use Rattle.game_scale.specs.Paths.{PathView, IsPath, IsWithin, LeadsWith, certain, nothing}
use Rattle.game_scale.specs.Paths.IsPath.{root, further}
use Rattle.game_scale.specs.Ways.{IsAlong, IsLed, ArePassed}
use Rattle.game_scale.proofs.Passing.{reduced_certain, certain_lowest}
use Rattle.game_scale.proofs.Parents.{is_raw_kid}
use Rattle.game_scale.specs.Refusal.{IsPathTooFine}
use Rattle.game_scale.proofs.ScaledNodes.{slice_get-push, there, within}

-- the way to the root
pub record IsToRoot (m : ℕ) (way : Way) : Type 0 where
  pub first : m ≡ 0
  pub chance : way.chance ≡ certain
  pub one : way.one ≡ nothing
  pub two : way.two ≡ nothing

-- a way that leads on from the path to the node above
pub record IsBelow (raw : RawGameView) (m : ℕ) (way : Way) : Type 0 where
  pub n : ℕ
  pub k : ℕ
  pub node : RawNode
  pub prob : Fraction
  pub path : PathView
  pub is : IsPath raw n path
  pub here : slice_get raw.nodes n ≡ Some node
  pub kid : slice_get (kids_of (bare_node node.shape)) k ≡ Some m
  pub with : LeadsWith node.shape k prob
  pub led : IsLed path prob way

-- no node before n leads to node m
pub record IsUnreached (raw : RawGameView) (n m : ℕ) : Type 0 where
  pub behind : 0 < m
  pub none : (p k : ℕ) (node : RawNode) → p < n → slice_get raw.nodes p ≡ Some node → slice_get (kids_of (bare_node node.shape)) k ≡ Some m → ⊥

pub data IsWayTo (raw : RawGameView) (n m : ℕ) (way : Way) : Type 0 where
  to_root : IsToRoot m way → IsWayTo raw n m way
  below : IsBelow raw m way → IsWayTo raw n m way
  unreached : IsUnreached raw n m → IsWayTo raw n m way

abbrev pub AreWays : RawGameView → ℕ → List Way → Type 0
AreWays raw n ways = (m : ℕ) (way : Way) → slice_get ways m ≡ Some way → IsWayTo raw n m way

get_replicate : {X : Type 0} (n : ℕ) (v : X) (m : ℕ) (x : X) → slice_get (replicate n v) m ≡ Some x → v ≡ x
get_replicate zero v m x h = absurd (cc)
get_replicate (suc n) v zero x h = same_Some v x h
get_replicate (suc n) v (suc m) x h = get_replicate n v m x h

pub ways_start : (raw : RawGameView) (count : ℕ) (first : Way) (ways : List Way) → ways ≡ replicate count first → first.chance ≡ certain → first.one ≡ nothing → first.two ≡ nothing → AreWays raw 0 ways
ways_start raw count first ways all chance one two zero way h =
    let same : first ≡ way = get_replicate count first 0 way (subst (λ (ws : List Way). slice_get ws 0 ≡ Some way) all h) in
    to_root (subst (λ (w : Way). IsToRoot 0 w) same (record { first = refl; chance = chance; one = one; two = two }))
ways_start raw count first ways all chance one two (suc m) way h = unreached (record { behind = omega arith; none = λ p k node low e f. absurd (omega arith) })

-- one node on
keep : (raw : RawGameView) (n m : ℕ) (node : RawNode) (way : Way) → slice_get raw.nodes n ≡ Some node → ((k : ℕ) → slice_get (kids_of (bare_node node.shape)) k ≡ Some m → ⊥) → IsWayTo raw n m way → IsWayTo raw (n + 1) m way
keep raw n m node way here apart (to_root h) = to_root h
keep raw n m node way here apart (below h) = below h
keep raw n m node way here apart (unreached h) = unreached (record {
  behind = h.behind;
  none = λ p k other low e f. elim (cases_lt p n) [
    | inl before ↦ h.none p k other before e f
    | inr last ↦
        let same : p ≡ n = omega arith in
        let is : other ≡ node = same_Some other node (sym e ∙ subst (λ (z : ℕ). slice_get raw.nodes z ≡ Some node) (sym same) here) in
        apart k (subst (λ (r : RawNode). slice_get (kids_of (bare_node r.shape)) k ≡ Some m) is f)
  ];
})

pub ways_more : (raw : RawGameView) (n : ℕ) (node : RawNode) (path : PathView) (old new : List Way) → AreWays raw n old → slice_get raw.nodes n ≡ Some node → IsPath raw n path
    → ArePassed (LeadsWith node.shape) (kids_of (bare_node node.shape)) (length (kids_of (bare_node node.shape))) path old new → AreWays raw (n + 1) new
ways_more raw n node path old new before here is passed m way h =
    elim (passed m way h) [
      | inl kept ↦ keep raw n m node way here (λ k e. kept.apart k (within (kids_of (bare_node node.shape)) k m e) e) (before m way kept.same)
      | inr on ↦ below (record { n = n; k = on.k; node = node; prob = on.prob; path = path; is = is; here = here; kid = on.kid; with = on.with; led = on.led })
    ]

-- the path to a node at the end of its way
arrive : (raw : RawGameView) → IsRawGame raw → (n : ℕ) (node : RawNode) (way : Way) (path : PathView) → slice_get raw.nodes n ≡ Some node → IsAlong way node path → IsWayTo raw n n way → IsPath raw n path
arrive raw rules n node way path here along (to_root h) =
    let P : ℕ → Type 0 = λ k. slice_get raw.nodes k ≡ Some node in
    let chance : path.chance ≡ certain = along.chance ∙ h.chance in
    let at_root : IsPath raw 0 path = root node path (subst P h.first here) (record {
      chance = subst (λ (c : Fraction). IsReduced c (fraction_product certain certain)) (sym chance) (reduced_certain certain certain_lowest);
      one = subst (λ (f : Fraction). IsReduced path.one (fraction_sum f node.one)) h.one along.one;
      two = subst (λ (f : Fraction). IsReduced path.two (fraction_sum f node.two)) h.two along.two;
    }) in
    subst (λ (k : ℕ). IsPath raw k path) (sym h.first) at_root
arrive raw rules n node way path here along (below h) = further h.n h.k n h.node node h.prob h.path path h.is h.here h.kid h.with here (record {
  chance = subst (λ (c : Fraction). IsReduced c (fraction_product h.path.chance h.prob)) (sym along.chance) h.led.chance;
  one = subst (λ (f : Fraction). IsReduced path.one (fraction_sum f node.one)) h.led.one along.one;
  two = subst (λ (f : Fraction). IsReduced path.two (fraction_sum f node.two)) h.led.two along.two;
})
arrive raw rules n node way path here along (unreached h) =
    let parent = is_raw_kid raw rules n h.behind (within raw.nodes n node here) in
    absurd (h.none parent.p parent.k parent.node parent.before parent.here parent.kid)

pub arrived : (raw : RawGameView) → IsRawGame raw → (n : ℕ) (node : RawNode) (ways : List Way) (way : Way) (path : PathView) → AreWays raw n ways → slice_get raw.nodes n ≡ Some node → slice_get ways n ≡ Some way → IsAlong way node path → IsPath raw n path
arrived raw rules n node ways way path before here at along = arrive raw rules n node way path here along (before n way at)

-- the paths to the nodes before
abbrev pub ArePathsBefore : RawGameView → List PathView → Type 0
ArePathsBefore raw paths = (n : ℕ) (path : PathView) → slice_get paths n ≡ Some path → IsPath raw n path × IsWithin path

pub paths_more : (raw : RawGameView) (paths more : List PathView) (path : PathView) → ArePathsBefore raw paths → more ≡ paths ++ path ∷ [] → IsPath raw (length paths) path → IsWithin path → ArePathsBefore raw more
paths_more raw paths more path before push is within_limits n other h =
    elim (slice_get-push paths path other n (subst (λ (ps : List PathView). slice_get ps n ≡ Some other) push h)) [
      | inl there ↦ before n other there
      | inr (last, same) ↦
          let first : IsPath raw n path × IsWithin path = (subst (λ (k : ℕ). IsPath raw k path) (sym last) is, within_limits) in
          subst (λ (p : PathView). IsPath raw n p × IsWithin p) same first
    ]

-- the first node whose path is beyond the limits
pub too_fine : (raw : RawGameView) (paths : List PathView) (path : PathView) → ArePathsBefore raw paths → IsPath raw (length paths) path → (IsWithin path → ⊥) → IsPathTooFine raw (length paths)
too_fine raw paths path before is beyond = record {
  path = path;
  reached = is;
  beyond = beyond;
  before = λ m low. let earlier = there paths m low in let is = before m earlier.0 earlier.1 in (earlier.0, is.0, is.1);
}

-- The scale that is common to the leaves before a node: it makes them whole, and divides each number that does. At a leaf
-- it becomes the least common multiple of it and the denominator in lowest terms.
use Rattle.std.proofs.Common.{◌≡◌, ℕ, ◌+◌, ◌<◌, ◌≤◌, ◌^◌, inl, inr, ℤ, pos, negsuc, ◌<ℤ◌, ◌≤ℤ◌, List, Some, length, slice_get, sym, subst, ◌∙◌, arith}
use Rattle.std.specs.Prelude.{unsigned_abs}
use Rattle.std.specs.Int.{◌∣◌}
use Rattle.std.proofs.Math.Nat.{one-dvd}
use Rattle.std.proofs.lemmas.Bool.{cases_lt}
use Rattle.std.proofs.lemmas.Int.{ints}
use Rattle.std.proofs.lemmas.Nat.Gcd.{le_of_dvd}
use Rattle.std.proofs.lemmas.Option.{same_Some}
use Rattle.corr_num.specs.Fraction.{Fraction, IsReduced}
use Rattle.corr_game.specs.declared.sides.Side.{Side}
use Rattle.efg_reader.specs.declared.raw_game.RawNode.{RawNode}
use Rattle.game_scale.specs.Paths.{PathView, IsPathView, IsLeaf, weighted}
use Rattle.game_scale.specs.Scales.{MakesWhole, MakesAllWhole, IsLeastScale}
use Rattle.game_scale.specs.LeastMultiple.{IsLcm}
use Rattle.game_scale.proofs.Multiples.{den_divides, divided_whole, multiple_whole}
use Rattle.game_scale.proofs.Weighted.{whole_reduced, whole_weighted}

-- the scale makes the leaves before node `end` whole, and divides each number that does
pub record IsCommon (side : Side) (nodes : List RawNode) (paths : List PathView) (end scale : ℕ) : Type 0 where
  pub some : 1 ≤ scale
  pub whole : MakesAllWhole side nodes paths end (pos scale)
  pub divides : (k : ℕ) → 1 ≤ k → MakesAllWhole side nodes paths end (pos k) → scale ∣ k

above : (k : ℕ) → 1 ≤ k → pos 0 <ℤ pos k
above k h = omega (arith, ints)

pub common_start : (side : Side) (nodes : List RawNode) (paths : List PathView) → IsCommon side nodes paths 0 1
common_start side nodes paths = record {
  some = omega arith;
  whole = λ n node path low e leaf f. absurd (omega arith);
  divides = λ k some all. one-dvd k;
}

-- what holds before more nodes holds before fewer
fewer : (side : Side) (nodes : List RawNode) (paths : List PathView) (end : ℕ) (scale : ℤ) → MakesAllWhole side nodes paths (end + 1) scale → MakesAllWhole side nodes paths end scale
fewer side nodes paths end scale all n node path low e leaf f = all n node path (omega arith) e leaf f

pub common_other : (side : Side) (nodes : List RawNode) (paths : List PathView) (n scale : ℕ) (node : RawNode) → slice_get nodes n ≡ Some node → (IsLeaf node.shape → ⊥) → IsCommon side nodes paths n scale → IsCommon side nodes paths (n + 1) scale
common_other side nodes paths n scale node at other h = record {
  some = h.some;
  whole = λ m here path low e leaf f. elim (cases_lt m n) [
    | inl before ↦ h.whole m here path before e leaf f
    | inr behind ↦
        let same : m ≡ n = omega arith in
        let is : here ≡ node = same_Some here node (sym e ∙ subst (λ (k : ℕ). slice_get nodes k ≡ Some node) (sym same) at) in
        absurd (other (subst (λ (r : RawNode). IsLeaf r.shape) is leaf))
  ];
  divides = λ k some all. h.divides k some (fewer side nodes paths n (pos k) all);
}

-- a leaf, with what its path pays in lowest terms
pub record IsLeafAt (side : Side) (nodes : List RawNode) (paths : List PathView) (n : ℕ) (r : Fraction) : Type 0 where
  pub node : RawNode
  pub path : PathView
  pub here : slice_get nodes n ≡ Some node
  pub leaf : IsLeaf node.shape
  pub reached : slice_get paths n ≡ Some path
  pub rules : IsPathView path
  pub number : IsReduced r (weighted side path)

-- a number that makes the leaf whole is divided by the denominator
leaf_divides : (side : Side) (nodes : List RawNode) (paths : List PathView) (n k : ℕ) (r : Fraction) → IsLeafAt side nodes paths n r → 1 ≤ k → MakesAllWhole side nodes paths (n + 1) (pos k) → unsigned_abs r.den ∣ k
leaf_divides side nodes paths n k r at some all =
    den_divides r (pos k) at.number.lowest (above k some) (whole_reduced side at.path r (pos k) at.rules at.number (all n at.node at.path (omega arith) at.here at.leaf at.reached))

pub common_leaf : (side : Side) (nodes : List RawNode) (paths : List PathView) (n scale more : ℕ) (r : Fraction) → IsLeafAt side nodes paths n r → IsLcm scale (unsigned_abs r.den) more → 1 ≤ more → IsCommon side nodes paths n scale → IsCommon side nodes paths (n + 1) more
common_leaf side nodes paths n scale more r at lcm some h = record {
  some = some;
  whole = λ m here path low e leaf f. elim (cases_lt m n) [
    | inl before ↦ multiple_whole (weighted side path) (pos scale) (pos more) (above scale h.some) (above more some) lcm.0 (h.whole m here path before e leaf f)
    | inr behind ↦
        let same : m ≡ n = omega arith in
        let is : at.path ≡ path = same_Some at.path path (sym at.reached ∙ subst (λ (k : ℕ). slice_get paths k ≡ Some path) same f) in
        let whole : MakesWhole (pos more) (weighted side at.path) = whole_weighted side at.path r (pos more) at.number (divided_whole r (pos more) at.number.lowest.positive (above more some) lcm.1) in
        subst (λ (p : PathView). MakesWhole (pos more) (weighted side p)) is whole
  ];
  divides = λ k positive all. lcm.2 k (h.divides k positive (fewer side nodes paths n (pos k) all)) (leaf_divides side nodes paths n k r at positive all);
}

-- what holds before all nodes holds before node n
before : (side : Side) (nodes : List RawNode) (paths : List PathView) (n : ℕ) (scale : ℤ) → n ≤ length nodes → MakesAllWhole side nodes paths (length nodes) scale → MakesAllWhole side nodes paths n scale
before side nodes paths n scale h all m node path low e leaf f = all m node path (omega arith) e leaf f

-- no number within the limit makes all leaves whole
pub common_none : (side : Side) (nodes : List RawNode) (paths : List PathView) (n scale : ℕ) (r : Fraction) → IsLeafAt side nodes paths n r → n < length nodes → IsCommon side nodes paths n scale
    → ((k : ℕ) → 1 ≤ k → scale ∣ k → unsigned_abs r.den ∣ k → 2 ^ 24 < k) → (k : ℤ) → pos 0 <ℤ k → MakesAllWhole side nodes paths (length nodes) k → pos (2 ^ 24) <ℤ k
common_none side nodes paths n scale r at low h none (negsuc k) positive all = absurd (omega (arith, ints))
common_none side nodes paths n scale r at low h none (pos k) positive all =
    let some : 1 ≤ k = omega (arith, ints) in
    let next = before side nodes paths (n + 1) (pos k) (omega arith) all in
    omega (arith, ints, none k some (h.divides k some (fewer side nodes paths n (pos k) next)) (leaf_divides side nodes paths n k r at some next))

least : (side : Side) (nodes : List RawNode) (paths : List PathView) (scale : ℕ) → IsCommon side nodes paths (length nodes) scale → (k : ℤ) → pos 0 <ℤ k → MakesAllWhole side nodes paths (length nodes) k → (pos scale) ≤ℤ k
least side nodes paths scale h (negsuc k) positive all = absurd (omega (arith, ints))
least side nodes paths scale h (pos k) positive all =
    let some : 1 ≤ k = omega (arith, ints) in
    omega (arith, ints, le_of_dvd some (h.divides k some all))

pub common_done : (side : Side) (nodes : List RawNode) (paths : List PathView) (n scale : ℕ) → length nodes ≡ n → IsCommon side nodes paths n scale → IsLeastScale side nodes paths (pos scale)
common_done side nodes paths n scale end h =
    let all : IsCommon side nodes paths (length nodes) scale = subst (λ (k : ℕ). IsCommon side nodes paths k scale) (sym end) h in
    record { positive = above scale all.some; whole = all.whole; least = least side nodes paths scale all }

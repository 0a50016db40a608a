-- The sides of a belt as a function of their number.
use Rattle.std.proofs.Common.{◌≡◌, ℕ, suc, ◌-◌, ◌≤◌, List, length, slice_get, get_or, Some, sym, subst, pos, negsuc, arith}
use Rattle.std.proofs.lemmas.Option.{slice_get_within, slice_get-get_or, get_or_from_slice_get}
use Rattle.plane_hull.specs.declared.sides.Point.{Point}
use Rattle.plane_hull.specs.declared.sides.SideRow.{SideRow}
use Rattle.plane_hull.specs.Belt.{IsBelt, IsDirection}
use Rattle.plane_hull.proofs.RoundBelt.{IsRoundBelt}
use Rattle.plane_hull.proofs.WholeBelt.{three_sides}

module _ (points : List Point) (sides : List SideRow) (belt : IsBelt points sides) where
  abbrev pub t : ℕ
  t = length sides - 1

  pub many : 3 ≤ length sides
  many = three_sides sides belt.axes

  pub sides_long : length sides ≡ suc t
  sides_long = let many = many in omega arith

  abbrev pub side : ℕ → SideRow
  side k = get_or sides k belt.axes.up.1

  pub side_placed : (k : ℕ) → k ≤ t → slice_get sides k ≡ Some (side k)
  side_placed k low = slice_get-get_or sides k belt.axes.up.1 (let long = sides_long in omega arith)

  pub side_found : (k : ℕ) (x : SideRow) → slice_get sides k ≡ Some x → side k ≡ x
  side_found k x at = get_or_from_slice_get sides k x belt.axes.up.1 at

  pub within : (k : ℕ) (x : SideRow) → slice_get sides k ≡ Some x → k ≤ t
  within k x at = let inside = slice_get_within sides k x at in let long = sides_long in omega arith

  pub round_of : IsRoundBelt (length points) t side
  round_of = record {
    follow = λ k low. belt.follows k (side k) (side (suc k)) (side_placed k (omega arith)) (side_placed (suc k) (omega arith));
    close = belt.closes t (side t) (side 0) (sym sides_long) (side_placed t (omega arith)) (side_placed 0 (omega arith));
    right = (belt.begins (side 0) (side_placed 0 (omega arith))).0;
    start = (belt.begins (side 0) (side_placed 0 (omega arith))).1;
    no_three = λ i j k low high inside.
        belt.pairs.at_most_two i j k (side i) (side j) (side k) low high (side_placed i (omega arith)) (side_placed j (omega arith)) (side_placed k inside);
    many = let many = many in omega arith;
    up = belt.axes.up.0;
    up_in = within _ _ belt.axes.up.2;
    up_is = subst (λ (s : SideRow). IsDirection (pos 0) (pos 1) s.dir) (sym (side_found _ _ belt.axes.up.2)) belt.axes.up.3;
    left = belt.axes.left.0;
    left_in = within _ _ belt.axes.left.2;
    left_is = subst (λ (s : SideRow). IsDirection (negsuc 0) (pos 0) s.dir) (sym (side_found _ _ belt.axes.left.2)) belt.axes.left.3;
    down = belt.axes.down.0;
    down_in = within _ _ belt.axes.down.2;
    down_is = subst (λ (s : SideRow). IsDirection (pos 0) (negsuc 0) s.dir) (sym (side_found _ _ belt.axes.down.2)) belt.axes.down.3;
  }

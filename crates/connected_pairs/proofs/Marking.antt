-- Marking two sets changes no other two's entry. So once the nodes below a node are gone over, its set is marked with each
-- of the other player's sets that has a node there, and once all nodes are, the marked sets are the connected ones.
use Rattle.std.proofs.Common.{◌≡◌, ◌⊎◌, ℕ, ◌+◌, ◌*◌, ◌/◌, ◌%◌, ◌<◌, ◌≤◌, Bool, true, false, List, Some, None, length, max, set as set_at, refl, sym, ap, ◌∙◌, inl, inr, arith}
use Rattle.std.proofs.lemmas.Bool.{cases_eq, cases_lt}
use Rattle.std.proofs.lemmas.List.{get_or-set_same, get_or-set_other}
use Rattle.std.proofs.lemmas.Nat.{mul-add-lt, div-mul-add, mod-mul-add}
use Rattle.corr_game.specs.declared.sides.Side.{Side}
use Rattle.corr_game.specs.declared.sides.Side.TheVariants.{One, Two}
use Rattle.corr_game.specs.Node.{same_side}
use Rattle.corr_game.specs.Preorder.{end_of}
use Rattle.corr_game.specs.Game.{GameView, IsGame, sets_of}
use Rattle.tree_recall.specs.Tree.{set_of, IsAbove}
use Rattle.tree_recall.proofs.Kids.{above_within, within_above}
use Rattle.connected_pairs.specs.Table.{AreConnected, AreSets, HasNodeIn, IsMarked, IsMarkedBelow, IsTable, of_side, other}

-- two entries at one index are the same two sets'
same_cell : (a b c d w : ℕ) → b < w → d < w → a * w + b ≡ c * w + d → (a ≡ c) × (b ≡ d)
same_cell a b c d w low left e = (
  sym (div-mul-add a w b low) ∙ (ap (λ x. x / w) e ∙ div-mul-add c w d left),
  sym (mod-mul-add a w b low) ∙ (ap (λ x. x % w) e ∙ mod-mul-add c w d left),
)

module _ (g : GameView) (table : List Bool) (size : length table ≡ length g.one * length g.two) (one two index : ℕ) (there : AreSets g one two) (at : index ≡ one * length g.two + two) where
  in_table : index < length table
  in_table = omega (arith, at, size, mul-add-lt one (length g.two) two (length g.one) there.0 there.1)

  pub mark_new : IsMarked g (set_at table index true) one two
  mark_new = rw (← at) (get_or-set_same table index true false in_table)

  pub mark_kept : (a b : ℕ) → IsMarked g table a b → IsMarked g (set_at table index true) a b
  mark_kept a b h = elim (cases_eq (a * length g.two + b) index) [
    | inl same ↦ rw same (get_or-set_same table index true false in_table)
    | inr apart ↦ get_or-set_other table index (a * length g.two + b) true false apart ∙ h
  ]

  pub mark_only : (a b : ℕ) → AreSets g a b → IsMarked g (set_at table index true) a b → IsMarked g table a b ⊎ ((a ≡ one) × (b ≡ two))
  mark_only a b sets h = elim (cases_eq (a * length g.two + b) index) [
    | inl same ↦ inr (same_cell a b one two (length g.two) sets.1 there.1 (same ∙ at))
    | inr apart ↦ inl (sym (get_or-set_other table index (a * length g.two + b) true false apart) ∙ h)
  ]

-- the sets that the nodes before n connect are marked, and no others but connected ones
pub record IsMarkedTo (g : GameView) (n : ℕ) (table : List Bool) : Type 0 where
  pub sound : (one two : ℕ) → AreSets g one two → IsMarked g table one two → AreConnected g one two
  pub full : (side : Side) (m k one two : ℕ) → AreSets g one two → m < n → set_of g side m ≡ Some (of_side side one two) → set_of g (other side) k ≡ Some (of_side (other side) one two) → IsAbove g m k → IsMarked g table one two

-- a set of this player and one of the other, as one of player 1 and one of player 2
pub two_sets : (g : GameView) (side : Side) (a b : ℕ) → a < length (sets_of side g) → b < length (sets_of (other side) g)
    → (one : ℕ) × (two : ℕ) × AreSets g one two × (of_side side one two ≡ a) × (of_side (other side) one two ≡ b)
two_sets g One a b low left = (a, b, (low, left), refl, refl)
two_sets g Two a b low left = (b, a, (left, low), refl, refl)

same_sets : (side : Side) (one two a b : ℕ) → of_side side a b ≡ of_side side one two → of_side (other side) a b ≡ of_side (other side) one two → (a ≡ one) × (b ≡ two)
same_sets One one two a b e f = (e, f)
same_sets Two one two a b e f = (f, e)

pub below_first : (g : GameView) (side : Side) (set first : ℕ) (table : List Bool) → IsMarkedBelow g side set first first table table
below_first g side set first table = record {
  kept = λ one two sets h. h;
  added = λ one two sets h. absurd (omega (arith, h.1.1, h.1.2));
  only = λ one two sets h. inl h;
}

-- a node where the other player doesn't move changes nothing
pub below_passed : (g : GameView) (side : Side) (set first n : ℕ) (old table : List Bool) → IsMarkedBelow g side set first n old table → set_of g (other side) n ≡ None → IsMarkedBelow g side set first (n + 1) old table
below_passed g side set first n old table m apart = record {
  kept = m.kept;
  added = λ one two sets h. elim (cases_lt h.1.0 n) [
    | inl before ↦ m.added one two sets (h.0, (h.1.0, h.1.1, before, h.1.3))
    | inr last ↦
        let same : h.1.0 ≡ n = omega (arith, h.1.2) in
        let here = rw same at h.1.3 in
        absurd (cc (here, apart))
  ];
  only = λ one two sets h. elim (m.only one two sets h) [
    | inl was ↦ inl was
    | inr node ↦ inr (node.0, (node.1.0, node.1.1, omega (arith, node.1.2), node.1.3))
  ];
}

-- where the other player moves, the two sets are marked
pub below_marked : (g : GameView) (side : Side) (set first n index one two : ℕ) (old table : List Bool) → IsMarkedBelow g side set first n old table → length table ≡ length g.one * length g.two → first ≤ n → AreSets g one two
    → of_side side one two ≡ set → set_of g (other side) n ≡ Some (of_side (other side) one two) → index ≡ one * length g.two + two → IsMarkedBelow g side set first (n + 1) old (set_at table index true)
below_marked g side set first n index one two old table m size low there own here at = record {
  kept = λ a b sets h. mark_kept g table size one two index there at a b (m.kept a b sets h);
  added = λ a b sets h. elim (cases_lt h.1.0 n) [
    | inl before ↦ mark_kept g table size one two index there at a b (m.added a b sets (h.0, (h.1.0, h.1.1, before, h.1.3)))
    | inr last ↦
        let same : h.1.0 ≡ n = omega (arith, h.1.2) in
        let node : set_of g (other side) n ≡ Some (of_side (other side) a b) = rw same at h.1.3 in
        let beside : of_side (other side) a b ≡ of_side (other side) one two = cc in
        let both = same_sets side one two a b (h.0 ∙ sym own) beside in
        rw both.0 (rw both.1 (mark_new g table size one two index there at))
  ];
  only = λ a b sets h. elim (mark_only g table size one two index there at a b sets h) [
    | inl was ↦ elim (m.only a b sets was) [
      | inl first_was ↦ inl first_was
      | inr node ↦ inr (node.0, (node.1.0, node.1.1, omega (arith, node.1.2), node.1.3))
    ]
    | inr new ↦ rw new.0 (rw new.1 (inr (own, (n, low, omega arith, here))))
  ];
}

pub below_all : (g : GameView) (side : Side) (set first n end : ℕ) (old table : List Bool) → IsMarkedBelow g side set first n old table → end ≤ n → n ≤ max first end → IsMarkedBelow g side set first end old table
below_all g side set first n end old table m low high = record {
  kept = m.kept;
  added = λ one two sets h. m.added one two sets (h.0, (h.1.0, h.1.1, omega (arith, h.1.2), h.1.3));
  only = λ one two sets h. elim (m.only one two sets h) [
    | inl was ↦ inl was
    | inr node ↦ inr (node.0, (node.1.0, node.1.1, omega (arith, node.1.1, node.1.2), node.1.3))
  ];
}

-- Over all nodes.

pub none_marked : (g : GameView) (table : List Bool) → ((one two : ℕ) → IsMarked g table one two → ⊥) → IsMarkedTo g 0 table
none_marked g table none = record {
  sound = λ one two sets h. absurd (none one two h);
  full = λ side m k one two sets low. absurd (omega arith);
}

-- nodes in the subtree of one are below it
pair_of : (g : GameView) → IsGame g → (side : Side) (m k one two : ℕ) → set_of g side m ≡ Some (of_side side one two) → set_of g (other side) k ≡ Some (of_side (other side) one two) → IsAbove g m k → AreConnected g one two
pair_of g rules One m k one two e f h = (m, k, e, f, inl h)
pair_of g rules Two m k one two e f h = (k, m, f, e, inr h)

-- a node where no player moves connects nothing
pub marked_passed : (g : GameView) (n : ℕ) (table : List Bool) → IsMarkedTo g n table → ((side : Side) → set_of g side n ≡ None) → IsMarkedTo g (n + 1) table
marked_passed g n table m apart = record {
  sound = m.sound;
  full = λ side l k one two sets low e f h. elim (cases_lt l n) [
    | inl before ↦ m.full side l k one two sets before e f h
    | inr last ↦
        let same : l ≡ n = omega arith in
        let here : set_of g side n ≡ Some (of_side side one two) = rw (← same) e in
        absurd (cc (here, apart side))
  ];
}

pub other_apart : (side : Side) → same_side (other side) side ≡ false
other_apart One = refl
other_apart Two = refl

-- the player who moves at a node is the one whose set it is of
node_in : (g : GameView) (mover side : Side) (n set first end k one two : ℕ) → set_of g mover n ≡ Some set → set_of g (other mover) n ≡ None → set_of g side n ≡ Some (of_side side one two) → first ≤ k → k < end
    → set_of g (other side) k ≡ Some (of_side (other side) one two) → HasNodeIn g mover set first end one two
node_in g One One n set first end k one two own apart here low high f = (let same : one ≡ set = cc in (same, (k, low, high, f)))
node_in g One Two n set first end k one two own apart here low high f = absurd (cc)
node_in g Two One n set first end k one two own apart here low high f = absurd (cc)
node_in g Two Two n set first end k one two own apart here low high f = (let same : two ≡ set = cc in (same, (k, low, high, f)))

-- a node of a player connects its set to those with a node below it
pub marked_below : (g : GameView) → IsGame g → (n : ℕ) (mover : Side) (set end : ℕ) (old new : List Bool) → IsMarkedTo g n old → n < length g.nodes → set_of g mover n ≡ Some set → set_of g (other mover) n ≡ None → end ≡ end_of g.nodes n
    → IsMarkedBelow g mover set (n + 1) end old new → IsMarkedTo g (n + 1) new
marked_below g rules n mover set end old new m room own apart at b = record {
  sound = λ one two sets h. elim (b.only one two sets h) [
    | inl was ↦ m.sound one two sets was
    | inr node ↦
        let above = within_above g rules n node.1.0 room (omega (arith, node.1.1)) (omega (arith, node.1.2)) in
        let here : set_of g mover n ≡ Some (of_side mover one two) = rw node.0 own in
        pair_of g rules mover n node.1.0 one two here node.1.3 above
  ];
  full = λ side l k one two sets low e f h. elim (cases_lt l n) [
    | inl before ↦ b.kept one two sets (m.full side l k one two sets before e f h)
    | inr last ↦
        let same : l ≡ n = omega arith in
        let here : set_of g side n ≡ Some (of_side side one two) = rw (← same) e in
        let within = above_within g rules l k h in
        let close : k < end_of g.nodes n = rw (← same) within.1 in
        b.added one two sets (node_in g mover side n set (n + 1) end k one two own apart here (omega (arith, within.0)) (omega (arith, close)) f)
  ];
}

-- behind the last node the table is that of connected sets
pub marked_all : (g : GameView) → IsGame g → (n : ℕ) (table : List Bool) → IsMarkedTo g n table → length g.nodes ≤ n → IsTable g table
marked_all g rules n table m end one two sets = (
  λ h. m.sound one two sets h,
  λ h. elim h.4 [
    | inl above ↦ m.full One h.0 h.1 one two sets (omega (arith, (above_within g rules h.0 h.1 above).2)) h.2 h.3 above
    | inr above ↦ m.full Two h.1 h.0 one two sets (omega (arith, (above_within g rules h.1 h.0 above).2)) h.3 h.2 above
  ],
)

-- Numbers that are in range: the index of a relevant pair among the pairs, a move's, a set's own and a node's sequence
-- among its player's. Each follows from the rules that the pairs and the sequences keep.
use Rattle.std.proofs.Common.{◌≡◌, ℕ, ◌<◌, zero, suc, List, [], ◌∷◌, Option, Some, None, length, slice_get, slice_index, slice_index_or, ap, arith}
use Rattle.std.proofs.lemmas.Option.{slice_get_within, get_or_from_slice_get}
use Rattle.corr_game.specs.declared.nodes.SetId.{SetId}
use Rattle.corr_game.specs.declared.nodes.SetInfo.{SetInfo}
use Rattle.corr_game.specs.declared.sides.Side.{Side}
use Rattle.corr_game.specs.Game.{GameView, sets_of}
use Rattle.sequences.specs.Number.{SideView, IsSide, IsSideOf, IsAt, Ends, count_of}
use Rattle.sequences.proofs.Adding.{within}
use Rattle.connected_pairs.specs.Connected.{PairsView, IsPairs, index_of}

pub placed : (xs : List (Option ℕ)) (i k : ℕ) → slice_index_or xs i None ≡ Some k → slice_get xs i ≡ Some (Some k)
placed [] i k e = absurd (cc)
placed (x ∷ xs) zero k e = ap Some e
placed (x ∷ xs) (suc i) k e = placed xs i k e

-- the index of a pair is one of the list
pub index_in : (p : PairsView) → IsPairs p → (one two k : ℕ) → index_of p one two ≡ Some k → k < length p.pairs
index_in p rules one two k e =
    let at = rules.listed.each_place _ (Some k) (placed p.places _ k e) in
    slice_get_within p.pairs k at.0 at.3

-- the number of a move's sequence is one of the player's
pub move_in : (v : SideView) → IsSide v → (move : SetId × ℕ) (seq : ℕ) → Ends v.places move seq → seq < count_of v
move_in v side move seq at = omega (arith, side.numbered.in_range move.0.0 at.0 at.1, at.2, at.3)

-- the number of a node's sequence is one of the player's
pub node_in : (v : SideView) → IsSide v → (n : ℕ) → n < length v.nodes → slice_index v.nodes n < count_of v
node_in v side n low =
    let at = within v.nodes n low in
    omega (arith, side.each_node n at.0 at.1, get_or_from_slice_get v.nodes n at.0 0 at.1)

-- an action of a set of the game is a move
pub is_at : (side : Side) (g : GameView) (v : SideView) → IsSideOf side g v → (set : SetId) (action : ℕ) (info : SetInfo)
    → slice_get (sets_of side g) set.0 ≡ Some info → action < info.actions → IsAt v.places (set, action)
is_at side g v of set action info at low =
    let place = within v.places set.0 (omega (arith, of.per_set, slice_get_within (sets_of side g) set.0 info at)) in
    (place.0, place.1, omega (arith, of.same_actions set.0 place.0 info place.1 at))

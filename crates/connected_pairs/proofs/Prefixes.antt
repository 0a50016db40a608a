-- Relevance goes back along both sequences: a set that is connected to another player's set is so with the last set before.
use Rattle.std.proofs.Common.{◌≡◌, ℕ, true, Option, Some, None, length, slice_get, refl}
use Rattle.corr_game.specs.declared.nodes.SetId.{SetId}
use Rattle.corr_game.specs.declared.sides.Side.TheVariants.{One, Two}
use Rattle.corr_game.specs.Game.{GameView}
use Rattle.sequences.specs.declared.places.Place.{Place}
use Rattle.sequences.specs.Number.{last_of}
use Rattle.sequences.proofs.Holding.{set_in}
use Rattle.connected_pairs.specs.Connected.{PairsView, IsClosedBack, IsPairs, IsPairsOf, IsPrefix, itself, longer, is_related, is_relevant}

-- the sequence without its last move is related to what the sequence is related to
back_one : (p : PairsView) → IsPairs p → IsClosedBack p One → (place : Place) (move : SetId × ℕ) (two : ℕ)
    → slice_get p.seqs.one.places move.0.0 ≡ Some place
    → (before beside : Option (SetId × ℕ)) → last_of p.seqs.one place.own ≡ before → last_of p.seqs.two two ≡ beside
    → is_related (length p.seqs.two.places) p.table (Some move) beside ≡ true
    → is_related (length p.seqs.two.places) p.table before beside ≡ true
unfolding IsClosedBack
back_one p rules closed place move two at None beside e f h = refl
back_one p rules closed place move two at (Some before) None e f h = refl
back_one p rules closed place move two at (Some before) (Some beside) e f h =
    closed move.0.0 beside.0.0 place before (set_in p.seqs.two (rules.sides Two) two beside f) h at e

back_two : (p : PairsView) → IsPairs p → IsClosedBack p Two → (place : Place) (move : SetId × ℕ) (one : ℕ)
    → slice_get p.seqs.two.places move.0.0 ≡ Some place
    → (before beside : Option (SetId × ℕ)) → last_of p.seqs.two place.own ≡ before → last_of p.seqs.one one ≡ beside
    → is_related (length p.seqs.two.places) p.table beside (Some move) ≡ true
    → is_related (length p.seqs.two.places) p.table beside before ≡ true
unfolding IsClosedBack
back_two p rules closed place move one at before None e f h = refl
back_two p rules closed place move one at None (Some beside) e f h = refl
back_two p rules closed place move one at (Some before) (Some beside) e f h =
    closed move.0.0 beside.0.0 place before (set_in p.seqs.one (rules.sides One) one beside f) h at e

parts_one : (p : PairsView) → IsPairs p → IsClosedBack p One → (two part one : ℕ) → IsPrefix p.seqs.one part one
    → is_relevant p.seqs p.table one two ≡ true → is_relevant p.seqs p.table part two ≡ true
parts_one p rules closed two part _ itself h = h
parts_one p rules closed two part _ (longer one own move e o rest) h =
    let last = rw e at h in
    let back = back_one p rules closed o.0 move two o.1 (last_of p.seqs.one o.0.own) (last_of p.seqs.two two) refl refl last in
    parts_one p rules closed two part own rest (rw o.2 at back)

parts_two : (p : PairsView) → IsPairs p → IsClosedBack p Two → (one part two : ℕ) → IsPrefix p.seqs.two part two
    → is_relevant p.seqs p.table one two ≡ true → is_relevant p.seqs p.table one part ≡ true
parts_two p rules closed one part _ itself h = h
parts_two p rules closed one part _ (longer two own move e o rest) h =
    let last = rw e at h in
    let back = back_two p rules closed o.0 move one o.1 (last_of p.seqs.two o.0.own) (last_of p.seqs.one one) refl refl last in
    parts_two p rules closed one part own rest (rw o.2 at back)

pub relevant_parts : (g : GameView) (p : PairsView) (one two one_part two_part : ℕ) → IsPairs p → IsPairsOf g p
    → is_relevant p.seqs p.table one two ≡ true
    → IsPrefix p.seqs.one one_part one → IsPrefix p.seqs.two two_part two → is_relevant p.seqs p.table one_part two_part ≡ true
relevant_parts g p one two one_part two_part rules of h first second =
    parts_two p rules (of.closed Two) one_part two_part two second (parts_one p rules (of.closed One) two one_part one first h)

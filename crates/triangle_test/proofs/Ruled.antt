-- What a test rules out, and that siblings are sets that are there.
use Rattle.std.proofs.Common.{◌≡◌, ℕ, ◌<◌, Bool, true, false, length}
use Rattle.std.proofs.lemmas.Option.{slice_get_within}
use Rattle.sequences.specs.Number.{SideView}
use Rattle.triangle_test.specs.Triangle.{AreSiblings}

pub ruled_out : (b : Bool) → b ≡ false → b ≡ true → ⊥
ruled_out b e f = cc

pub first_in : (v : SideView) (a b : ℕ) → AreSiblings v a b → a < length v.places
first_in v a b h = slice_get_within v.places a h.1.1.0 h.1.1.1

pub second_in : (v : SideView) (a b : ℕ) → AreSiblings v a b → b < length v.places
second_in v a b h = slice_get_within v.places b h.1.2.0 h.1.2.1

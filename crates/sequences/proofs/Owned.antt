-- A set's own number is that of its recalled last move, which is the last own move at each of its nodes. What was numbered
-- stays so, since places are added at the end.
use Rattle.std.proofs.Common.{◌≡◌, ℕ, List, [], ◌∷◌, ◌++◌, Option, Some, None, length, slice_get, sym, ap, ◌∙◌, inl, inr}
use Rattle.corr_game.specs.declared.nodes.SetId.{SetId}
use Rattle.corr_game.specs.declared.sides.Side.{Side}
use Rattle.corr_game.specs.Game.{GameView}
use Rattle.tree_recall.specs.LastMove.{AreOfTree}
use Rattle.tree_recall.proofs.Progress.{slice_get-push}
use Rattle.sequences.specs.declared.places.Place.{Place}
use Rattle.sequences.specs.Number.{AreOwn, HasNumber}
use Rattle.sequences.proofs.Adding.{still}

-- each place so far has the number of its set's recalled move
pub record AreRecalled (moves : List (Option (SetId × ℕ))) (places : List Place) : Type 0 where
  pub each : (set : ℕ) (place : Place) (last : Option (SetId × ℕ)) → slice_get places set ≡ Some place → slice_get moves set ≡ Some last → HasNumber places last place.own

number_still : (places : List Place) (place : Place) (last : Option (SetId × ℕ)) (seq : ℕ) → HasNumber places last seq → HasNumber (places ++ place ∷ []) last seq
number_still places place None seq h = h
number_still places place (Some move) seq h = (h.0, still places (place ∷ []) move.0.0 h.0 h.1, h.2, h.3)

pub none_recalled : (moves : List (Option (SetId × ℕ))) → AreRecalled moves []
none_recalled moves = record { each = λ set place last h e. absurd (cc) }

pub recall_more : (moves : List (Option (SetId × ℕ))) (places : List Place) (set : ℕ) (place : Place) (last : Option (SetId × ℕ)) → AreRecalled moves places → length places ≡ set
    → slice_get moves set ≡ Some last → HasNumber places last place.own → AreRecalled moves (places ++ place ∷ [])
recall_more moves places set place last r count read own = record {
  each = λ k x l h e. elim (slice_get-push places place x k h) [
    | inl there ↦ number_still places place l x.own (r.each k x l there e)
    | inr end ↦
        let at : k ≡ set = end.0 ∙ count in
        let found : slice_get moves set ≡ Some l = ap (slice_get moves) (sym at) ∙ e in
        let same : last ≡ l = cc in
        rw (← same, ← end.1) (number_still places place last place.own own)
  ];
}

pub own_of_tree : (side : Side) (g : GameView) (moves : List (Option (SetId × ℕ))) (places : List Place) → AreOfTree side g moves → AreRecalled moves places → AreOwn side g places
unfolding AreOwn AreOfTree
own_of_tree side g moves places of r n set place last e h at = r.each set place last h ((of n set last e).1 at)

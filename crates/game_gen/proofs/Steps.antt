-- One number more: a loop that adds the texts of the numbers below k goes on with that of k, and a state with the next one.
use Rattle.std.proofs.Common.{◌≡◌, ℕ, ◌+◌, suc, List, ◌++◌, refl, arith}
use Rattle.text_pieces.specs.Piece.{Adds}
use Rattle.text_pieces.proofs.Pieces.{Adds-join}
use Rattle.game_gen.specs.GameText.{below_text}
use Rattle.game_gen.specs.Random.{next_state, state_after}

pub below_next : (k : ℕ) (text : ℕ → List ℕ) → below_text (k + 1) text ≡ below_text k text ++ text k
unfolding below_text
below_next k text =
    let next : k + 1 ≡ suc k = omega arith in
    rw next refl

pub Adds-next : {old middle new : List ℕ} (text : ℕ → List ℕ) (k : ℕ) → Adds old middle (below_text k text) → Adds middle new (text k) → Adds old new (below_text (k + 1) text)
Adds-next text k a b = rw (below_next k text) (Adds-join a b)

pub state_next : (drawn seed : ℕ) → state_after (drawn + 1) seed ≡ next_state (state_after drawn seed)
unfolding state_after
state_next drawn seed =
    let next : drawn + 1 ≡ suc drawn = omega arith in
    rw next refl

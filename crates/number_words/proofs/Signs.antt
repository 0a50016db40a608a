-- A list with no probability below 0.
use Rattle.std.proofs.Common.{◌≡◌, zero, suc, false, List, [], ◌∷◌, arith}
use Rattle.std.specs.Prelude.{All}
use Rattle.std.proofs.lemmas.Bool.{or_parts}
use Rattle.number_words.specs.Number.{NumberView}
use Rattle.number_words.specs.Chances.{has_negative}

pub none_negative : (probs : List NumberView) → has_negative probs ≡ false → All (λ (prob : NumberView). prob.negative ≡ false) probs
none_negative [] none k d within = absurd (omega arith)
none_negative (prob ∷ probs) none zero d within = (or_parts prob.negative (has_negative probs) none).0
none_negative (prob ∷ probs) none (suc k) d within = none_negative probs (or_parts prob.negative (has_negative probs) none).1 k d (omega arith)

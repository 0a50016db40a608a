-- The rows that are added are counted: one beside each sequence that is wanted, set by set.
use Rattle.std.proofs.Common.{◌≡◌, ℕ, ◌+◌, List, length, refl, ap, inl, inr, arith}
use Rattle.std.proofs.lemmas.List.{length_push}
use Rattle.corr_game.specs.declared.nodes.SetId.{SetId}
use Rattle.corr_game.specs.declared.sides.Side.{Side}
use Rattle.corr_game.specs.declared.sides.Side.TheVariants.{One, Two}
use Rattle.corr_game.specs.Game.{GameView}
use Rattle.connected_pairs.specs.Connected.{PairsView}
use Rattle.incentive_rows.specs.Sum.{IsSum}
use Rattle.incentive_rows.specs.Size.{HasRowBeside}
use Rattle.incentive_rows.proofs.Counts.{correlation_one}
use Rattle.incentive_rows.proofs.Sums.{sum_more}
use Rattle.plan_polytope.specs.declared.rows.Row.{Row}
use Rattle.plan_polytope.specs.RowCount.{HasBothCounts, IsLonger}
use Rattle.plan_polytope.specs.RowOrder.{AddsWanted}
use Rattle.plan_polytope.proofs.Ordering.{row_at}

-- nothing is counted yet
pub longer_none : (term : ℕ → ℕ → Type 0) (n : ℕ) → IsLonger (IsSum term 0) n n
longer_none term n = (0, refl, omega arith)

-- one term more
pub longer_more : (term : ℕ → ℕ → Type 0) (k a b d : ℕ) → IsLonger (IsSum term k) a b → IsLonger (term k) b d → IsLonger (IsSum term (k + 1)) a d
longer_more term k a b d h i = (h.0 + i.0, sum_more term k h.0 i.0 (h.0 + i.0) h.1 i.1 refl, omega (arith, h.2, i.2))

-- a row is added exactly where one stands beside a sequence
pub added_counted : (p : PairsView) (side : Side) (set : SetId) (beside : ℕ) (old new : List Row) → AddsWanted p (row_at side set beside) old new → IsLonger (HasRowBeside p side set.0 beside) (length old) (length new)
added_counted p side set beside old new (inl h) = (1, inl (h.0, refl), omega (arith, ap length h.1, length_push old (row_at side set beside)))
added_counted p side set beside old new (inr h) = (0, inr (h.0, refl), omega (arith, ap length h.1))

-- both players' correlation rows have one count
pub both_counts_one : (g : GameView) (p : PairsView) (a b : ℕ) → HasBothCounts g p a → HasBothCounts g p b → a ≡ b
both_counts_one g p a b s t = omega (arith, s.4, t.4, correlation_one g p One s.0 t.0 s.2 t.2, correlation_one g p Two s.1 t.1 s.3 t.3)

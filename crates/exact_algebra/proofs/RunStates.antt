-- A run of a rule as the family of its states, from the first step on. By induction on how one state leads to another.
use Rattle.std.proofs.Common.{◌≡◌, ℕ, zero, suc, ◌<◌, Option, Some, refl, arith}
use Rattle.exact_algebra.specs.Runs.{Leads, one_step, more_steps}

-- The states 0 .. steps of a run from s to t.
pub record Run {S : Type 0} (next : S → Option S) (s t : S) : Type 0 where
  pub steps : ℕ
  pub moves : 0 < steps
  pub state : ℕ → S
  pub begins : state 0 ≡ s
  pub ends : state steps ≡ t
  pub follows : (k : ℕ) → k < steps → next (state k) ≡ Some (state (suc k))

from : {S : Type 0} → S → (ℕ → S) → ℕ → S
from s later zero = s
from s later (suc k) = later k

pub run_of : {S : Type 0} (next : S → Option S) (s t : S) → Leads next s t → Run next s t
unfolding from
run_of next s t (one_step e) = record { steps = 1; moves = omega arith; state = from s (λ k. t); begins = refl; ends = refl; follows = only }
  where
    only : (k : ℕ) → k < 1 → next (from s (λ j. t) k) ≡ Some (from s (λ j. t) (suc k))
    only zero h = e
    only (suc k) h = absurd (omega arith)
run_of next s u (more_steps {t = t} e rest) = by (run_of next t u rest)
  where
    by : Run next t u → Run next s u
    by p = record { steps = suc p.steps; moves = omega arith; state = from s p.state; begins = refl; ends = p.ends; follows = each }
      where
        each : (k : ℕ) → k < suc p.steps → next (from s p.state k) ≡ Some (from s p.state (suc k))
        each zero h = rw p.begins e
        each (suc k) h = p.follows k (omega arith)

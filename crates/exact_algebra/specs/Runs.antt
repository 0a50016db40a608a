-- Runs of a rule that takes one state to the next or stops.
use Rattle.std.specs.Prelude.{◌≡◌, Option, Some}

-- s leads to t: t comes after one or more steps of the rule `next`.
pub data Leads {S : Type 0} (next : S → Option S) : S → S → Type 0 where
  one_step : {s t : S} → next s ≡ Some t → Leads next s t
  more_steps : {s t u : S} → next s ≡ Some t → Leads next t u → Leads next s u

-- The halves have met: what stands there decides.
use Rattle.std.proofs.Common.{◌≡◌, ℕ, ◌≤◌, List, pos, arith}
use Rattle.lp_form.specs.declared.entries.Entry.{Entry}
use Rattle.lp_form.proofs.Placing.{Within, stored_found, free_found}
use Rattle.lp_form.proofs.entries.find.Goals as goal
use Rattle.lp_form.proofs.entries.find.Goals.{else-low-entries-via-then-low-entries+else-entries-low, else-low-entries-via-else-low-entries}

met : (entries : List Entry) (col low high : ℕ) → Within entries col low high → high ≤ low → Within entries col low low
met entries col low high w h =
    let same : high ≡ low = omega (arith, w.ordered) in
    rw same at w

pub returns-then-entries-low : goal.returns-then-entries-low
returns-then-entries-low c = λ cols up.
    stored_found c.args.entries.now 0 cols c.args.col c.loop-low.low _ up (met _ _ _ _ c.loop-low.invariant c.loop-low-test.false) c.if-low-entries.true c.if-entries-low.true

pub returns-else-low-entries : goal.returns-else-low-entries
returns-else-low-entries c = λ cols up.
    free_found c.args.entries.now 0 cols c.args.col c.loop-low.low record { col = 0; value = pos 0 } up (met _ _ _ _ c.loop-low.invariant c.loop-low-test.false)
    (elim c.else-low-entries.branch [
      | else-low-entries-via-then-low-entries+else-entries-low w ↦ λ h. w.if-entries-low.false
      | else-low-entries-via-else-low-entries w ↦ λ h. absurd (omega arith)
    ])

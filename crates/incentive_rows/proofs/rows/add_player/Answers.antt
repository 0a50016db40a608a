-- At sets the triggers are those of the notion.
use Rattle.std.proofs.Common.{inl, inr}
use Rattle.incentive_rows.proofs.rows.add_player.Goals as goal

pub returns-in-Efce : goal.returns-in-Efce
returns-in-Efce c =
    elim c.in-Efce.is [
      | inl e ↦ record {
        rows = rw e (rw e at c.add_sets.ensures.rows);
        size = rw e (rw e at c.add_sets.ensures.size);
      }
      | inr e ↦ record {
        rows = rw e (rw e at c.add_sets.ensures.rows);
        size = rw e (rw e at c.add_sets.ensures.size);
      }
    ]

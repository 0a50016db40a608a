-- The marked columns are listed.
use Rattle.std.proofs.Common.{refl, sym}
use Rattle.notion_solve.proofs.WideBasis.{names}
use Rattle.notion_solve.proofs.wide.too_wide.Goals as goal

pub returns-clause-names : goal.returns-clause-names
returns-clause-names g c = (
  names (g.T.Tableau.content c.args.table.now) c.in_ok-basic.basic.items _ c.in_ok-basic.ensures.all c.in_ok-basic.ensures.only
      c.in_ok-marked.ensures.ascend (rw (sym c.as_slice.ensures.value) c.in_ok-marked.ensures.all)
      (rw (sym c.as_slice.ensures.value) c.in_ok-marked.ensures.only),
  refl,
)

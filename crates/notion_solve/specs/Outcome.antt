-- What a run of pivots came to.
use Rattle.std.specs.Prelude.{All, length}
use Rattle.corr_num.specs.Narrow.{Narrow}
use Rattle.bland_simplex.specs.Multipliers.{HasNarrowColumns}
use Rattle.lp_form.specs.Certificates.{ShowEmpty}
use Rattle.lp_form.specs.Program.{LpView}
use Rattle.polygon_sweep.specs.Round.{AreApart, GoneRound}
use Rattle.polygon_sweep.specs.Swept.{IsSwept}
use Rattle.notion_solve.specs.declared.blocks.Outcome.{Outcome}
use Rattle.notion_solve.specs.declared.blocks.Outcome.TheVariants.{Polygon, Empty}

-- a polygon of a program whose sides go round its corners, or narrow multipliers that show that it has no solution, and make narrow numbers of its columns
abbrev pub IsOutcome : LpView → Outcome → Type 0
IsOutcome lp (Polygon swept) = IsSwept lp swept × GoneRound (AreApart swept.corners) (length swept.corners) swept.sides
IsOutcome lp (Empty multipliers) = All Narrow multipliers × ShowEmpty lp multipliers × HasNarrowColumns lp multipliers

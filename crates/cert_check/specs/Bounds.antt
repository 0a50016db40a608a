-- How large the coefficients of a notion's program are.
use Rattle.std.specs.Prelude.{◌^◌, ◌<◌, ◌≤◌, length}
use Rattle.incentive_rows.specs.Bounds.{IsWithin}
use Rattle.plan_polytope.specs.Bounds.{AreUnits}
use Rattle.plan_polytope.specs.Bounds as polytope
use Rattle.cert_check.specs.declared.programs.Program.{Program}

-- the correlation rows are of units and the payoffs and incentive rows of amounts
pub record IsBounded (p : Program) : Type 0 where
  pub a_row : 0 < length p.base.rows
  pub units : AreUnits p.base
  pub amounts : polytope.IsWithin (2 ^ 40) p.base
  pub incentives : IsWithin (2 ^ 42) p.more
  pub columns : p.base.cols ≤ p.more.cols
  pub few_columns : p.more.cols ≤ 8192
  pub few_base : length p.base.rows ≤ 2 ^ 24
  pub few_more : length p.more.rows ≤ 2048

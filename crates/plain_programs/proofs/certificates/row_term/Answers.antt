-- A multiplier is up to 2^20 and a coefficient up to 2^30.
use Rattle.std.proofs.Common.{◌≡◌, ◌*ℤ◌, ◌^◌, pos, slice_index_or, to_z, of_z, rules, arith}
use Rattle.std.specs.Int.{w128}
use Rattle.corr_num.proofs.MagnitudeBounds.{product_magnitude}
use Rattle.lp_form.specs.Program.{coefficient}
use Rattle.plain_programs.proofs.certificates.row_term.Goals as goal

pub returns-clause-bound : goal.returns-clause-bound
returns-clause-bound c =
    let factor = slice_index_or c.args.multipliers.now c.args.row (pos 0) in
    let number = coefficient c.args.lp.now c.args.row c.args.col in
    let value : to_z w128 (of_z w128 c.product.result) ≡ factor *ℤ number = search rules in
    rw value (omega (
      arith,
      product_magnitude factor number (2 ^ 20) (2 ^ 30)
          (c.requires.moderate_multipliers c.args.row (omega (arith, c.requires.in_rows, c.requires.one_each)))
          (c.requires.moderate.coefficients c.args.row c.args.col c.requires.in_rows c.requires.in_columns),
    ))

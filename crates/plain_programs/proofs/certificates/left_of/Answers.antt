-- A product up to 2^58 less one up to 2^50.
use Rattle.std.proofs.Common.{◌≡◌, ◌-ℤ◌, to_z, of_z, rules, arith}
use Rattle.std.specs.Int.{w128}
use Rattle.corr_num.proofs.MagnitudeBounds.{difference_magnitude}
use Rattle.plain_programs.proofs.certificates.left_of.Goals as goal

pub returns-clause-bound : goal.returns-clause-bound
returns-clause-bound c =
    let value : to_z w128 (of_z w128 c.difference.result) ≡ c.column_product.result -ℤ c.paid_times.result = search rules in
    rw value (omega (
      arith,
      difference_magnitude c.column_product.result c.paid_times.result,
      c.column_product.ensures.bound,
      c.paid_times.ensures.bound,
    ))

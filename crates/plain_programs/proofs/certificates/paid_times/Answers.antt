-- The denominator is up to 2^20 and a payoff up to 2^30.
use Rattle.std.proofs.Common.{◌≡◌, ◌*ℤ◌, ◌^◌, to_z, of_z, rules, arith}
use Rattle.std.specs.Int.{w128}
use Rattle.corr_num.proofs.MagnitudeBounds.{product_magnitude}
use Rattle.lp_form.specs.Program.{payoff_of}
use Rattle.plain_programs.proofs.certificates.paid_times.Goals as goal

pub returns-clause-bound : goal.returns-clause-bound
returns-clause-bound c =
    let paid = payoff_of c.args.side c.args.lp.now c.args.col in
    let value : to_z w128 (of_z w128 c.product.result) ≡ c.args.den *ℤ paid = search rules in
    rw value (omega (
      arith,
      product_magnitude c.args.den paid (2 ^ 20) (2 ^ 30) c.requires.moderate_den (c.requires.moderate.payoffs c.args.side c.args.col c.requires.in_columns),
    ))

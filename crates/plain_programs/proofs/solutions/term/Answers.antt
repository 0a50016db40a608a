-- A coefficient is below 2^51 and a narrow number below 2^62.
use Rattle.std.proofs.Common.{◌≡◌, ◌*ℤ◌, ◌^◌, pos, slice_index_or, to_z, of_z, rules, arith}
use Rattle.std.specs.Int.{w128}
use Rattle.std.proofs.lemmas.List.Elements.{All-get_or}
use Rattle.corr_num.specs.Narrow.{Narrow}
use Rattle.corr_num.proofs.MagnitudeBounds.{product_magnitude}
use Rattle.lp_form.specs.Program.{coefficient}
use Rattle.plain_programs.proofs.solutions.term.Goals as goal

pub returns-clause-bound : goal.returns-clause-bound
returns-clause-bound c =
    let factor = coefficient c.args.lp.now c.args.row c.args.col in
    let number = slice_index_or c.args.numbers.now c.args.col (pos 0) in
    let value : to_z w128 (of_z w128 c.product.result) ≡ factor *ℤ number = search rules in
    let narrow : Narrow number = All-get_or Narrow c.args.numbers.now c.args.col (pos 0) (omega arith) c.requires.narrow in
    rw value (omega (
      arith,
      product_magnitude factor number (2 ^ 51) (2 ^ 62)
          (omega (arith, c.requires.small.coefficients c.args.row c.args.col)) (omega arith),
    ))

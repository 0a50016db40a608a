use Rattle.std.proofs.Common.{◌≡◌, ◌*ℤ◌, ◌^◌, to_z, of_z, rules}
use Rattle.std.specs.Int.{w128}
use Rattle.corr_num.proofs.MagnitudeBounds.{product_magnitude}
use Rattle.plain_programs.proofs.insides.part.Goals as goal

pub returns-clause-bound : goal.returns-clause-bound
returns-clause-bound c =
    let value : to_z w128 (of_z w128 c.product-2.result) ≡ c.args.a *ℤ (c.args.scale *ℤ c.args.x) = search rules in
    rw value
    (product_magnitude c.args.a (c.args.scale *ℤ c.args.x) (2 ^ 20) (2 ^ 40) c.requires.small_a
    (product_magnitude c.args.scale c.args.x (2 ^ 20) (2 ^ 20) c.requires.small_scale c.requires.small_x))

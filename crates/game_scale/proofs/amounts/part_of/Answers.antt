-- The denominator divides the scale.
use Rattle.std.proofs.Common.{rules, FitsSigned}
use Rattle.std.specs.Int.{w128}
use Rattle.std.proofs.lemmas.Int.{to_z-of_z}
use Rattle.game_scale.proofs.Multiples.{quotient_left}
use Rattle.game_scale.proofs.amounts.part_of.Goals as goal

pub returns-clause-exact : goal.returns-clause-exact
returns-clause-exact c =
    let scale_fits = c.ranges.scale in
    let from_fits : FitsSigned w128 c.from.result = search rules in
    let den_fits : FitsSigned w128 c.den.result = search rules in
    let part_fits : FitsSigned w128 c.quotient.result = search rules in
    let from = simp to_z-of_z at c.from.ensures in
    let exact = simp to_z-of_z at c.quotient.ensures.exact in
    let in_terms = rw (from, c.den.ensures.value) at exact in
    simp to_z-of_z (quotient_left c.args.weighted.now c.args.scale c.quotient.result c.den.ensures.lowest c.requires.positive c.requires.whole in_terms)

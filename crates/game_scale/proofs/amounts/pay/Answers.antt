-- An amount of the payoff in lowest terms is one of the payoff.
use Rattle.std.proofs.Common.{rules, FitsSigned, refl}
use Rattle.std.specs.Int.{w64}
use Rattle.std.proofs.lemmas.Int.{to_z-of_z}
use Rattle.corr_game.specs.declared.sides.Side.TheVariants.{One, Two}
use Rattle.game_scale.proofs.Paid.{paid}
use Rattle.game_scale.proofs.Weighted.{whole_reduced, times_weighted}
use Rattle.game_scale.proofs.amounts.pay.Goals as goal

pub amount-requires-clause-positive : goal.amount-requires-clause-positive
amount-requires-clause-positive c =
    let fits : FitsSigned w64 c.args.scales.one = search rules in
    simp to_z-of_z (c.requires.positive One)

pub amount-requires-clause-whole : goal.amount-requires-clause-whole
amount-requires-clause-whole c =
    let fits : FitsSigned w64 c.args.scales.one = search rules in
    simp to_z-of_z (whole_reduced One c.args.path.now c.weighted.result c.args.scales.one c.weighted.ensures.rules c.weighted.ensures.number (c.requires.whole One))

pub returns-in_err-one-clause-none : goal.returns-in_err-one-clause-none
returns-in_err-one-clause-none c = λ e.
    let fits : FitsSigned w64 c.args.scales.one = search rules in
    let found = simp to_z-of_z at (c.in_err-one.ensures.none refl) in
    (One, found.0, times_weighted One c.args.path.now c.weighted.result c.args.scales.one found.0 c.weighted.ensures.number found.1, found.2)

pub amount-requires-2-clause-positive : goal.amount-requires-2-clause-positive
amount-requires-2-clause-positive c =
    let fits : FitsSigned w64 c.args.scales.two = search rules in
    simp to_z-of_z (c.requires.positive Two)

pub amount-requires-2-clause-whole : goal.amount-requires-2-clause-whole
amount-requires-2-clause-whole c =
    let fits : FitsSigned w64 c.args.scales.two = search rules in
    simp to_z-of_z (whole_reduced Two c.args.path.now c.weighted-2.result c.args.scales.two c.weighted-2.ensures.rules c.weighted-2.ensures.number (c.requires.whole Two))

pub returns-in_err-two-clause-none : goal.returns-in_err-two-clause-none
returns-in_err-two-clause-none c = λ e.
    let fits : FitsSigned w64 c.args.scales.two = search rules in
    let found = simp to_z-of_z at (c.in_err-two.ensures.none refl) in
    (Two, found.0, times_weighted Two c.args.path.now c.weighted-2.result c.args.scales.two found.0 c.weighted-2.ensures.number found.1, found.2)

pub returns-clause-some : goal.returns-clause-some
returns-clause-some c =
    let one_fits : FitsSigned w64 c.args.scales.one = search rules in
    let two_fits : FitsSigned w64 c.args.scales.two = search rules in
    let first_fits : FitsSigned w64 c.in_ok-one.one = search rules in
    let second_fits : FitsSigned w64 c.in_ok-two.two = search rules in
    let first = simp to_z-of_z at c.in_ok-one.ensures.some in
    let second = simp to_z-of_z at c.in_ok-two.ensures.some in
    simp to_z-of_z (paid c.args.scales c.args.path.now c.weighted.result c.weighted-2.result c.in_ok-one.one c.in_ok-two.two c.weighted.ensures.number c.weighted-2.ensures.number first second)

-- The residues of the product are those of the numerator; both numbers fit, so that the casts keep them.
use Rattle.std.proofs.Common.{◌≡◌, ◌%◌, pos, w64, to_z, ◌∙◌, arith}
use Rattle.std.proofs.lemmas.Int.{to_z-of_z, to_z_pos}
use Rattle.residues.specs.declared.remainders.TheConstants.{P1, P2}
use Rattle.residues.proofs.Products.{first_same, second_same, product_same}
use Rattle.residues.proofs.candidates.is_over.Goals as goal

pub returns-clause-first : goal.returns-clause-first
returns-clause-first c = λ true.
    let num_fits = c.ranges.num in
    let num_is = simp to_z-of_z at c.of-2.ensures.first in
    let den_is : to_z w64 c.args.den ≡ pos c.args.den = to_z_pos w64 c.args.den (omega arith) in
    let rest : c.of.result.first ≡ c.args.den % P1 = rw den_is at c.of.ensures.first in
    product_same _ _ _ _ _ _ c.times.ensures.first rest (first_same _ _ _ _ _ c.eq.ensures true ∙ num_is)

pub returns-clause-second : goal.returns-clause-second
returns-clause-second c = λ true.
    let num_fits = c.ranges.num in
    let num_is = simp to_z-of_z at c.of-2.ensures.second in
    let den_is : to_z w64 c.args.den ≡ pos c.args.den = to_z_pos w64 c.args.den (omega arith) in
    let rest : c.of.result.second ≡ c.args.den % P2 = rw den_is at c.of.ensures.second in
    product_same _ _ _ _ _ _ c.times.ensures.second rest (second_same _ _ _ _ _ c.eq.ensures true ∙ num_is)

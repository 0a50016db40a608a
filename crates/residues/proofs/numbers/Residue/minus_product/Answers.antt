use Rattle.std.proofs.Common.{sym, ◌∙◌, arith}
use Rattle.residues.proofs.Differences.{less_product}
use Rattle.residues.specs.declared.remainders.TheConstants.{P1, P2}
use Rattle.residues.proofs.numbers.Residue.minus_product.Goals as goal

pub returns-clause-first : goal.returns-clause-first
returns-clause-first c =
    c.minus_product_modulo.ensures
    ∙ sym (less_product c.args.self.first c.args.factor.first c.args.other.first P1 (omega arith) (omega arith))

pub returns-clause-second : goal.returns-clause-second
returns-clause-second c =
    c.minus_product_modulo-2.ensures
    ∙ sym (less_product c.args.self.second c.args.factor.second c.args.other.second P2 (omega arith) (omega arith))

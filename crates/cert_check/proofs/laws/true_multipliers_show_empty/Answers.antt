use Rattle.std.proofs.Common.{List, [], ◌∷◌, arith}
use Rattle.cert_check.specs.Rules.{AllHold, by_column}
use Rattle.cert_check.specs.SideRules.{CertificateRule, EmptyRule, width, sign, above}
use Rattle.cert_check.proofs.FirstBroken.{second_holds, front_holds, back_holds}
use Rattle.cert_check.proofs.laws.true_multipliers_show_empty.Goals as goal

pub returns : goal.returns
returns c = λ lp multipliers holds.
    let columns : List CertificateRule = by_column width sign 0 lp.cols in
    let front : AllHold (EmptyRule lp multipliers) columns = front_holds (EmptyRule lp multipliers) columns (above ∷ []) holds.1 in
    let back : AllHold (EmptyRule lp multipliers) (above ∷ []) = back_holds (EmptyRule lp multipliers) columns (above ∷ []) holds.1 in
    record {
      one_each = holds.0;
      above = back.0;
      not_above = λ col within. second_holds (EmptyRule lp multipliers) width sign 0 lp.cols col front (omega arith) (omega arith);
    }

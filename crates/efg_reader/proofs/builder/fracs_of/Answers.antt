use Rattle.std.proofs.Common.{List, [], ◌∷◌, ◌++◌, length, map, take, ap, sym, subst, ◌∙◌, arith}
use Rattle.std.specs.Prelude.{All}
use Rattle.std.proofs.lemmas.List.{length_push, map_more}
use Rattle.std.proofs.lemmas.List.Elements.{All-push}
use Rattle.corr_num.specs.Fraction.{Fraction}
use Rattle.number_words.specs.Number.{fraction_of, IsPart}
use Rattle.efg_reader.specs.RawGame.{IsProbability}
use Rattle.efg_reader.proofs.builder.fracs_of.Goals as goal

pub loop-number-preserved : goal.loop-number-preserved
loop-number-preserved c =
    let number = c.number-item.result in
    record {
      count = omega (arith, ap (λ (fs : List Fraction). length fs) c.in_ok-push.ensures.ok, length_push c.loop-number.fracs c.frac.result, c.loop-number.invariant.count);
      values =
          c.in_ok-push.ensures.ok
          ∙ ap (λ (fs : List Fraction). fs ++ c.frac.result ∷ []) c.loop-number.invariant.values
          ∙ ap (λ (f : Fraction). map fraction_of (take c.loop-number.number-index c.args.numbers.now) ++ f ∷ []) (c.frac.ensures.value ∙ ap fraction_of c.number-item.is)
          ∙ sym (map_more fraction_of c.args.numbers.now c.loop-number.number-index number c.loop-number-test.true);
      parts =
          subst (All IsProbability) (sym c.in_ok-push.ensures.ok)
          (All-push IsProbability c.loop-number.fracs c.frac.result c.loop-number.invariant.parts
          (c.frac.ensures.part (subst IsPart (sym c.number-item.is) (c.requires c.loop-number.number-index number c.loop-number-test.true))));
    }

-- The rules of a corner, put together from their parts.
use Rattle.std.proofs.Common.{◌≡◌, inl, inr, List, [], ◌∷◌, All, Some, length, get_or, sym, ap, subst, ◌∙◌, arith}
use Rattle.std.specs.Prelude.{option_map, slice_get}
use Rattle.std.proofs.lemmas.Int.{ints}
use Rattle.std.proofs.lemmas.List.{length-map}
use Rattle.std.proofs.lemmas.Option.{slice_get-get_or, slice_get-map}
use Rattle.corr_game.specs.declared.notions.Notion.{Notion}
use Rattle.corr_game.specs.declared.plans.Pair.{Pair}
use Rattle.corr_game.specs.declared.sides.Side.TheVariants.{One, Two}
use Rattle.corr_game.specs.Game.{GameView}
use Rattle.equilibrium.specs.Distribution.{Entry, IsEntry, entries_of, entry_of, total}
use Rattle.equilibrium.specs.Equilibrium.{NoneImproves, no_slack}
use Rattle.report_form.specs.Ranges.{IsPair}
use Rattle.report_form.specs.declared.reports.Corner.{Corner}
use Rattle.sequences.proofs.Adding.{within}
use Rattle.deviation_gains.specs.Planned.{AreReduced}
use Rattle.cert_check.specs.CornerRules.{CornerRule, corner_rules}
use Rattle.cert_check.specs.Rules.{AllHold, IsFirstBroken}
use Rattle.cert_check.specs.Truth.{IsTrueCorner}
use Rattle.report_form.specs.declared.verdicts.Cause.{Cause}
use Rattle.report_form.specs.declared.verdicts.Cause.TheVariants.{Gain, Point, Width}
use Rattle.cert_check.proofs.Elements.{all_at}
use Rattle.cert_check.proofs.FirstBroken.{broken_in_front}

entry_is : (g : GameView) (pair : Pair) → AreReduced g pair → IsPair pair → IsEntry g (entry_of pair)
entry_is g pair reduced ranges =
    let some = ranges.0.0 in
    record { one = reduced.0; two = reduced.1; weighs = omega (arith, ints, some) }

pub entries_are : (g : GameView) (pairs : List Pair) → All (AreReduced g) pairs → All IsPair pairs → All (IsEntry g) (entries_of pairs)
entries_are g pairs reduced ranges k d inside =
    let count : length (entries_of pairs) ≡ length pairs = length-map pairs entry_of in
    let (pair, found) = within pairs k (omega (arith, inside, count)) in
    let here : slice_get (entries_of pairs) k ≡ Some (entry_of pair) = slice_get-map entry_of pairs k ∙ ap (option_map entry_of) found in
    let same : entry_of pair ≡ get_or (entries_of pairs) k d = cc (here, slice_get-get_or (entries_of pairs) k d inside) in
    subst (λ (e : Entry). IsEntry g e) same (entry_is g pair (all_at (AreReduced g) pairs k pair reduced found) (all_at IsPair pairs k pair ranges found))

module _ (g : GameView) (notion : Notion) (corner : Corner) (reduced : All (AreReduced g) corner.pairs)
    (sum : total (entries_of corner.pairs) ≡ corner.total) where
  pub pays_first : (cause : Cause) → IsFirstBroken (CornerRule g notion corner) (Width ∷ Point ∷ []) cause
      → IsFirstBroken (CornerRule g notion corner) corner_rules cause
  pays_first cause fails =
      inr (reduced, inr (sum, broken_in_front (CornerRule g notion corner) (Width ∷ Point ∷ []) (Gain One ∷ Gain Two ∷ []) cause fails))

  module _ (pays : AllHold (CornerRule g notion corner) (Width ∷ Point ∷ [])) where
    pub first_gains : (cause : Cause) → (cause ≡ Gain One) × (NoneImproves notion One g no_slack (entries_of corner.pairs) → ⊥)
        → IsFirstBroken (CornerRule g notion corner) corner_rules cause
    first_gains cause fails = inr (reduced, inr (sum, inr (pays.0, inr (pays.1.0, inl (sym fails.0, fails.1)))))

    pub second_gains : NoneImproves notion One g no_slack (entries_of corner.pairs) → (cause : Cause)
        → (cause ≡ Gain Two) × (NoneImproves notion Two g no_slack (entries_of corner.pairs) → ⊥)
        → IsFirstBroken (CornerRule g notion corner) corner_rules cause
    second_gains none cause fails =
        inr (reduced, inr (sum, inr (pays.0, inr (pays.1.0, inr (none, inl (sym fails.0, fails.1))))))

    pub corner_true : NoneImproves notion One g no_slack (entries_of corner.pairs)
        → NoneImproves notion Two g no_slack (entries_of corner.pairs) → IsTrueCorner g notion corner
    corner_true one two = (reduced, (sum, (pays.0, (pays.1.0, (one, (two, tt))))))

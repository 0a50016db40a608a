-- The rules in their order: the plans, the total, what the pairs pay, then each player's gain.
use Rattle.std.proofs.Common.{rules, ◌≡◌, [], ◌∷◌}
use Rattle.std.proofs.lemmas.Result.{IfErr-weaker, IfOk-weaker}
use Rattle.corr_game.specs.declared.notions.Notion.{Notion}
use Rattle.corr_game.specs.declared.sides.Side.TheVariants.{One, Two}
use Rattle.equilibrium.specs.Distribution.{entries_of, total}
use Rattle.equilibrium.specs.Equilibrium.{NoneImproves, no_slack}
use Rattle.cert_check.specs.CornerRules.{CornerRule, corner_rules}
use Rattle.cert_check.specs.Ends.{IsBreak}
use Rattle.cert_check.specs.Rules.{IsFirstBroken}
use Rattle.cert_check.specs.Truth.{IsTrueCorner}
use Rattle.report_form.specs.declared.verdicts.Cause.{Cause}
use Rattle.report_form.specs.declared.verdicts.Cause.TheVariants.{Gain, Point, Width}
use Rattle.cert_check.proofs.CheckedCorners.{corner_true, entries_are, first_gains, pays_first, second_gains}
use Rattle.cert_check.proofs.RuleEnds.{break_for, error_named}
use Rattle.cert_check.proofs.corners.check_corner.Goals as goal

pub check_gain-requires-clause-entries : goal.check_gain-requires-clause-entries
check_gain-requires-clause-entries c =
    entries_are c.args.game.now c.args.corner.now.pairs (c.all_planned.ensures.reduced.0 c.in_ok-keep.ensures.holds) c.requires.ranges.3

pub check_gain-requires-2-clause-entries : goal.check_gain-requires-2-clause-entries
check_gain-requires-2-clause-entries c =
    entries_are c.args.game.now c.args.corner.now.pairs (c.all_planned.ensures.reduced.0 c.in_ok-keep.ensures.holds) c.requires.ranges.3

pub returns-in_err-check_pays-clause-broken : goal.returns-in_err-check_pays-clause-broken
returns-in_err-check_pays-clause-broken c =
    let g = c.args.game.now in
    let corner = c.args.corner.now in
    let reduced = c.all_planned.ensures.reduced.0 c.in_ok-keep.ensures.holds in
    let sum : total (entries_of corner.pairs) ≡ corner.total = search rules in
    let Pays : Cause → Type 0 = λ cause. (notion : Notion) → IsFirstBroken (CornerRule g notion corner) (Width ∷ Point ∷ []) cause in
    let Broken : Cause → Type 0 = IsFirstBroken (CornerRule g c.args.notion corner) corner_rules in
    error_named _ _ (IsBreak Broken) c.from_residual-in_err-check_pays.ensures.1
    (break_for Pays Broken c.in_err-check_pays.field-0.0 (λ cause fails. pays_first g c.args.notion corner reduced sum cause (fails c.args.notion))
    c.in_err-check_pays.ensures.broken)

pub returns-in_err-check_gain-clause-broken : goal.returns-in_err-check_gain-clause-broken
returns-in_err-check_gain-clause-broken c =
    let g = c.args.game.now in
    let corner = c.args.corner.now in
    let reduced = c.all_planned.ensures.reduced.0 c.in_ok-keep.ensures.holds in
    let sum : total (entries_of corner.pairs) ≡ corner.total = search rules in
    let pays = c.in_ok-check_pays.ensures.held c.args.notion in
    let Gains : Cause → Type 0 = λ cause. (cause ≡ Gain One) × (NoneImproves c.args.notion One g no_slack (entries_of corner.pairs) → ⊥) in
    let Broken : Cause → Type 0 = IsFirstBroken (CornerRule g c.args.notion corner) corner_rules in
    error_named _ _ (IsBreak Broken) c.from_residual-in_err-check_gain.ensures.1
    (break_for Gains Broken c.in_err-check_gain.field-0.0 (first_gains g c.args.notion corner reduced sum pays) c.in_err-check_gain.ensures.broken)

pub returns-clause-held : goal.returns-clause-held
returns-clause-held c =
    let g = c.args.game.now in
    let corner = c.args.corner.now in
    let reduced = c.all_planned.ensures.reduced.0 c.in_ok-keep.ensures.holds in
    let sum : total (entries_of corner.pairs) ≡ corner.total = search rules in
    let pays = c.in_ok-check_pays.ensures.held c.args.notion in
    IfOk-weaker c.check_gain-2.result (λ _. NoneImproves c.args.notion Two g no_slack (entries_of corner.pairs))
    (λ _. IsTrueCorner g c.args.notion corner)
    (λ _ none. corner_true g c.args.notion corner reduced sum pays c.in_ok-check_gain.ensures.held none) c.check_gain-2.ensures.held

pub returns-clause-broken : goal.returns-clause-broken
returns-clause-broken c =
    let g = c.args.game.now in
    let corner = c.args.corner.now in
    let reduced = c.all_planned.ensures.reduced.0 c.in_ok-keep.ensures.holds in
    let sum : total (entries_of corner.pairs) ≡ corner.total = search rules in
    let pays = c.in_ok-check_pays.ensures.held c.args.notion in
    let Gains : Cause → Type 0 = λ cause. (cause ≡ Gain Two) × (NoneImproves c.args.notion Two g no_slack (entries_of corner.pairs) → ⊥) in
    let Broken : Cause → Type 0 = IsFirstBroken (CornerRule g c.args.notion corner) corner_rules in
    IfErr-weaker c.check_gain-2.result (IsBreak Gains) (IsBreak Broken)
    (λ end h. break_for Gains Broken end (second_gains g c.args.notion corner reduced sum pays c.in_ok-check_gain.ensures.held) h)
    c.check_gain-2.ensures.broken

-- Names tell what they name: the sum of a name's bytes is that of no other name of its kind.
use Rattle.std.proofs.Common.{◌≡◌, ℕ, ◌+◌, nat_eq, cond, List, [], ◌∷◌, refl, sym, ap, ◌∙◌}
use Rattle.corr_game.specs.declared.notions.Notion.{Notion}
use Rattle.corr_game.specs.declared.notions.Notion.TheVariants.{Efce, Efcce, Nfcce}
use Rattle.corr_game.specs.declared.sides.Side.{Side}
use Rattle.corr_game.specs.declared.sides.Side.TheVariants.{One, Two}
use Rattle.report_form.specs.declared.refusals.NodeRule.{NodeRule}
use Rattle.report_form.specs.declared.refusals.NodeRule.TheVariants.{ExtraNode, TooManyNodes, TooDeep, NumberTooWide}
use Rattle.report_form.specs.declared.refusals.NodeRule.TheVariants.{PlayerUnknown, NoActions}
use Rattle.report_form.specs.declared.refusals.NodeRule.TheVariants.{TooManyActions, ChanceNegative, ChanceTooFine, ChanceSum, SetUnknown}
use Rattle.report_form.specs.declared.refusals.NodeRule.TheVariants.{SetDiffers, PayoffCount, OutcomeUnknown, OutcomeDiffers}
use Rattle.report_form.specs.declared.refusals.NodeRule.TheVariants.{MissingNode, PathTooFine, AmountTooLarge}
use Rattle.report_text.specs.NameText.{notion_name, player_name, rule_name}

abbrev bytes_sum : List ℕ → ℕ
bytes_sum [] = 0
bytes_sum (byte ∷ rest) = byte + bytes_sum rest

-- two things with one name, where a thing can be told by its name
told_apart : {A : Type 0} (name : A → List ℕ) (told : ℕ → A) → ((x : A) → told (bytes_sum (name x)) ≡ x)
    → (a b : A) → name a ≡ name b → a ≡ b
told_apart name told back a b e = sym (back a) ∙ ap (λ (text : List ℕ). told (bytes_sum text)) e ∙ back b

abbrev told_notion : ℕ → Notion
told_notion sum = cond (nat_eq sum 403) Efce (cond (nat_eq sum 502) Efcce Nfcce)

notion_back : (notion : Notion) → told_notion (bytes_sum (notion_name notion)) ≡ notion
unfolding notion_name
notion_back Efce = refl
notion_back Efcce = refl
notion_back Nfcce = refl

pub one_notion : (a b : Notion) → notion_name a ≡ notion_name b → a ≡ b
one_notion = told_apart notion_name told_notion notion_back

abbrev told_player : ℕ → Side
told_player sum = cond (nat_eq sum 49) One Two

player_back : (side : Side) → told_player (bytes_sum (player_name side)) ≡ side
unfolding player_name
player_back One = refl
player_back Two = refl

pub one_player : (a b : Side) → player_name a ≡ player_name b → a ≡ b
one_player = told_apart player_name told_player player_back

abbrev told_rule : ℕ → NodeRule
told_rule sum =
    cond (nat_eq sum 906) ExtraNode (cond (nat_eq sum 1216) TooManyNodes (cond (nat_eq sum 688) TooDeep (
    cond (nat_eq sum 1316) NumberTooWide (cond (nat_eq sum 1373) PlayerUnknown (cond (nat_eq sum 910) NoActions (
    cond (nat_eq sum 1432) TooManyActions (cond (nat_eq sum 1397) ChanceNegative (cond (nat_eq sum 1270) ChanceTooFine (
    cond (nat_eq sum 887) ChanceSum (cond (nat_eq sum 1052) SetUnknown (cond (nat_eq sum 1007) SetDiffers (
    cond (nat_eq sum 1134) PayoffCount (cond (nat_eq sum 1484) OutcomeUnknown (cond (nat_eq sum 1439) OutcomeDiffers (
    cond (nat_eq sum 1120) MissingNode (cond (nat_eq sum 1089) PathTooFine (AmountTooLarge)))))))))))))))))

rule_back : (rule : NodeRule) → told_rule (bytes_sum (rule_name rule)) ≡ rule
unfolding rule_name
rule_back ExtraNode = refl
rule_back TooManyNodes = refl
rule_back TooDeep = refl
rule_back NumberTooWide = refl
rule_back PlayerUnknown = refl
rule_back NoActions = refl
rule_back TooManyActions = refl
rule_back ChanceNegative = refl
rule_back ChanceTooFine = refl
rule_back ChanceSum = refl
rule_back SetUnknown = refl
rule_back SetDiffers = refl
rule_back PayoffCount = refl
rule_back OutcomeUnknown = refl
rule_back OutcomeDiffers = refl
rule_back MissingNode = refl
rule_back PathTooFine = refl
rule_back AmountTooLarge = refl

pub one_rule : (a b : NodeRule) → rule_name a ≡ rule_name b → a ≡ b
one_rule = told_apart rule_name told_rule rule_back

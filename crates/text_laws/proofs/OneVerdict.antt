-- No two verdicts have one line: word by word the line tells the verdict.
use Rattle.std.proofs.Common.{◌≡◌, ℕ, ◌<◌, ◌^◌, nat_eq, cond, List, [], ◌∷◌, ◌++◌, codes, drop, get_or, refl, sym, ap, ◌∙◌, arith}
use Rattle.std.specs.Fmt.{decimal}
use Rattle.answer_text.specs.VerdictText.{cause_text, item_text, verdict_text}
use Rattle.report_form.specs.declared.verdicts.Cause.{Cause}
use Rattle.report_form.specs.declared.verdicts.Item.{Item}
use Rattle.report_form.specs.declared.verdicts.Item.TheVariants as item
use Rattle.report_form.specs.declared.verdicts.Verdict.{Verdict}
use Rattle.report_form.specs.declared.verdicts.Verdict.TheVariants.{Yes, Partial, NoScale, No}
use Rattle.corr_game.specs.declared.notions.Notion.{Notion}
use Rattle.corr_game.specs.declared.notions.Notion.TheVariants.{Efce, Efcce, Nfcce}
use Rattle.report_form.specs.declared.reports.NamedBlock.{NamedBlock}
use Rattle.report_text.proofs.Telling.{one_notion}
use Rattle.report_text.specs.NameText.{notion_name}
use Rattle.text_laws.proofs.CauseTexts.{one_cause_a_line}
use Rattle.text_laws.proofs.ReportTold.{notion_words}
use Rattle.text_laws.proofs.Words.{both_regrouped, numbers_split, words_split}
use Rattle.text_laws.specs.Fields.{HasItemFields, HasVerdictFields}

-- the first byte of an item's text
abbrev item_byte : Item → ℕ
item_byte (item.Corner k) = 99
item_byte (item.Belt side) = 98
item_byte (item.Side k) = 115
item_byte item.Multipliers = 109

item_first : (x : Item) (c : Cause) (a : List ℕ) → get_or (item_text x c ++ a) 0 0 ≡ item_byte x
unfolding item_text
item_first (item.Corner k) c a = refl
item_first (item.Belt side) c a = refl
item_first (item.Side k) c a = refl
item_first item.Multipliers c a = refl

corner_items : (m n : ℕ) (c d : Cause) → m < 2 ^ 64 → n < 2 ^ 64
    → item_text (item.Corner m) c ++ codes "\n" ≡ item_text (item.Corner n) d ++ codes "\n" → (m ≡ n) × (c ≡ d)
unfolding item_text
corner_items m n c d small little e =
    let texts = both_regrouped (decimal m) (decimal n) (codes " " ∷ cause_text c ∷ []) (codes " " ∷ cause_text d ∷ []) (codes "\n")
    (codes "\n") (ap (drop 7) e) in
    let parts = numbers_split m n (codes " " ++ (cause_text c ++ codes "\n")) (codes " " ++ (cause_text d ++ codes "\n")) small little
    (omega arith) (omega arith) texts in
    (parts.0, one_cause_a_line c d (ap (drop 1) parts.1))

side_items : (m n : ℕ) (c d : Cause) → m < 2 ^ 64 → n < 2 ^ 64
    → item_text (item.Side m) c ++ codes "\n" ≡ item_text (item.Side n) d ++ codes "\n" → (m ≡ n) × (c ≡ d)
unfolding item_text
side_items m n c d small little e =
    let texts = both_regrouped (decimal m) (decimal n) (codes " " ∷ cause_text c ∷ []) (codes " " ∷ cause_text d ∷ []) (codes "\n")
    (codes "\n") (ap (drop 5) e) in
    let parts = numbers_split m n (codes " " ++ (cause_text c ++ codes "\n")) (codes " " ++ (cause_text d ++ codes "\n")) small little
    (omega arith) (omega arith) texts in
    (parts.0, one_cause_a_line c d (ap (drop 1) parts.1))

belt_items : (m n : ℕ) (c d : Cause) → m < 2 ^ 64 → n < 2 ^ 64
    → item_text (item.Belt m) c ++ codes "\n" ≡ item_text (item.Belt n) d ++ codes "\n" → m ≡ n
unfolding item_text
belt_items m n c d small little e = (numbers_split m n (codes "\n") (codes "\n") small little (omega arith) (omega arith) (ap (drop 5) e)).0

multiplier_items : (c d : Cause)
    → item_text item.Multipliers c ++ codes "\n" ≡ item_text item.Multipliers d ++ codes "\n" → c ≡ d
unfolding item_text
multiplier_items c d e = one_cause_a_line c d (ap (drop 12) e)

of_one_byte : (x y : Item) (c d : Cause) → item_byte x ≡ item_byte y → HasItemFields x c → HasItemFields y d
    → item_text x c ++ codes "\n" ≡ item_text y d ++ codes "\n" → (x ≡ y) × (c ≡ d)
of_one_byte (item.Corner m) (item.Corner n) c d same p q e =
    let parts = corner_items m n c d p q e in
    (ap item.Corner parts.0, parts.1)
of_one_byte (item.Belt m) (item.Belt n) c d same p q e = (ap item.Belt (belt_items m n c d p.0 q.0 e), p.1 ∙ sym q.1)
of_one_byte (item.Side m) (item.Side n) c d same p q e =
    let parts = side_items m n c d p q e in
    (ap item.Side parts.0, parts.1)
of_one_byte item.Multipliers item.Multipliers c d same p q e = (refl, multiplier_items c d e)
of_one_byte x y c d same p q e = absurd (omega (arith, same))

item_told : (x y : Item) (c d : Cause) → HasItemFields x c → HasItemFields y d
    → item_text x c ++ codes "\n" ≡ item_text y d ++ codes "\n" → (x ≡ y) × (c ≡ d)
item_told x y c d p q e =
    let first : item_byte x ≡ item_byte y = sym (item_first x c (codes "\n")) ∙ ap (λ (bs : List ℕ). get_or bs 0 0) e
    ∙ item_first y d (codes "\n") in
    of_one_byte x y c d first p q e

broken_rules : (m n : Notion) (x y : Item) (c d : Cause) (blocks others : List NamedBlock) → HasItemFields x c → HasItemFields y d
    → verdict_text (No m x c) blocks ≡ verdict_text (No n y d) others → (m ≡ n) × (x ≡ y) × (c ≡ d)
unfolding verdict_text
broken_rules m n x y c d blocks others p q e =
    let texts = both_regrouped (notion_name m) (notion_name n) (codes " " ∷ item_text x c ∷ []) (codes " " ∷ item_text y d ∷ [])
    (codes "\n") (codes "\n") (ap (drop 3) e) in
    let names = words_split (notion_name m) (notion_name n) (codes " " ++ (item_text x c ++ codes "\n"))
    (codes " " ++ (item_text y d ++ codes "\n")) (notion_words m) (notion_words n) (omega arith) (omega arith) texts in
    let items = item_told x y c d p q (ap (drop 1) names.1) in
    (one_notion m n names.0, items.0, items.1)

-- a verdict by the first byte of its line and the fourth
abbrev line_kind : Verdict → ℕ
line_kind Yes = 0
line_kind Partial = 1
line_kind NoScale = 2
line_kind (No notion at broken) = 3

abbrev told_kind : List ℕ → ℕ
told_kind line =
    cond (nat_eq (get_or line 0 0) 121) 0 (cond (nat_eq (get_or line 0 0) 112) 1 (cond (nat_eq (get_or line 3 0) 115) 2 3))

kind_back : (given : Verdict) (blocks : List NamedBlock) → told_kind (verdict_text given blocks) ≡ line_kind given
unfolding verdict_text notion_name
kind_back Yes blocks = refl
kind_back Partial blocks = refl
kind_back NoScale blocks = refl
kind_back (No Efce at broken) blocks = refl
kind_back (No Efcce at broken) blocks = refl
kind_back (No Nfcce at broken) blocks = refl

of_one_kind : (a b : Verdict) (blocks others : List NamedBlock) → line_kind a ≡ line_kind b → HasVerdictFields a → HasVerdictFields b
    → verdict_text a blocks ≡ verdict_text b others → a ≡ b
of_one_kind Yes Yes blocks others kind p q e = refl
of_one_kind Partial Partial blocks others kind p q e = refl
of_one_kind NoScale NoScale blocks others kind p q e = refl
of_one_kind (No m x c) (No n y d) blocks others kind p q e =
    let parts = broken_rules m n x y c d blocks others p q e in
    cc (parts.0, parts.1, parts.2)
of_one_kind a b blocks others kind p q e = absurd (omega (arith, kind))

pub one_verdict_a_line : (a b : Verdict) (blocks others : List NamedBlock) → HasVerdictFields a → HasVerdictFields b
    → verdict_text a blocks ≡ verdict_text b others → a ≡ b
one_verdict_a_line a b blocks others p q e =
    of_one_kind a b blocks others (sym (kind_back a blocks) ∙ ap told_kind e ∙ kind_back b others) p q e

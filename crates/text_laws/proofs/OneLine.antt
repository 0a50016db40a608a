-- No two refusals have one line: the first word tells the kind, and word by word the line tells the rest.
use Rattle.std.proofs.Common.{◌≡◌, ℕ, ◌+◌, nat_eq, nat_le, cond, true, List, [], ◌∷◌, ◌++◌, codes, drop, refl, sym, ap, ◌∙◌, arith}
use Rattle.std.proofs.lemmas.Fmt.{decimal_injective}
use Rattle.std.specs.Fmt.{decimal}
use Rattle.corr_game.specs.declared.notions.Notion.{Notion}
use Rattle.corr_game.specs.declared.notions.Notion.TheVariants.{Efce, Efcce, Nfcce}
use Rattle.corr_game.specs.declared.sides.Side.{Side}
use Rattle.corr_game.specs.declared.sides.Side.TheVariants.{One, Two}
use Rattle.report_form.specs.declared.refusals.NodeRule.{NodeRule}
use Rattle.report_form.specs.declared.refusals.NodeRule.TheVariants.{ExtraNode, TooManyNodes, TooDeep, NumberTooWide}
use Rattle.report_form.specs.declared.refusals.NodeRule.TheVariants.{PlayerUnknown, NoActions}
use Rattle.report_form.specs.declared.refusals.NodeRule.TheVariants.{TooManyActions, ChanceNegative, ChanceTooFine, ChanceSum, SetUnknown}
use Rattle.report_form.specs.declared.refusals.NodeRule.TheVariants.{SetDiffers, PayoffCount, OutcomeUnknown, OutcomeDiffers}
use Rattle.report_form.specs.declared.refusals.NodeRule.TheVariants.{MissingNode, PathTooFine, AmountTooLarge}
use Rattle.report_form.specs.declared.refusals.Refusal.{Refusal}
use Rattle.report_form.specs.declared.refusals.Refusal.TheVariants.{InputTooLong, Report, Syntax, Players, AtNode, ScaleTooLarge}
use Rattle.report_form.specs.declared.refusals.Refusal.TheVariants.{Forgets, Triangle, Size, TooLarge}
use Rattle.report_text.proofs.Telling.{one_notion, one_player, one_rule}
use Rattle.report_text.specs.NameText.{notion_name, player_name, rule_name}
use Rattle.report_text.specs.PartText.{behind_space, count_text}
use Rattle.report_text.specs.RefusalText.{cause_text, refusal_text}
use Rattle.text_laws.proofs.Words.{added, added_split, decimals_are_words, flat, is_word, numbers_split, words_split}
use Rattle.text_laws.specs.Fields.{HasRefusalFields, IsField}

-- the sum of the bytes in front of the first space
abbrev first_sum : List ℕ → ℕ
first_sum [] = 0
first_sum (byte ∷ rest) = cond (nat_le byte 32) 0 (byte + first_sum rest)

abbrev kind_of : Refusal → ℕ
kind_of (InputTooLong limit) = 0
kind_of (Report at) = 1
kind_of (Syntax at) = 2
kind_of (Players count) = 3
kind_of (AtNode name node) = 4
kind_of (ScaleTooLarge side) = 5
kind_of (Forgets side set first second) = 6
kind_of (Triangle one_a one_b two_a two_b) = 7
kind_of (Size notion rows columns) = 8
kind_of (TooLarge greatest) = 9

abbrev told_kind : ℕ → ℕ
told_kind sum =
    cond (nat_eq sum 1234) 0 (cond (nat_eq sum 636) 1 (cond (nat_eq sum 647) 2 (cond (nat_eq sum 736) 3 (
    cond (nat_eq sum 1285) 5 (cond (nat_eq sum 730) 6 (cond (nat_eq sum 822) 7 (cond (nat_eq sum 411) 8 (
    cond (nat_eq sum 797) 9 4))))))))

abbrev kind_in : List ℕ → ℕ
kind_in line = told_kind (first_sum (drop 8 line))

kind_back : (refusal : Refusal) → kind_in (refusal_text refusal) ≡ kind_of refusal
unfolding refusal_text cause_text behind_space rule_name
kind_back (InputTooLong limit) = refl
kind_back (Report at) = refl
kind_back (Syntax at) = refl
kind_back (Players count) = refl
kind_back (AtNode ExtraNode node) = refl
kind_back (AtNode TooManyNodes node) = refl
kind_back (AtNode TooDeep node) = refl
kind_back (AtNode NumberTooWide node) = refl
kind_back (AtNode PlayerUnknown node) = refl
kind_back (AtNode NoActions node) = refl
kind_back (AtNode TooManyActions node) = refl
kind_back (AtNode ChanceNegative node) = refl
kind_back (AtNode ChanceTooFine node) = refl
kind_back (AtNode ChanceSum node) = refl
kind_back (AtNode SetUnknown node) = refl
kind_back (AtNode SetDiffers node) = refl
kind_back (AtNode PayoffCount node) = refl
kind_back (AtNode OutcomeUnknown node) = refl
kind_back (AtNode OutcomeDiffers node) = refl
kind_back (AtNode MissingNode node) = refl
kind_back (AtNode PathTooFine node) = refl
kind_back (AtNode AmountTooLarge node) = refl
kind_back (ScaleTooLarge side) = refl
kind_back (Forgets side set first second) = refl
kind_back (Triangle one_a one_b two_a two_b) = refl
kind_back (Size notion rows columns) = refl
kind_back (TooLarge greatest) = refl

same_kind : (a b : Refusal) → refusal_text a ≡ refusal_text b → kind_of a ≡ kind_of b
same_kind a b e = sym (kind_back a) ∙ ap kind_in e ∙ kind_back b

rule_words : (rule : NodeRule) → is_word (rule_name rule) ≡ true
unfolding rule_name
rule_words ExtraNode = refl
rule_words TooManyNodes = refl
rule_words TooDeep = refl
rule_words NumberTooWide = refl
rule_words PlayerUnknown = refl
rule_words NoActions = refl
rule_words TooManyActions = refl
rule_words ChanceNegative = refl
rule_words ChanceTooFine = refl
rule_words ChanceSum = refl
rule_words SetUnknown = refl
rule_words SetDiffers = refl
rule_words PayoffCount = refl
rule_words OutcomeUnknown = refl
rule_words OutcomeDiffers = refl
rule_words MissingNode = refl
rule_words PathTooFine = refl
rule_words AmountTooLarge = refl

notion_words : (notion : Notion) → is_word (notion_name notion) ≡ true
unfolding notion_name
notion_words Efce = refl
notion_words Efcce = refl
notion_words Nfcce = refl

player_words : (side : Side) → is_word (player_name side) ≡ true
unfolding player_name
player_words One = refl
player_words Two = refl

-- a number at the end of a line
last_number : (m n : ℕ) → IsField m → IsField n → decimal m ++ codes "\n" ≡ decimal n ++ codes "\n" → m ≡ n
last_number m n small little e = (numbers_split m n (codes "\n") (codes "\n") small little (omega arith) (omega arith) e).0

input_limits : (m n : ℕ) → IsField m → IsField n → refusal_text (InputTooLong m) ≡ refusal_text (InputTooLong n) → m ≡ n
unfolding refusal_text cause_text behind_space
input_limits m n small little e = last_number m n small little (ap (drop 21) e)

report_places : (m n : ℕ) → IsField m → IsField n → refusal_text (Report m) ≡ refusal_text (Report n) → m ≡ n
unfolding refusal_text cause_text behind_space
report_places m n small little e = last_number m n small little (ap (drop 20) e)

syntax_places : (m n : ℕ) → IsField m → IsField n → refusal_text (Syntax m) ≡ refusal_text (Syntax n) → m ≡ n
unfolding refusal_text cause_text behind_space
syntax_places m n small little e = last_number m n small little (ap (drop 20) e)

player_counts : (m n : ℕ) → IsField m → IsField n → refusal_text (Players m) ≡ refusal_text (Players n) → m ≡ n
unfolding refusal_text cause_text behind_space
player_counts m n small little e = last_number m n small little (ap (drop 16) e)

greatest_sizes : (m n : ℕ) → IsField m → IsField n → refusal_text (TooLarge m) ≡ refusal_text (TooLarge n) → m ≡ n
unfolding refusal_text cause_text behind_space
greatest_sizes m n small little e = last_number m n small little (ap (drop 19) e)

node_rules : (a b : NodeRule) (m n : ℕ) → IsField m → IsField n → refusal_text (AtNode a m) ≡ refusal_text (AtNode b n)
    → (a ≡ b) × (m ≡ n)
unfolding refusal_text cause_text behind_space
node_rules a b m n small little e =
    let parts = added_split (rule_name a) (rule_name b) (codes " node" ∷ count_text m ∷ codes "\n" ∷ [])
    (codes " node" ∷ count_text n ∷ codes "\n" ∷ []) (rule_words a) (rule_words b) (omega arith) (omega arith) (ap (drop 8) e) in
    (one_rule a b parts.0, last_number m n small little (ap (drop 6) parts.1))

scale_players : (a b : Side) → refusal_text (ScaleTooLarge a) ≡ refusal_text (ScaleTooLarge b) → a ≡ b
unfolding refusal_text cause_text
scale_players a b e =
    one_player a b
    (words_split (player_name a) (player_name b) (codes "\n") (codes "\n") (player_words a) (player_words b)
    (omega arith) (omega arith) (ap (drop 29) e)).0

forgotten : (a b : Side) (set first second other third fourth : ℕ) → IsField set → IsField first → IsField second
    → IsField other → IsField third → IsField fourth
    → refusal_text (Forgets a set first second) ≡ refusal_text (Forgets b other third fourth)
    → (a ≡ b) × (set ≡ other) × (first ≡ third) × (second ≡ fourth)
unfolding refusal_text cause_text behind_space
forgotten a b set first second other third fourth f g h i j k e =
    let player = added_split (player_name a) (player_name b)
    (codes " set" ∷ count_text set ∷ codes " nodes" ∷ count_text first ∷ count_text second ∷ codes "\n" ∷ [])
    (codes " set" ∷ count_text other ∷ codes " nodes" ∷ count_text third ∷ count_text fourth ∷ codes "\n" ∷ [])
    (player_words a) (player_words b) (omega arith) (omega arith) (ap (drop 23) e) in
    let sets = numbers_split set other (flat (codes " nodes" ∷ count_text first ∷ count_text second ∷ codes "\n" ∷ []))
    (flat (codes " nodes" ∷ count_text third ∷ count_text fourth ∷ codes "\n" ∷ [])) f i (omega arith) (omega arith)
    (ap (drop 5) player.1) in
    let firsts = numbers_split first third (flat (count_text second ∷ codes "\n" ∷ []))
    (flat (count_text fourth ∷ codes "\n" ∷ [])) g j (omega arith) (omega arith) (ap (drop 7) sets.1) in
    (one_player a b player.0, sets.0, firsts.0, last_number second fourth h k (ap (drop 1) firsts.1))

triangles : (a b c d p q r s : ℕ) → IsField a → IsField b → IsField c → IsField d → IsField p → IsField q → IsField r → IsField s
    → refusal_text (Triangle a b c d) ≡ refusal_text (Triangle p q r s) → (a ≡ p) × (b ≡ q) × (c ≡ r) × (d ≡ s)
unfolding refusal_text cause_text behind_space
triangles a b c d p q r s fa fb fc fd fp fq fr fs e =
    let whole : added (decimal a) (count_text b ∷ count_text c ∷ count_text d ∷ codes "\n" ∷ [])
    ≡ added (decimal p) (count_text q ∷ count_text r ∷ count_text s ∷ codes "\n" ∷ []) = ap (drop 22) e in
    let one = added_split (decimal a) (decimal p) (count_text b ∷ count_text c ∷ count_text d ∷ codes "\n" ∷ [])
    (count_text q ∷ count_text r ∷ count_text s ∷ codes "\n" ∷ []) (decimals_are_words a fa) (decimals_are_words p fp)
    (omega arith) (omega arith) whole in
    let two = numbers_split b q (flat (count_text c ∷ count_text d ∷ codes "\n" ∷ []))
    (flat (count_text r ∷ count_text s ∷ codes "\n" ∷ [])) fb fq (omega arith) (omega arith) (ap (drop 1) one.1) in
    let three = numbers_split c r (flat (count_text d ∷ codes "\n" ∷ [])) (flat (count_text s ∷ codes "\n" ∷ [])) fc fr
    (omega arith) (omega arith) (ap (drop 1) two.1) in
    (decimal_injective a p fa fp one.0, two.0, three.0, last_number d s fd fs (ap (drop 1) three.1))

sizes : (a b : Notion) (m n p q : ℕ) → IsField m → IsField n → IsField p → IsField q
    → refusal_text (Size a m n) ≡ refusal_text (Size b p q) → (a ≡ b) × (m ≡ p) × (n ≡ q)
unfolding refusal_text cause_text behind_space
sizes a b m n p q fm fn fp fq e =
    let notion = added_split (notion_name a) (notion_name b)
    (codes " rows" ∷ count_text m ∷ codes " columns" ∷ count_text n ∷ codes "\n" ∷ [])
    (codes " rows" ∷ count_text p ∷ codes " columns" ∷ count_text q ∷ codes "\n" ∷ [])
    (notion_words a) (notion_words b) (omega arith) (omega arith) (ap (drop 13) e) in
    let rows = numbers_split m p (flat (codes " columns" ∷ count_text n ∷ codes "\n" ∷ []))
    (flat (codes " columns" ∷ count_text q ∷ codes "\n" ∷ [])) fm fp (omega arith) (omega arith) (ap (drop 6) notion.1) in
    (one_notion a b notion.0, rows.0, last_number n q fn fq (ap (drop 9) rows.1))

-- two of one kind
same_of_kind : (a b : Refusal) → HasRefusalFields a → HasRefusalFields b → kind_of a ≡ kind_of b → refusal_text a ≡ refusal_text b → a ≡ b
same_of_kind (InputTooLong m) (InputTooLong n) x y kind e = ap InputTooLong (input_limits m n x y e)
same_of_kind (Report m) (Report n) x y kind e = ap Report (report_places m n x y e)
same_of_kind (Syntax m) (Syntax n) x y kind e = ap Syntax (syntax_places m n x y e)
same_of_kind (Players m) (Players n) x y kind e = ap Players (player_counts m n x y e)
same_of_kind (AtNode a m) (AtNode b n) x y kind e = let s = node_rules a b m n x y e in cc (s.0, s.1)
same_of_kind (ScaleTooLarge a) (ScaleTooLarge b) x y kind e = ap ScaleTooLarge (scale_players a b e)
same_of_kind (Forgets a set first second) (Forgets b other third fourth) x y kind e =
    let s = forgotten a b set first second other third fourth x.0 x.1 x.2 y.0 y.1 y.2 e in
    cc (s.0, s.1, s.2, s.3)
same_of_kind (Triangle a b c d) (Triangle p q r s) x y kind e =
    let t = triangles a b c d p q r s x.0 x.1 x.2 x.3 y.0 y.1 y.2 y.3 e in
    cc (t.0, t.1, t.2, t.3)
same_of_kind (Size a m n) (Size b p q) x y kind e =
    let s = sizes a b m n p q x.0 x.1 y.0 y.1 e in
    cc (s.0, s.1, s.2)
same_of_kind (TooLarge m) (TooLarge n) x y kind e = ap TooLarge (greatest_sizes m n x y e)
same_of_kind a b x y kind e = absurd (omega (arith, kind))

pub one_refusal_a_line : (a b : Refusal) → HasRefusalFields a → HasRefusalFields b → refusal_text a ≡ refusal_text b → a ≡ b
one_refusal_a_line a b x y e = same_of_kind a b x y (same_kind a b e) e

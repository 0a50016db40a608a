-- A report's text tells the report: block by block, as each list ends where another byte begins than that of its items.
use Rattle.std.proofs.Common.{◌≡◌, ℕ, ◌+◌, ◌<◌, ◌^◌, ℤ, pos, negsuc, true, List, [], ◌∷◌, ◌++◌, All, codes, drop, get_or, length, refl}
use Rattle.std.proofs.Common.{sym, ap, ◌∙◌, subst, arith}
use Rattle.std.proofs.lemmas.Int.{ints}
use Rattle.std.proofs.lemmas.List.Elements.{All-cons, All-nil}
use Rattle.std.specs.Prelude.{unsigned_abs}
use Rattle.corr_game.specs.declared.notions.Notion.{Notion}
use Rattle.corr_game.specs.declared.notions.Notion.TheVariants.{Efce, Efcce, Nfcce}
use Rattle.lp_form.specs.declared.places.Place.{Place}
use Rattle.lp_form.specs.declared.places.RowName.{RowName}
use Rattle.plane_hull.specs.declared.sides.SideRow.{SideRow}
use Rattle.report_form.specs.declared.reports.Block.{Block}
use Rattle.report_form.specs.declared.reports.Block.TheVariants.{Found, Empty, TooWide}
use Rattle.report_form.specs.declared.reports.Corner.{Corner}
use Rattle.report_form.specs.declared.reports.NamedBlock.{NamedBlock}
use Rattle.report_form.specs.Ranges.{InOrderFrom, IsBlock, IsCorner, IsReport, IsScale, IsSide, notion_number}
use Rattle.report_form.specs.View.{ReportView}
use Rattle.report_reader.specs.Syntax.{IsReadFrom}
use Rattle.report_text.proofs.Telling.{one_notion}
use Rattle.report_text.specs.Joined.{each_text, texts_from}
use Rattle.report_text.specs.NameText.{notion_name}
use Rattle.report_text.specs.PartText.{behind_space, count_text, int_text, multipliers_text, place_text, row_text, side_line, side_text}
use Rattle.report_text.specs.ReportText.{block_text, corner_line, corner_text, named_block_text, report_text}
use Rattle.text_laws.proofs.Integers.{integers_split, naturals_split}
use Rattle.text_laws.proofs.ItemTexts.{columns_told, ints_told, items_told}
use Rattle.text_laws.proofs.PartsTold.{corner_told, row_told, side_told}
use Rattle.text_laws.proofs.Words.{both_regrouped, flat_to, is_word, words_split}

corner_starts : (k : ℕ) (x : Corner) (a : List ℕ) → get_or (corner_text k x ++ a) 0 0 ≡ 99
unfolding corner_text corner_line
corner_starts k x a = refl

corner_tails : (k : ℕ) (x : Corner) (a : List ℕ) → get_or (corner_text k x ++ a) 0 0 ≡ 119 → ⊥
corner_tails k x a e = absurd (omega (arith, e, corner_starts k x a))

side_starts : (k : ℕ) (x : SideRow) (a : List ℕ) → get_or (side_text x ++ a) 0 0 ≡ 115
unfolding side_text side_line
side_starts k x a = refl

-- what stands behind a block's sides begins with no side
abbrev NoSide : List ℕ → Type 0
NoSide a = get_or a 0 0 ≡ 115 → ⊥

abbrev sides_behind : List SideRow → List ℕ → List ℕ
sides_behind sides tail = codes "sides" ++ (count_text (length sides) ++ (codes "\n" ++ (each_text side_text sides ++ tail)))

abbrev found_pieces : List Corner → List SideRow → List (List ℕ)
found_pieces corners sides = count_text (length corners) ∷ codes "\n" ∷ texts_from corner_text 0 corners ∷ codes "sides"
    ∷ count_text (length sides) ∷ codes "\n" ∷ each_text side_text sides ∷ []

found_grouped : (c d : List Corner) (s t : List SideRow) (a b : List ℕ) → block_text (Found c s) ++ a ≡ block_text (Found d t) ++ b
    → codes " found\ncorners" ++ flat_to (found_pieces c s) a ≡ codes " found\ncorners" ++ flat_to (found_pieces d t) b
unfolding block_text
found_grouped c d s t a b e =
    both_regrouped (codes " found\ncorners") (codes " found\ncorners") (found_pieces c s) (found_pieces d t) a b e

found_told : (c d : List Corner) (s t : List SideRow) (a b : List ℕ) → IsBlock (Found c s) → IsBlock (Found d t) → NoSide a → NoSide b
    → block_text (Found c s) ++ a ≡ block_text (Found d t) ++ b → (c ≡ d) × (s ≡ t) × (a ≡ b)
unfolding behind_space
found_told c d s t a b p q other others e =
    let counts = naturals_split (length c) (length d) (codes "\n" ++ (texts_from corner_text 0 c ++ sides_behind s a))
    (codes "\n" ++ (texts_from corner_text 0 d ++ sides_behind t b)) (omega (arith, p.0.1)) (omega (arith, q.0.1))
    (omega arith) (omega arith) (ap (drop 15) (found_grouped c d s t a b e)) in
    let corners = items_told corner_text IsCorner (λ tail. get_or tail 0 0 ≡ 119 → ⊥) 99 corner_starts corner_tails corner_told 0 c d
    (sides_behind s a) (sides_behind t b) p.2 q.2 (λ f. absurd (omega (arith, f))) (λ f. absurd (omega (arith, f)))
    (λ f. absurd (omega (arith, f))) (λ f. absurd (omega (arith, f))) (ap (drop 1) counts.1) in
    let numbers = naturals_split (length s) (length t) (codes "\n" ++ (each_text side_text s ++ a))
    (codes "\n" ++ (each_text side_text t ++ b)) (omega (arith, p.1.1)) (omega (arith, q.1.1)) (omega arith) (omega arith)
    (ap (drop 6) corners.1) in
    let fits : All (IsSide (length c)) t = subst (λ (k : ℕ). All (IsSide k) t) (sym counts.0) q.3 in
    let sides = items_told (λ n. side_text) (IsSide (length c)) (λ tail. Unit {0}) 115 side_starts (λ n item tail. tt)
    (λ n one two tail rest is too u v same. side_told (length c) one two tail rest p.0.1 is too same) 0 s t a b p.3 fits tt tt
    other others (ap (drop 1) numbers.1) in
    (corners.0, sides.0, sides.1)

empty_grouped : (x y : List ℤ) (a b : List ℕ) → block_text (Empty x) ++ a ≡ block_text (Empty y) ++ b
    → each_text int_text x ++ (codes "\n" ++ a) ≡ each_text int_text y ++ (codes "\n" ++ b)
unfolding block_text multipliers_text
empty_grouped x y a b e =
    both_regrouped (each_text int_text x) (each_text int_text y) (codes "\n" ∷ []) (codes "\n" ∷ []) a b (ap (drop 18) e)

abbrev place_pieces : Place → List (List ℕ)
place_pieces place = codes "\nat " ∷ row_text place.row ∷ count_text place.col ∷ codes "\n" ∷ []

wide_grouped : (u v : List ℕ) (x y : Place) (a b : List ℕ) → block_text (TooWide u x) ++ a ≡ block_text (TooWide v y) ++ b
    → each_text count_text u ++ flat_to (place_pieces x) a ≡ each_text count_text v ++ flat_to (place_pieces y) b
unfolding block_text place_text
wide_grouped u v x y a b e =
    both_regrouped (each_text count_text u) (each_text count_text v) (place_pieces x) (place_pieces y) a b (ap (drop 14) e)

same_place : (x y : Place) → x.row ≡ y.row → x.col ≡ y.col → x ≡ y
same_place x y row col =
    ap (λ (r : RowName). record { row = r; col = x.col }) row ∙ ap (λ (n : ℕ). record { row = y.row; col = n }) col

wide_told : (u v : List ℕ) (x y : Place) (a b : List ℕ) → IsBlock (TooWide u x) → IsBlock (TooWide v y)
    → block_text (TooWide u x) ++ a ≡ block_text (TooWide v y) ++ b → (u ≡ v) × (x ≡ y) × (a ≡ b)
unfolding behind_space
wide_told u v x y a b p q e =
    let columns = columns_told u v (flat_to (place_pieces x) a) (flat_to (place_pieces y) b) p.0 q.0 refl refl
    (wide_grouped u v x y a b e) in
    let rows = row_told x.row y.row (count_text x.col ++ (codes "\n" ++ a)) (count_text y.col ++ (codes "\n" ++ b)) p.1.0 q.1.0
    refl refl (ap (drop 4) columns.1) in
    let cols = naturals_split x.col y.col (codes "\n" ++ a) (codes "\n" ++ b) (omega (arith, p.1.1)) (omega (arith, q.1.1))
    (omega arith) (omega arith) (ap (drop 1) rows.1) in
    (columns.0, same_place x y rows.0 cols.0, ap (drop 1) cols.1)

-- the second byte of a block's text
abbrev kind_byte : Block → ℕ
kind_byte (Found corners sides) = 102
kind_byte (Empty multipliers) = 101
kind_byte (TooWide basis place) = 116

kind_second : (x : Block) (a : List ℕ) → get_or (block_text x ++ a) 1 0 ≡ kind_byte x
unfolding block_text
kind_second (Found corners sides) a = refl
kind_second (Empty multipliers) a = refl
kind_second (TooWide basis place) a = refl

same_kind : (x y : Block) (a b : List ℕ) → block_text x ++ a ≡ block_text y ++ b → kind_byte x ≡ kind_byte y
same_kind x y a b e = sym (kind_second x a) ∙ ap (λ (bs : List ℕ). get_or bs 1 0) e ∙ kind_second y b

told_of_kind : (x y : Block) (a b : List ℕ) → kind_byte x ≡ kind_byte y → IsBlock x → IsBlock y → NoSide a → NoSide b
    → block_text x ++ a ≡ block_text y ++ b → (x ≡ y) × (a ≡ b)
told_of_kind (Found c s) (Found d t) a b kind p q other others e =
    let parts = found_told c d s t a b p q other others e in
    (cc (parts.0, parts.1), parts.2)
told_of_kind (Empty x) (Empty y) a b kind p q other others e =
    let parts = ints_told x y (codes "\n" ++ a) (codes "\n" ++ b) p q refl refl (empty_grouped x y a b e) in
    (ap Empty parts.0, ap (drop 1) parts.1)
told_of_kind (TooWide u x) (TooWide v y) a b kind p q other others e =
    let parts = wide_told u v x y a b p q e in
    (cc (parts.0, parts.1), parts.2)
told_of_kind x y a b kind p q other others e = absurd (omega (arith, kind))

block_told : (x y : Block) (a b : List ℕ) → IsBlock x → IsBlock y → NoSide a → NoSide b → block_text x ++ a ≡ block_text y ++ b
    → (x ≡ y) × (a ≡ b)
block_told x y a b p q other others e = told_of_kind x y a b (same_kind x y a b e) p q other others e

block_first : (x : Block) (a : List ℕ) → get_or (block_text x ++ a) 0 0 ≡ 32
unfolding block_text
block_first (Found corners sides) a = refl
block_first (Empty multipliers) a = refl
block_first (TooWide basis place) a = refl

pub notion_words : (notion : Notion) → is_word (notion_name notion) ≡ true
unfolding notion_name
notion_words Efce = refl
notion_words Efcce = refl
notion_words Nfcce = refl

named_grouped : (x y : NamedBlock) (a b : List ℕ) → named_block_text x ++ a ≡ named_block_text y ++ b
    → notion_name x.notion ++ (block_text x.block ++ a) ≡ notion_name y.notion ++ (block_text y.block ++ b)
unfolding named_block_text
named_grouped x y a b e =
    both_regrouped (notion_name x.notion) (notion_name y.notion) (block_text x.block ∷ []) (block_text y.block ∷ []) a b (ap (drop 7) e)

named_told : (x y : NamedBlock) (a b : List ℕ) → IsBlock x.block → IsBlock y.block → NoSide a → NoSide b
    → named_block_text x ++ a ≡ named_block_text y ++ b → (x ≡ y) × (a ≡ b)
named_told x y a b p q other others e =
    let names = words_split (notion_name x.notion) (notion_name y.notion) (block_text x.block ++ a) (block_text y.block ++ b)
    (notion_words x.notion) (notion_words y.notion) (omega (arith, block_first x.block a)) (omega (arith, block_first y.block b))
    (named_grouped x y a b e) in
    let blocks = block_told x.block y.block a b p q other others names.1 in (
      ap (λ (n : Notion). record { notion = n; block = x.block }) (one_notion x.notion y.notion names.0)
          ∙ ap (λ (block : Block). record { notion = y.notion; block = block }) blocks.0,
      blocks.1,
    )

named_starts : (k : ℕ) (x : NamedBlock) (a : List ℕ) → get_or (named_block_text x ++ a) 0 0 ≡ 110
unfolding named_block_text
named_starts k x a = refl

named_tails : (k : ℕ) (x : NamedBlock) (a : List ℕ) → NoSide (named_block_text x ++ a)
named_tails k x a e = absurd (omega (arith, e, named_starts k x a))

abbrev IsWhole : NamedBlock → Type 0
IsWhole named = IsBlock named.block

whole_blocks : (low : ℕ) (blocks : List NamedBlock) → InOrderFrom low blocks → All IsWhole blocks
whole_blocks low [] order = All-nil IsWhole
whole_blocks low (named ∷ rest) order =
    All-cons IsWhole named rest order.1 (whole_blocks (notion_number named.notion + 1) rest order.2)

small_scale : (z : ℤ) → IsScale z → unsigned_abs z < 10 ^ 64
small_scale (pos n) h = omega (arith, ints, h.1)
small_scale (negsuc n) h = absurd (omega (arith, ints, h.0))

same_report : (x y : ReportView) → x.scale_one ≡ y.scale_one → x.scale_two ≡ y.scale_two → x.blocks ≡ y.blocks → x ≡ y
same_report x y one two blocks =
    ap (λ (z : ℤ). record { scale_one = z; scale_two = x.scale_two; blocks = x.blocks }) one
    ∙ ap (λ (z : ℤ). record { scale_one = y.scale_one; scale_two = z; blocks = x.blocks }) two
    ∙ ap (λ (list : List NamedBlock). record { scale_one = y.scale_one; scale_two = y.scale_two; blocks = list }) blocks

abbrev blocks_behind : List NamedBlock → List ℕ → List ℕ
blocks_behind blocks tail = codes "\n" ++ (each_text named_block_text blocks ++ (codes "end\n" ++ tail))

abbrev report_pieces : ReportView → List (List ℕ)
report_pieces report = int_text report.scale_one ∷ int_text report.scale_two ∷ codes "\n" ∷ each_text named_block_text report.blocks
    ∷ codes "end\n" ∷ []

report_grouped : (x y : ReportView) (a b : List ℕ) → report_text x ++ a ≡ report_text y ++ b
    → codes "corr-report 1\nscale" ++ flat_to (report_pieces x) a ≡ codes "corr-report 1\nscale" ++ flat_to (report_pieces y) b
unfolding report_text
report_grouped x y a b e =
    both_regrouped (codes "corr-report 1\nscale") (codes "corr-report 1\nscale") (report_pieces x) (report_pieces y) a b e

pub report_told : (x y : ReportView) (a b : List ℕ) → IsReport x → IsReport y → report_text x ++ a ≡ report_text y ++ b
    → (x ≡ y) × (a ≡ b)
unfolding behind_space
report_told x y a b p q e =
    let ones = integers_split x.scale_one y.scale_one (int_text x.scale_two ++ blocks_behind x.blocks a)
    (int_text y.scale_two ++ blocks_behind y.blocks b) (small_scale x.scale_one p.scale_one) (small_scale y.scale_one q.scale_one)
    (omega arith) (omega arith) (ap (drop 20) (report_grouped x y a b e)) in
    let twos = integers_split x.scale_two y.scale_two (blocks_behind x.blocks a) (blocks_behind y.blocks b)
    (small_scale x.scale_two p.scale_two) (small_scale y.scale_two q.scale_two) (omega arith) (omega arith) (ap (drop 1) ones.1) in
    let blocks = items_told (λ k. named_block_text) IsWhole NoSide 110 named_starts named_tails
    (λ k one two tail rest. named_told one two tail rest) 0 x.blocks y.blocks (codes "end\n" ++ a) (codes "end\n" ++ b)
    (whole_blocks 0 x.blocks p.blocks) (whole_blocks 0 y.blocks q.blocks) (λ f. absurd (omega (arith, f)))
    (λ f. absurd (omega (arith, f))) (λ f. absurd (omega (arith, f))) (λ f. absurd (omega (arith, f))) (ap (drop 1) twos.1) in
    (same_report x y ones.0 twos.0 blocks.0, ap (drop 4) blocks.1)

pub one_report_read : (bytes : List ℕ) (x y : ReportView) (m n : ℕ) → IsReadFrom bytes x m → IsReadFrom bytes y n
    → (x ≡ y) × (m ≡ n)
one_report_read bytes x y m n read again =
    let same = (report_told x y read.behind again.behind read.ranges again.ranges (sym read.front ∙ again.front)).0 in
    (same, read.length_is ∙ ap (λ (r : ReportView). length (report_text r)) same ∙ sym again.length_is)

pub one_report : (x y : ReportView) → IsReport x → IsReport y → report_text x ≡ report_text y → x ≡ y
one_report x y p q e = (report_told x y [] [] p q (ap (λ (text : List ℕ). text ++ []) e)).0

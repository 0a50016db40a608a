-- Texts of pairs of plans, of sides, of corners and of places tell them, part by part.
use Rattle.std.proofs.Common.{◌≡◌, ℕ, ◌<◌, ◌≤◌, ◌^◌, ℤ, List, [], ◌∷◌, ◌++◌, Option, codes, drop, get_or, length, refl, sym, ap, ◌∙◌, arith}
use Rattle.std.specs.Fmt.{decimal, signed_decimal}
use Rattle.corr_game.specs.declared.plans.Pair.{Pair}
use Rattle.corr_num.specs.Fraction.{Fraction}
use Rattle.lp_form.specs.declared.places.RowName.{RowName}
use Rattle.lp_form.specs.declared.places.RowName.TheVariants.{Basic, First, Second, Phase}
use Rattle.plane_hull.proofs.SameDirection.{same_dir}
use Rattle.plane_hull.specs.declared.directions.Dir.{Dir}
use Rattle.plane_hull.specs.declared.sides.Point.{Point}
use Rattle.plane_hull.specs.declared.sides.SideRow.{SideRow}
use Rattle.report_form.specs.declared.reports.Corner.{Corner}
use Rattle.report_form.specs.Ranges.{IsCorner, IsPair, IsRow, IsSide}
use Rattle.report_text.specs.Joined.{each_text}
use Rattle.report_text.specs.PartText.{action_text, behind_space, count_text, frac_text, int_text, pair_text, row_text, side_line}
use Rattle.report_text.specs.PartText.{side_text}
use Rattle.report_text.specs.ReportText.{corner_line, corner_text}
use Rattle.text_laws.proofs.Integers.{decimal_below, fractions_split, integers_split, naturals_split}
use Rattle.text_laws.proofs.ItemTexts.{actions_told, ints_told, items_told}
use Rattle.text_laws.proofs.Words.{behind_same, both_regrouped, flat_to}

same_pair : (x y : Pair) → x.weight ≡ y.weight → x.one ≡ y.one → x.two ≡ y.two → x ≡ y
same_pair x y weight one two =
    ap (λ (w : ℤ). record { weight = w; one = x.one; two = x.two }) weight
    ∙ ap (λ (plan : List (Option ℕ)). record { weight = y.weight; one = plan; two = x.two }) one
    ∙ ap (λ (plan : List (Option ℕ)). record { weight = y.weight; one = y.one; two = plan }) two

abbrev pair_pieces : Pair → List (List ℕ)
pair_pieces pair = signed_decimal pair.weight ∷ codes "\none" ∷ each_text action_text pair.one ∷ codes "\ntwo"
    ∷ each_text action_text pair.two ∷ codes "\n" ∷ []

pair_grouped : (x y : Pair) (a b : List ℕ) → pair_text x ++ a ≡ pair_text y ++ b
    → codes "weight " ++ flat_to (pair_pieces x) a ≡ codes "weight " ++ flat_to (pair_pieces y) b
unfolding pair_text
pair_grouped x y a b e = both_regrouped (codes "weight ") (codes "weight ") (pair_pieces x) (pair_pieces y) a b e

pub pair_told : (x y : Pair) (a b : List ℕ) → IsPair x → IsPair y → pair_text x ++ a ≡ pair_text y ++ b → (x ≡ y) × (a ≡ b)
pair_told x y a b p q e =
    let weights = integers_split x.weight y.weight
    (codes "\none" ++ (each_text action_text x.one ++ (codes "\ntwo" ++ (each_text action_text x.two ++ (codes "\n" ++ a)))))
    (codes "\none" ++ (each_text action_text y.one ++ (codes "\ntwo" ++ (each_text action_text y.two ++ (codes "\n" ++ b)))))
    (omega (arith, p.0.1)) (omega (arith, q.0.1)) (omega arith) (omega arith) (ap (drop 7) (pair_grouped x y a b e)) in
    let ones = actions_told x.one y.one (codes "\ntwo" ++ (each_text action_text x.two ++ (codes "\n" ++ a)))
    (codes "\ntwo" ++ (each_text action_text y.two ++ (codes "\n" ++ b))) p.1 q.1 refl refl (ap (drop 4) weights.1) in
    let twos = actions_told x.two y.two (codes "\n" ++ a) (codes "\n" ++ b) p.2 q.2 refl refl (ap (drop 4) ones.1) in
    (same_pair x y weights.0 ones.0 twos.0, ap (drop 1) twos.1)

same_side : (x y : SideRow) → x.dir.a ≡ y.dir.a → x.dir.b ≡ y.dir.b → x.corner ≡ y.corner → x.den ≡ y.den → x.first ≡ y.first
    → x.second ≡ y.second → x ≡ y
same_side x y a b corner den first second =
    let dir : x.dir ≡ y.dir = same_dir x.dir y.dir a b in
    ap (λ (d : Dir). record { dir = d; corner = x.corner; den = x.den; first = x.first; second = x.second }) dir
    ∙ ap (λ (k : ℕ). record { dir = y.dir; corner = k; den = x.den; first = x.first; second = x.second }) corner
    ∙ ap (λ (z : ℤ). record { dir = y.dir; corner = y.corner; den = z; first = x.first; second = x.second }) den
    ∙ ap (λ (zs : List ℤ). record { dir = y.dir; corner = y.corner; den = y.den; first = zs; second = x.second }) first
    ∙ ap (λ (zs : List ℤ). record { dir = y.dir; corner = y.corner; den = y.den; first = y.first; second = zs }) second

abbrev multipliers_behind : SideRow → List ℕ → List ℕ
multipliers_behind side tail =
    codes "\nfirst" ++ (each_text int_text side.first ++ (codes "\nsecond" ++ (each_text int_text side.second ++ (codes "\n" ++ tail))))

abbrev corner_behind : SideRow → List ℕ → List ℕ
corner_behind side tail =
    codes " corner" ++ (count_text side.corner ++ (codes " den" ++ (int_text side.den ++ multipliers_behind side tail)))

abbrev side_pieces : SideRow → List (List ℕ)
side_pieces side = int_text side.dir.a ∷ int_text side.dir.b ∷ codes " corner" ∷ count_text side.corner ∷ codes " den"
    ∷ int_text side.den ∷ codes "\n" ∷ codes "first" ∷ each_text int_text side.first ∷ codes "\nsecond"
    ∷ each_text int_text side.second ∷ codes "\n" ∷ []

side_grouped : (x y : SideRow) (a b : List ℕ) → side_text x ++ a ≡ side_text y ++ b
    → codes "side" ++ flat_to (side_pieces x) a ≡ codes "side" ++ flat_to (side_pieces y) b
unfolding side_text side_line
side_grouped x y a b e = both_regrouped (codes "side") (codes "side") (side_pieces x) (side_pieces y) a b e

pub side_told : (corners : ℕ) (x y : SideRow) (a b : List ℕ) → corners < 2 ^ 64 → IsSide corners x
    → IsSide corners y → side_text x ++ a ≡ side_text y ++ b → (x ≡ y) × (a ≡ b)
unfolding behind_space
side_told corners x y a b few p q e =
    let firsts = integers_split x.dir.a y.dir.a (int_text x.dir.b ++ corner_behind x a) (int_text y.dir.b ++ corner_behind y b)
    (omega (arith, x.dir.a_narrow)) (omega (arith, y.dir.a_narrow)) (omega arith) (omega arith) (ap (drop 5) (side_grouped x y a b e)) in
    let seconds = integers_split x.dir.b y.dir.b (corner_behind x a) (corner_behind y b)
    (omega (arith, x.dir.b_narrow)) (omega (arith, y.dir.b_narrow)) (omega arith) (omega arith) (ap (drop 1) firsts.1) in
    let numbers = naturals_split x.corner y.corner (codes " den" ++ (int_text x.den ++ multipliers_behind x a))
    (codes " den" ++ (int_text y.den ++ multipliers_behind y b)) (omega (arith, p.1, few)) (omega (arith, q.1, few))
    (omega arith) (omega arith) (ap (drop 8) seconds.1) in
    let dens = integers_split x.den y.den (multipliers_behind x a) (multipliers_behind y b) (omega (arith, p.2.1))
    (omega (arith, q.2.1)) (omega arith) (omega arith) (ap (drop 5) numbers.1) in
    let ones = ints_told x.first y.first (codes "\nsecond" ++ (each_text int_text x.second ++ (codes "\n" ++ a)))
    (codes "\nsecond" ++ (each_text int_text y.second ++ (codes "\n" ++ b))) p.3 q.3 refl refl (ap (drop 6) dens.1) in
    let twos = ints_told x.second y.second (codes "\n" ++ a) (codes "\n" ++ b) p.4 q.4 refl refl (ap (drop 7) ones.1) in
    (same_side x y firsts.0 seconds.0 numbers.0 dens.0 ones.0 twos.0, ap (drop 1) twos.1)

pub first_byte : {a b : List ℕ} → a ≡ b → get_or a 0 0 ≡ get_or b 0 0
first_byte e = ap (λ (bs : List ℕ). get_or bs 0 0) e

-- a column's number begins with no letter
no_letter : (column : ℕ) (a b : List ℕ) → column < 2 ^ 32 → decimal column ++ a ≡ b → 58 ≤ get_or b 0 0 → ⊥
no_letter column a b within e high =
    let first : get_or (decimal column ++ a) 0 0 ≡ get_or b 0 0 = ap (λ (bs : List ℕ). get_or bs 0 0) e in
    absurd (omega (arith, high, first, decimal_below column a (omega (arith, within))))

pub row_told : (x y : RowName) (a b : List ℕ) → IsRow x → IsRow y → get_or a 0 0 ≡ 32 → get_or b 0 0 ≡ 32
    → row_text x ++ a ≡ row_text y ++ b → (x ≡ y) × (a ≡ b)
unfolding row_text
row_told (Basic m) (Basic n) a b p q space too e =
    let parts = naturals_split m n a b (omega (arith, p)) (omega (arith, q)) (omega (arith, space)) (omega (arith, too)) e in
    (ap Basic parts.0, parts.1)
row_told (Basic m) First a b p q space too e = absurd (no_letter m a (codes "first" ++ b) p e (omega arith))
row_told (Basic m) Second a b p q space too e = absurd (no_letter m a (codes "second" ++ b) p e (omega arith))
row_told (Basic m) Phase a b p q space too e = absurd (no_letter m a (codes "phase" ++ b) p e (omega arith))
row_told First (Basic n) a b p q space too e = absurd (no_letter n b (codes "first" ++ a) q (sym e) (omega arith))
row_told First First a b p q space too e = (refl, ap (drop 5) e)
row_told First Second a b p q space too e = absurd (omega (arith, first_byte e))
row_told First Phase a b p q space too e = absurd (omega (arith, first_byte e))
row_told Second (Basic n) a b p q space too e = absurd (no_letter n b (codes "second" ++ a) q (sym e) (omega arith))
row_told Second First a b p q space too e = absurd (omega (arith, first_byte e))
row_told Second Second a b p q space too e = (refl, ap (drop 6) e)
row_told Second Phase a b p q space too e = absurd (omega (arith, first_byte e))
row_told Phase (Basic n) a b p q space too e = absurd (no_letter n b (codes "phase" ++ a) q (sym e) (omega arith))
row_told Phase First a b p q space too e = absurd (omega (arith, first_byte e))
row_told Phase Second a b p q space too e = absurd (omega (arith, first_byte e))
row_told Phase Phase a b p q space too e = (refl, ap (drop 5) e)

same_corner : (x y : Corner) → x.point.one ≡ y.point.one → x.point.two ≡ y.point.two → x.total ≡ y.total → x.pairs ≡ y.pairs → x ≡ y
same_corner x y one two total pairs =
    let point : x.point ≡ y.point = ap (λ (f : Fraction). record { one = f; two = x.point.two }) one
    ∙ ap (λ (f : Fraction). record { one = y.point.one; two = f }) two in
    ap (λ (p : Point). record { point = p; total = x.total; pairs = x.pairs }) point
    ∙ ap (λ (z : ℤ). record { point = y.point; total = z; pairs = x.pairs }) total
    ∙ ap (λ (list : List Pair). record { point = y.point; total = y.total; pairs = list }) pairs

abbrev pairs_behind : Corner → List ℕ → List ℕ
pairs_behind corner tail =
    codes " pairs" ++ (count_text (length corner.pairs) ++ (codes "\n" ++ (each_text pair_text corner.pairs ++ tail)))

abbrev tail_pieces : Corner → List (List ℕ)
tail_pieces corner = codes " " ∷ frac_text corner.point.one ∷ codes " " ∷ frac_text corner.point.two
    ∷ codes " total" ∷ int_text corner.total ∷ codes " pairs" ∷ count_text (length corner.pairs) ∷ codes "\n"
    ∷ each_text pair_text corner.pairs ∷ []

abbrev corner_pieces : ℕ → Corner → List (List ℕ)
corner_pieces k corner = count_text k ∷ tail_pieces corner

corner_grouped : (k : ℕ) (x y : Corner) (a b : List ℕ) → corner_text k x ++ a ≡ corner_text k y ++ b
    → codes "corner" ++ flat_to (corner_pieces k x) a ≡ codes "corner" ++ flat_to (corner_pieces k y) b
unfolding corner_text corner_line
corner_grouped k x y a b e = both_regrouped (codes "corner") (codes "corner") (corner_pieces k x) (corner_pieces k y) a b e

pair_starts : (k : ℕ) (x : Pair) (a : List ℕ) → get_or (pair_text x ++ a) 0 0 ≡ 119
unfolding pair_text
pair_starts k x a = refl

-- what stands behind a corner's pairs begins with no pair
abbrev pub NoPair : List ℕ → Type 0
NoPair a = get_or a 0 0 ≡ 119 → ⊥

pub corner_told : (k : ℕ) (x y : Corner) (a b : List ℕ) → IsCorner x → IsCorner y → NoPair a → NoPair b
    → corner_text k x ++ a ≡ corner_text k y ++ b → (x ≡ y) × (a ≡ b)
unfolding behind_space
corner_told k x y a b p q other others e =
    let behind = behind_same (count_text k) (flat_to (tail_pieces x) a) (flat_to (tail_pieces y) b)
    (ap (drop 6) (corner_grouped k x y a b e)) in
    let ones = fractions_split x.point.one y.point.one
    (codes " " ++ (frac_text x.point.two ++ (codes " total" ++ (int_text x.total ++ pairs_behind x a))))
    (codes " " ++ (frac_text y.point.two ++ (codes " total" ++ (int_text y.total ++ pairs_behind y b))))
    p.4.0 q.4.0 (omega arith) (omega arith) (ap (drop 1) behind) in
    let twos = fractions_split x.point.two y.point.two (codes " total" ++ (int_text x.total ++ pairs_behind x a))
    (codes " total" ++ (int_text y.total ++ pairs_behind y b)) p.4.1 q.4.1 (omega arith) (omega arith) (ap (drop 1) ones.1) in
    let totals = integers_split x.total y.total (pairs_behind x a) (pairs_behind y b) (omega (arith, p.0.1)) (omega (arith, q.0.1))
    (omega arith) (omega arith) (ap (drop 7) twos.1) in
    let counts = naturals_split (length x.pairs) (length y.pairs) (codes "\n" ++ (each_text pair_text x.pairs ++ a))
    (codes "\n" ++ (each_text pair_text y.pairs ++ b)) (omega (arith, p.2)) (omega (arith, q.2)) (omega arith) (omega arith)
    (ap (drop 7) totals.1) in
    let lists = items_told (λ n. pair_text) IsPair (λ tail. Unit {0}) 119 pair_starts (λ n item tail. tt)
    (λ n one two tail rest fits fit t u same. pair_told one two tail rest fits fit same) 0 x.pairs y.pairs a b p.3 q.3 tt tt
    other others (ap (drop 1) counts.1) in
    (same_corner x y ones.0 twos.0 totals.0 lists.0, lists.1)

-- The parts of a report's text that other texts share: fractions, pairs of plans, sides, multipliers, places.
use Rattle.std.specs.Prelude.{ℕ, ◌+◌, List, ◌++◌, Option, Some, None, ℤ, pos, cond, codes}
use Rattle.std.specs.Fmt.{decimal, signed_decimal}
use Rattle.std.specs.Ordering.{int_eq}
use Rattle.corr_game.specs.declared.plans.Pair.{Pair}
use Rattle.corr_num.specs.Fraction.{Fraction}
use Rattle.lp_form.specs.declared.places.Place.{Place}
use Rattle.lp_form.specs.declared.places.RowName.{RowName}
use Rattle.lp_form.specs.declared.places.RowName.TheVariants.{Basic, First, Second, Phase}
use Rattle.plane_hull.specs.declared.sides.SideRow.{SideRow}
use Rattle.report_text.specs.Joined.{each_text}

-- a text behind a space
unfoldable pub behind_space : List ℕ → List ℕ
behind_space text = codes " " ++ text

-- a number of either sign behind a space
abbrev pub int_text : ℤ → List ℕ
int_text n = behind_space (signed_decimal n)

-- a number of 0 or more behind a space
abbrev pub count_text : ℕ → List ℕ
count_text n = behind_space (decimal n)

unfoldable pub quotient_text : ℤ → ℤ → List ℕ
quotient_text num den = signed_decimal num ++ codes "/" ++ signed_decimal den

-- a fraction in lowest terms: a whole number where its denominator is 1
unfoldable pub frac_text : Fraction → List ℕ
frac_text frac = cond (int_eq frac.den (pos 1)) (signed_decimal frac.num) (quotient_text frac.num frac.den)

-- actions are printed from 1 on, and none as a dash
unfoldable pub action_text : Option ℕ → List ℕ
action_text None = codes " -"
action_text (Some action) = count_text (action + 1)

-- a weighted pair of plans, in three lines
unfoldable pub pair_text : Pair → List ℕ
pair_text pair = codes "weight " ++ signed_decimal pair.weight ++ codes "\none" ++ each_text action_text pair.one
    ++ codes "\ntwo" ++ each_text action_text pair.two ++ codes "\n"

-- a side's direction, corner and denominator
unfoldable pub side_line : SideRow → List ℕ
side_line side = codes "side" ++ int_text side.dir.a ++ int_text side.dir.b ++ codes " corner" ++ count_text side.corner
    ++ codes " den" ++ int_text side.den ++ codes "\n"

-- a side, in three lines
unfoldable pub side_text : SideRow → List ℕ
side_text side = side_line side ++ codes "first" ++ each_text int_text side.first ++ codes "\nsecond"
    ++ each_text int_text side.second ++ codes "\n"

-- the line of multipliers of a program that has no solution
unfoldable pub multipliers_text : List ℤ → List ℕ
multipliers_text multipliers = codes "multipliers" ++ each_text int_text multipliers ++ codes "\n"

-- a row of a tableau
unfoldable pub row_text : RowName → List ℕ
row_text (Basic column) = decimal column
row_text First = codes "first"
row_text Second = codes "second"
row_text Phase = codes "phase"

-- a basis and a place at which its tableau is wide, in two lines
unfoldable pub place_text : List ℕ → Place → List ℕ
place_text basis place = codes "basis" ++ each_text count_text basis ++ codes "\nat " ++ row_text place.row
    ++ count_text place.col ++ codes "\n"

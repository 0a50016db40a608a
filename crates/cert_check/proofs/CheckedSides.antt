-- The rules of a side and of an empty program's multipliers, put together from their parts.
use Rattle.std.proofs.Common.{◌≡◌, inl, inr, ℕ, ◌+◌, ◌<◌, List, [], ◌∷◌, length, get_or, refl, sym, ap, ◌∙◌, subst, ℤ, pos, ◌≤ℤ◌, ◌<ℤ◌, arith}
use Rattle.std.specs.Prelude.{Some, option_map, slice_get, slice_index_or}
use Rattle.std.proofs.lemmas.List.{length-append, length-map}
use Rattle.std.proofs.lemmas.Option.{slice_get-get_or, slice_get-map}
use Rattle.corr_game.specs.Game.{GameView}
use Rattle.corr_num.specs.Narrow.{Narrow}
use Rattle.lp_form.specs.Certificates.{times_column}
use Rattle.lp_form.specs.Program.{LpView, joined}
use Rattle.plane_hull.specs.declared.sides.Point.{Point}
use Rattle.plane_hull.specs.declared.sides.SideRow.{SideRow}
use Rattle.report_form.specs.Certified.{IsPointIn}
use Rattle.report_form.specs.Points.{points_of}
use Rattle.report_form.specs.declared.reports.Corner.{Corner}
use Rattle.sequences.proofs.Adding.{within}
use Rattle.cert_check.specs.Rules.{AllHold, IsFirstBroken, by_column}
use Rattle.cert_check.specs.SideRules.{CertificateRule, EmptyRule, IsAtCorner, IsFirstCause, SideRule, above, empty_rules, per_row, point, side_rules, sign, width}
use Rattle.cert_check.specs.Truth.{IsTrueSide}
use Rattle.report_form.specs.declared.verdicts.Cause.{Cause}
use Rattle.report_form.specs.declared.verdicts.Cause.TheVariants as cause
use Rattle.cert_check.proofs.FirstBroken.{all_behind, broken_behind, broken_in_front, column_breaks, columns_hold}

abbrev pub IsPointOf : GameView → SideRow → Point → Type 0
IsPointOf g side at = IsPointIn g at (slice_index_or side.first 0 (pos 0)) (slice_index_or side.second 0 (pos 0)) side.den

-- the point of the side's corner
module _ (g : GameView) (corners : List Corner) (points : List Point) (side : SideRow) (at : Point) (same : points ≡ points_of corners)
    (low : side.corner < length points) (is_at : at ≡ get_or points side.corner at) where
  here : slice_get points side.corner ≡ Some at
  here = slice_get-get_or points side.corner at low ∙ ap (λ (x : Point). Some x) (sym is_at)

  there : (corner : Corner) → slice_get corners side.corner ≡ Some corner → corner.point ≡ at
  there corner found =
      let pointed : slice_get points side.corner ≡ Some corner.point =
      ap (λ (ps : List Point). slice_get ps side.corner) same
      ∙ slice_get-map (λ (x : Corner). x.point) corners side.corner
      ∙ ap (option_map (λ (x : Corner). x.point)) found in
      cc (pointed, here)

  pub at_corner : IsPointOf g side at → IsAtCorner g corners side
  at_corner is =
      let count : length points ≡ length corners =
      ap (λ (ps : List Point). length ps) same ∙ length-map corners (λ (x : Corner). x.point) in
      let (corner, found) = within corners side.corner (omega (arith, low, count)) in
      record { corner = corner; at = found; point = subst (IsPointOf g side) (sym (there corner found)) is }

  pub of_corner : IsAtCorner g corners side → IsPointOf g side at
  of_corner is = subst (IsPointOf g side) (there is.corner is.at) is.point

-- the rules of a side, from the first that is broken
module _ (g : GameView) (base more : LpView) (corners : List Corner) (side : SideRow) where
  Rule : CertificateRule → Type 0
  Rule rule = SideRule g (joined base more) corners side rule

  all_rows : length (joined base more).rows ≡ length base.rows + length more.rows
  all_rows = length-append base.rows more.rows

  per_row_holds : length side.first ≡ length base.rows + length more.rows → length side.second ≡ length base.rows + length more.rows
      → SideRule g (joined base more) corners side per_row
  per_row_holds one two = (one ∙ sym all_rows, two ∙ sym all_rows)

  pub side_true : length side.first ≡ length base.rows + length more.rows → length side.second ≡ length base.rows + length more.rows
      → IsAtCorner g corners side
      → AllHold (SideRule g (joined base more) corners side) (by_column width sign 0 more.cols) → IsTrueSide g (joined base more) corners side
  side_true one two at columns = (per_row_holds one two, (at, columns))

  pub column_first : (cause : Cause) → length side.first ≡ length base.rows + length more.rows
      → length side.second ≡ length base.rows + length more.rows → IsAtCorner g corners side
      → IsFirstCause (SideRule g (joined base more) corners side) (by_column width sign 0 more.cols) cause
      → IsFirstCause (SideRule g (joined base more) corners side) (side_rules (joined base more)) cause
  column_first cause one two at fails = (fails.0, fails.1, inr (per_row_holds one two, inr (at, fails.2)))

  pub point_first : length side.first ≡ length base.rows + length more.rows → length side.second ≡ length base.rows + length more.rows
      → (IsAtCorner g corners side → ⊥)
      → IsFirstCause (SideRule g (joined base more) corners side) (side_rules (joined base more)) cause.Point
  point_first one two apart = (point, refl, inr (per_row_holds one two, inl (refl, apart)))

  pub rows_first : (length side.first ≡ length base.rows + length more.rows → length side.second ≡ length base.rows + length more.rows → ⊥)
      → IsFirstCause (SideRule g (joined base more) corners side) (side_rules (joined base more)) cause.Length
  rows_first apart = (per_row, refl, inl (refl, λ both. apart (both.0 ∙ all_rows) (both.1 ∙ all_rows)))

-- the rules of multipliers, likewise
module _ (base more : LpView) (multipliers products : List ℤ)
    (are : (k : ℕ) → slice_index_or products k (pos 0) ≡ times_column (joined base more) multipliers k) where
  -- a column's product is narrow and at most 0
  abbrev pub KeptAt : ℕ → Type 0
  KeptAt k = Narrow (slice_index_or products k (pos 0)) × (slice_index_or products k (pos 0) ≤ℤ pos 0)

  abbrev Columns : List CertificateRule
  Columns = by_column width sign 0 more.cols

  all_rows_of : length (joined base more).rows ≡ length base.rows + length more.rows
  all_rows_of = length-append base.rows more.rows

  kept_holds : (k : ℕ) → KeptAt k → EmptyRule (joined base more) multipliers (width k) × EmptyRule (joined base more) multipliers (sign k)
  kept_holds k kept = rw (← are k) kept

  columns_kept : ((k : ℕ) → k < more.cols → KeptAt k) → AllHold (EmptyRule (joined base more) multipliers) Columns
  columns_kept each = columns_hold (EmptyRule (joined base more) multipliers) width sign 0 more.cols (λ k low high. kept_holds k (each k (omega (arith, high))))

  pub empty_true : length multipliers ≡ length base.rows + length more.rows → ((k : ℕ) → k < more.cols → KeptAt k)
      → pos 0 <ℤ slice_index_or multipliers 0 (pos 0) → AllHold (EmptyRule (joined base more) multipliers) (empty_rules (joined base more))
  empty_true count each some =
      (count ∙ sym all_rows_of, all_behind (EmptyRule (joined base more) multipliers) Columns (above ∷ []) (columns_kept each) (some, tt))

  pub above_first : length multipliers ≡ length base.rows + length more.rows → ((k : ℕ) → k < more.cols → KeptAt k)
      → (pos 0 <ℤ slice_index_or multipliers 0 (pos 0) → ⊥)
      → IsFirstCause (EmptyRule (joined base more) multipliers) (empty_rules (joined base more)) cause.Sign
  above_first count each none = (
    above,
    refl,
    inr (
      count ∙ sym all_rows_of,
      broken_behind (EmptyRule (joined base more) multipliers) Columns (above ∷ []) above (columns_kept each) (inl (refl, none)),
    ),
  )

  column_fails_first : (rule : CertificateRule) (k : ℕ) → k < more.cols → length multipliers ≡ length base.rows + length more.rows
      → ((j : ℕ) → j < k → KeptAt j) → IsFirstBroken (EmptyRule (joined base more) multipliers) (width k ∷ sign k ∷ []) rule
      → IsFirstBroken (EmptyRule (joined base more) multipliers) (empty_rules (joined base more)) rule
  column_fails_first rule k inside count before fails =
      inr (
        count ∙ sym all_rows_of,
        broken_in_front (EmptyRule (joined base more) multipliers) Columns (above ∷ []) rule
            (column_breaks (EmptyRule (joined base more) multipliers) width sign 0 more.cols k rule (omega arith) (omega (arith, inside))
            (λ j low below. kept_holds j (before j below)) fails),
      )

  pub width_first : (k : ℕ) → k < more.cols → length multipliers ≡ length base.rows + length more.rows → ((j : ℕ) → j < k → KeptAt j)
      → (Narrow (slice_index_or products k (pos 0)) → ⊥)
      → IsFirstCause (EmptyRule (joined base more) multipliers) (empty_rules (joined base more)) cause.Width
  width_first k inside count before wide =
      (width k, refl, column_fails_first (width k) k inside count before (inl (refl, rw (are k) at wide)))

  pub sign_first : (k : ℕ) → k < more.cols → length multipliers ≡ length base.rows + length more.rows → ((j : ℕ) → j < k → KeptAt j)
      → Narrow (slice_index_or products k (pos 0)) → (slice_index_or products k (pos 0) ≤ℤ pos 0 → ⊥)
      → IsFirstCause (EmptyRule (joined base more) multipliers) (empty_rules (joined base more)) cause.Sign
  sign_first k inside count before narrow over =
      (sign k, refl, column_fails_first (sign k) k inside count before (inr (rw (are k) at narrow, inl (refl, rw (are k) at over))))

  pub length_first : (length multipliers ≡ length base.rows + length more.rows → ⊥)
      → IsFirstCause (EmptyRule (joined base more) multipliers) (empty_rules (joined base more)) cause.Length
  length_first apart = (per_row, refl, inl (refl, λ is. apart (is ∙ all_rows_of)))

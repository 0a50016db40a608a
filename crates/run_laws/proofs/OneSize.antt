-- A notion's program has one size, since each number of its sums is determined; so programs that fit are refused for no size.
use Rattle.std.proofs.Common.{◌≡◌, ℕ, ◌+◌, ◌*◌, zero, suc, List, [], ◌∷◌, Option, Some, None, arith, ap, sym, ◌∙◌, inl, inr, slice_get}
use Rattle.connected_pairs.specs.Connected.{PairsView, IsTouched, other}
use Rattle.corr_game.specs.declared.nodes.SetId.{SetId}
use Rattle.corr_game.specs.declared.nodes.SetInfo.{SetInfo}
use Rattle.corr_game.specs.declared.notions.Notion.{Notion}
use Rattle.corr_game.specs.declared.notions.Notion.TheVariants.{Efce, Efcce, Nfcce}
use Rattle.corr_game.specs.declared.sides.Side.{Side}
use Rattle.corr_game.specs.declared.sides.Side.TheVariants.{One, Two}
use Rattle.corr_game.specs.Game.{GameView, sets_of}
use Rattle.incentive_rows.specs.Size.{HasRowBeside, HasRowsOfSet, HasCorrelationRows, CountsFor, HasCount, HasCountAt, HasTotalAt, HasTotal, HasSize, row_each, value_each}
use Rattle.incentive_rows.specs.Sum.{IsSum, IsWhere}
use Rattle.incentive_rows.specs.Trigger.{HasSet, TriggersAt}
use Rattle.report_form.specs.declared.refusals.Refusal.{Refusal}
use Rattle.report_form.specs.declared.refusals.Refusal.TheVariants.{Size}
use Rattle.sequences.specs.Number.{count_of, last_of, side_of}
use Rattle.corr_run.specs.FirstRefusal.{IsOfSize, IsOfSizes}
use Rattle.corr_run.specs.Reports.{FitsProgram, FitPrograms}

where_same : (Holds : Type 0) (m n a b : ℕ) → m ≡ n → IsWhere Holds m a → IsWhere Holds n b → a ≡ b
where_same Holds m n a b e (inl x) (inl y) = x.1 ∙ e ∙ sym y.1
where_same Holds m n a b e (inl x) (inr y) = absurd (y.0 x.0)
where_same Holds m n a b e (inr x) (inl y) = absurd (x.0 y.0)
where_same Holds m n a b e (inr x) (inr y) = x.1 ∙ sym y.1

sum_same : (term : ℕ → ℕ → Type 0) → ((k x y : ℕ) → term k x → term k y → x ≡ y) → (count a b : ℕ) → IsSum term count a → IsSum term count b → a ≡ b
sum_same term same zero a b h k = h ∙ sym k
sum_same term same (suc n) a b h k =
    let rests = sum_same term same n h.0 k.0 h.2 k.2 in
    let lasts = same n h.1 k.1 h.3 k.3 in
    omega (arith, h.4, k.4, rests, lasts)

info_same : (sets : List SetInfo) (set : ℕ) (x y : SetInfo) → slice_get sets set ≡ Some x → slice_get sets set ≡ Some y → x ≡ y
info_same sets set x y e f = cc

module _ (g : GameView) (p : PairsView) where
  rows_same : (side : Side) (a b : ℕ) → HasCorrelationRows g p side a → HasCorrelationRows g p side b → a ≡ b
  rows_same side a b = sum_same (HasRowsOfSet p side)
      (λ set x y. sum_same (HasRowBeside p side set)
      (λ beside m n. where_same (IsTouched p (other side) set (last_of (side_of (other side) p.seqs) beside)) 1 1 m n (omega arith))
      (count_of (side_of (other side) p.seqs)) x y)
      _ a b

  count_same : (each : SetInfo → ℕ) (side : Side) (top : Option SetId) (a b : ℕ) → HasCount each g p side top a → HasCount each g p side top b → a ≡ b
  count_same each side top a b = sum_same (CountsFor each g p side top)
      (λ set x y h k. where_same (HasSet (side_of side p.seqs) top set) (each h.0) (each k.0) x y (ap each (info_same (sets_of side g) set h.0 k.0 h.1 k.1)) h.2 k.2)
      _ a b

  triggers_same : (notion : Notion) (side : Side) (set a b : ℕ) → TriggersAt notion g side set a → TriggersAt notion g side set b → a ≡ b
  triggers_same Efce side set a b h k = h.2 ∙ ap (λ (info : SetInfo). info.actions) (info_same (sets_of side g) set h.0 k.0 h.1 k.1) ∙ sym k.2
  triggers_same Efcce side set a b h k = h ∙ sym k
  triggers_same Nfcce side set a b h k = h ∙ sym k

  total_at_same : (each : SetInfo → ℕ) (more : ℕ) (notion : Notion) (side : Side) (a b : ℕ) → HasTotalAt each more notion g p side a → HasTotalAt each more notion g p side b → a ≡ b
  total_at_same each more notion side a b = sum_same (HasCountAt each more notion g p side)
      (λ set x y h k.
      let times : h.0 ≡ k.0 = triggers_same notion side set h.0 k.0 h.2 k.2 in
      let counts : h.1 ≡ k.1 = count_same each side (Some (record { 0 = set })) h.1 k.1 h.3 k.3 in
      h.4 ∙ ap (λ (n : ℕ). n * (h.1 + more)) times ∙ ap (λ (n : ℕ). k.0 * (n + more)) counts ∙ sym k.4)
      _ a b

  total_same : (each : SetInfo → ℕ) (more : ℕ) (notion : Notion) (side : Side) (a b : ℕ) → HasTotal each more notion g p side a → HasTotal each more notion g p side b → a ≡ b
  total_same each more Efce side a b h k = total_at_same each more Efce side a b h k
  total_same each more Efcce side a b h k = total_at_same each more Efcce side a b h k
  total_same each more Nfcce side a b h k = let counts = count_same each side None h.0 k.0 h.1 k.1 in omega (arith, h.2, k.2, counts)

  -- so are the rows and the columns
  size_same : (notion : Notion) (rows columns more_rows more_columns : ℕ) → HasSize g p notion rows columns → HasSize g p notion more_rows more_columns → (rows ≡ more_rows) × (columns ≡ more_columns)
  size_same notion rows columns more_rows more_columns h k =
      let one = rows_same One h.before_one k.before_one h.at_one k.at_one in
      let two = rows_same Two h.before_two k.before_two h.at_two k.at_two in
      let mine = h.behind in
      let yours = k.behind in
      let rows_one = total_same row_each 1 notion One mine.rows_one yours.rows_one mine.of_one yours.of_one in
      let rows_two = total_same row_each 1 notion Two mine.rows_two yours.rows_two mine.of_two yours.of_two in
      let values_one = total_same value_each 0 notion One mine.values_one yours.values_one mine.values_of_one yours.values_of_one in
      let values_two = total_same value_each 0 notion Two mine.values_two yours.values_two mine.values_of_two yours.values_of_two in
      let incentives : h.incentives ≡ k.incentives = omega (arith, rows_one, rows_two, mine.all_rows, yours.all_rows) in
      let values : h.values ≡ k.values = omega (arith, values_one, values_two, mine.all_values, yours.all_values) in
      (omega (arith, one, two, incentives, h.all_rows, k.all_rows), omega (arith, incentives, values, h.all_columns, k.all_columns))

  fits_no_size : (notion : Notion) (refusal : Refusal) → FitsProgram g p notion → IsOfSize g p notion refusal → ⊥
  fits_no_size notion refusal fit of =
      let same = size_same notion fit.0 fit.1 of.rows of.columns fit.2 of.size in
      elim of.over [ inl rows ↦ omega (arith, same.0, fit.3, rows) | inr columns ↦ omega (arith, same.1, fit.4, columns) ]

  -- programs that fit are refused for no size
  pub no_size : (notions : List Notion) (refusal : Refusal) → FitPrograms g p notions → IsOfSizes g p notions refusal → ⊥
  no_size [] refusal fit of = of
  no_size (notion ∷ rest) refusal fit (inl here) = fits_no_size notion refusal fit.0 here
  no_size (notion ∷ rest) refusal fit (inr later) = no_size rest refusal fit.1 later.1

  -- and the size is that of one notion
  pub one_size : (notions : List Notion) (a b : Refusal) → IsOfSizes g p notions a → IsOfSizes g p notions b → a ≡ b
  one_size [] a b x y = absurd x
  one_size (notion ∷ rest) a b (inl x) (inl y) =
      let same = size_same notion x.rows x.columns y.rows y.columns x.size y.size in
      x.named ∙ ap (λ (r : ℕ). Size notion r x.columns) same.0 ∙ ap (λ (c : ℕ). Size notion y.rows c) same.1 ∙ sym y.named
  one_size (notion ∷ rest) a b (inl x) (inr y) = absurd (fits_no_size notion a y.0 x)
  one_size (notion ∷ rest) a b (inr x) (inl y) = absurd (fits_no_size notion b x.0 y)
  one_size (notion ∷ rest) a b (inr x) (inr y) = one_size rest a b x.1 y.1

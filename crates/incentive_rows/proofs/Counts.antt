-- Each count that the size of a program adds up has one value, and none is large: the counts are sums whose terms have
-- one value, over fewer sets than nodes.
use Rattle.std.proofs.Common.{◌≡◌, ℕ, ◌+◌, ◌*◌, ◌≤◌, Option, Some, None, length, slice_get, ap, arith}
use Rattle.std.proofs.lemmas.Option.{slice_get_within, get_or_from_slice_get}
use Rattle.corr_game.specs.declared.nodes.SetId.{SetId}
use Rattle.corr_game.specs.declared.nodes.SetInfo.{SetInfo}
use Rattle.corr_game.specs.declared.notions.Notion.{Notion}
use Rattle.corr_game.specs.declared.notions.Notion.TheVariants.{Efce, Efcce, Nfcce}
use Rattle.corr_game.specs.declared.sides.Side.{Side}
use Rattle.corr_game.specs.declared.sides.Side.TheVariants.{One, Two}
use Rattle.corr_game.specs.Game.{GameView, IsGame, sets_of}
use Rattle.corr_game.proofs.SetCount.{count_at_most}
use Rattle.sequences.specs.Number.{count_of, side_of}
use Rattle.connected_pairs.specs.Connected.{PairsView, other}
use Rattle.incentive_rows.specs.Sum.{IsSum}
use Rattle.incentive_rows.specs.Trigger.{TriggersAt}
use Rattle.incentive_rows.specs.Size.{CountsFor, HasCorrelationRows, HasCount, HasCountAt, HasIncentives, HasRowBeside, HasRowsOfSet, HasSize, HasTotal, HasTotalAt, row_each, value_each}
use Rattle.incentive_rows.proofs.Sums.{HasOne, sum_bound, sum_one, where_bound, where_one}

pub few_sets : (side : Side) (g : GameView) → IsGame g → length (sets_of side g) ≤ 4096
few_sets side g rules =
    omega (arith, rules.at_most, count_at_most side 0 g.nodes (length (sets_of side g)) (rules.in_order side))

pub few_actions_of : (side : Side) (g : GameView) → IsGame g → (set : ℕ) (info : SetInfo) → slice_get (sets_of side g) set ≡ Some info → info.actions ≤ 64
few_actions_of side g rules set info at =
    let rule = rules.each_set side set info (slice_get_within (sets_of side g) set info at) in
    omega (arith, rule.1, ap (λ (i : SetInfo). i.actions) (get_or_from_slice_get (sets_of side g) set info info at))

pub values_low : (g : GameView) (p : PairsView) (side : Side) (top : Option SetId) (k n : ℕ) → IsSum (CountsFor value_each g p side top) k n → n ≤ k
values_low g p side top k n s =
    omega (arith, sum_bound (CountsFor value_each g p side top) 1 k n s (λ i v low t. where_bound 1 v t.2))

pub rows_low : (g : GameView) (p : PairsView) (side : Side) (top : Option SetId) → IsGame g → (k n : ℕ) → IsSum (CountsFor row_each g p side top) k n → n ≤ k * 64
rows_low g p side top rules k n s =
    sum_bound (CountsFor row_each g p side top) 64 k n s (λ i v low t. omega (arith, where_bound (row_each t.0) v t.2, few_actions_of side g rules i t.0 t.1))

pub counts_one : (each : SetInfo → ℕ) (g : GameView) (p : PairsView) (side : Side) (top : Option SetId) → HasOne (CountsFor each g p side top)
counts_one each g p side top = record {
  same = λ k a b s t.
      let infos : s.0 ≡ t.0 = cc (s.1, t.1) in
      where_one (each s.0) a b s.2 (rw infos t.2);
}

pub count_one : (each : SetInfo → ℕ) (g : GameView) (p : PairsView) (side : Side) (top : Option SetId) (a b : ℕ) → HasCount each g p side top a → HasCount each g p side top b → a ≡ b
count_one each g p side top a b s t =
    sum_one (CountsFor each g p side top) (counts_one each g p side top) (length (sets_of side g)) a b s t

pub times_one : (notion : Notion) (g : GameView) (side : Side) (set a b : ℕ) → TriggersAt notion g side set a → TriggersAt notion g side set b → a ≡ b
times_one Efce g side set a b s t =
    let infos : s.0 ≡ t.0 = cc (s.1, t.1) in
    let actions = ap (λ (i : SetInfo). i.actions) infos in
    omega (arith, s.2, t.2, actions)
times_one Efcce g side set a b s t = omega (arith, s, t)
times_one Nfcce g side set a b s t = omega (arith, s, t)

pub count_at_one : (each : SetInfo → ℕ) (more : ℕ) (notion : Notion) (g : GameView) (p : PairsView) (side : Side) → HasOne (HasCountAt each more notion g p side)
count_at_one each more notion g p side = record {
  same = λ k a b s t.
      let times = times_one notion g side k s.0 t.0 s.2 t.2 in
      let counts = count_one each g p side (Some record { 0 = k }) s.1 t.1 s.3 t.3 in
      cc (times, counts, s.4, t.4);
}

pub total_at_one : (each : SetInfo → ℕ) (more : ℕ) (notion : Notion) (g : GameView) (p : PairsView) (side : Side) (a b : ℕ) → HasTotalAt each more notion g p side a → HasTotalAt each more notion g p side b → a ≡ b
total_at_one each more notion g p side a b s t =
    sum_one (HasCountAt each more notion g p side) (count_at_one each more notion g p side) (length (sets_of side g)) a b s t

pub total_one : (each : SetInfo → ℕ) (more : ℕ) (notion : Notion) (g : GameView) (p : PairsView) (side : Side) (a b : ℕ) → HasTotal each more notion g p side a → HasTotal each more notion g p side b → a ≡ b
total_one each more Efce g p side a b s t = total_at_one each more Efce g p side a b s t
total_one each more Efcce g p side a b s t = total_at_one each more Efcce g p side a b s t
total_one each more Nfcce g p side a b s t =
    omega (arith, s.2, t.2, count_one each g p side None s.0 t.0 s.1 t.1)

pub incentives_one : (notion : Notion) (g : GameView) (p : PairsView) (r v m n : ℕ) → HasIncentives g p notion r v → HasIncentives g p notion m n → (r ≡ m) × (v ≡ n)
incentives_one notion g p r v m n h i =
    let one = total_one row_each 1 notion g p One h.rows_one i.rows_one h.of_one i.of_one in
    let two = total_one row_each 1 notion g p Two h.rows_two i.rows_two h.of_two i.of_two in
    let values_one = total_one value_each 0 notion g p One h.values_one i.values_one h.values_of_one i.values_of_one in
    let values_two = total_one value_each 0 notion g p Two h.values_two i.values_two h.values_of_two i.values_of_two in
    (omega (arith, one, two, h.all_rows, i.all_rows), omega (arith, values_one, values_two, h.all_values, i.all_values))

-- the incentive rows and values of a program within the limits are within them
pub incentives_fit : (notion : Notion) (g : GameView) (p : PairsView) → (rows : ℕ) × (columns : ℕ) × HasSize g p notion rows columns × (rows ≤ 2048) × (columns ≤ 8192)
    → (r v : ℕ) → HasIncentives g p notion r v → (r ≤ 2048) × (length p.pairs + v + 1 + r ≤ 8192)
incentives_fit notion g p size r v h =
    let whole = size.2 in
    let same = incentives_one notion g p r v whole.incentives whole.values h whole.behind in
    (omega (arith, size.3, whole.all_rows, same.0), omega (arith, size.4, whole.all_columns, same.0, same.1))

-- a player's correlation rows have one count
pub correlation_one : (g : GameView) (p : PairsView) (side : Side) (a b : ℕ) → HasCorrelationRows g p side a → HasCorrelationRows g p side b → a ≡ b
correlation_one g p side a b s t =
    sum_one (HasRowsOfSet p side) of_set (length (sets_of side g)) a b s t
  where
    beside : (set : ℕ) → HasOne (HasRowBeside p side set)
    beside set = record { same = λ k m n s t. where_one 1 m n s t }

    of_set : HasOne (HasRowsOfSet p side)
    of_set = record { same = λ set m n s t. sum_one (HasRowBeside p side set) (beside set) (count_of (side_of (other side) p.seqs)) m n s t }

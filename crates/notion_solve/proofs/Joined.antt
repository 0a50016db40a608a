-- How many rows a notion's program has.
use Rattle.std.proofs.Common.{◌≡◌, ℕ, ◌+◌, length, refl, arith}
use Rattle.std.proofs.lemmas.List.{length-append}
use Rattle.corr_game.specs.declared.notions.Notion.{Notion}
use Rattle.corr_game.specs.Game.{GameView}
use Rattle.connected_pairs.specs.Connected.{PairsView}
use Rattle.incentive_rows.specs.Size.{HasIncentives, HasSize}
use Rattle.plan_polytope.specs.RowCount.{HasBothCounts}
use Rattle.lp_form.specs.Program.{LpView, joined}

-- a notion's program has as many rows as its size says
pub as_many_rows : (g : GameView) (p : PairsView) (notion : Notion) (base more : LpView) (rows columns : ℕ) → HasSize g p notion rows columns
    → ((count : ℕ) → HasBothCounts g p count → length base.rows ≡ count + 1)
    → ((count values : ℕ) → HasIncentives g p notion count values → length more.rows ≡ count) → length (joined base more).rows ≡ rows
as_many_rows g p notion base more rows columns size of_base of_more =
    let first = of_base (size.before_one + size.before_two) (size.before_one, size.before_two, size.at_one, size.at_two, refl) in
    let second = of_more size.incentives size.values size.behind in
    omega (arith, first, second, size.all_rows, length-append base.rows more.rows)

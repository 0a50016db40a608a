-- The list of the marked columns is that of the tableau's basis, and what names the basis that is left is shown.
use Rattle.std.proofs.Common.{◌≡◌, ℕ, List, Bool, Some, true, Result, Ok, Err, slice_get, sym, subst}
use Rattle.std.specs.Result.{IfOk}
use Rattle.std.specs.declared.alloc.AllocError.{AllocError}
use Rattle.corr_game.specs.Game.{GameView}
use Rattle.connected_pairs.specs.Connected.{PairsView}
use Rattle.lp_form.specs.Program.{LpView}
use Rattle.lp_form.specs.declared.places.Place.{Place}
use Rattle.int_tableau.specs.declared.ends.PivotEnd.{PivotEnd}
use Rattle.int_tableau.specs.declared.ends.PivotEnd.TheVariants.{Wide}
use Rattle.int_tableau.specs.Content.{Content, IsProgramRow}
use Rattle.bland_simplex.proofs.Reaching.{listed_wide}
use Rattle.bland_simplex.specs.Reachable.{IsLeftWide, LeavesWide, ListsBasis}
use Rattle.report_form.specs.Ranges.{AscendFrom}
use Rattle.report_form.specs.declared.reports.Block.{Block}
use Rattle.report_form.specs.declared.reports.Block.TheVariants.{Found, Empty, TooWide}
use Rattle.notion_solve.proofs.Marking.{ascend_apart}
use Rattle.notion_solve.specs.Shown.{IsShown}
use Rattle.notion_solve.specs.WideBlock.{NamesBasis}

pub names : (t : Content) (marks : List Bool) (columns : List ℕ)
    → ((row : ℕ) → IsProgramRow t row → slice_get marks (t.basic row) ≡ Some true)
    → ((col : ℕ) → slice_get marks col ≡ Some true → (row : ℕ) × IsProgramRow t row × (t.basic row ≡ col))
    → AscendFrom 0 columns → ((col : ℕ) → slice_get marks col ≡ Some true → (k : ℕ) × (slice_get columns k ≡ Some col))
    → ((k col : ℕ) → slice_get columns k ≡ Some col → slice_get marks col ≡ Some true) → ListsBasis columns t
names t marks columns all_marked only_marked up all_listed only_listed = record {
  ascending = ascend_apart 0 columns up;
  basic = λ k col at. only_marked col (only_listed k col at);
  all = λ row inside. all_listed (t.basic row) (all_marked row inside);
}

shown_by : (g : GameView) (p : PairsView) (lp : LpView) (left : Content) (place : Place) (block : Block) → LeavesWide lp left place
    → NamesBasis left place block → IsShown g p lp block
shown_by g p lp left place (Found corners sides) leaves named = absurd named
shown_by g p lp left place (Empty multipliers) leaves named = absurd named
shown_by g p lp left place (TooWide basis at) leaves named = listed_wide lp left at basis
    (subst (λ other. LeavesWide lp left other) (sym named.1) leaves) named.0

shown_ok : (g : GameView) (p : PairsView) (lp : LpView) (left : Content) (place : Place) (made : Result Block AllocError)
    → LeavesWide lp left place → IfOk made (NamesBasis left place) → IfOk made (IsShown g p lp)
shown_ok g p lp left place (Ok block) leaves named = shown_by g p lp left place block leaves named
shown_ok g p lp left place (Err short) leaves named = tt

pub wide_shown : (g : GameView) (p : PairsView) (lp : LpView) (left : Content) (end : PivotEnd) (place : Place)
    (made : Result Block AllocError) → end ≡ Wide place → IsLeftWide lp left end → IfOk made (NamesBasis left place)
    → IfOk made (IsShown g p lp)
wide_shown g p lp left end place made is leaves named =
    shown_ok g p lp left place made (subst (λ other. IsLeftWide lp left other) is leaves) named

-- The first refusal of a game's file, in their order: Syntax, the players, the nodes in file order with their rules, the
-- closing of the tree, paths, scales, amounts, recall, triangles, and the sizes of the programs.
use Rattle.std.specs.Prelude.{◌≡◌, ◌⊎◌, ℕ, ◌<◌, List, [], ◌∷◌, Some, slice_get}
use Rattle.connected_pairs.specs.Connected.{PairsView}
use Rattle.corr_game.specs.declared.nodes.SetId.{SetId}
use Rattle.corr_game.specs.declared.nodes.SetInfo.{SetInfo}
use Rattle.corr_game.specs.declared.notions.Notion.{Notion}
use Rattle.corr_game.specs.declared.sides.Side.{Side}
use Rattle.corr_game.specs.declared.sides.Side.TheVariants.{One, Two}
use Rattle.corr_game.specs.Game.{GameView, sets_of}
use Rattle.efg_lines.specs.declared.refusal.FileRefusal.{FileRefusal}
use Rattle.efg_lines.specs.File.{FileView}
use Rattle.efg_lines.specs.FileTokens.{IsFileOf, StopsAt}
use Rattle.efg_reader.specs.FirstRefusal.{file_refusal}
use Rattle.efg_reader.specs.RawGame.{RawGameView}
use Rattle.game_scale.specs.declared.refusal.ScaleRefusal.{ScaleRefusal}
use Rattle.game_scale.specs.Scaled.{IsRefused}
use Rattle.incentive_rows.specs.Size.{HasSize}
use Rattle.report_form.specs.declared.refusals.Refusal.{Refusal}
use Rattle.report_form.specs.declared.refusals.Refusal.TheVariants.{Syntax, Forgets, Triangle, Size}
use Rattle.tree_recall.specs.declared.recalls.RecallRefusal.TheVariants as recall
use Rattle.tree_recall.specs.Forgetting.{IsLeast}
use Rattle.triangle_test.specs.Triangle.{IsLeastTriangle}
use Rattle.triangle_test.specs.declared.triangles.Quad.{Quad}
use Rattle.corr_run.specs.GameOfFile.{SayGame, SayScaled, SayRecalled, IsGameOfBytes}
use Rattle.corr_run.specs.Refusals.{line_refusal, scale_refusal}
use Rattle.corr_run.specs.Reports.{FitsProgram, FitPrograms}

-- the lines of a file break a rule, and this refusal names the first
pub record IsOfLines (file : FileView) (refusal : Refusal) : Type 0 where
  pub broken : FileRefusal
  pub first : file_refusal file ≡ Some broken
  pub named : line_refusal broken ≡ Some refusal

-- a path, a scale or an amount is beyond the limits, and this refusal names the first
pub record IsOfScales (raw : RawGameView) (refusal : Refusal) : Type 0 where
  pub beyond : ScaleRefusal
  pub first : IsRefused raw beyond
  pub named : scale_refusal beyond ≡ Some refusal

-- a player's set has this number in the file
abbrev pub HasFileNumber : GameView → Side → SetId → ℕ → Type 0
HasFileNumber g side set file = (info : SetInfo) × (slice_get (sets_of side g) set.0 ≡ Some info) × (info.file ≡ file)

-- a player forgets, and this refusal names the least node at which one does
pub record IsOfRecall (g : GameView) (refusal : Refusal) : Type 0 where
  pub side : Side
  pub set : SetId
  pub first : ℕ
  pub second : ℕ
  pub least : IsLeast g (recall.Forgets side set first second)
  pub file : ℕ
  pub in_file : HasFileNumber g side set file
  pub named : refusal ≡ Forgets side file first second

-- there is a triangle, and this refusal names the sets of the least
pub record IsOfTriangle (g : GameView) (p : PairsView) (refusal : Refusal) : Type 0 where
  pub quad : Quad
  pub least : IsLeastTriangle p quad
  pub one_a : ℕ
  pub one_b : ℕ
  pub two_a : ℕ
  pub two_b : ℕ
  pub one_a_in_file : HasFileNumber g One quad.one_a one_a
  pub one_b_in_file : HasFileNumber g One quad.one_b one_b
  pub two_a_in_file : HasFileNumber g Two quad.two_a two_a
  pub two_b_in_file : HasFileNumber g Two quad.two_b two_b
  pub named : refusal ≡ Triangle one_a one_b two_a two_b

-- why bytes have no game that can be solved, whatever the notions: one constructor a step
pub data IsOfFile (bytes : List ℕ) (refusal : Refusal) : Type 0 where
  no_file : (at : ℕ) → StopsAt bytes at → refusal ≡ Syntax at → IsOfFile bytes refusal
  by_lines : (file : FileView) → IsFileOf bytes file → IsOfLines file refusal → IsOfFile bytes refusal
  by_scales : (raw : RawGameView) → SayGame bytes raw → IsOfScales raw refusal → IsOfFile bytes refusal
  by_recall : (g : GameView) → SayScaled bytes g → IsOfRecall g refusal → IsOfFile bytes refusal
  by_triangle : (g : GameView) (p : PairsView) → SayRecalled bytes g p → IsOfTriangle g p refusal → IsOfFile bytes refusal

-- a notion's program has more, and this refusal names its size
pub record IsOfSize (g : GameView) (p : PairsView) (notion : Notion) (refusal : Refusal) : Type 0 where
  pub rows : ℕ
  pub columns : ℕ
  pub size : HasSize g p notion rows columns
  pub over : (2048 < rows) ⊎ (8192 < columns)
  pub named : refusal ≡ Size notion rows columns

-- so has the first of these notions whose program doesn't fit
abbrev pub IsOfSizes : GameView → PairsView → List Notion → Refusal → Type 0
IsOfSizes g p [] refusal = ⊥
IsOfSizes g p (notion ∷ rest) refusal = IsOfSize g p notion refusal ⊎ (FitsProgram g p notion × IsOfSizes g p rest refusal)

-- the first refusal of bytes whose game is to be solved under these notions
pub data IsFirstRefusal (notions : List Notion) (bytes : List ℕ) (refusal : Refusal) : Type 0 where
  of_file : IsOfFile bytes refusal → IsFirstRefusal notions bytes refusal
  of_sizes : (g : GameView) (p : PairsView) → IsGameOfBytes bytes g p → IsOfSizes g p notions refusal → IsFirstRefusal notions bytes refusal

-- there is none: these are the game of the bytes and its pairs, and the notions' programs fit
pub record IsGameFor (notions : List Notion) (bytes : List ℕ) (g : GameView) (p : PairsView) : Type 0 where
  pub game : IsGameOfBytes bytes g p
  pub fit : FitPrograms g p notions

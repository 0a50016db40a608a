-- The refusals of the layers below are the first of the whole file: by going over their cases.
use Rattle.std.proofs.Common.{ℕ, List, Err, refl}
use Rattle.corr_game.specs.declared.notions.Notion.{Notion}
use Rattle.corr_game.specs.Game.{GameView}
use Rattle.efg_lines.specs.declared.refusal.FileRefusal.{FileRefusal}
use Rattle.efg_lines.specs.declared.refusal.FileRefusal.TheVariants as lines
use Rattle.efg_lines.specs.File.{FileView}
use Rattle.efg_lines.specs.FileTokens.{IsFileOf, StopsAt}
use Rattle.efg_lines.specs.Refusal.{MatchSyntax}
use Rattle.efg_reader.specs.FirstRefusal.{IsRefusalOf}
use Rattle.efg_reader.specs.RawGame.{RawGameView}
use Rattle.game_scale.specs.declared.refusal.ScaleRefusal.{ScaleRefusal}
use Rattle.game_scale.specs.declared.refusal.ScaleRefusal.TheVariants as scales
use Rattle.game_scale.specs.Scaled.{IsRefused}
use Rattle.corr_run.specs.declared.prepare.ReadyEnd.{ReadyEnd}
use Rattle.corr_run.specs.declared.prepare.ReadyEnd.TheVariants.{Refused, NoMemory}
use Rattle.corr_run.specs.FirstRefusal.{IsFirstRefusal, IsOfFile, IsOfRecall, no_file, by_lines, by_scales, by_recall, of_file}
use Rattle.corr_run.specs.GameOfFile.{SayGame, SayScaled}
use Rattle.corr_run.specs.Refusals.{end_of, line_refusal, scale_refusal, IfRefused}

-- bytes that are no file
pub not_read : (bytes : List ℕ) (told : FileRefusal) → MatchSyntax (Err told) (IsFileOf bytes) (StopsAt bytes) → IfRefused (IsOfFile bytes) (end_of (line_refusal told))
not_read bytes (lines.Syntax at) stops = no_file at stops refl
not_read bytes lines.NoMemory stops = tt
not_read bytes told stops = absurd stops

-- lines that break a rule
pub lines_refused : (bytes : List ℕ) (file : FileView) (told : FileRefusal) → IsFileOf bytes file → IsRefusalOf file told → IfRefused (IsOfFile bytes) (end_of (line_refusal told))
lines_refused bytes file lines.NoMemory read first = tt
lines_refused bytes file told read first = by_lines file read (record { broken = told; first = first; named = refl })

-- a game beyond the limits of paths, scales and amounts
pub scales_refused : (bytes : List ℕ) (raw : RawGameView) (told : ScaleRefusal) → SayGame bytes raw → IsRefused raw told → IfRefused (IsOfFile bytes) (end_of (scale_refusal told))
scales_refused bytes raw scales.NoMemory say first = tt
scales_refused bytes raw told say first = by_scales raw say (record { beyond = told; first = first; named = refl })

-- a game in which a player forgets
pub recall_refused : (bytes : List ℕ) (g : GameView) (end : ReadyEnd) → SayScaled bytes g → IfRefused (IsOfRecall g) end → IfRefused (IsOfFile bytes) end
recall_refused bytes g (Refused refusal) say forgets = by_recall g say forgets
recall_refused bytes g NoMemory say forgets = tt

-- whatever the notions
pub refused_anyway : (notions : List Notion) (bytes : List ℕ) (end : ReadyEnd) → IfRefused (IsOfFile bytes) end → IfRefused (IsFirstRefusal notions bytes) end
refused_anyway notions bytes (Refused refusal) first = of_file first
refused_anyway notions bytes NoMemory first = tt

-- The refusal of scales is one of the game.
use Rattle.std.proofs.Common.{List}
use Rattle.efg_reader.specs.RawGame.{RawGameView}
use Rattle.game_scale.specs.declared.refusal.ScaleRefusal.{ScaleRefusal}
use Rattle.game_scale.specs.declared.refusal.ScaleRefusal.TheVariants.{PathTooFine, ScaleTooLarge, AmountTooLarge, NoMemory}
use Rattle.game_scale.specs.Paths.{PathView, ArePaths}
use Rattle.game_scale.specs.Refusal.{IsScaleRefusal}
use Rattle.game_scale.specs.Scaled.{IsRefused}

pub scale_refused : (raw : RawGameView) (paths : List PathView) (refusal : ScaleRefusal) → ArePaths raw paths → IsScaleRefusal raw.nodes paths refusal → IsRefused raw refusal
scale_refused raw paths (PathTooFine node) reached h = absurd h
scale_refused raw paths (ScaleTooLarge side) reached h = record { paths = paths; reached = reached; refused = h }
scale_refused raw paths (AmountTooLarge node) reached h = absurd h
scale_refused raw paths NoMemory reached h = absurd h

-- no full choice gains at the sets gone over
use Rattle.std.proofs.Common.{◌≡◌, ℕ, ◌<◌}
use Rattle.corr_game.specs.declared.notions.Notion.TheVariants.{Nfcce}
use Rattle.equilibrium.specs.Distribution.{entries_of}
use Rattle.deviation_gains.specs.Gains.{AreGiven, NoneGainsAt}
use Rattle.deviation_gains.proofs.gaining.gains.Given as goal

abbrev pub invariant-loop-set : goal.invariant-loop-set
invariant-loop-set l =
    AreGiven l.game l.pairs l.list → (l.notion ≡ Nfcce → ⊥) → (set : ℕ) → set < l.set
    → NoneGainsAt l.notion l.side l.game (entries_of l.list) set

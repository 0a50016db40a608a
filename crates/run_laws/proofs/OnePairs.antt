-- Bytes say one game in which both players recall, with one table of pairs.
use Rattle.std.proofs.Common.{◌≡◌, ℕ, List, sym, subst}
use Rattle.connected_pairs.specs.Connected.{IsPairsOf, PairsView}
use Rattle.connected_pairs.proofs.OneTable.{one_table}
use Rattle.corr_game.specs.Game.{GameView}
use Rattle.corr_run.specs.GameOfFile.{SayRecalled}
use Rattle.run_laws.proofs.OneGameScaled.{one_scaled}

pub one_recalled : (bytes : List ℕ) (g h : GameView) (p q : PairsView) → SayRecalled bytes g p → SayRecalled bytes h q
    → (g ≡ h) × (p ≡ q)
one_recalled bytes g h p q x y =
    let same = one_scaled bytes g h x.say y.say in
    let again : IsPairsOf g q = subst (λ (k : GameView). IsPairsOf k q) (sym same) y.pairs in
    (same, one_table g p q x.rules x.rules_of_pairs y.rules_of_pairs x.pairs again)

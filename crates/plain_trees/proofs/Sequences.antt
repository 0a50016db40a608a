-- Lists of moves, and perfect recall by comparing each two nodes of a set.
use Rattle.std.proofs.Common.{◌≡◌, ℕ, suc, ◌<◌, List, [], ◌∷◌, ◌++◌, Some, length, get_or, refl, ap, ap₂, arith}
use Rattle.corr_game.specs.declared.nodes.SetId.{SetId}
use Rattle.corr_game.specs.declared.sides.Side.{Side}
use Rattle.corr_game.specs.Game.{GameView}
use Rattle.tree_recall.specs.OwnSequence.{HasRecall}
use Rattle.tree_recall.specs.Tree.{set_of}
use Rattle.plain_trees.specs.Remembering.{AreAlikeAt}

abbrev Moves : Type 0
Moves = List (SetId × ℕ)

pub append_none : (moves : List (SetId × ℕ)) → moves ++ [] ≡ moves
append_none [] = refl
append_none (x ∷ xs) = ap (λ (rest : Moves). x ∷ rest) (append_none xs)

pub same_moves : (a b : List (SetId × ℕ)) → length a ≡ length b
    → ((j : ℕ) (d : SetId × ℕ) → j < length a → get_or a j d ≡ get_or b j d) → a ≡ b
same_moves [] [] e each = refl
same_moves [] (y ∷ ys) e each = absurd (omega arith)
same_moves (x ∷ xs) [] e each = absurd (omega arith)
same_moves (x ∷ xs) (y ∷ ys) e each =
    ap₂ (λ (move : SetId × ℕ) (rest : Moves). move ∷ rest) (each 0 x (omega arith))
    (same_moves xs ys (omega arith) (λ j d h. each (suc j) d (omega arith)))

pub recall_alike : (g : GameView) (side : Side) → HasRecall g side → (m n : ℕ) → AreAlikeAt g side m n
unfolding HasRecall
recall_alike g side recall m n = λ a b one own_a own_b. recall m n one.0 a b one.1 one.2 own_a own_b

pub alike_recall : (g : GameView) (side : Side)
    → ((m n set : ℕ) → set_of g side m ≡ Some set → AreAlikeAt g side m n) → HasRecall g side
unfolding HasRecall
alike_recall g side all = λ m n set a b at_m at_n own_a own_b. all m n set at_m a b (set, at_m, at_n) own_a own_b

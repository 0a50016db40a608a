-- An own move is one more; any other leaves them as they are.
use Rattle.std.proofs.Common.{◌∷◌, refl, append_assoc, [], ℕ}
use Rattle.corr_game.specs.declared.nodes.SetId.{SetId}
use Rattle.tree_recall.specs.OwnSequence.{other_move, own_move}
use Rattle.plain_trees.proofs.own_moves.add_move.Goals as goal

pub returns-in_ok-push : goal.returns-in_ok-push
returns-in_ok-push c = λ kid rest k own.
    let move : SetId × ℕ = (c.in-Some.set, c.args.step.action) in (
      move ∷ rest,
      own_move c.args.step.from c.args.step.action kid c.in-Some.set rest own c.in-Some.ensures.some k,
      rw c.in_ok-push.ensures.items (append_assoc c.args.moves.now.items (move ∷ []) rest),
    )

pub returns-in_default : goal.returns-in_default
returns-in_default c = λ kid rest k own.
    (rest, other_move c.args.step.from c.args.step.action kid rest own c.in_default.ensures.none k, refl)

-- One move more at the end.
use Rattle.std.proofs.Common.{◌++◌, ◌∷◌, [], List, ℕ, ap, sym, ◌∙◌}
use Rattle.std.proofs.lemmas.List.{append_assoc}
use Rattle.corr_game.specs.declared.nodes.SetId.{SetId}
use Rattle.sequences.proofs.Adding.{moves_at, moves_at-more}
use Rattle.sequences.proofs.numbers.add_moves.Goals as goal

pub loop-action-preserved : goal.loop-action-preserved
loop-action-preserved c =
    let items = c.in_ok-push.ensures.items in
    let old = c.args.lasts.now.items in
    let push = λ (xs : List (SetId × ℕ)). xs ++ (c.args.set, c.loop-action.action) ∷ [] in
    items ∙ (ap push c.loop-action.invariant ∙ (append_assoc old (moves_at c.args.set c.loop-action.action) _ ∙ ap (λ (xs : List (SetId × ℕ)). old ++ xs) (sym (moves_at-more c.args.set c.loop-action.action))))

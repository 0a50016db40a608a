-- The two draws are those with the numbers that belong to this leaf.
use Rattle.std.proofs.Common.{◌≡◌, ◌+◌, ◌*◌}
use Rattle.game_gen.specs.GameText.{drawn_leaf}
use Rattle.game_gen.specs.Random.{draw}
use Rattle.game_gen.proofs.lines.add_drawn_leaf.Goals as goal

pub returns-clause-text : goal.returns-clause-text
unfolding drawn_leaf
returns-clause-text c =
    let seed = c.args.draws.now.seed in
    let one : c.next-one.result ≡ draw seed (c.args.leaf * 2) = rw (← c.requires.in_step) c.next-one.ensures.number in
    let two : c.next-two.result ≡ draw seed (c.args.leaf * 2 + 1) =
    rw (← c.requires.in_step, ← c.next-one.ensures.one_more, ← c.next-one.ensures.same_seed) c.next-two.ensures.number
    in
    rw (← one, ← two) c.in_ok-add_leaf_line.ensures

-- The bytes are the game's file, so what holds of their number holds of that of the file.
use Rattle.std.proofs.Common.{◌^◌, ◌<◌, ◌≤◌, length, refl}
use Rattle.game_gen.specs.GameText.{game_text}
use Rattle.corr_run.specs.Lines.{too_long_line}
use Rattle.corr_run.specs.WorkAnswer.{refused, summed, too_long}
use Rattle.corr_run.proofs.games.solved_answer.Goals as goal

pub returns-then-bytes-gt-SOLVE_LIMIT : goal.returns-then-bytes-gt-SOLVE_LIMIT
unfolding too_long_line
returns-then-bytes-gt-SOLVE_LIMIT c =
    let longer : 2 ^ 22 < length (game_text c.args.game.0 c.args.game.1 c.args.game.2) = rw (← c.requires.bytes) c.if-bytes-gt-SOLVE_LIMIT.true in
    too_long c.requires.within longer c.in_ok-from_slice.ensures.items refl

pub returns-in_ok-answer-in-Left : goal.returns-in_ok-answer-in-Left
returns-in_ok-answer-in-Left c =
    let short : length (game_text c.args.game.0 c.args.game.1 c.args.game.2) ≤ 2 ^ 22 = rw (← c.requires.bytes) c.if-bytes-gt-SOLVE_LIMIT.false in
    let first = rw (c.in-Left.is, c.requires.bytes) at c.in_ok-refusal.ensures in
    refused (record { within = c.requires.within; short = short }) c.in-Left.refusal first c.in_ok-answer-in-Left.ensures.text c.in_ok-answer-in-Left.ensures.status

pub returns-in_ok-answer-in-Right : goal.returns-in_ok-answer-in-Right
returns-in_ok-answer-in-Right c =
    let short : length (game_text c.args.game.0 c.args.game.1 c.args.game.2) ≤ 2 ^ 22 = rw (← c.requires.bytes) c.if-bytes-gt-SOLVE_LIMIT.false in
    let on = rw (c.in-Right.is, c.requires.bytes) at c.in_ok-refusal.ensures in
    summed (record { within = c.requires.within; short = short }) c.in-Right.report on
    (rw c.blocks-in-Right.ensures.blocks at c.in_ok-answer-in-Right.ensures.text) (rw c.blocks-in-Right.ensures.blocks at c.in_ok-answer-in-Right.ensures.status)

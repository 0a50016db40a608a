-- Dropping what is above 2^64 after the product too changes nothing.
use Rattle.std.proofs.Common.{◌*◌, ◌^◌}
use Rattle.std.proofs.Math.Nat.{mod-add-mod}
use Rattle.game_gen.specs.Random.{next_state}
use Rattle.game_gen.proofs.draws.after.Goals as goal

pub returns : goal.returns
unfolding next_state
returns c = mod-add-mod (c.args.state * 6364136223846793005) (2 ^ 64) 1442695040888963407

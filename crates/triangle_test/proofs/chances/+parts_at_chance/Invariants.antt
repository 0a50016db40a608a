-- Kids stand behind their node.
use Rattle.std.proofs.Common.{◌-◌, length}
use Rattle.triangle_test.proofs.chances.+parts_at_chance.Given as goal

abbrev pub decreases-parts_at_chance : goal.decreases-parts_at_chance
decreases-parts_at_chance l = length l.game.now.nodes - l.above

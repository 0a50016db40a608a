-- Where a scale differs the verdict says so, and the scales alone.
use Rattle.std.proofs.Common.{rules}
use Rattle.cert_check.specs.Scales.{HasScales}
use Rattle.cert_check.specs.Truth.{other_scales}
use Rattle.cert_check.proofs.blocks.check.Goals as goal

pub returns-then-not-has_scales-clause-verdict : goal.returns-then-not-has_scales-clause-verdict
returns-then-not-has_scales-clause-verdict c =
    let differ : HasScales c.args.game.now c.args.report.now → ⊥ = search rules in
    other_scales differ

use Rattle.std.proofs.Common.{◌≡◌, length, arith}
use Rattle.cert_check.proofs.CertifiedSides.{points_put}
use Rattle.cert_check.proofs.blocks.points_of.Goals as goal

pub returns : goal.returns
returns c =
    let all : c.loop-k.k ≡ length c.args.corners.now = omega (arith, c.loop-k-test.false, c.loop-k.auto.k-end, c.len-k-end.ensures.count) in
    points_put c.args.corners.now c.loop-k.points.items c.loop-k.k c.loop-k.invariant.0 all c.loop-k.invariant.1

-- So many kids are up to a number, and no other count is.
use Rattle.std.proofs.Common.{◌+◌, ◌∙◌, sym, arith}
use Rattle.triangle_test.proofs.Partings.{same_count}
use Rattle.triangle_test.proofs.chances.common_kid.Goals as goal
use Rattle.triangle_test.proofs.chances.common_kid.Goals.{else-towards-gt0-via-then-towards-gt0+else-towards-kids_up_to, else-towards-gt0-via-else-towards-gt0}

pub returns-else-towards-gt0-clause-none : goal.returns-else-towards-gt0-clause-none
returns-else-towards-gt0-clause-none c = λ k first second.
    let kids = c.args.kids.now in
    let one = same_count kids c.args.first c.kids_up_to-towards.result (k + 1) c.kids_up_to-towards.ensures first in
    elim c.else-towards-gt0.branch [
      | else-towards-gt0-via-then-towards-gt0+else-towards-kids_up_to w ↦
          let two = same_count kids c.args.second w.kids_up_to.result (k + 1) w.kids_up_to.ensures second in
          w.if-towards-kids_up_to.false (one ∙ sym two)
      | else-towards-gt0-via-else-towards-gt0 w ↦ omega (arith, one, w.if-towards-gt0.false)
    ]

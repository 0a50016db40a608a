-- Of coprime numbers one is 0 at the axes alone.
use Rattle.std.proofs.Common.{⊎_elim}
use Rattle.polygon_sweep.proofs.Axes.{bits_nothing, level, nothing_bits, part_nothing, reads_nothing, upright}
use Rattle.polygon_sweep.proofs.sweeps.is_axis.Goals as goal

pub returns-then-dir-eq0 : goal.returns-then-dir-eq0
returns-then-dir-eq0 c =
    let dir = c.args.dir.now in
    let none = bits_nothing dir.a dir.a_narrow c.if-dir-eq0.true in
    (λ zero. upright dir c.requires none, λ axis. (reads_nothing dir.a dir.a_narrow).1 none)

pub returns-else-dir-eq0 : goal.returns-else-dir-eq0
returns-else-dir-eq0 c =
    let dir = c.args.dir.now in (
      λ zero. level dir c.requires ((reads_nothing dir.b dir.b_narrow).0 zero),
      λ axis. (reads_nothing dir.b dir.b_narrow).1
          (⊎_elim (λ none. absurd (c.if-dir-eq0.false (nothing_bits dir.a none))) (λ none. none) (part_nothing dir axis)),
    )

-- Each arm knows the sign of the reduced cost, and where that is 0 the second comparison decides.
use Rattle.std.proofs.Common.{Less, Equal, Greater}
use Rattle.bland_simplex.proofs.Signs.{reduced_sign, left_sign, when_below, when_level, when_above}
use Rattle.bland_simplex.proofs.turning.improves.Goals as goal

pub returns-in-Less : goal.returns-in-Less
returns-in-Less g c =
    when_below _ _ (reduced_sign c.args.dir.now.a c.args.dir.now.b c.entry-first.result c.entry-second.result _ _ Less
    c.args.dir.now.a_narrow c.args.dir.now.b_narrow c.entry-first.ensures.narrow c.entry-second.ensures.narrow
    c.entry-first.ensures.value c.entry-second.ensures.value c.in-Less.ensures)

pub returns-in-Equal : goal.returns-in-Equal
returns-in-Equal g c =
    when_level _ _ c.eq.result
    (reduced_sign c.args.dir.now.a c.args.dir.now.b c.entry-first.result c.entry-second.result _ _ Equal c.args.dir.now.a_narrow
    c.args.dir.now.b_narrow c.entry-first.ensures.narrow c.entry-second.ensures.narrow c.entry-first.ensures.value
    c.entry-second.ensures.value c.in-Equal.ensures)
    (left_sign c.args.dir.now.a c.args.dir.now.b c.entry-first.result c.entry-second.result _ _ c.cmp_products-in-Equal.result c.eq.result
    c.args.dir.now.a_narrow c.args.dir.now.b_narrow c.entry-first.ensures.narrow c.entry-second.ensures.narrow
    c.entry-first.ensures.value c.entry-second.ensures.value c.cmp_products-in-Equal.ensures c.eq.ensures)

pub returns-in-Greater : goal.returns-in-Greater
returns-in-Greater g c =
    when_above _ _ (reduced_sign c.args.dir.now.a c.args.dir.now.b c.entry-first.result c.entry-second.result _ _ Greater
    c.args.dir.now.a_narrow c.args.dir.now.b_narrow c.entry-first.ensures.narrow c.entry-second.ensures.narrow
    c.entry-first.ensures.value c.entry-second.ensures.value c.in-Greater.ensures)

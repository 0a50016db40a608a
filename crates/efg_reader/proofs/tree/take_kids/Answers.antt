use Rattle.std.proofs.Common.{reverse, ◌∙◌, arith}
use Rattle.efg_reader.proofs.Assembling.{kid_taken, none_left}
use Rattle.efg_reader.proofs.tree.take_kids.Goals as goal
use Rattle.efg_reader.proofs.tree.take_kids.Goals.{in-Some+in_ok-push, in_default}

pub loop-preserved : goal.loop-preserved
loop-preserved c =
    let all = reverse c.args.roots.now.items in
    let before = c.loop.invariant in
    elim c.match-pop.branch [
      | in-Some+in_ok-push w ↦
          let step = kid_taken all c.loop.counter c.loop.roots.items c.pop.new.self.items w.in-Some.kid c.loop.kids c.match-pop.kids w.in-Some.ensures.items before.rest before.kids (w.kids-is ∙ w.in_ok-push.ensures.ok) in
          record { kids = step.0; rest = step.1 }
      | in_default w ↦
          let step = none_left all c.loop.counter c.loop.roots.items c.pop.new.self.items c.match-pop.kids w.in_default.ensures.items (omega (arith, w.in_default.ensures.cases)) before.rest (w.kids-is ∙ before.kids) in
          record { kids = step.0; rest = step.1 }
    ]

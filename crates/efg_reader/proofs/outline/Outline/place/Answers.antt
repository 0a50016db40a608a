use Rattle.std.proofs.Common.{reverse, ap, ◌∙◌}
use Rattle.efg_reader.specs.Above.{without_complete}
use Rattle.efg_reader.proofs.PlaceBelow.{placed_below, placed_first}
use Rattle.efg_reader.proofs.outline.Outline.place.Goals as goal
use Rattle.efg_reader.proofs.outline.Outline.place.Goals.{then-above-gt0, else-above-gt0}

pub returns-clause-above : goal.returns-clause-above
returns-clause-above c =
    c.drop_complete.ensures.above
    ∙ elim c.if-above-gt0.branch [
      | then-above-gt0 w ↦
          placed_below c.args.self.now.awaited.items c.push.new.self.items c.if-above-gt0.self.1.0.items c.args.kids c.len-above.result w.index_mut.result.now
          w.if-above-gt0.true (c.len-above.ensures ∙ c.args.self.now.awaited.ok.0) c.in_ok-push.ensures.items w.index_mut.ensures.value (ap (λ s. s.1.0.items) w.self-is)
      | else-above-gt0 w ↦
          ap (λ s. without_complete (reverse s.1.0.items)) w.self-is
          ∙ placed_first c.args.self.now.awaited.items c.push.new.self.items c.args.kids c.len-above.result w.if-above-gt0.false (c.len-above.ensures ∙ c.args.self.now.awaited.ok.0) c.in_ok-push.ensures.items
    ]

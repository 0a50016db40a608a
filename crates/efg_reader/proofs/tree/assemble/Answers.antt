use Rattle.std.proofs.Common.{List, [], ◌∷◌, ◌++◌, sym, ap, ◌∙◌, arith}
use Rattle.std.proofs.lemmas.List.{append-nil, append_assoc}
use Rattle.efg_reader.specs.declared.events.Bare.{Bare}
use Rattle.efg_reader.specs.declared.raw_game.RawNode.{RawNode}
use Rattle.efg_reader.specs.Assembly.{assembled}
use Rattle.efg_reader.proofs.Assembling.{nodes_more, roots_more}
use Rattle.efg_reader.proofs.tree.assemble.Goals as goal

pub loop-bare-init : goal.loop-bare-init
unfolding assembled
loop-bare-init c = record {
  rest = [];
  listed = sym (append-nil c.args.listed.items);
  few = c.requires;
  nodes = rw c.new-nodes.ensures.items;
  roots = rw c.new-roots.ensures.items;
  count = rw c.new-nodes.ensures.items;
}

pub loop-bare-preserved : goal.loop-bare-preserved
loop-bare-preserved c =
    let before = c.loop-bare.invariant in
    let pop = c.in-Some.ensures.items in
    record {
      rest = c.in-Some.bare ∷ before.rest;
      listed = before.listed ∙ ap (λ (xs : List Bare). xs ++ before.rest) pop ∙ append_assoc c.pop.new.self.items (c.in-Some.bare ∷ []) before.rest;
      few = before.few;
      nodes = nodes_more c.pop.new.self.items c.loop-bare.bares.items c.in-Some.bare before.rest c.loop-bare.nodes.items c.push-in-Some.new.self.items c.loop-bare.roots.items c.in_ok-kids.kids pop before.nodes before.roots c.in_ok-kids.ensures.kids (c.in_ok-push-2.ensures.items ∙ ap (λ (n : RawNode). c.loop-bare.nodes.items ++ n ∷ []) c.with_kids.ensures);
      roots = roots_more c.pop.new.self.items c.loop-bare.bares.items c.in-Some.bare before.rest c.loop-bare.roots.items c.take_kids.new.roots.items c.push.new.self.items c.len.result pop before.roots c.in_ok-kids.ensures.rest c.in_ok-push.ensures.items (omega (arith, c.len.ensures));
      count = omega (arith, c.in_ok-push-2.ensures.len, before.count);
    }

-- Nothing is waited for, so the nodes are one tree.
use Rattle.std.proofs.Common.{Some, ap, ◌∙◌, ℕ, length, ◌≤◌, arith}
use Rattle.efg_reader.specs.Outline.{above}
use Rattle.efg_reader.proofs.WholeGame.{is_raw_game}
use Rattle.efg_reader.proofs.builder.Builder.finish.Goals as goal

pub of-requires : goal.of-requires
of-requires c =
    let builder = c.args.self in
    let closed = c.is_closed.ensures.closed.0 c.if-not-is_closed.false in
    let tree = c.requires.tree ∙ ap (λ (n : ℕ). Some n) closed in
    let few : length builder.nodes.items ≤ 4096 = omega (arith, builder.nodes.ok.0) in
    let rules = is_raw_game builder.nodes.items (above builder.outline) builder.one.entries builder.two.entries tree few c.requires.shallow c.requires.one c.requires.two c.in_ok-one.ensures.own_files c.in_ok-two.ensures.own_files in
    rw (c.in_ok-nodes.ensures.nodes, c.in_ok-one.ensures.each, c.in_ok-two.ensures.each) rules

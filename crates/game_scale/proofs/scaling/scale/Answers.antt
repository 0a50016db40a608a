-- What is scaled keeps the tree, and its amounts and scales are within the limits.
use Rattle.std.proofs.Common.{rules, List, length, ◌∙◌, ap, subst, sym, FitsSigned, arith}
use Rattle.std.specs.Int.{w64}
use Rattle.std.proofs.lemmas.Int.{ints, to_z-of_z}
use Rattle.corr_game.specs.declared.sides.Side.TheVariants.{One, Two}
use Rattle.efg_reader.specs.RawGame.{IsRawGame, bare_nodes}
use Rattle.efg_reader.specs.declared.raw_game.RawNode.{RawNode}
use Rattle.game_scale.specs.Amounts.{scale_in}
use Rattle.game_scale.specs.Paths.{PathView, ArePaths}
use Rattle.game_scale.specs.Scaled.{IsRefused}
use Rattle.game_scale.specs.Scales.{MakesAllWhole}
use Rattle.game_scale.proofs.RawTree.{ready, same_count}
use Rattle.game_scale.proofs.Refusals.{scale_refused}
use Rattle.game_scale.proofs.ScaledGame.{scaled}
use Rattle.game_scale.proofs.ScaledNodes.{all_few_paid}
use Rattle.game_scale.proofs.scaling.scale.Goals as goal

pub scaled_nodes-requires-clause-whole : goal.scaled_nodes-requires-clause-whole
scaled_nodes-requires-clause-whole c = λ side.
    let same_paths = c.deref.ensures.value ∙ sym c.deref-2.ensures.value in
    let whole = (c.in_ok-scales.ensures.ok side).0.whole in
    let first = subst (λ (paths : List PathView). MakesAllWhole side c.args.raw.nodes paths (length c.args.raw.nodes) (scale_in c.in_ok-scales.scales side)) same_paths whole in
    subst (λ (nodes : List RawNode). MakesAllWhole side nodes c.deref-2.result.now (length nodes) (scale_in c.in_ok-scales.scales side)) (sym c.into_parts-nodes.ensures.nodes) first

pub of-requires : goal.of-requires
of-requires c =
    let one_fits : FitsSigned w64 c.in_ok-scales.scales.one = search rules in
    let two_fits : FitsSigned w64 c.in_ok-scales.scales.two = search rules in
    let first = c.in_ok-scales.ensures.ok One in
    let second = c.in_ok-scales.ensures.ok Two in
    let low_one = first.0.positive in
    let low_two = second.0.positive in
    let same = c.in_ok-nodes.ensures.tree ∙ ap bare_nodes c.into_parts-nodes.ensures.nodes in
    let per_node = ap (λ (ns : List RawNode). length ns) c.into_parts-nodes.ensures.nodes ∙ sym c.in_ok-paths.ensures.ok.per_node ∙ ap (λ (ps : List PathView). length ps) (sym c.deref-2.ensures.value) in
    let rules : IsRawGame c.args.raw = rw (← c.raw.view_is) c.raw.invariant in
    let few = all_few_paid (scale_in c.in_ok-scales.scales) c.into_parts-nodes.result.nodes.items c.deref-2.result.now c.in_ok-nodes.nodes.items (same_count c.in_ok-nodes.nodes.items c.into_parts-nodes.result.nodes.items c.in_ok-nodes.ensures.tree) per_node c.in_ok-nodes.ensures.each in
    simp to_z-of_z (ready c.args.raw c.in_ok-nodes.nodes.items c.into_parts-nodes.result.one.items c.into_parts-nodes.result.two.items c.in_ok-scales.scales.one c.in_ok-scales.scales.two
    rules same c.into_parts-nodes.ensures.one c.into_parts-nodes.ensures.two few (omega (arith, ints, low_one), first.1) (omega (arith, ints, low_two), second.1))

pub returns-in_err-scales-clause-err : goal.returns-in_err-scales-clause-err
returns-in_err-scales-clause-err c =
    let reached : ArePaths c.args.raw c.deref.result.now = rw c.deref.ensures.value c.in_ok-paths.ensures.ok in
    let refused : IsRefused c.args.raw c.in_err-scales.field-0.0 = scale_refused c.args.raw c.deref.result.now c.in_err-scales.field-0.0 reached c.in_err-scales.ensures.err in
    search rules

pub returns-clause-ok : goal.returns-clause-ok
returns-clause-ok c =
    let one_fits : FitsSigned w64 c.in_ok-scales.scales.one = search rules in
    let two_fits : FitsSigned w64 c.in_ok-scales.scales.two = search rules in
    let made = simp to_z-of_z at c.of.ensures.made in
    let same_nodes = c.into_parts-nodes.ensures.nodes in
    let scales = rw c.deref.ensures.value at c.in_ok-scales.ensures.ok in
    let on_paths = rw c.deref-2.ensures.value at c.in_ok-nodes.ensures.each in
    let each = rw same_nodes at on_paths in
    scaled c.args.raw c.in_ok-paths.paths.items c.in_ok-nodes.nodes.items c.into_parts-nodes.result.one.items c.into_parts-nodes.result.two.items c.in_ok-scales.scales c.of.result made
    c.in_ok-paths.ensures.ok (c.in_ok-nodes.ensures.tree ∙ ap bare_nodes same_nodes) c.into_parts-nodes.ensures.one c.into_parts-nodes.ensures.two scales each

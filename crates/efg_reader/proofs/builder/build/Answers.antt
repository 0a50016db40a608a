-- The first line that is refused is refused as the file is, and behind the last line nothing may be missing.
use Rattle.std.proofs.Common.{◌≡◌, ℕ, ◌<◌, ◌≤◌, get_or, List, [], ◌∷◌, ◌++◌, Some, length, slice_get, vec_len, Vec, Global, refl, ap, sym, subst, ◌∙◌, arith}
use Rattle.std.proofs.lemmas.Option.{slice_get_read}
use Rattle.efg_lines.specs.declared.node_line.NodeLine.{NodeLine}
use Rattle.efg_lines.specs.declared.refusal.FileRefusal.TheVariants.{MissingNode}
use Rattle.efg_reader.specs.declared.events.Bare.{Bare}
use Rattle.efg_reader.specs.FirstRefusal.{file_refusal}
use Rattle.efg_reader.specs.Outline.{is_whole}
use Rattle.efg_reader.specs.Rules.{Refuses}
use Rattle.efg_reader.specs.Taken.{built_game}
use Rattle.efg_reader.proofs.FileAnswer.{file_ends, file_refused, file_taken}
use Rattle.efg_reader.proofs.GameBuilt.{built_is, game_answer}
use Rattle.efg_reader.proofs.NextLine.{rest_taken}
use Rattle.efg_reader.proofs.Refusing.{exit_file, refuses_file, refuses_if_err, refuses_if_ok, refuses_through}
use Rattle.efg_reader.proofs.TakenMore.{count_is, whole_is}
use Rattle.efg_reader.proofs.builder.build.Goals as goal

line_at : (items lines : List NodeLine) (k : ℕ) (line : NodeLine) → items ≡ lines → k < length items → line ≡ get_or items k line → slice_get lines k ≡ Some line
line_at items lines k line same within is = ap (λ (xs : List NodeLine). slice_get xs k) (sym same) ∙ slice_get_read items (length items) k line refl within is

all_read : (items lines : List NodeLine) (k : ℕ) → items ≡ lines → length items ≤ k → length lines ≤ k
all_read items lines k same over = subst (λ (xs : List NodeLine). length xs ≤ k) same over

node_count : (nodes : Vec Bare Global) (n : ℕ) → length nodes.items ≡ n → vec_len nodes ≡ n
node_count nodes n is = omega (arith, is, nodes.ok.0)

pub returns-in_err-add-clause-refused : goal.returns-in_err-add-clause-refused
returns-in_err-add-clause-refused c =
    let before = c.loop-line.invariant in
    let refusal = c.in_err-add.field-0.0 in
    let at = line_at c.lines-line-items.result.now c.args.file.lines c.loop-line.line-index c.line-item.result c.lines-line-items.ensures.items c.loop-line-test.true c.line-item.is in
    exit_file c.from_residual-in_err-add.result refusal c.args.file c.from_residual-in_err-add.ensures.1
    (refuses_file c.args.file refusal
    (refuses_through refusal _ (file_refusal c.args.file) (c.in_err-add.ensures.refusal before.lines before.taken)
    (λ is. file_refused c.args.file before.two_players before.lines c.loop-line.line-index before.rest c.line-item.result refusal at is)))

pub returns-clause-refused : goal.returns-clause-refused
returns-clause-refused c =
    let before = c.loop-line.invariant in
    let builder = c.loop-line.builder in
    let over = all_read c.lines-line-items.result.now c.args.file.lines c.loop-line.line-index c.lines-line-items.ensures.items c.loop-line-test.false in
    let ends = file_ends c.args.file before.two_players before.lines c.loop-line.line-index before.rest (is_whole builder.outline) (vec_len builder.nodes) over
    (whole_is builder before.lines before.taken before.shallow) (node_count builder.nodes (length before.lines) (count_is builder before.lines before.taken)) in
    refuses_if_err c.finish.result c.args.file (subst (Refuses c.finish.result) ends c.finish.ensures.refusal)

pub returns-clause-accepted : goal.returns-clause-accepted
returns-clause-accepted c =
    let before = c.loop-line.invariant in
    let builder = c.loop-line.builder in
    let over = all_read c.lines-line-items.result.now c.args.file.lines c.loop-line.line-index c.lines-line-items.ensures.items c.loop-line-test.false in
    let ends = file_ends c.args.file before.two_players before.lines c.loop-line.line-index before.rest (is_whole builder.outline) (vec_len builder.nodes) over
    (whole_is builder before.lines before.taken before.shallow) (node_count builder.nodes (length before.lines) (count_is builder before.lines before.taken)) in
    refuses_if_ok c.finish.result (file_refusal c.args.file) (subst (Refuses c.finish.result) ends c.finish.ensures.refusal)

pub loop-line-init : goal.loop-line-init
loop-line-init c =
    let made = c.new-builder.ensures in
    record {
      tree = made.tree;
      shallow = made.shallow;
      nodes = omega (arith, made.nodes);
      one = made.one;
      two = made.two;
      chance = made.chance;
      lines = [];
      taken = made.taken c.in_ok-first_outcomes.ensures;
      rest = refl;
      two_players = omega (arith, c.if-players-ne2.false, c.players.ensures.count);
    }

pub loop-line-preserved : goal.loop-line-preserved
loop-line-preserved c =
    let before = c.loop-line.invariant in
    let at = line_at c.lines-line-items.result.now c.args.file.lines c.loop-line.line-index c.line-item.result c.lines-line-items.ensures.items c.loop-line-test.true c.line-item.is in
    let next = c.in_ok-add.ensures.taken before.lines before.taken in
    record {
      tree = c.in_ok-add.ensures.tree;
      shallow = c.in_ok-add.ensures.shallow;
      nodes = c.in_ok-add.ensures.nodes;
      one = c.in_ok-add.ensures.one;
      two = c.in_ok-add.ensures.two;
      chance = c.in_ok-add.ensures.chance;
      lines = before.lines ++ next.told ∷ [];
      taken = next.taken;
      rest = sym (rest_taken before.lines c.line-item.result c.args.file.lines c.loop-line.line-index next.told at next.is) ∙ before.rest;
      two_players = before.two_players;
    }

pub returns-clause-game : goal.returns-clause-game
returns-clause-game c =
    let before = c.loop-line.invariant in
    let builder = c.loop-line.builder in
    let over = all_read c.lines-line-items.result.now c.args.file.lines c.loop-line.line-index c.lines-line-items.ensures.items c.loop-line-test.false in
    game_answer c.finish.result c.args.file before.lines (built_game builder) (is_whole builder.outline) (MissingNode (vec_len builder.nodes)) c.finish.ensures.refusal
    (whole_is builder before.lines before.taken before.shallow) (file_taken c.args.file before.two_players before.lines c.loop-line.line-index before.rest over)
    c.finish.ensures.game (built_is builder before.lines before.taken)

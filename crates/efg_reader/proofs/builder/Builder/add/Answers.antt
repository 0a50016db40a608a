-- The node takes the place of one subtree that was waited for, its kids are waited for, and it stands below the nodes
-- that are kept.
use Rattle.std.proofs.Common.{◌≡◌, ℕ, Bool, is_some, List, Option, length, map, vec_len, Vec, Global, ap, sym, ◌∙◌, arith}
use Rattle.std.specs.Prelude.{option_map}
use Rattle.number_words.specs.Number.{NumberView}
use Rattle.efg_reader.specs.declared.events.Bare.{Bare}
use Rattle.efg_reader.specs.Entry.{numbers_of}
use Rattle.efg_reader.specs.FirstRefusal.{next_line}
use Rattle.efg_reader.specs.Lists.{outcome_in, pays_if, with_given}
use Rattle.efg_reader.specs.Outline.{above, places}
use Rattle.efg_reader.specs.Rules.{player_rules, refusal_in}
use Rattle.efg_reader.proofs.AddLine.{all_taken, misplaced, paid_is, pays_refused, too_wide, turn_refused}
use Rattle.efg_reader.proofs.Depth.{shallow_line}
use Rattle.efg_reader.proofs.NextLine.{told_of}
use Rattle.efg_reader.proofs.Refusing.{exit_refuses, first_of-head, refuses_by, refuses_through}
use Rattle.efg_reader.proofs.TakenMore.{taken_more}
use Rattle.efg_reader.proofs.Widths.{tree_more}
use Rattle.efg_reader.proofs.builder.Builder.add.Goals as goal

pub returns-clause-tree : goal.returns-clause-tree
returns-clause-tree c =
    let same_nodes = c.in_ok-event.ensures.nodes in
    let same_outline = c.in_ok-event.ensures.outline in
    let placed = rw same_outline at c.in_ok-place.ensures in
    tree_more c.args.self.now.nodes.items c.take_turn.new.self.nodes.items c.push.new.self.items _ (places c.args.self.now.outline) (places c.place.new.self)
    c.requires.tree (ap (λ (v : Vec Bare Global). v.items) same_nodes) c.in_ok-push.ensures.items c.in_ok-check_place.ensures.waits placed.places

pub returns-clause-shallow : goal.returns-clause-shallow
returns-clause-shallow c =
    let same_nodes = c.in_ok-event.ensures.nodes in
    let same_outline = c.in_ok-event.ensures.outline in
    let placed = rw same_outline at c.in_ok-place.ensures in
    shallow_line c.args.self.now.nodes.items c.take_turn.new.self.nodes.items c.push.new.self.items _ (above c.args.self.now.outline) (above c.place.new.self)
    c.requires.shallow (ap (λ (v : Vec Bare Global). v.items) same_nodes) c.in_ok-push.ensures.items c.in_ok-check_place.ensures.shallow placed.above

-- the payoffs that the line gives
given_is : {A : Type 0} (words : Option A) (is_listed : Bool) (slice pays : List NumberView) → is_listed ≡ is_some words → slice ≡ pays → pays_if is_listed slice ≡ option_map (λ (w : A). pays) words
given_is words is_listed slice pays listed same = rw (listed, same) (paid_is words pays)

-- the number of the node
node_is : (n count : ℕ) (nodes : Vec Bare Global) → n ≡ vec_len nodes → n ≡ length nodes.items
node_is n count nodes is = omega (arith, is, nodes.ok.0)

pub returns-in_err-check_place-clause-refusal : goal.returns-in_err-check_place-clause-refusal
returns-in_err-check_place-clause-refusal c lines taken =
    let refusal = c.in_err-check_place.field-0.0 in
    exit_refuses c.from_residual.result refusal (refusal_in (next_line lines c.args.line.now)) c.from_residual.ensures.1
    (refuses_by refusal (refusal_in (next_line lines c.args.line.now))
    (misplaced c.args.self.now lines taken c.args.line.now c.len-node.result (node_is c.len-node.result 0 c.args.self.now.nodes c.len-node.ensures) c.requires.shallow refusal (sym c.in_err-check_place.ensures.refusal)))

pub returns-in_default-clause-refusal : goal.returns-in_default-clause-refusal
returns-in_default-clause-refusal c lines taken =
    too_wide c.args.self.now lines taken c.args.line.now c.len-node.result (node_is c.len-node.result 0 c.args.self.now.nodes c.len-node.ensures) c.requires.shallow (sym c.in_ok-check_place.ensures.refusal)
    (sym c.in_ok-entry.ensures.value ∙ ap (option_map numbers_of) c.in_default.is)

pub returns-in_err-event-clause-refusal : goal.returns-in_err-event-clause-refusal
returns-in_err-event-clause-refusal c lines taken =
    let refusal = c.in_err-event.field-0.0 in
    let are = sym c.in_ok-entry.ensures.value ∙ ap (option_map numbers_of) c.in-Some.is in
    exit_refuses c.from_residual-in_err-event.result refusal (refusal_in (next_line lines c.args.line.now)) c.from_residual-in_err-event.ensures.1
    (refuses_through refusal _ (refusal_in (next_line lines c.args.line.now)) c.in_err-event.ensures.refusal
    (λ is. turn_refused c.args.self.now lines taken c.args.line.now c.len-node.result (node_is c.len-node.result 0 c.args.self.now.nodes c.len-node.ensures) c.requires.shallow (numbers_of c.in-Some.entry) (sym c.in_ok-check_place.ensures.refusal) are refusal is))

pub returns-in_err-pays-clause-refusal : goal.returns-in_err-pays-clause-refusal
returns-in_err-pays-clause-refusal c lines taken =
    let refusal = c.in_err-pays.field-0.0 in
    let are = sym c.in_ok-entry.ensures.value ∙ ap (option_map numbers_of) c.in-Some.is in
    let given = given_is c.args.line.now.pays c.is_some-is_listed.result c.as_slice.result.now c.in-Some.entry.pays.items c.is_some-is_listed.ensures c.as_slice.ensures.value in
    let rule = rw c.in_ok-event.ensures.outcomes at c.in_err-pays.ensures.refusal in
    exit_refuses c.from_residual-in_err-pays.result refusal (refusal_in (next_line lines c.args.line.now)) c.from_residual-in_err-pays.ensures.1
    (refuses_through refusal _ (refusal_in (next_line lines c.args.line.now)) rule
    (λ is. pays_refused c.args.self.now lines taken c.args.line.now c.len-node.result (node_is c.len-node.result 0 c.args.self.now.nodes c.len-node.ensures) c.requires.shallow (numbers_of c.in-Some.entry) (sym c.in_ok-check_place.ensures.refusal) are refusal _ c.in_ok-event.ensures.refusal given is))

pub returns-clause-refusal : goal.returns-clause-refusal
returns-clause-refusal c lines taken =
    let are = sym c.in_ok-entry.ensures.value ∙ ap (option_map numbers_of) c.in-Some.is in
    let given = given_is c.args.line.now.pays c.is_some-is_listed.result c.as_slice.result.now c.in-Some.entry.pays.items c.is_some-is_listed.ensures c.as_slice.ensures.value in
    let rule = rw c.in_ok-event.ensures.outcomes at c.in_ok-pays.ensures.refusal in
    ap refusal_in (all_taken c.args.self.now lines taken c.args.line.now c.len-node.result (node_is c.len-node.result 0 c.args.self.now.nodes c.len-node.ensures) c.requires.shallow (numbers_of c.in-Some.entry) (sym c.in_ok-check_place.ensures.refusal) are _ c.in_ok-event.ensures.refusal given rule)

pub returns-clause-taken : goal.returns-clause-taken
returns-clause-taken c lines taken =
    let amounts = numbers_of c.in-Some.entry in
    let are = sym c.in_ok-entry.ensures.value ∙ ap (option_map numbers_of) c.in-Some.is in
    let given = given_is c.args.line.now.pays c.is_some-is_listed.result c.as_slice.result.now c.in-Some.entry.pays.items c.is_some-is_listed.ensures c.as_slice.ensures.value in
    let rule = rw c.in_ok-event.ensures.outcomes at c.in_ok-pays.ensures.refusal in
    let next = all_taken c.args.self.now lines taken c.args.line.now c.len-node.result (node_is c.len-node.result 0 c.args.self.now.nodes c.len-node.ensures) c.requires.shallow amounts (sym c.in_ok-check_place.ensures.refusal) are _ c.in_ok-event.ensures.refusal given rule in
    let payoffs = rw c.in_ok-event.ensures.outcomes at c.in_ok-pays.ensures.outcomes in
    record {
      told = told_of c.args.line.now amounts;
      is = next;
      taken =
          taken_more c.args.self.now _ lines (told_of c.args.line.now amounts) _ taken c.len-node.result c.take_turn.new.self.nodes.items c.in_ok-pays.pays
          c.in_ok-event.ensures.sets_of_chance c.in_ok-event.ensures.sets_of_one c.in_ok-event.ensures.sets_of_two
          (payoffs ∙ ap (λ (o : Option (List NumberView)). with_given (option_map (λ (pays : List NumberView). (amounts.outcome, pays)) o) (map outcome_in c.args.self.now.outcomes.entries)) given)
          (ap (λ (v : Vec Bare Global). v.items) c.in_ok-event.ensures.nodes)
          c.in_ok-push.ensures.items
          (first_of-head (player_rules c.len-node.result amounts.mover) _ c.in_ok-event.ensures.refusal)
          c.in_ok-event.ensures.kids
          c.in_ok-event.ensures.happening
          c.in_ok-pays.ensures.kept
          c.frac.ensures.value
          c.frac-2.ensures.value
          c.in_ok-place.ensures.begun;
    }

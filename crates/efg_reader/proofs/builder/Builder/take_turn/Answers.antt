-- A choice adds to its player's sets alone, a draw and a leaf to none.
use Rattle.std.proofs.Common.{◌≡◌, nat_eq, map, refl, ap, sym, ◌∙◌, arith}
use Rattle.std.specs.List.{position_or_len}
use Rattle.std.specs.Map.{keys_of}
use Rattle.corr_game.specs.declared.sides.Side.TheVariants.{One, Two}
use Rattle.efg_reader.specs.declared.events.Event.TheVariants.{Choice, Leaf}
use Rattle.efg_reader.specs.declared.entry.Turn.{Turn}
use Rattle.efg_reader.specs.Entry.{mover_of}
use Rattle.efg_reader.specs.Lists.{shape_among}
use Rattle.efg_reader.specs.Sets.{turn_of}
use Rattle.efg_reader.proofs.SetsSoFar.{if_ok, few_sets, set_number, sets_other, own_choice, one_at_two, two_at_one, at_draw}
use Rattle.efg_reader.proofs.Happening.{IsDrawOf, draw_shape, one_shape, two_shape}
use Rattle.efg_reader.proofs.builder.Builder.take_turn.Goals as goal

pub take_choice-requires : goal.take_choice-requires
take_choice-requires c = omega (arith, c.requires.few, few_sets One c.args.self.now.nodes.items c.args.self.now.one.entries c.requires.one)

pub take_choice-requires-in-Player-eq2-default : goal.take_choice-requires-in-Player-eq2-default
take_choice-requires-in-Player-eq2-default c = omega (arith, c.requires.few, few_sets Two c.args.self.now.nodes.items c.args.self.now.two.entries c.requires.two)

pub returns-in-Leaf-clause-one : goal.returns-in-Leaf-clause-one
returns-in-Leaf-clause-one c = sets_other One (map turn_of c.args.self.now.nodes.items) c.args.self.now.one.entries Leaf 0 c.requires.one refl

pub returns-in-Leaf-clause-two : goal.returns-in-Leaf-clause-two
returns-in-Leaf-clause-two c = sets_other Two (map turn_of c.args.self.now.nodes.items) c.args.self.now.two.entries Leaf 0 c.requires.two refl

pub returns-in_ok-list-in-Chance-clause-one : goal.returns-in_ok-list-in-Chance-clause-one
returns-in_ok-list-in-Chance-clause-one c = at_draw (map turn_of c.args.self.now.nodes.items) c.take_chance.result One c.args.self.now.one.entries c.requires.one c.take_chance.ensures.draw

pub returns-in_ok-list-in-Chance-clause-two : goal.returns-in_ok-list-in-Chance-clause-two
returns-in_ok-list-in-Chance-clause-two c = at_draw (map turn_of c.args.self.now.nodes.items) c.take_chance.result Two c.args.self.now.two.entries c.requires.two c.take_chance.ensures.draw

pub returns-in_ok-list-in-Player-eq1-default-clause-one : goal.returns-in_ok-list-in-Player-eq1-default-clause-one
returns-in_ok-list-in-Player-eq1-default-clause-one c =
    let few = set_number c.args.line.now c.args.turn c.in-Player-eq1-default.player c.in-Player-eq1-default.set c.requires.turn c.in-Player-eq1-default.is in
    own_choice (map turn_of c.args.self.now.nodes.items) c.take_choice.result One c.args.self.now.one.entries c.take_choice.new.lists.entries _ _ c.requires.one few c.take_choice.ensures.choice

pub returns-in_ok-list-in-Player-eq1-default-clause-two : goal.returns-in_ok-list-in-Player-eq1-default-clause-two
returns-in_ok-list-in-Player-eq1-default-clause-two c =
    two_at_one (map turn_of c.args.self.now.nodes.items) c.take_choice.result c.args.self.now.two.entries c.args.self.now.one.entries c.take_choice.new.lists.entries _ _ c.requires.two c.take_choice.ensures.choice

pub returns-in_ok-list-in-Player-eq2-default-clause-one : goal.returns-in_ok-list-in-Player-eq2-default-clause-one
returns-in_ok-list-in-Player-eq2-default-clause-one c =
    one_at_two (map turn_of c.args.self.now.nodes.items) c.take_choice-in-Player-eq2-default.result c.args.self.now.one.entries c.args.self.now.two.entries c.take_choice-in-Player-eq2-default.new.lists.entries _ _ c.requires.one c.take_choice-in-Player-eq2-default.ensures.choice

pub returns-in_ok-list-in-Player-eq2-default-clause-two : goal.returns-in_ok-list-in-Player-eq2-default-clause-two
returns-in_ok-list-in-Player-eq2-default-clause-two c =
    let few = set_number c.args.line.now c.args.turn c.in-Player-eq2-default.player c.in-Player-eq2-default.set c.requires.turn c.in-Player-eq2-default.is in
    own_choice (map turn_of c.args.self.now.nodes.items) c.take_choice-in-Player-eq2-default.result Two c.args.self.now.two.entries c.take_choice-in-Player-eq2-default.new.lists.entries _ _ c.requires.two few c.take_choice-in-Player-eq2-default.ensures.choice

pub returns-in_ok-list-in-Chance-clause-happening : goal.returns-in_ok-list-in-Chance-clause-happening
returns-in_ok-list-in-Chance-clause-happening c =
    if_ok c.take_chance.result (IsDrawOf c.take_chance.new.lists.entries c.in-Chance.set) _ c.take_chance.ensures.event
    (λ it draw kids. draw_shape c.take_chance.new.lists.entries c.args.self.now.one.entries c.args.self.now.two.entries c.in-Chance.set c.in-Chance.probs.items it.0 draw kids
    ∙ ap (λ (turn : Turn). shape_among c.take_chance.new.lists.entries c.args.self.now.one.entries c.args.self.now.two.entries (mover_of turn) kids) (sym c.in-Chance.is))

pub returns-in_ok-list-in-Player-eq1-default-clause-happening : goal.returns-in_ok-list-in-Player-eq1-default-clause-happening
returns-in_ok-list-in-Player-eq1-default-clause-happening c =
    let who : c.in-Player-eq1-default.player ≡ 1 = rw c.in-Player-eq1-default.is at c.in-Player-eq1-default.player-test in
    if_ok c.take_choice.result (λ it. it.0 ≡ Choice One (record { 0 = position_or_len (nat_eq c.in-Player-eq1-default.set) (keys_of c.take_choice.new.lists.entries) })) _ c.take_choice.ensures.event
    (λ it is kids. one_shape c.args.self.now.chance.entries c.take_choice.new.lists.entries c.args.self.now.two.entries c.in-Player-eq1-default.player c.in-Player-eq1-default.set c.args.turn it.0 c.in-Player-eq1-default.is who is kids)

pub returns-in_ok-list-in-Player-eq2-default-clause-happening : goal.returns-in_ok-list-in-Player-eq2-default-clause-happening
returns-in_ok-list-in-Player-eq2-default-clause-happening c =
    let who : c.in-Player-eq2-default.player ≡ 2 = rw c.in-Player-eq2-default.is at c.in-Player-eq2-default.player-test in
    if_ok c.take_choice-in-Player-eq2-default.result (λ it. it.0 ≡ Choice Two (record { 0 = position_or_len (nat_eq c.in-Player-eq2-default.set) (keys_of c.take_choice-in-Player-eq2-default.new.lists.entries) })) _ c.take_choice-in-Player-eq2-default.ensures.event
    (λ it is kids. two_shape c.args.self.now.chance.entries c.args.self.now.one.entries c.take_choice-in-Player-eq2-default.new.lists.entries c.in-Player-eq2-default.player c.in-Player-eq2-default.set c.args.turn it.0 c.in-Player-eq2-default.is who is kids)

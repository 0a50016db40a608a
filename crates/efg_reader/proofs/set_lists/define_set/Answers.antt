-- A new set comes last, and another stays where it is.
use Rattle.std.proofs.Common.{ℕ, List, nat_eq, Option, map, ap, sym, ◌∙◌}
use Rattle.std.specs.List.{position_or_len}
use Rattle.std.specs.Map.{keys_of}
use Rattle.indexmap.proofs.CallerLemmas.{insert_entry-new}
use Rattle.efg_reader.specs.declared.first_lists.FirstList.{FirstList}
use Rattle.efg_reader.specs.Lists.{entry_in, list_entry, with_given}
use Rattle.efg_reader.specs.Sets.{first}
use Rattle.efg_reader.proofs.FirstGiven.{place_new}
use Rattle.efg_reader.proofs.KnownSet.{known, none_found, lists_stay, lists_more, place_found}
use Rattle.efg_reader.proofs.set_lists.define_set.Goals as goal

pub returns-in-Some-clause-defined : goal.returns-in-Some-clause-defined
returns-in-Some-clause-defined c = known c.args.lists.now.entries c.args.set c.args.list c.in-Some.index (sym c.in-Some.ensures.index)

pub returns-in-Some-clause-lists : goal.returns-in-Some-clause-lists
returns-in-Some-clause-lists c = lists_stay c.args.lists.now.entries c.args.set c.args.list (sym c.in-Some.ensures.found)

pub returns-in_ok-insert-in-None-clause-defined : goal.returns-in_ok-insert-in-None-clause-defined
returns-in_ok-insert-in-None-clause-defined c =
    first c.in-Some-list.list c.in-Some-list.is
    (c.in_ok-insert-in-None.ensures.entries ∙ insert_entry-new nat_eq c.args.lists.now c.args.set c.in-Some-list.list (none_found (sym c.in-None.ensures.found)))
    c.len-index.ensures.len

pub returns-in_ok-insert-in-None-clause-lists : goal.returns-in_ok-insert-in-None-clause-lists
returns-in_ok-insert-in-None-clause-lists c =
    let none = none_found (sym c.in-None.ensures.found) in
    let more = c.in_ok-insert-in-None.ensures.entries ∙ insert_entry-new nat_eq c.args.lists.now c.args.set c.in-Some-list.list none in
    lists_more c.args.lists.now.entries c.args.set c.in-Some-list.list c.insert.new.self.entries none more
    ∙ ap (λ (list : Option FirstList). with_given (list_entry c.args.set list) (map entry_in c.args.lists.now.entries)) (sym c.in-Some-list.is)

pub returns-in-Some-clause-place : goal.returns-in-Some-clause-place
returns-in-Some-clause-place c = place_found (keys_of c.args.lists.now.entries) c.args.set c.in-Some.index (sym c.in-Some.ensures.index)

pub returns-in_ok-insert-in-None-clause-place : goal.returns-in_ok-insert-in-None-clause-place
returns-in_ok-insert-in-None-clause-place c =
    let none = none_found (sym c.in-None.ensures.found) in
    let more = c.in_ok-insert-in-None.ensures.entries ∙ insert_entry-new nat_eq c.args.lists.now c.args.set c.in-Some-list.list none in
    ap (λ (es : List (ℕ × FirstList)). position_or_len (nat_eq c.args.set) (keys_of es)) more
    ∙ place_new c.args.lists.now.entries c.args.set c.in-Some-list.list none
    ∙ sym c.len-index.ensures.len

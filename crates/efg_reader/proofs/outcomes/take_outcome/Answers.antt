use Rattle.std.proofs.Common.{◌≡◌, nat_eq, Some, None, ◌∙◌}
use Rattle.std.specs.Map.{lookup}
use Rattle.indexmap.proofs.CallerLemmas.{insert_entry-new}
use Rattle.efg_reader.proofs.KnownPayoffs.{payoffs_stay, payoffs_more}
use Rattle.efg_reader.proofs.outcomes.take_outcome.Goals as goal

pub returns-then-eq-clause-outcomes : goal.returns-then-eq-clause-outcomes
returns-then-eq-clause-outcomes c =
    let found : lookup (nat_eq c.args.outcome) c.args.outcomes.now.entries ≡ Some c.in-Some.known = cc (c.get.ensures.value, c.copied-known.ensures, c.in-Some.is) in
    payoffs_stay c.args.outcomes.now.entries c.args.outcome c.in-Some.known c.args.is_listed c.args.pays.now found

pub returns-in_ok-insert-in-None-clause-outcomes : goal.returns-in_ok-insert-in-None-clause-outcomes
returns-in_ok-insert-in-None-clause-outcomes c =
    let none : lookup (nat_eq c.args.outcome) c.args.outcomes.now.entries ≡ None = cc (c.get.ensures.value, c.copied-known.ensures, c.in-None.is) in
    payoffs_more c.args.outcomes.now.entries c.args.outcome c.in_ok-pays.pays c.insert.new.self.entries c.args.is_listed c.args.pays.now
    c.if-not-is_listed.false c.in_ok-pays.ensures.pays none (c.in_ok-insert-in-None.ensures.entries ∙ insert_entry-new nat_eq c.args.outcomes.now c.args.outcome c.in_ok-pays.pays none)

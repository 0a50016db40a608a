-- The parts of the definition, one after the other.
use Rattle.std.proofs.Common.{refl, arith}
use Rattle.std.proofs.lemmas.Bool.{false≢true}
use Rattle.std.proofs.lemmas.Int.{ints}
use Rattle.std.proofs.lemmas.List.Elements.{All-map}
use Rattle.corr_num.proofs.PrintedTerms.{returned}
use Rattle.equilibrium.specs.Distribution.{IsEntry, entry_of}
use Rattle.plain_programs.proofs.Entries.{pairs_of_entries}
use Rattle.plain_programs.proofs.equilibria.is_equilibrium.Goals as goal

pub returns-then-not-are_entries : goal.returns-then-not-are_entries
returns-then-not-are_entries c = (
  λ h. absurd (false≢true h),
  λ eq. c.if-not-are_entries.ensures.1 (pairs_of_entries c.args.game.now c.args.list.now eq.entries),
)

pub returns : goal.returns
returns c = (
  λ h. record {
    entries = All-map (IsEntry c.args.game.now) entry_of c.args.list.now (c.if-not-are_entries.ensures.0 refl);
    some_weight =
        let back = returned c.total.result (omega (arith, c.total.ensures.bound)) in
        rw (← c.total.ensures.value) (omega (arith, ints, back, c.if-total-le0.false));
    none_improves = c.in_ok-none.ensures.0 h;
  },
  λ eq. c.in_ok-none.ensures.1 eq.none_improves,
)

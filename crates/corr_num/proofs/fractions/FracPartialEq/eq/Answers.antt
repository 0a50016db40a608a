-- Fractions in lowest terms are the same number exactly where they are equal, and the code tests whether they are equal.
use Rattle.std.proofs.Common.{◌≡◌, ◌↔◌, IsTrue, eqb, of_z, rules}
use Rattle.std.specs.Int.{w128}
use Rattle.corr_num.specs.Fraction.{IsLowest}
use Rattle.corr_num.proofs.LowestTerms.{same_number_is}
use Rattle.corr_num.proofs.fractions.FracPartialEq.eq.Goals as goal

pub returns-then-self-other-clause-same : goal.returns-then-self-other-clause-same
returns-then-self-other-clause-same c =
    let lowest : IsLowest c.args.self.now = rw (← c.self.view_is) c.self.invariant.0 in
    let other_lowest : IsLowest c.args.other.now = rw (← c.other.view_is) c.other.invariant.0 in
    let same = same_number_is _ _ lowest other_lowest in
    let equal : IsTrue (eqb (of_z w128 c.self.inside.den) (of_z w128 c.other.inside.den)) ↔ (c.args.self.now ≡ c.args.other.now) = search rules in
    (λ e. same.0 (equal.0 e), λ s. equal.1 (same.1 s))

pub returns-else-self-other-clause-same : goal.returns-else-self-other-clause-same
returns-else-self-other-clause-same c =
    let lowest : IsLowest c.args.self.now = rw (← c.self.view_is) c.self.invariant.0 in
    let other_lowest : IsLowest c.args.other.now = rw (← c.other.view_is) c.other.invariant.0 in
    let same = same_number_is _ _ lowest other_lowest in
    let equal : IsTrue (eqb (of_z w128 c.self.inside.num) (of_z w128 c.other.inside.num)) ↔ (c.args.self.now ≡ c.args.other.now) = search rules in
    (λ e. same.0 (equal.0 e), λ s. equal.1 (same.1 s))

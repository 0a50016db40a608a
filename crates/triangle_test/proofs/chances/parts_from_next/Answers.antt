-- A node of a set is under the root, and no chance node; it has one next node of its set.
use Rattle.std.proofs.Common.{ℕ, subst}
use Rattle.std.proofs.lemmas.Bool.{false≢true}
use Rattle.triangle_test.specs.Parting.{PartAtChance}
use Rattle.triangle_test.proofs.Partings.{no_chance, no_next, root_over, same_next}
use Rattle.triangle_test.proofs.chances.parts_from_next.Goals as goal

pub returns-in_default : goal.returns-in_default
returns-in_default c = (
  λ h. absurd (false≢true h),
  λ parts. absurd (no_next c.args.game.now c.args.n parts.0 c.in_default.ensures.none parts.1),
)

pub parts_at_chance-requires-clause-first_under : goal.parts_at_chance-requires-clause-first_under
parts_at_chance-requires-clause-first_under c =
    let next = c.in-Some.ensures.some in
    (root_over c.args.game.now c.len.ensures.rules c.args.n c.requires, no_chance c.args.game.now next.1 c.args.n next.2 next.3)

pub parts_at_chance-requires-clause-second_under : goal.parts_at_chance-requires-clause-second_under
parts_at_chance-requires-clause-second_under c =
    let next = c.in-Some.ensures.some in (
      root_over c.args.game.now c.len.ensures.rules c.in-Some.next c.in-Some.ensures.inside,
      no_chance c.args.game.now next.1 c.in-Some.next next.2 next.4,
    )

pub returns : goal.returns
returns c =
    let g = c.args.game.now in
    let next = c.in-Some.ensures.some in (
      λ h. (c.in-Some.next, next, c.parts_at_chance.ensures.0 h),
      λ parts. c.parts_at_chance.ensures.1 (subst (λ (x : ℕ). PartAtChance g 0 c.args.n x)
          (same_next g c.args.n parts.0 c.in-Some.next parts.1 next) parts.2),
    )

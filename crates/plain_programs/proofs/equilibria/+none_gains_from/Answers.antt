-- Where all sets have an action that is the one full choice; else each goes on with an action of the next set.
use Rattle.std.proofs.Common.{◌≡◌, [], ◌∷◌, ◌++◌, length, length-append, refl, ap, ◌∙◌, arith}
use Rattle.equilibrium.specs.Distribution.{entries_of}
use Rattle.plain_programs.proofs.Fronts.{each_next, longer_front, whole_front}
use Rattle.plain_programs.proofs.equilibria.+none_gains_from.Goals as goal

pub returns-then-set-sets : goal.returns-then-set-sets
returns-then-set-sets t c =
    whole_front c.args.side c.args.game.now (record { num = c.args.slack.num; den = c.args.slack.den }) (entries_of c.args.list.now)
    c.args.trigger c.args.front.items (omega arith) c.requires.front_in c.in_ok-gains_no_more.gains_no_more
    (rw c.from_list-choice.ensures.wrapped at c.in_ok-gains_no_more.ensures)

pub none_gains_from-requires : goal.none_gains_from-requires
none_gains_from-requires t c =
    let longer : c.in_ok-longer.longer.items ≡ c.args.front.items ++ c.loop-action.action ∷ [] =
    rw c.deref.ensures.value at c.in_ok-longer.ensures in
    let count : c.len-set.result ≡ length c.args.front.items = omega (arith, c.len-set.ensures, c.args.front.ok.0) in
    let more = ap length longer ∙ length-append c.args.front.items (c.loop-action.action ∷ []) in
    let front = longer_front c.args.side c.args.game.now c.args.front.items c.in_ok-longer.longer.items c.loop-action.action c.set.result.now
    c.requires.front_in (rw count at c.set.ensures.item) (omega arith) longer in
    (omega (arith, more), (c.requires.entries, (c.requires.weights, (c.requires.small, front))))

pub returns : goal.returns
returns t c =
    let count : c.len-set.result ≡ length c.args.front.items = omega (arith, c.len-set.ensures, c.args.front.ok.0) in (
      λ h. each_next c.args.side c.args.game.now (record { num = c.args.slack.num; den = c.args.slack.den }) (entries_of c.args.list.now)
          c.args.trigger c.args.front.items c.set.result.now (omega arith) (rw count at c.set.ensures.item)
          (λ a low. c.loop-action.invariant a (omega arith)),
      λ none. refl,
    )

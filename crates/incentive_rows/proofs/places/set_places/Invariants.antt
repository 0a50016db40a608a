-- The sets gone over have their places.
use Rattle.incentive_rows.specs.Places.{ArePlaces}
use Rattle.incentive_rows.proofs.places.set_places.Given as goal

abbrev pub invariant-loop-set : goal.invariant-loop-set
invariant-loop-set l = ArePlaces l.game l.pairs l.side l.top l.set l.places.sets.items l.places.values l.places.rows

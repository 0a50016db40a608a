use Rattle.text_laws.proofs.Places.{place_of_nothing, places_stay, syntax_has_place}
use Rattle.text_laws.proofs.lines.places_stay_places.Goals as goal

pub returns-clause-more : goal.returns-clause-more
returns-clause-more c = places_stay

pub returns-clause-none : goal.returns-clause-none
returns-clause-none c = place_of_nothing

pub returns-clause-syntax : goal.returns-clause-syntax
returns-clause-syntax c = syntax_has_place

use Rattle.efg_lines.proofs.SyntaxPlace.{no_file_there, one_place}
use Rattle.efg_lines.proofs.grammar_laws.no_file_goes_on_in_one_place.Goals as goal

pub returns-clause-no_file : goal.returns-clause-no_file
returns-clause-no_file c = no_file_there

pub returns-clause-one_place : goal.returns-clause-one_place
returns-clause-one_place c = one_place

use Rattle.text_laws.proofs.GenAnswers.{gen_once, gen_some, written_within}
use Rattle.text_laws.proofs.answers.games_are_generated_once.Goals as goal

pub returns-clause-some : goal.returns-clause-some
returns-clause-some c = gen_some

pub returns-clause-one : goal.returns-clause-one
returns-clause-one c = gen_once

pub returns-clause-within : goal.returns-clause-within
returns-clause-within c = written_within

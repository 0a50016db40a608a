use Rattle.efg_lines.proofs.ReadsBack.{file_accepted, accepted_file}
use Rattle.efg_lines.proofs.grammar_laws.the_machine_accepts_files.Goals as goal

pub returns-clause-files : goal.returns-clause-files
returns-clause-files c = file_accepted

pub returns-clause-no_others : goal.returns-clause-no_others
returns-clause-no_others c = accepted_file

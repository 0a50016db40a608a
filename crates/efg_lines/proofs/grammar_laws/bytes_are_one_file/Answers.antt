use Rattle.efg_lines.proofs.OneFile.{one_file}
use Rattle.efg_lines.proofs.grammar_laws.bytes_are_one_file.Goals as goal

pub returns : goal.returns
returns c = one_file

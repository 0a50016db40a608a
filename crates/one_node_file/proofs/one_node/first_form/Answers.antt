-- Both clauses are laws of the reading, which began at the first byte.
use Rattle.std.proofs.Common.{◌≡◌, List, Option, Some, None, sym, ◌∙◌, ℕ}
use Rattle.std.specs.Prelude.{IfSome}
use Rattle.corr_game.specs.declared.payoffs.Pay.{Pay}
use Rattle.one_node_file.specs.FirstForm.{HasFirstForm}
use Rattle.one_node_file.specs.Reading.{first_form_at}
use Rattle.one_node_file.proofs.Again.{read_again}
use Rattle.one_node_file.proofs.Found.{read_found}
use Rattle.one_node_file.proofs.one_node.first_form.Goals as goal
use Rattle.one_node_file.proofs.one_node.first_form.Goals.{After-whole}

found : (result : Option Pay) (bytes : List ℕ) → result ≡ first_form_at bytes → IfSome result (HasFirstForm bytes)
found None bytes e = tt
found (Some pay) bytes e = read_found bytes pay (sym e)

read : (c : After-whole) → c.whole.result ≡ first_form_at c.args.bytes.now
read c = rw (c.new-tokens.ensures.start, c.new-tokens.ensures.input) at c.whole.ensures

pub returns-clause-found : goal.returns-clause-found
returns-clause-found c = found c.whole.result c.args.bytes.now (read (goal.at.returns-clause-found c).After-whole)

pub returns-clause-only : goal.returns-clause-only
returns-clause-only c = λ pay form. read (goal.at.returns-clause-only c).After-whole ∙ read_again form.parts pay c.args.bytes.now form.says form.are_tokens

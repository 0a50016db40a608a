use Rattle.efg_lines.proofs.ReadsBack.{led_begin, begin_led}
use Rattle.efg_lines.proofs.grammar_laws.every_state_can_be_completed.Goals as goal

pub returns-clause-completed : goal.returns-clause-completed
returns-clause-completed c = led_begin

pub returns-clause-no_others : goal.returns-clause-no_others
returns-clause-no_others c = begin_led

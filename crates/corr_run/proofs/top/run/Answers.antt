use Rattle.std.proofs.Common.{refl}
use Rattle.command_words.proofs.Askable.{means_askable, same_command}
use Rattle.corr_run.specs.Answer.{Answer, no_command, carried_out, most_taken}
use Rattle.corr_run.specs.Lines.{usage_line}
use Rattle.corr_run.proofs.Commands.{takes_as, takes_nothing}
use Rattle.corr_run.proofs.Endings.{ends_at_once, ends_no_memory, ends_of}
use Rattle.corr_run.proofs.top.run.Goals as goal

pub returns-in-Err-clause-ends : goal.returns-in-Err-clause-ends
returns-in-Err-clause-ends g c = ends_no_memory (Answer _) _ _

pub returns-in-Err-clause-taken : goal.returns-in-Err-clause-taken
returns-in-Err-clause-taken g c = λ asked means. takes_nothing (most_taken asked) _

pub returns-in-None-clause-ends : goal.returns-in-None-clause-ends
unfolding usage_line
returns-in-None-clause-ends g c =
    let nothing = rw c.in-None.is at c.in-Ok.ensures in
    ends_at_once (Answer _) _ _ _ _ _ _ (λ input. no_command nothing refl refl) c.write_whole.ensures.writes

pub returns-in-None-clause-taken : goal.returns-in-None-clause-taken
returns-in-None-clause-taken g c = λ asked means. absurd ((rw c.in-None.is at c.in-Ok.ensures) asked means)

pub carry_out-requires : goal.carry_out-requires
carry_out-requires g c = means_askable _ c.in-Some.asked (rw c.in-Some.is at c.in-Ok.ensures)

pub returns-in-Some-clause-ends : goal.returns-in-Some-clause-ends
returns-in-Some-clause-ends g c =
    let means = rw c.in-Some.is at c.in-Ok.ensures in
    ends_of (λ input text kind answer. carried_out _ means answer) c.carry_out.ensures.ends

pub returns-in-Some-clause-untouched : goal.returns-in-Some-clause-untouched
returns-in-Some-clause-untouched g c = λ nothing. c.carry_out.ensures.unread (nothing c.in-Some.asked (rw c.in-Some.is at c.in-Ok.ensures))

pub returns-in-Some-clause-taken : goal.returns-in-Some-clause-taken
returns-in-Some-clause-taken g c = λ asked means.
    let same = same_command _ c.in-Some.asked asked (rw c.in-Some.is at c.in-Ok.ensures) means in
    takes_as c.in-Some.asked asked _ _ same c.carry_out.ensures.taken

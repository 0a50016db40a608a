-- Each word is tried.
use Rattle.command_words.specs.Words.{verb_word}
use Rattle.command_words.proofs.Names.{no_verb}
use Rattle.command_words.proofs.words.verb_of.Goals as goal

pub returns-then-is_text : goal.returns-then-is_text
unfolding verb_word
returns-then-is_text c = c.is_text.ensures.0 c.if-is_text.true

pub returns-then-is_text-2 : goal.returns-then-is_text-2
unfolding verb_word
returns-then-is_text-2 c = c.is_text-2.ensures.0 c.if-is_text-2.true

pub returns-then-is_text-3 : goal.returns-then-is_text-3
unfolding verb_word
returns-then-is_text-3 c = c.is_text-3.ensures.0 c.if-is_text-3.true

pub returns-then-is_text-4 : goal.returns-then-is_text-4
unfolding verb_word
returns-then-is_text-4 c = c.is_text-4.ensures.0 c.if-is_text-4.true

pub returns : goal.returns
returns c =
    no_verb _
    (λ e. absurd (cc (c.if-is_text.false, c.is_text.ensures.1 e)))
    (λ e. absurd (cc (c.if-is_text-2.false, c.is_text-2.ensures.1 e)))
    (λ e. absurd (cc (c.if-is_text-3.false, c.is_text-3.ensures.1 e)))
    (λ e. absurd (cc (c.if-is_text-4.false, c.is_text-4.ensures.1 e)))

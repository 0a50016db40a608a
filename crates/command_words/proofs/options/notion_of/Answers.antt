-- Each word is tried.
use Rattle.command_words.specs.Options.{notion_word}
use Rattle.command_words.proofs.Names.{no_notion}
use Rattle.command_words.proofs.options.notion_of.Goals as goal

pub returns-then-is_text : goal.returns-then-is_text
unfolding notion_word
returns-then-is_text c = c.is_text.ensures.0 c.if-is_text.true

pub returns-then-is_text-2 : goal.returns-then-is_text-2
unfolding notion_word
returns-then-is_text-2 c = c.is_text-2.ensures.0 c.if-is_text-2.true

pub returns-then-is_text-3 : goal.returns-then-is_text-3
unfolding notion_word
returns-then-is_text-3 c = c.is_text-3.ensures.0 c.if-is_text-3.true

pub returns : goal.returns
returns c =
    no_notion _
    (λ e. absurd (cc (c.if-is_text.false, c.is_text.ensures.1 e)))
    (λ e. absurd (cc (c.if-is_text-2.false, c.is_text-2.ensures.1 e)))
    (λ e. absurd (cc (c.if-is_text-3.false, c.is_text-3.ensures.1 e)))

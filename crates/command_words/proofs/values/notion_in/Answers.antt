use Rattle.std.proofs.Common.{◌≡◌, ◌∙◌, ℕ, List, ap, option_map, sym}
use Rattle.std.specs.Borrow.{Bor}
use Rattle.command_words.specs.Options.{notion_word}
use Rattle.command_words.proofs.Names.{same_notion}
use Rattle.command_words.proofs.Said.{said}
use Rattle.command_words.proofs.values.notion_in.Goals as goal

pub returns-in-Some : goal.returns-in-Some
returns-in-Some c = λ given says. said (λ text notion. text ≡ notion_word notion) c.notion_of.result given.notion _ c.in-Some.name.now (λ x y p q. same_notion x y (sym p ∙ q))
    (sym c.get_str.ensures ∙ ap (option_map (λ (s : Bor (List ℕ)). s.now)) c.in-Some.is) c.notion_of.ensures says

use Rattle.std.proofs.Common.{◌≡◌, ◌∙◌, ℕ, List, ap, option_map, sym}
use Rattle.std.specs.Borrow.{Bor}
use Rattle.game_gen.specs.GameText.{kind_name}
use Rattle.command_words.proofs.Names.{same_kind}
use Rattle.command_words.proofs.Said.{said}
use Rattle.command_words.proofs.values.kind_in.Goals as goal

pub returns-in-Some : goal.returns-in-Some
returns-in-Some c = λ given says. said (λ text kind. text ≡ kind_name kind) c.kind_of.result given.kind _ c.in-Some.name.now (λ x y p q. same_kind x y (sym p ∙ q))
    (sym c.get_str.ensures ∙ ap (option_map (λ (s : Bor (List ℕ)). s.now)) c.in-Some.is) c.kind_of.ensures says

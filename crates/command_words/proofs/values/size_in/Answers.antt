use Rattle.std.proofs.Common.{◌∙◌, ◌^◌, ◌<◌, ◌≤◌, ℕ, List, Option, Some, None, MatchOption, ap, option_map, sym}
use Rattle.std.specs.Borrow.{Bor}
use Rattle.command_words.specs.Options.{IsNumber}
use Rattle.command_words.proofs.Said.{said}
use Rattle.command_words.proofs.values.size_in.Goals as goal

-- the three parts of a size as one
as_one : (found : Option ℕ) (name : List ℕ) → MatchOption found ((n : ℕ) → IsNumber 10 name n → 1 ≤ n → n < 2 ^ 32 → ⊥) (λ n. IsNumber 10 name n × (1 ≤ n) × (n < 2 ^ 32))
    → MatchOption found ((n : ℕ) → (IsNumber 10 name n × (1 ≤ n) × (n < 2 ^ 32)) → ⊥) (λ n. IsNumber 10 name n × (1 ≤ n) × (n < 2 ^ 32))
as_one None name none = λ n p. none n p.0 p.1 p.2
as_one (Some n) name reads = reads

pub returns-in-Some : goal.returns-in-Some
returns-in-Some c = λ given says. said (λ text n. IsNumber 10 text n × (1 ≤ n) × (n < 2 ^ 32)) c.size_of.result given.size _ c.in-Some.text.now (λ x y p q. sym p.0.2 ∙ q.0.2)
    (sym c.get_str.ensures ∙ ap (option_map (λ (s : Bor (List ℕ)). s.now)) c.in-Some.is) (as_one c.size_of.result c.in-Some.text.now c.size_of.ensures) says

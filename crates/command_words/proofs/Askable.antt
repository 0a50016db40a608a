-- What words mean can be carried out, and is one command: by going over the pairs, and over the table of commands.
use Rattle.std.proofs.Common.{◌≡◌, ℕ, ◌≤◌, List, [], ◌∷◌, Option, Some, None, ap, arith, subst, sym, ◌∙◌, unwrap_or}
use Rattle.corr_game.specs.declared.notions.Notion.{Notion}
use Rattle.corr_game.specs.declared.notions.Notion.TheVariants.{Efce, Efcce, Nfcce}
use Rattle.game_gen.specs.declared.kinds.Kind.{Kind}
use Rattle.command_words.specs.declared.commands.Command.{Command}
use Rattle.command_words.specs.declared.commands.Command.TheVariants as command
use Rattle.command_words.specs.declared.options.Given.{Given}
use Rattle.command_words.specs.declared.options.Label.{Label}
use Rattle.command_words.specs.declared.options.Label.TheVariants as label
use Rattle.command_words.specs.declared.words.Verb.{Verb}
use Rattle.command_words.specs.declared.words.Verb.TheVariants.{Solve, Check, Gen, Work}
use Rattle.command_words.specs.Options.{Give, Takes, none_given}
use Rattle.command_words.specs.Selection.{SelectsSome}
use Rattle.command_words.specs.Words.{AsksFor, IsAskable, Means, notions_by}
use Rattle.command_words.proofs.Given.{same_given}
use Rattle.command_words.proofs.Meaning.{means_parts}
use Rattle.command_words.proofs.Names.{same_verb}

-- a size that is given is 1 or more
abbrev IsSized : Given → Type 0
IsSized given = (n : ℕ) → given.size ≡ Some n → 1 ≤ n

sized_next : (label : Label) (before next : Given) (value : List ℕ) → IsSized before → Takes label before value next → IsSized next
sized_next label.Kind before next value sized takes = λ n e. sized n (sym (ap (λ (g : Given). g.size) takes.3) ∙ e)
sized_next label.Size before next value sized takes = λ n e.
    let same : Some takes.0 ≡ Some n = sym (ap (λ (g : Given). g.size) takes.5) ∙ e in
    let it : takes.0 ≡ n = cc in
    subst (λ (k : ℕ). 1 ≤ k) it takes.3
sized_next label.Seed before next value sized takes = λ n e. sized n (sym (ap (λ (g : Given). g.size) takes.4) ∙ e)
sized_next label.Notion before next value sized takes = λ n e. sized n (sym (ap (λ (g : Given). g.size) takes.3) ∙ e)

sized : (before after : Given) (words : List (List ℕ)) → IsSized before → Give before words after → IsSized after
sized before after [] s p = subst IsSized (sym p) s
sized before after (word ∷ []) s p = absurd p
sized before after (word ∷ value ∷ rest) s p = sized p.0 after rest (sized_next p.1.0 before p.0 value s p.1.2) p.2

selects_some : (o : Option Notion) → SelectsSome (notions_by o)
selects_some None = omega arith
selects_some (Some Efce) = omega arith
selects_some (Some Efcce) = omega arith
selects_some (Some Nfcce) = omega arith

asks_askable : (verb : Verb) (given : Given) (asked : Command) → IsSized given → AsksFor verb given asked → IsAskable asked
asks_askable Solve given asked s p = subst IsAskable (sym p.1) (selects_some given.notion)
asks_askable Check given asked s p = subst IsAskable (sym p.1) tt
asks_askable Gen given asked s p = subst IsAskable (sym p.3) (s p.1 (ap (λ (g : Given). g.size) p.2))
asks_askable Work given asked s p = subst IsAskable (sym p.3) (s p.1 (ap (λ (g : Given). g.size) p.2), selects_some given.notion)

pub means_askable : (words : List (List ℕ)) (asked : Command) → Means words asked → IsAskable asked
means_askable words asked p =
    let parts = means_parts words asked p in
    let none : IsSized none_given = λ n e. absurd (cc e) in
    asks_askable parts.0 parts.1 asked (sized none_given parts.1 _ none parts.3) parts.4

same_asked : (verb : Verb) (given : Given) (x y : Command) → AsksFor verb given x → AsksFor verb given y → x ≡ y
same_asked Solve given x y p q = p.1 ∙ sym q.1
same_asked Check given x y p q = p.1 ∙ sym q.1
same_asked Gen given x y p q =
    let kinds : Some p.0 ≡ Some q.0 = sym (ap (λ (g : Given). g.kind) p.2) ∙ ap (λ (g : Given). g.kind) q.2 in
    let sizes : Some p.1 ≡ Some q.1 = sym (ap (λ (g : Given). g.size) p.2) ∙ ap (λ (g : Given). g.size) q.2 in
    let kind : p.0 ≡ q.0 = cc in
    let size : p.1 ≡ q.1 = cc in
    p.3 ∙ ap (λ (k : Kind). command.Gen k p.1 (unwrap_or given.seed 0)) kind ∙ ap (λ (n : ℕ). command.Gen q.0 n (unwrap_or given.seed 0)) size ∙ sym q.3
same_asked Work given x y p q =
    let kinds : Some p.0 ≡ Some q.0 = sym (ap (λ (g : Given). g.kind) p.2) ∙ ap (λ (g : Given). g.kind) q.2 in
    let sizes : Some p.1 ≡ Some q.1 = sym (ap (λ (g : Given). g.size) p.2) ∙ ap (λ (g : Given). g.size) q.2 in
    let kind : p.0 ≡ q.0 = cc in
    let size : p.1 ≡ q.1 = cc in
    p.3 ∙ ap (λ (k : Kind). command.Work k p.1 (unwrap_or given.seed 0) (notions_by given.notion)) kind
    ∙ ap (λ (n : ℕ). command.Work q.0 n (unwrap_or given.seed 0) (notions_by given.notion)) size ∙ sym q.3

-- words mean at most one command
pub same_command : (words : List (List ℕ)) (x y : Command) → Means words x → Means words y → x ≡ y
same_command words x y p q =
    let a = means_parts words x p in
    let b = means_parts words y q in
    let verb : b.0 ≡ a.0 = same_verb b.0 a.0 (sym b.2 ∙ a.2) in
    let given : b.1 ≡ a.1 = same_given none_given _ b.1 a.1 b.3 a.3 in
    same_asked a.0 a.1 x y a.4 (subst (λ (v : Verb). AsksFor v a.1 y) verb (subst (λ (g : Given). AsksFor b.0 g y) given b.4))

-- What words mean, by their first word and by what the others give.
use Rattle.std.proofs.Common.{◌≡◌, ℕ, ◌<◌, List, [], ◌∷◌, drop, get_or, length, sym, ◌∙◌, subst, arith, Option, Some, None, MatchOption}
use Rattle.command_words.specs.declared.commands.Command.{Command}
use Rattle.command_words.specs.declared.options.Given.{Given}
use Rattle.command_words.specs.declared.words.Verb.{Verb}
use Rattle.command_words.specs.Options.{Give, none_given}
use Rattle.command_words.specs.Words.{AsksFor, Means, MeansNothing, verb_word}
use Rattle.command_words.proofs.Given.{same_given}
use Rattle.command_words.proofs.Names.{same_verb}

pub means_parts : (words : List (List ℕ)) (asked : Command) → Means words asked
    → (verb : Verb) × (given : Given) × (get_or words 0 [] ≡ verb_word verb) × Give none_given (drop 1 words) given × AsksFor verb given asked
means_parts [] asked p = absurd p
means_parts (first ∷ rest) asked p = p

means_whole : (words : List (List ℕ)) (verb : Verb) (given : Given) (asked : Command) → 0 < length words → get_or words 0 [] ≡ verb_word verb
    → Give none_given (drop 1 words) given → AsksFor verb given asked → Means words asked
means_whole [] verb given asked some first gives asks = absurd (omega (arith, some))
means_whole (word ∷ rest) verb given asked some first gives asks = (verb, given, first, gives, asks)

pub meaning : (r : Option Command) (words : List (List ℕ)) (verb : Verb) (given : Given) → 0 < length words → get_or words 0 [] ≡ verb_word verb
    → Give none_given (drop 1 words) given → MatchOption r ((asked : Command) → AsksFor verb given asked → ⊥) (AsksFor verb given)
    → MatchOption r (MeansNothing words) (Means words)
meaning None words verb given some first gives none = λ asked p.
    let parts = means_parts words asked p in
    let v : parts.0 ≡ verb = same_verb parts.0 verb (sym parts.2 ∙ first) in
    let g : parts.1 ≡ given = same_given none_given (drop 1 words) parts.1 given parts.3 gives in
    none asked (subst (λ (x : Verb). AsksFor x given asked) v (subst (λ (x : Given). AsksFor parts.0 x asked) g parts.4))
meaning (Some asked) words verb given some first gives asks = means_whole words verb given asked some first gives asks

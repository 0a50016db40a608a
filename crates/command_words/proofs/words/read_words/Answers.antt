use Rattle.std.proofs.Common.{◌≡◌, ◌<◌, ℕ, List, Option, Some, None, MatchOption, false, is_some, length, map, arith, ◌∙◌, not, ap, sym}
use Rattle.std.proofs.lemmas.List.{length-map}
use Rattle.std.proofs.lemmas.Grind.{common_steps}
use Rattle.std.specs.String.{string_bytes}
use Rattle.command_words.specs.declared.commands.Command.{Command}
use Rattle.command_words.specs.Words.{Means, MeansNothing}
use Rattle.command_words.proofs.Meaning.{meaning, means_parts}
use Rattle.command_words.proofs.Pairs.{word_at}
use Rattle.command_words.proofs.words.read_words.Goals as goal

pub returns-in_default-read_options : goal.returns-in_default-read_options
returns-in_default-read_options c = λ asked p.
    let parts = means_parts _ asked p in
    let none = rw c.in_default-read_options.is at c.read_options.ensures in
    none parts.1 parts.3

nothing : (found : Option Command) (words : List (List ℕ)) → is_some found ≡ false → MatchOption found (MeansNothing words) (Means words) → MeansNothing words
nothing None words none means = means
nothing (Some asked) words none means = absurd (cc none)

pub returns-then-is_none : goal.returns-then-is_none
returns-then-is_none c =
    let some : 0 < length c.args.words.now.items = grind (arith, common_steps) in
    let count : length (map string_bytes c.args.words.now.items) ≡ length c.args.words.now.items = length-map c.args.words.now.items string_bytes in
    let first = word_at string_bytes c.args.words.now.items 0 c.index.result.now some c.index.ensures in
    nothing c.command_of.result _ (c.is_none.ensures ∙ ap not c.if-is_none.true)
    (meaning c.command_of.result _ c.in-Some.verb c.in-Some-read_options.ruled (omega (arith, count, some)) (first ∙ (sym c.as_str.ensures.value ∙ (rw c.in-Some.is at c.verb_of.ensures)))
    c.in-Some-read_options.ensures c.command_of.ensures)

pub given_by-requires : goal.given_by-requires
given_by-requires c = (c.in-Some-read_options.ruled, c.in-Some-read_options.ensures)

pub returns : goal.returns
returns c =
    let some : 0 < length c.args.words.now.items = grind (arith, common_steps) in
    let count : length (map string_bytes c.args.words.now.items) ≡ length c.args.words.now.items = length-map c.args.words.now.items string_bytes in
    let first = word_at string_bytes c.args.words.now.items 0 c.index.result.now some c.index.ensures in
    meaning c.command_of-2.result _ c.in-Some.verb c.in_ok-given.given (omega (arith, count, some)) (first ∙ (sym c.as_str.ensures.value ∙ (rw c.in-Some.is at c.verb_of.ensures)))
    c.in_ok-given.ensures c.command_of-2.ensures

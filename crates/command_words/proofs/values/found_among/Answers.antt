use Rattle.std.proofs.Common.{◌≡◌, ◌∙◌, ℕ, List, Option, ap, ap₂, map, refl, subst, sym, true}
use Rattle.std.specs.String.{string_bytes}
use Rattle.clap.specs.Matches.{found_of}
use Rattle.clap.specs.Simple.{app_of, is_simple, matches_of}
use Rattle.clap.specs.Takes.{takes}
use Rattle.clap.specs.Walk.{first_of, rows_of}
use Rattle.clap.specs.declared.error.kind.ErrorKind.TheVariants.{OutOfMemory}
use Rattle.clap.proofs.OnLiterals.{clap_on_literals}
use Rattle.clap.proofs.WalkLemmas.{first_value-rows}
use Rattle.command_words.specs.Table.{SaysOf, option_name, option_table}
use Rattle.command_words.proofs.Walked.{found_shows, taken}
use Rattle.command_words.proofs.values.found_among.Goals as goal

simple : is_simple option_table ≡ true
unfolding clap_on_literals
simple = refl

pub returns-in-Ok : goal.returns-in-Ok
returns-in-Ok c =
    let texts = map string_bytes c.args.words.now.items in
    let table_is : app_of c.in_ok-command.command ≡ option_table = c.in_ok-command.ensures in
    let words_are : map string_bytes c.as_slice.result.now ≡ texts = ap (map string_bytes) c.as_slice.ensures.value in
    let rows : rows_of (found_of c.in-Ok.matches) ≡ matches_of option_table texts = (c.in-Ok.ensures.matches (ap is_simple table_is ∙ simple)).0 ∙ ap₂ matches_of table_is words_are in
    λ given gives which. subst (λ (text : Option (List ℕ)). SaysOf which text given)
    (sym (first_value-rows (found_of c.in-Ok.matches) (option_name which) ∙ ap (first_of (option_name which)) rows))
    (found_shows texts given gives which).0

pub prove-unreachable-requires : goal.prove-unreachable-requires
prove-unreachable-requires c =
    let texts = map string_bytes c.args.words.now.items in
    let table_is : app_of c.in_ok-command.command ≡ option_table = c.in_ok-command.ensures in
    let words_are : map string_bytes c.as_slice.result.now ≡ texts = ap (map string_bytes) c.as_slice.ensures.value in
    let memory = c.in-Err.ensures.passes (ap₂ takes table_is words_are ∙ taken texts c.requires.0 c.requires.1) in
    let kind_is : c.kind.result ≡ OutOfMemory = c.kind.ensures ∙ memory in
    let same : c.eq.result ≡ true = rw kind_is at c.eq.ensures in
    absurd (cc (same, c.if-prove.true))

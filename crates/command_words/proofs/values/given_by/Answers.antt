use Rattle.std.proofs.Common.{◌≡◌, drop, map, subst, sym}
use Rattle.std.specs.String.{string_bytes}
use Rattle.command_words.specs.declared.options.Given.{Given}
use Rattle.command_words.specs.declared.options.Label.TheVariants as label
use Rattle.command_words.specs.Options.{Give, none_given}
use Rattle.command_words.proofs.values.given_by.Goals as goal

pub returns : goal.returns
returns c =
    let given = c.requires.0 in
    let says = c.in_ok-matches.ensures given c.requires.1 in
    let kind = c.kind_in.ensures given (says label.Kind) in
    let size = c.size_in.ensures given (says label.Size) in
    let seed = c.seed_in.ensures given (says label.Seed) in
    let notion = c.notion_in.ensures given (says label.Notion) in
    let same : ◌≡◌ {A = Given} (record { kind = c.kind_in.result; size = c.size_in.result; seed = c.seed_in.result; notion = c.notion_in.result }) given =
    λ i. record { kind = kind i; size = size i; seed = seed i; notion = notion i } in
    subst (λ (it : Given). Give none_given (drop 1 (map string_bytes c.args.words.now.items)) it) (sym same) c.requires.1

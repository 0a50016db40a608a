-- Each option is added behind those before it.
use Rattle.std.proofs.Common.{◌≡◌, ◌∙◌, ap, ap₂, codes, rules, true}
use Rattle.clap.specs.Simple.{app_of, app_of_fields, new_app, on_top, with_rule}
use Rattle.clap.specs.Walk.{rule_of}
use Rattle.command_words.specs.declared.options.Label.TheVariants as label
use Rattle.command_words.specs.Table.{value_option}
use Rattle.command_words.proofs.values.option_command.Goals as goal

pub returns : goal.returns
returns c =
    let kind_is : rule_of c.long-kind.result ≡ value_option label.Kind = search rules in
    let size_is : rule_of c.long-size.result ≡ value_option label.Size = search rules in
    let seed_is : rule_of c.long-seed.result ≡ value_option label.Seed = search rules in
    let notion_is : rule_of c.long-notion.result ≡ value_option label.Notion = search rules in
    let plain_is : app_of c.disable_help_flag-plain.result ≡ on_top (λ shape. record shape { disable_help_flag = true }) (new_app (codes "corr")) =
    ap app_of_fields c.disable_help_flag-plain.ensures ∙ ap (on_top (λ shape. record shape { disable_help_flag = true })) c.new-5.ensures.app in
    let one = c.in_ok-arg.ensures.shape (search rules) ∙ ap₂ with_rule plain_is kind_is in
    let two = c.in_ok-arg-2.ensures.shape (search rules) ∙ ap₂ with_rule one size_is in
    let three = c.in_ok-arg-3.ensures.shape (search rules) ∙ ap₂ with_rule two seed_is in
    c.in_ok-command.ensures.shape (search rules) ∙ ap₂ with_rule three notion_is

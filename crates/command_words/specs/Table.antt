-- The options as a command of clap's with one value option per option, and what the texts that it hands out by name say.
use Rattle.std.specs.Prelude.{◌≡◌, ℕ, ◌^◌, ◌<◌, ◌≤◌, List, Option, Some, None, codes, true}
use Rattle.clap.specs.Simple.{App, new_app, new_rule, on_top, with_rule}
use Rattle.clap.specs.Walk.{Rule}
use Rattle.game_gen.specs.GameText.{kind_name}
use Rattle.command_words.specs.declared.options.Given.{Given}
use Rattle.command_words.specs.declared.options.Label.{Label}
use Rattle.command_words.specs.declared.options.Label.TheVariants as label
use Rattle.command_words.specs.Options.{IsNumber, notion_word}

-- the name by which an option's value is handed out
abbrev pub option_name : Label → List ℕ
option_name label.Kind = codes "kind"
option_name label.Size = codes "n"
option_name label.Seed = codes "seed"
option_name label.Notion = codes "notion"

-- an option that takes one value
abbrev pub value_option : Label → Rule
value_option label = record (new_rule (option_name label)) { long = Some (option_name label) }

-- a command with the four options and no other
abbrev pub option_table : App
option_table = with_rule (with_rule (with_rule (with_rule (on_top (λ shape. record shape { disable_help_flag = true }) (new_app (codes "corr")))
    (value_option label.Kind)) (value_option label.Size)) (value_option label.Seed)) (value_option label.Notion)

-- a value is given exactly where its text is, and is what the text says
abbrev pub Says : {V : Type 0} → (List ℕ → V → Type 0) → Option (List ℕ) → Option V → Type 0
Says IsSaid None None = Unit {0}
Says IsSaid None (Some value) = ⊥
Says IsSaid (Some text) None = ⊥
Says IsSaid (Some text) (Some value) = IsSaid text value

-- the text of an option says what is given for it
abbrev pub SaysOf : Label → Option (List ℕ) → Given → Type 0
SaysOf label.Kind text given = Says (λ text kind. text ≡ kind_name kind) text given.kind
SaysOf label.Size text given = Says (λ text n. IsNumber 10 text n × (1 ≤ n) × (n < 2 ^ 32)) text given.size
SaysOf label.Seed text given = Says (λ text n. IsNumber 20 text n × (n < 2 ^ 64)) text given.seed
SaysOf label.Notion text given = Says (λ text notion. text ≡ notion_word notion) text given.notion

-- the texts of the options, by their names, say what is given
abbrev pub Say : (List ℕ → Option (List ℕ)) → Given → Type 0
Say text_of given = (label : Label) → SaysOf label (text_of (option_name label)) given

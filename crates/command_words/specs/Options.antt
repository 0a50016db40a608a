-- The options behind a command word: pairs of an option's word and its value, in any order, each option at most once.
use Rattle.std.specs.Prelude.{◌≡◌, ℕ, ◌^◌, ◌<◌, ◌≤◌, List, [], ◌∷◌, length, Some, None, codes}
use Rattle.std.specs.Str.Parse.{IsNumeral, digits_value}
use Rattle.corr_game.specs.declared.notions.Notion.{Notion}
use Rattle.corr_game.specs.declared.notions.Notion.TheVariants as notion
use Rattle.game_gen.specs.declared.kinds.Kind.{Kind}
use Rattle.game_gen.specs.GameText.{kind_name}
use Rattle.command_words.specs.declared.options.Given.{Given}
use Rattle.command_words.specs.declared.options.Label.{Label}
use Rattle.command_words.specs.declared.options.Label.TheVariants as label

-- the word of an option
unfoldable pub label_word : Label → List ℕ
label_word label.Kind = codes "--kind"
label_word label.Size = codes "--n"
label_word label.Seed = codes "--seed"
label_word label.Notion = codes "--notion"

-- the name of a notion
unfoldable pub notion_word : Notion → List ℕ
notion_word notion.Efce = codes "efce"
notion_word notion.Efcce = codes "efcce"
notion_word notion.Nfcce = codes "nfcce"

-- the text has 1 to so many decimal digits, and they say this number
abbrev pub IsNumber : ℕ → List ℕ → ℕ → Type 0
IsNumber most text n = IsNumeral 10 text × (length text ≤ most) × (digits_value 10 text ≡ n)

-- no option is given
abbrev pub none_given : Given
none_given = record { kind = None; size = None; seed = None; notion = None }

-- an option that wasn't given before is given with a value that it takes: a kind, a size from 1 to 2^32 - 1, a seed below 2^64, a notion
abbrev pub Takes : Label → Given → List ℕ → Given → Type 0
Takes label.Kind before value after = (kind : Kind) × (before.kind ≡ None) × (value ≡ kind_name kind) × (after ≡ record before { kind = Some kind })
Takes label.Size before value after = (n : ℕ) × (before.size ≡ None) × IsNumber 10 value n × (1 ≤ n) × (n < 2 ^ 32) × (after ≡ record before { size = Some n })
Takes label.Seed before value after = (n : ℕ) × (before.seed ≡ None) × IsNumber 20 value n × (n < 2 ^ 64) × (after ≡ record before { seed = Some n })
Takes label.Notion before value after = (notion : Notion) × (before.notion ≡ None) × (value ≡ notion_word notion) × (after ≡ record before { notion = Some notion })

-- an option's word and its value
abbrev pub TakesPair : Given → List ℕ → List ℕ → Given → Type 0
TakesPair before word value after = (label : Label) × (word ≡ label_word label) × Takes label before value after

-- from what was given before, the words give this in all: they are pairs, one behind the other
abbrev pub Give : Given → List (List ℕ) → Given → Type 0
Give before [] after = after ≡ before
Give before (word ∷ []) after = ⊥
Give before (word ∷ value ∷ rest) after = (next : Given) × TakesPair before word value next × Give next rest after

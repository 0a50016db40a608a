-- Which words on the command line mean a command: a word for what is to be done, then the options that it needs or may have.
use Rattle.std.specs.Prelude.{◌≡◌, ℕ, ◌≤◌, List, [], ◌∷◌, Option, Some, None, unwrap_or, codes}
use Rattle.corr_game.specs.declared.notions.Notion.{Notion}
use Rattle.game_gen.specs.declared.kinds.Kind.{Kind}
use Rattle.command_words.specs.declared.commands.Command.{Command}
use Rattle.command_words.specs.declared.commands.Command.TheVariants as command
use Rattle.command_words.specs.declared.commands.Notions.{Notions}
use Rattle.command_words.specs.declared.options.Given.{Given}
use Rattle.command_words.specs.declared.words.Verb.{Verb}
use Rattle.command_words.specs.declared.words.Verb.TheVariants.{Solve, Check, Gen, Work}
use Rattle.command_words.specs.Options.{Give, none_given}
use Rattle.command_words.specs.Selection.{SelectsSome, all_notions, only_notion}

unfoldable pub verb_word : Verb → List ℕ
verb_word Solve = codes "solve"
verb_word Check = codes "check"
verb_word Gen = codes "gen"
verb_word Work = codes "work"

-- one notion where an option names it, else all
abbrev pub notions_by : Option Notion → Notions
notions_by None = all_notions
notions_by (Some notion) = only_notion notion

-- what is asked for with these options: `solve` may have a notion, `check` has none, `gen` needs a kind and a size and may have a seed, and `work` may
-- have a seed and a notion beside them; the seed is 0 where it isn't given
abbrev pub AsksFor : Verb → Given → Command → Type 0
AsksFor Solve given asked = (given ≡ record none_given { notion = given.notion }) × (asked ≡ command.Solve (notions_by given.notion))
AsksFor Check given asked = (given ≡ none_given) × (asked ≡ command.Check)
AsksFor Gen given asked = (kind : Kind) × (n : ℕ) × (given ≡ record { kind = Some kind; size = Some n; seed = given.seed; notion = None })
    × (asked ≡ command.Gen kind n (unwrap_or given.seed 0))
AsksFor Work given asked = (kind : Kind) × (n : ℕ) × (given ≡ record { kind = Some kind; size = Some n; seed = given.seed; notion = given.notion })
    × (asked ≡ command.Work kind n (unwrap_or given.seed 0) (notions_by given.notion))

-- the words mean this command
abbrev pub Means : List (List ℕ) → Command → Type 0
Means [] asked = ⊥
Means (first ∷ rest) asked = (verb : Verb) × (given : Given) × (first ≡ verb_word verb) × Give none_given rest given × AsksFor verb given asked

-- the words mean no command
abbrev pub MeansNothing : List (List ℕ) → Type 0
MeansNothing words = (asked : Command) → Means words asked → ⊥

-- what holds of each command that some words mean: some notion is selected, and a size is 1 or more
abbrev pub IsAskable : Command → Type 0
IsAskable (command.Solve notions) = SelectsSome notions
IsAskable command.Check = Unit {0}
IsAskable (command.Gen kind n seed) = 1 ≤ n
IsAskable (command.Work kind n seed notions) = (1 ≤ n) × SelectsSome notions

-- Clap's walk over pairs of an option and its value: each pair leaves its value pending, and the next word settles it as one more row.
use Rattle.std.proofs.Common.{◌≡◌, ◌∙◌, ◌==◌, ◌&&◌, ℕ, Bool, false, true, not, List, [], ◌∷◌, ◌++◌, Option, Some, None, ap, refl, subst, sym, codes, drop, arith, ne_eqb}
use Rattle.std.specs.Prelude.{fold}
use Rattle.std.specs.List.{list_all}
use Rattle.std.specs.Str.Parse.{IsNumeral}
use Rattle.std.proofs.lemmas.List.{append-nil}
use Rattle.std.proofs.lemmas.Str.Parse.{digit_from_value}
use Rattle.clap.specs.Facts.{parser_of_value}
use Rattle.clap.specs.Simple.{Shape, built, matches_of}
use Rattle.clap.specs.Takes.{settle_passes, takes, turn_passes, walk_passes}
use Rattle.clap.specs.Values.{reading_of}
use Rattle.clap.specs.Walk.{Held, Row, Rule, Text, Walk, finished, has_row, is_empty, more_values, settled_rows, walk_from, walked, with_default, with_values, without}
use Rattle.clap.specs.declared.builder.value_parser.Reading.{Reading}
use Rattle.clap.specs.declared.builder.value_parser.ValueParser.TheVariants as vp
use Rattle.clap.specs.declared.parser.matches.ValueSource.TheVariants.{CommandLine}
use Rattle.clap.proofs.OnLiterals.{clap_on_literals}
use Rattle.clap.proofs.SimpleLemmas.{is_false, is_nil}
use Rattle.clap.proofs.WalkLemmas.{both}
use Rattle.corr_game.specs.declared.notions.Notion.{Notion}
use Rattle.corr_game.specs.declared.notions.Notion.TheVariants.{Efce, Efcce, Nfcce}
use Rattle.game_gen.specs.declared.kinds.Kind.{Kind}
use Rattle.game_gen.specs.declared.kinds.Kind.TheVariants.{Public, Dilemma, Chain}
use Rattle.game_gen.specs.GameText.{kind_name}
use Rattle.command_words.specs.declared.options.Given.{Given}
use Rattle.command_words.specs.declared.options.Label.{Label}
use Rattle.command_words.specs.declared.options.Label.TheVariants as label
use Rattle.command_words.specs.Options.{Give, Takes, label_word, none_given, notion_word}
use Rattle.command_words.specs.Table.{option_name, option_table}
use Rattle.command_words.proofs.Rows.{at_row-absent, no_default}
use Rattle.command_words.proofs.Shown.{IsAbsent, Shows, row_for, shows_next, shows_nothing}

abbrev shape : Shape
shape = (built option_table).top

abbrev rules : List Rule
rules = shape.rules

-- every option's text is read as it is
abbrev how : Reading
how = reading_of (parser_of_value (Some vp.String))

abbrev held_at : List Row → Option (Text × List Text) → Held
held_at rows pending = record { rows = rows; pending = pending; skip = 0 }

abbrev at : List Row → Option (Text × List Text) → Walk
at rows pending = walk_from (held_at rows pending)

-- the text begins with a byte other than a hyphen
abbrev is_plain : List ℕ → Bool
is_plain [] = false
is_plain (x ∷ xs) = not (x == 45)

plain_kind : (kind : Kind) → is_plain (kind_name kind) ≡ true
unfolding kind_name
plain_kind Public = refl
plain_kind Dilemma = refl
plain_kind Chain = refl

plain_notion : (notion : Notion) → is_plain (notion_word notion) ≡ true
unfolding notion_word
plain_notion Efce = refl
plain_notion Efcce = refl
plain_notion Nfcce = refl

plain_numeral : (text : List ℕ) → IsNumeral 10 text → is_plain text ≡ true
plain_numeral [] numeral = absurd (omega (arith, numeral.0))
plain_numeral (d ∷ ds) numeral =
    let other : (d == 45) ≡ false = ne_eqb _ _ (λ e. omega (arith, digit_from_value d numeral.1.0)) in
    rw other refl

plain_value : (label : Label) (before next : Given) (value : List ℕ) → Takes label before value next → is_plain value ≡ true
plain_value label.Kind before next value takes = rw takes.2 (plain_kind takes.0)
plain_value label.Size before next value takes = plain_numeral value takes.2.0
plain_value label.Seed before next value takes = plain_numeral value takes.2.0
plain_value label.Notion before next value takes = rw takes.2 (plain_notion takes.0)

absent_before : (label : Label) (before next : Given) (value : List ℕ) → Takes label before value next → IsAbsent label before
absent_before label.Kind before next value takes = takes.1
absent_before label.Size before next value takes = takes.1
absent_before label.Seed before next value takes = takes.1
absent_before label.Notion before next value takes = takes.1

-- a pair settles what was pending, and leaves its value pending
pair_walked : (label : Label) (value : List ℕ) (rows : List Row) (pending : Option (Text × List Text)) → is_plain value ≡ true
    → walked rules [] (walked rules [] (at rows pending) (label_word label)) value ≡ at (settled_rows rules pending rows) (Some (option_name label, value ∷ []))
unfolding clap_on_literals label_word
pair_walked label.Kind [] rows pending plain = absurd (cc)
pair_walked label.Kind (x ∷ xs) rows pending plain = let other : (x == 45) ≡ false = is_false _ plain in rw other (rw other refl)
pair_walked label.Size [] rows pending plain = absurd (cc)
pair_walked label.Size (x ∷ xs) rows pending plain = let other : (x == 45) ≡ false = is_false _ plain in rw other (rw other refl)
pair_walked label.Seed [] rows pending plain = absurd (cc)
pair_walked label.Seed (x ∷ xs) rows pending plain = let other : (x == 45) ≡ false = is_false _ plain in rw other (rw other refl)
pair_walked label.Notion [] rows pending plain = absurd (cc)
pair_walked label.Notion (x ∷ xs) rows pending plain = let other : (x == 45) ≡ false = is_false _ plain in rw other (rw other refl)

settled_as : (id value : List ℕ) (rows : List Row) → has_row id rows ≡ false
    → with_values id how CommandLine (value ∷ []) (without id rows) ≡ rows ++ record { id = id; values = value ∷ []; count = None; source = Some CommandLine; reading = how } ∷ []
settled_as id value rows none =
    ap (with_values id how CommandLine (value ∷ [])) (at_row-absent id (λ _. []) [] rows none ∙ append-nil rows)
    ∙ at_row-absent id (more_values CommandLine (value ∷ [])) (record { id = id; values = value ∷ []; count = None; source = Some CommandLine; reading = how } ∷ []) rows none

-- a pending value becomes one more row
settled_pair : (label : Label) (value : List ℕ) (rows : List Row) → has_row (option_name label) rows ≡ false
    → settled_rows rules (Some (option_name label, value ∷ [])) rows ≡ rows ++ row_for label value how ∷ []
settled_pair label.Kind value rows none = settled_as (codes "kind") value rows none
settled_pair label.Size value rows none = settled_as (codes "n") value rows none
settled_pair label.Seed value rows none = settled_as (codes "seed") value rows none
settled_pair label.Notion value rows none = settled_as (codes "notion") value rows none

settles_pair : (label : Label) (value : List ℕ) (rows : List Row) → has_row (option_name label) rows ≡ false
    → settle_passes rules false (held_at rows (Some (option_name label, value ∷ []))) ≡ true
settles_pair label.Kind value rows none = rw none refl
settles_pair label.Size value rows none = rw none refl
settles_pair label.Seed value rows none = rw none refl
settles_pair label.Notion value rows none = rw none refl

first_passes : (label : Label) (rows : List Row) (pending : Option (Text × List Text)) → settle_passes rules false (held_at rows pending) ≡ true
    → turn_passes shape [] (at rows pending) (label_word label) ≡ true
unfolding clap_on_literals label_word
first_passes label.Kind rows pending settles = rw settles refl
first_passes label.Size rows pending settles = rw settles refl
first_passes label.Seed rows pending settles = rw settles refl
first_passes label.Notion rows pending settles = rw settles refl

second_passes : (label : Label) (value : List ℕ) (rows : List Row) (pending : Option (Text × List Text)) → is_plain value ≡ true
    → turn_passes shape [] (walked rules [] (at rows pending) (label_word label)) value ≡ true
unfolding clap_on_literals label_word
second_passes label.Kind [] rows pending plain = absurd (cc)
second_passes label.Kind (x ∷ xs) rows pending plain = let other : (x == 45) ≡ false = is_false _ plain in rw other (rw other refl)
second_passes label.Size [] rows pending plain = absurd (cc)
second_passes label.Size (x ∷ xs) rows pending plain = let other : (x == 45) ≡ false = is_false _ plain in rw other (rw other refl)
second_passes label.Seed [] rows pending plain = absurd (cc)
second_passes label.Seed (x ∷ xs) rows pending plain = let other : (x == 45) ≡ false = is_false _ plain in rw other (rw other refl)
second_passes label.Notion [] rows pending plain = absurd (cc)
second_passes label.Notion (x ∷ xs) rows pending plain = let other : (x == 45) ≡ false = is_false _ plain in rw other (rw other refl)

and_true : (a b : Bool) → a ≡ true → b ≡ true → (a && b) ≡ true
and_true a b p q = rw (p, q) refl

-- a walk that shows what is given, with a value pending that may be settled
record IsReached (end : Walk) (given : Given) : Type 0 where
  rows : List Row
  pending : Option (Text × List Text)
  whole : end ≡ at rows pending
  shows : Shows (settled_rows rules pending rows) given
  settles : settle_passes rules false (held_at rows pending) ≡ true

pairs_walked : (words : List (List ℕ)) (before after : Given) (rows : List Row) (pending : Option (Text × List Text)) → Give before words after
    → Shows (settled_rows rules pending rows) before → settle_passes rules false (held_at rows pending) ≡ true
    → IsReached (fold (walked rules []) (at rows pending) words) after × (walk_passes shape [] (at rows pending) words ≡ true)
unfolding walk_passes
pairs_walked [] before after rows pending gives shows settles =
    (record { rows = rows; pending = pending; whole = refl; shows = subst (Shows (settled_rows rules pending rows)) (sym gives) shows; settles = settles }, refl)
pairs_walked (word ∷ []) before after rows pending gives shows settles = absurd gives
pairs_walked (word ∷ value ∷ rest) before after rows pending gives shows settles =
    let which = gives.1.0 in
    let taken = gives.1.2 in
    let plain = plain_value which before gives.0 value taken in
    let now = settled_rows rules pending rows in
    let none : has_row (option_name which) now ≡ false = (shows which).1 (absent_before which before gives.0 value taken) in
    let walk_is : walked rules [] (walked rules [] (at rows pending) word) value ≡ at now (Some (option_name which, value ∷ [])) = rw gives.1.1 (pair_walked which value rows pending plain) in
    let next : Shows (settled_rows rules (Some (option_name which, value ∷ [])) now) gives.0 =
    subst (λ (rs : List Row). Shows rs gives.0) (sym (settled_pair which value now none)) (shows_next which before gives.0 value now how shows taken) in
    let rest_is = pairs_walked rest gives.0 after now (Some (option_name which, value ∷ [])) gives.2 next (settles_pair which value now none) in
    let one : turn_passes shape [] (at rows pending) word ≡ true = rw gives.1.1 (first_passes which rows pending settles) in
    let two : turn_passes shape [] (walked rules [] (at rows pending) word) value ≡ true = rw gives.1.1 (second_passes which value rows pending plain) in
    let three : walk_passes shape [] (walked rules [] (walked rules [] (at rows pending) word) value) rest ≡ true = rw walk_is rest_is.1 in
    (subst (λ (w : Walk). IsReached (fold (walked rules []) w rest) after) (sym walk_is) rest_is.0, and_true _ _ one (and_true _ _ two three))

reached : (words : List (List ℕ)) (given : Given) → Give none_given (drop 1 words) given
    → IsReached (fold (walked rules []) (at [] None) (drop 1 words)) given × (walk_passes shape [] (at [] None) (drop 1 words) ≡ true)
reached words given gives = pairs_walked (drop 1 words) none_given given [] None gives shows_nothing refl

-- the options' words are taken
pub taken : (words : List (List ℕ)) (given : Given) → Give none_given (drop 1 words) given → takes option_table words ≡ true
taken words given gives =
    let it = reached words given gives in
    rw (it.0.whole, it.1, it.0.settles) refl

undefaulted : (rows : List Row) (rest : List Rule) → list_all (λ rule. is_empty rule.defaults) rest ≡ true → fold with_default rows rest ≡ rows
undefaulted rows [] none = refl
undefaulted rows (rule ∷ rest) none =
    let parts = both (is_empty rule.defaults) _ none in
    ap (λ (rs : List Row). fold with_default rs rest) (no_default rows rule (is_nil rule.defaults parts.0)) ∙ undefaulted rows rest parts.1

-- and what is found among them shows what they give
pub found_shows : (words : List (List ℕ)) (given : Given) → Give none_given (drop 1 words) given → Shows (matches_of option_table words) given
found_shows words given gives =
    let it = reached words given gives in
    let end : matches_of option_table words ≡ finished rules (held_at it.0.rows it.0.pending) = ap (λ (w : Walk). finished rules w.held) it.0.whole in
    subst (λ (rs : List Row). Shows rs given) (sym (end ∙ undefaulted (settled_rows rules it.0.pending it.0.rows) rules refl)) it.0.shows

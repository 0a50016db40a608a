-- What rows show of options: the row that a pair of an option and its value adds shows what the pair gives.
use Rattle.std.proofs.Common.{◌≡◌, ◌∙◌, ℕ, false, true, List, [], ◌∷◌, ◌++◌, Option, Some, None, refl, subst, sym}
use Rattle.std.specs.Str.{bytes_eq}
use Rattle.clap.specs.declared.builder.value_parser.Reading.{Reading}
use Rattle.clap.specs.declared.parser.matches.ValueSource.TheVariants.{CommandLine}
use Rattle.clap.specs.Walk.{Row, first_of, has_row}
use Rattle.command_words.specs.declared.options.Given.{Given}
use Rattle.command_words.specs.declared.options.Label.{Label}
use Rattle.command_words.specs.declared.options.Label.TheVariants as label
use Rattle.command_words.specs.Options.{Takes, none_given}
use Rattle.command_words.specs.Table.{SaysOf, option_name}
use Rattle.command_words.proofs.Rows.{first_of-added, first_of-other, has_row-other}

-- the option isn't given
abbrev pub IsAbsent : Label → Given → Type 0
IsAbsent label.Kind given = given.kind ≡ None
IsAbsent label.Size given = given.size ≡ None
IsAbsent label.Seed given = given.seed ≡ None
IsAbsent label.Notion given = given.notion ≡ None

-- the rows have what is given for an option, and no row where nothing is
abbrev pub ShowsOf : Label → List Row → Given → Type 0
ShowsOf label rows given = SaysOf label (first_of (option_name label) rows) given × (IsAbsent label given → has_row (option_name label) rows ≡ false)

abbrev pub Shows : List Row → Given → Type 0
Shows rows given = (label : Label) → ShowsOf label rows given

-- the row of an option's value
abbrev pub row_for : Label → List ℕ → Reading → Row
row_for label value how = record { id = option_name label; values = value ∷ []; count = None; source = Some CommandLine; reading = how }

pub shows_nothing : Shows [] none_given
shows_nothing label.Kind = (tt, λ e. refl)
shows_nothing label.Size = (tt, λ e. refl)
shows_nothing label.Seed = (tt, λ e. refl)
shows_nothing label.Notion = (tt, λ e. refl)

-- what is shown of an option stays where a row of another one is added
stays : (other : Label) (given : Given) (rows : List Row) (added : Row) → bytes_eq added.id (option_name other) ≡ false → ShowsOf other rows given → ShowsOf other (rows ++ added ∷ []) given
stays other given rows added apart shown = (
  subst (λ (text : Option (List ℕ)). SaysOf other text given) (sym (first_of-other (option_name other) rows added apart)) shown.0,
  λ absent. has_row-other (option_name other) rows added apart ∙ shown.1 absent,
)

first_shown : (label : Label) (rows : List Row) (value : List ℕ) (how : Reading) → bytes_eq (option_name label) (option_name label) ≡ true → has_row (option_name label) rows ≡ false
    → first_of (option_name label) (rows ++ row_for label value how ∷ []) ≡ Some value
first_shown label rows value how same none = first_of-added (option_name label) rows (row_for label value how) same none

-- the row that is added shows what the pair gives
pub shows_next : (label : Label) (before next : Given) (value : List ℕ) (rows : List Row) (how : Reading) → Shows rows before → Takes label before value next
    → Shows (rows ++ row_for label value how ∷ []) next
shows_next label.Kind before next value rows how shows takes =
    let text = first_shown label.Kind rows value how refl ((shows label.Kind).1 takes.1) in
    subst (Shows (rows ++ row_for label.Kind value how ∷ [])) (sym takes.3) (λ other. of other text)
  where
    of : (other : Label) → first_of (option_name label.Kind) (rows ++ row_for label.Kind value how ∷ []) ≡ Some value → ShowsOf other (rows ++ row_for label.Kind value how ∷ []) (record before { kind = Some takes.0 })
    of label.Kind text = (subst (λ (t : Option (List ℕ)). SaysOf label.Kind t (record before { kind = Some takes.0 })) (sym text) takes.2, λ e. absurd (cc))
    of label.Size text = stays label.Size (record before { kind = Some takes.0 }) rows (row_for label.Kind value how) refl (shows label.Size)
    of label.Seed text = stays label.Seed (record before { kind = Some takes.0 }) rows (row_for label.Kind value how) refl (shows label.Seed)
    of label.Notion text = stays label.Notion (record before { kind = Some takes.0 }) rows (row_for label.Kind value how) refl (shows label.Notion)
shows_next label.Size before next value rows how shows takes =
    let text = first_shown label.Size rows value how refl ((shows label.Size).1 takes.1) in
    subst (Shows (rows ++ row_for label.Size value how ∷ [])) (sym takes.5) (λ other. of other text)
  where
    of : (other : Label) → first_of (option_name label.Size) (rows ++ row_for label.Size value how ∷ []) ≡ Some value → ShowsOf other (rows ++ row_for label.Size value how ∷ []) (record before { size = Some takes.0 })
    of label.Kind text = stays label.Kind (record before { size = Some takes.0 }) rows (row_for label.Size value how) refl (shows label.Kind)
    of label.Size text = (subst (λ (t : Option (List ℕ)). SaysOf label.Size t (record before { size = Some takes.0 })) (sym text) (takes.2, takes.3, takes.4), λ e. absurd (cc))
    of label.Seed text = stays label.Seed (record before { size = Some takes.0 }) rows (row_for label.Size value how) refl (shows label.Seed)
    of label.Notion text = stays label.Notion (record before { size = Some takes.0 }) rows (row_for label.Size value how) refl (shows label.Notion)
shows_next label.Seed before next value rows how shows takes =
    let text = first_shown label.Seed rows value how refl ((shows label.Seed).1 takes.1) in
    subst (Shows (rows ++ row_for label.Seed value how ∷ [])) (sym takes.4) (λ other. of other text)
  where
    of : (other : Label) → first_of (option_name label.Seed) (rows ++ row_for label.Seed value how ∷ []) ≡ Some value → ShowsOf other (rows ++ row_for label.Seed value how ∷ []) (record before { seed = Some takes.0 })
    of label.Kind text = stays label.Kind (record before { seed = Some takes.0 }) rows (row_for label.Seed value how) refl (shows label.Kind)
    of label.Size text = stays label.Size (record before { seed = Some takes.0 }) rows (row_for label.Seed value how) refl (shows label.Size)
    of label.Seed text = (subst (λ (t : Option (List ℕ)). SaysOf label.Seed t (record before { seed = Some takes.0 })) (sym text) (takes.2, takes.3), λ e. absurd (cc))
    of label.Notion text = stays label.Notion (record before { seed = Some takes.0 }) rows (row_for label.Seed value how) refl (shows label.Notion)
shows_next label.Notion before next value rows how shows takes =
    let text = first_shown label.Notion rows value how refl ((shows label.Notion).1 takes.1) in
    subst (Shows (rows ++ row_for label.Notion value how ∷ [])) (sym takes.3) (λ other. of other text)
  where
    of : (other : Label) → first_of (option_name label.Notion) (rows ++ row_for label.Notion value how ∷ []) ≡ Some value → ShowsOf other (rows ++ row_for label.Notion value how ∷ []) (record before { notion = Some takes.0 })
    of label.Kind text = stays label.Kind (record before { notion = Some takes.0 }) rows (row_for label.Notion value how) refl (shows label.Kind)
    of label.Size text = stays label.Size (record before { notion = Some takes.0 }) rows (row_for label.Notion value how) refl (shows label.Size)
    of label.Seed text = stays label.Seed (record before { notion = Some takes.0 }) rows (row_for label.Notion value how) refl (shows label.Seed)
    of label.Notion text = (subst (λ (t : Option (List ℕ)). SaysOf label.Notion t (record before { notion = Some takes.0 })) (sym text) takes.2, λ e. absurd (cc))

-- The words of a kind, a notion, an option and a command: no two of one sort have the same, and a text that is none of them names nothing.
use Rattle.std.proofs.Common.{◌≡◌, ℕ, List, ap, arith, codes, get_or, refl}
use Rattle.corr_game.specs.declared.notions.Notion.{Notion}
use Rattle.corr_game.specs.declared.notions.Notion.TheVariants.{Efce, Efcce, Nfcce}
use Rattle.game_gen.specs.declared.kinds.Kind.{Kind}
use Rattle.game_gen.specs.declared.kinds.Kind.TheVariants.{Public, Dilemma, Chain}
use Rattle.game_gen.specs.GameText.{kind_name}
use Rattle.command_words.specs.declared.options.Label.{Label}
use Rattle.command_words.specs.declared.options.Label.TheVariants as label
use Rattle.command_words.specs.declared.words.Verb.{Verb}
use Rattle.command_words.specs.declared.words.Verb.TheVariants.{Solve, Check, Gen, Work}
use Rattle.command_words.specs.Options.{label_word, notion_word}
use Rattle.command_words.specs.Words.{verb_word}

-- equal texts have one letter at each place
letter : {x y : List ℕ} (k : ℕ) → x ≡ y → get_or x k 0 ≡ get_or y k 0
letter k e = ap (λ (w : List ℕ). get_or w k 0) e

pub no_kind : (text : List ℕ) → (text ≡ codes "public" → ⊥) → (text ≡ codes "dilemma" → ⊥) → (text ≡ codes "chain" → ⊥) → (kind : Kind) → text ≡ kind_name kind → ⊥
unfolding kind_name
no_kind text a b c Public e = a e
no_kind text a b c Dilemma e = b e
no_kind text a b c Chain e = c e

pub same_kind : (x y : Kind) → kind_name x ≡ kind_name y → x ≡ y
unfolding kind_name
same_kind Public Public e = refl
same_kind Public Dilemma e = absurd (omega (arith, letter 0 e))
same_kind Public Chain e = absurd (omega (arith, letter 0 e))
same_kind Dilemma Public e = absurd (omega (arith, letter 0 e))
same_kind Dilemma Dilemma e = refl
same_kind Dilemma Chain e = absurd (omega (arith, letter 0 e))
same_kind Chain Public e = absurd (omega (arith, letter 0 e))
same_kind Chain Dilemma e = absurd (omega (arith, letter 0 e))
same_kind Chain Chain e = refl

pub no_notion : (text : List ℕ) → (text ≡ codes "efce" → ⊥) → (text ≡ codes "efcce" → ⊥) → (text ≡ codes "nfcce" → ⊥) → (notion : Notion) → text ≡ notion_word notion → ⊥
unfolding notion_word
no_notion text a b c Efce e = a e
no_notion text a b c Efcce e = b e
no_notion text a b c Nfcce e = c e

pub same_notion : (x y : Notion) → notion_word x ≡ notion_word y → x ≡ y
unfolding notion_word
same_notion Efce Efce e = refl
same_notion Efce Efcce e = absurd (omega (arith, letter 3 e))
same_notion Efce Nfcce e = absurd (omega (arith, letter 0 e))
same_notion Efcce Efce e = absurd (omega (arith, letter 3 e))
same_notion Efcce Efcce e = refl
same_notion Efcce Nfcce e = absurd (omega (arith, letter 0 e))
same_notion Nfcce Efce e = absurd (omega (arith, letter 0 e))
same_notion Nfcce Efcce e = absurd (omega (arith, letter 0 e))
same_notion Nfcce Nfcce e = refl

pub no_label : (text : List ℕ) → (text ≡ codes "--kind" → ⊥) → (text ≡ codes "--n" → ⊥) → (text ≡ codes "--seed" → ⊥) → (text ≡ codes "--notion" → ⊥) → (label : Label) → text ≡ label_word label → ⊥
unfolding label_word
no_label text a b c d label.Kind e = a e
no_label text a b c d label.Size e = b e
no_label text a b c d label.Seed e = c e
no_label text a b c d label.Notion e = d e

pub same_label : (x y : Label) → label_word x ≡ label_word y → x ≡ y
unfolding label_word
same_label label.Kind label.Kind e = refl
same_label label.Kind label.Size e = absurd (omega (arith, letter 2 e))
same_label label.Kind label.Seed e = absurd (omega (arith, letter 2 e))
same_label label.Kind label.Notion e = absurd (omega (arith, letter 2 e))
same_label label.Size label.Kind e = absurd (omega (arith, letter 2 e))
same_label label.Size label.Size e = refl
same_label label.Size label.Seed e = absurd (omega (arith, letter 2 e))
same_label label.Size label.Notion e = absurd (omega (arith, letter 3 e))
same_label label.Seed label.Kind e = absurd (omega (arith, letter 2 e))
same_label label.Seed label.Size e = absurd (omega (arith, letter 2 e))
same_label label.Seed label.Seed e = refl
same_label label.Seed label.Notion e = absurd (omega (arith, letter 2 e))
same_label label.Notion label.Kind e = absurd (omega (arith, letter 2 e))
same_label label.Notion label.Size e = absurd (omega (arith, letter 3 e))
same_label label.Notion label.Seed e = absurd (omega (arith, letter 2 e))
same_label label.Notion label.Notion e = refl

pub no_verb : (text : List ℕ) → (text ≡ codes "solve" → ⊥) → (text ≡ codes "check" → ⊥) → (text ≡ codes "gen" → ⊥) → (text ≡ codes "work" → ⊥) → (verb : Verb) → text ≡ verb_word verb → ⊥
unfolding verb_word
no_verb text a b c d Solve e = a e
no_verb text a b c d Check e = b e
no_verb text a b c d Gen e = c e
no_verb text a b c d Work e = d e

pub same_verb : (x y : Verb) → verb_word x ≡ verb_word y → x ≡ y
unfolding verb_word
same_verb Solve Solve e = refl
same_verb Solve Check e = absurd (omega (arith, letter 0 e))
same_verb Solve Gen e = absurd (omega (arith, letter 0 e))
same_verb Solve Work e = absurd (omega (arith, letter 0 e))
same_verb Check Solve e = absurd (omega (arith, letter 0 e))
same_verb Check Check e = refl
same_verb Check Gen e = absurd (omega (arith, letter 0 e))
same_verb Check Work e = absurd (omega (arith, letter 0 e))
same_verb Gen Solve e = absurd (omega (arith, letter 0 e))
same_verb Gen Check e = absurd (omega (arith, letter 0 e))
same_verb Gen Gen e = refl
same_verb Gen Work e = absurd (omega (arith, letter 0 e))
same_verb Work Solve e = absurd (omega (arith, letter 0 e))
same_verb Work Check e = absurd (omega (arith, letter 0 e))
same_verb Work Gen e = absurd (omega (arith, letter 0 e))
same_verb Work Work e = refl

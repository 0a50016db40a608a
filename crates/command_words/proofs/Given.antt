-- Words give at most one thing: each pair leads to one, by its option's word and by its value.
use Rattle.std.proofs.Common.{◌≡◌, ℕ, List, [], ◌∷◌, sym, ◌∙◌, ap, subst, Option, Some, None, MatchOption}
use Rattle.corr_game.specs.declared.notions.Notion.{Notion}
use Rattle.game_gen.specs.declared.kinds.Kind.{Kind}
use Rattle.command_words.specs.declared.options.Given.{Given}
use Rattle.command_words.specs.declared.options.Label.{Label}
use Rattle.command_words.specs.declared.options.Label.TheVariants as label
use Rattle.command_words.specs.Options.{Give, Takes, TakesPair, label_word}
use Rattle.command_words.proofs.Names.{same_kind, same_label, same_notion}

same_takes : (label : Label) (before : Given) (value : List ℕ) (x y : Given) → Takes label before value x → Takes label before value y → x ≡ y
same_takes label.Kind before value x y p q = let e : p.0 ≡ q.0 = same_kind p.0 q.0 (sym p.2 ∙ q.2) in p.3 ∙ ap (λ (k : Kind). record before { kind = Some k }) e ∙ sym q.3
same_takes label.Size before value x y p q = let e : p.0 ≡ q.0 = sym p.2.2 ∙ q.2.2 in p.5 ∙ ap (λ (n : ℕ). record before { size = Some n }) e ∙ sym q.5
same_takes label.Seed before value x y p q = let e : p.0 ≡ q.0 = sym p.2.2 ∙ q.2.2 in p.4 ∙ ap (λ (n : ℕ). record before { seed = Some n }) e ∙ sym q.4
same_takes label.Notion before value x y p q = let e : p.0 ≡ q.0 = same_notion p.0 q.0 (sym p.2 ∙ q.2) in p.3 ∙ ap (λ (n : Notion). record before { notion = Some n }) e ∙ sym q.3

pub same_pair : (before : Given) (word value : List ℕ) (x y : Given) → TakesPair before word value x → TakesPair before word value y → x ≡ y
same_pair before word value x y p q =
    let e : q.0 ≡ p.0 = same_label q.0 p.0 (sym q.1 ∙ p.1) in
    same_takes p.0 before value x y p.2 (subst (λ (l : Label). Takes l before value y) e q.2)

pub same_given : (before : Given) (words : List (List ℕ)) (x y : Given) → Give before words x → Give before words y → x ≡ y
same_given before [] x y p q = p ∙ sym q
same_given before (word ∷ []) x y p q = absurd p
same_given before (word ∷ value ∷ rest) x y p q =
    let e : q.0 ≡ p.0 = same_pair before word value q.0 p.0 q.1 p.1 in
    same_given p.0 rest x y p.2 (subst (λ (g : Given). Give g rest y) e q.2)

-- the option of a word is the only one that a pair with this word can be of
pub pair_of : (r : Option Given) (label : Label) (before : Given) (word value : List ℕ) → word ≡ label_word label
    → MatchOption r ((after : Given) → Takes label before value after → ⊥) (Takes label before value)
    → MatchOption r ((after : Given) → TakesPair before word value after → ⊥) (TakesPair before word value)
pair_of None label before word value e none = λ after p. none after (subst (λ (l : Label). Takes l before value after) (same_label p.0 label (sym p.1 ∙ e)) p.2)
pair_of (Some next) label before word value e takes = (label, e, takes)

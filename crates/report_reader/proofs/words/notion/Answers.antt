-- The word that the test finds is the notion's name.
use Rattle.std.proofs.Common.{◌≡◌, ℕ, List, codes, sym, ◌∙◌}
use Rattle.corr_game.specs.declared.notions.Notion.{Notion}
use Rattle.corr_game.specs.declared.notions.Notion.TheVariants.{Efce, Efcce, Nfcce}
use Rattle.report_text.specs.NameText.{notion_name}
use Rattle.report_reader.proofs.Reading.{other_text, same_text}
use Rattle.report_reader.proofs.words.notion.Goals as goal

pub returns-then-eq-clause-text : goal.returns-then-eq-clause-text
unfolding notion_name
returns-then-eq-clause-text c = same_text _ _ c.if-eq.ensures ∙ c.as_slice.ensures

pub returns-then-eq-2-clause-text : goal.returns-then-eq-2-clause-text
unfolding notion_name
returns-then-eq-2-clause-text c = same_text _ _ c.if-eq-2.ensures ∙ c.as_slice-2.ensures

pub returns-then-eq-3-clause-text : goal.returns-then-eq-3-clause-text
unfolding notion_name
returns-then-eq-3-clause-text c = same_text _ _ c.if-eq-3.ensures ∙ c.as_slice-3.ensures

no_name : (word : List ℕ) → (word ≡ codes "efce" → ⊥) → (word ≡ codes "efcce" → ⊥) → (word ≡ codes "nfcce" → ⊥)
    → (notion : Notion) → word ≡ notion_name notion → ⊥
unfolding notion_name
no_name word one two three Efce is = one is
no_name word one two three Efcce is = two is
no_name word one two three Nfcce is = three is

pub returns-clause-none : goal.returns-clause-none
returns-clause-none c = λ none.
    no_name c.args.word.now
    (λ is. other_text _ _ c.if-eq.ensures (is ∙ sym c.as_slice.ensures))
    (λ is. other_text _ _ c.if-eq-2.ensures (is ∙ sym c.as_slice-2.ensures))
    (λ is. other_text _ _ c.if-eq-3.ensures (is ∙ sym c.as_slice-3.ensures))

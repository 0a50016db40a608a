-- Each step's refusal of some bytes excludes those of all other steps, and a step has one.
use Rattle.std.proofs.Common.{◌≡◌, ℕ, List, subst, sym, ◌∙◌, ap}
use Rattle.connected_pairs.specs.Connected.{PairsView}
use Rattle.corr_game.specs.declared.notions.Notion.{Notion}
use Rattle.corr_game.specs.Game.{GameView}
use Rattle.efg_lines.specs.File.{FileView}
use Rattle.efg_lines.specs.FileTokens.{IsFileOf, StopsAt}
use Rattle.efg_lines.proofs.SyntaxPlace.{no_file_there, one_place}
use Rattle.efg_reader.specs.RawGame.{RawGameView}
use Rattle.report_form.specs.declared.refusals.Refusal.{Refusal}
use Rattle.report_form.specs.declared.refusals.Refusal.TheVariants.{Syntax}
use Rattle.corr_run.specs.FirstRefusal.{IsFirstRefusal, IsGameFor, IsOfFile, IsOfLines, IsOfRecall, IsOfScales, IsOfSizes, IsOfTriangle}
use Rattle.corr_run.specs.FirstRefusal.IsFirstRefusal.{of_file, of_sizes}
use Rattle.corr_run.specs.FirstRefusal.IsOfFile.{no_file, by_lines, by_scales, by_recall, by_triangle}
use Rattle.corr_run.specs.GameOfFile.{IsGameOfBytes, SayGame, SayRecalled, SayScaled}
use Rattle.run_laws.proofs.OneFileRefused.{no_lines_refusal, one_lines_refusal}
use Rattle.run_laws.proofs.OneGameScaled.{no_scales_refusal, one_scaled, one_scales_refusal}
use Rattle.run_laws.proofs.OnePairs.{one_recalled}
use Rattle.run_laws.proofs.OneRecall.{no_recall_refusal, one_recall_refusal}
use Rattle.run_laws.proofs.OneSize.{no_size, one_size}
use Rattle.run_laws.proofs.OneTriangle.{no_triangle_refusal, one_triangle_refusal}

module _ (bytes : List ℕ) where
  no_recall : (g h : GameView) (p : PairsView) (refusal : Refusal) → SayRecalled bytes g p → SayScaled bytes h → IsOfRecall h refusal → ⊥
  no_recall g h p refusal x y of =
      let same = one_scaled bytes h g y x.say in
      no_recall_refusal g x.rules x.recall refusal (subst (λ (k : GameView). IsOfRecall k refusal) same of)

  -- bytes whose game's players recall have no refusal but of a triangle
  pub recalled_or_triangle : (g : GameView) (p : PairsView) (refusal : Refusal) → SayRecalled bytes g p → IsOfFile bytes refusal
      → (q : PairsView) × SayRecalled bytes g q × IsOfTriangle g q refusal
  recalled_or_triangle g p refusal x (no_file at stops is) = absurd (no_file_there bytes at stops x.say.say.read.has_file)
  recalled_or_triangle g p refusal x (by_lines file read of) = absurd (no_lines_refusal bytes x.say.raw file refusal x.say.say read of)
  recalled_or_triangle g p refusal x (by_scales raw say of) = absurd (no_scales_refusal bytes g raw refusal x.say say of)
  recalled_or_triangle g p refusal x (by_recall h say of) = absurd (no_recall g h p refusal x say of)
  recalled_or_triangle g p refusal x (by_triangle h q say of) =
      let same = one_scaled bytes h g say.say x.say in
      (q, subst (λ (k : GameView). SayRecalled bytes k q) same say, subst (λ (k : GameView). IsOfTriangle k q refusal) same of)

  -- a refusal of each step before that, and any other
  syntax_alone : (at : ℕ) (b : Refusal) → StopsAt bytes at → IsOfFile bytes b → Syntax at ≡ b
  syntax_alone at b stops (no_file other more is) = ap (λ (n : ℕ). Syntax n) (one_place bytes at other stops more) ∙ sym is
  syntax_alone at b stops (by_lines file read of) = absurd (no_file_there bytes at stops read.has_file)
  syntax_alone at b stops (by_scales raw say of) = absurd (no_file_there bytes at stops say.read.has_file)
  syntax_alone at b stops (by_recall g say of) = absurd (no_file_there bytes at stops say.say.read.has_file)
  syntax_alone at b stops (by_triangle g p say of) = absurd (no_file_there bytes at stops say.say.say.read.has_file)

  lines_alone : (file : FileView) (a b : Refusal) → IsFileOf bytes file → IsOfLines file a → IsOfFile bytes b → a ≡ b
  lines_alone file a b read of (no_file at stops is) = absurd (no_file_there bytes at stops read.has_file)
  lines_alone file a b read of (by_lines other more too) = one_lines_refusal bytes file other a b read of more too
  lines_alone file a b read of (by_scales raw say too) = absurd (no_lines_refusal bytes raw file a say read of)
  lines_alone file a b read of (by_recall g say too) = absurd (no_lines_refusal bytes say.raw file a say.say read of)
  lines_alone file a b read of (by_triangle g p say too) = absurd (no_lines_refusal bytes say.say.raw file a say.say.say read of)

  scales_alone : (raw : RawGameView) (a b : Refusal) → SayGame bytes raw → IsOfScales raw a → IsOfFile bytes b → a ≡ b
  scales_alone raw a b say of (no_file at stops is) = absurd (no_file_there bytes at stops say.read.has_file)
  scales_alone raw a b say of (by_lines file read too) = absurd (no_lines_refusal bytes raw file b say read too)
  scales_alone raw a b say of (by_scales other more too) = one_scales_refusal bytes raw other a b say of more too
  scales_alone raw a b say of (by_recall g more too) = absurd (no_scales_refusal bytes g raw a more say of)
  scales_alone raw a b say of (by_triangle g p more too) = absurd (no_scales_refusal bytes g raw a more.say say of)

  recall_alone : (g : GameView) (a b : Refusal) → SayScaled bytes g → IsOfRecall g a → IsOfFile bytes b → a ≡ b
  recall_alone g a b say of (no_file at stops is) = absurd (no_file_there bytes at stops say.say.read.has_file)
  recall_alone g a b say of (by_lines file read too) = absurd (no_lines_refusal bytes say.raw file b say.say read too)
  recall_alone g a b say of (by_scales raw more too) = absurd (no_scales_refusal bytes g raw b say more too)
  recall_alone g a b say of (by_recall h more too) =
      one_recall_refusal g a b of (subst (λ (k : GameView). IsOfRecall k b) (one_scaled bytes h g more say) too)
  recall_alone g a b say of (by_triangle h p more too) = absurd (no_recall h g p a more say of)

-- what is told of a triangle among some pairs of the game is told of any
same_triangle : (bytes : List ℕ) (g : GameView) (p q : PairsView) (refusal : Refusal) → SayRecalled bytes g p → SayRecalled bytes g q
    → IsOfTriangle g q refusal → IsOfTriangle g p refusal
same_triangle bytes g p q refusal x y of =
    subst (λ (r : PairsView). IsOfTriangle g r refusal) (sym (one_recalled bytes g g p q x y).1) of

pub refused_once : (bytes : List ℕ) (a b : Refusal) → IsOfFile bytes a → IsOfFile bytes b → a ≡ b
refused_once bytes a b (no_file at stops is) y = is ∙ syntax_alone bytes at b stops y
refused_once bytes a b (by_lines file read of) y = lines_alone bytes file a b read of y
refused_once bytes a b (by_scales raw say of) y = scales_alone bytes raw a b say of y
refused_once bytes a b (by_recall g say of) y = recall_alone bytes g a b say of y
refused_once bytes a b (by_triangle g p say of) y =
    let other = recalled_or_triangle bytes g p b say y in
    one_triangle_refusal g p a b of (same_triangle bytes g p other.0 b say other.1 other.2)

pub accepted_alone : (bytes : List ℕ) (g : GameView) (p : PairsView) (refusal : Refusal) → IsGameOfBytes bytes g p
    → IsOfFile bytes refusal → ⊥
accepted_alone bytes g p refusal game of =
    let other = recalled_or_triangle bytes g p refusal game.say of in
    no_triangle_refusal g p game.no_triangle refusal (same_triangle bytes g p other.0 refusal game.say other.1 other.2)

-- what is told of sizes of one game of the bytes is told of any
same_sizes : (bytes : List ℕ) (notions : List Notion) (g h : GameView) (p q : PairsView) (refusal : Refusal) → SayRecalled bytes g p
    → SayRecalled bytes h q → IsOfSizes h q notions refusal → IsOfSizes g p notions refusal
same_sizes bytes notions g h p q refusal x y of =
    let same = one_recalled bytes g h p q x y in
    let here : IsOfSizes g q notions refusal = subst (λ (k : GameView). IsOfSizes k q notions refusal) (sym same.0) of in
    subst (λ (r : PairsView). IsOfSizes g r notions refusal) (sym same.1) here

pub first_once : (notions : List Notion) (bytes : List ℕ) (a b : Refusal) → IsFirstRefusal notions bytes a
    → IsFirstRefusal notions bytes b → a ≡ b
first_once notions bytes a b (of_file x) (of_file y) = refused_once bytes a b x y
first_once notions bytes a b (of_file x) (of_sizes g p game sizes) = absurd (accepted_alone bytes g p a game x)
first_once notions bytes a b (of_sizes g p game sizes) (of_file y) = absurd (accepted_alone bytes g p b game y)
first_once notions bytes a b (of_sizes g p game sizes) (of_sizes h q more others) =
    one_size g p notions a b sizes (same_sizes bytes notions g h p q b game.say more.say others)

pub fitting_alone : (notions : List Notion) (bytes : List ℕ) (g : GameView) (p : PairsView) (refusal : Refusal)
    → IsGameFor notions bytes g p → IsFirstRefusal notions bytes refusal → ⊥
fitting_alone notions bytes g p refusal game (of_file of) = accepted_alone bytes g p refusal game.game of
fitting_alone notions bytes g p refusal game (of_sizes h q more sizes) =
    no_size g p notions refusal game.fit (same_sizes bytes notions g h p q refusal game.game.say more.say sizes)

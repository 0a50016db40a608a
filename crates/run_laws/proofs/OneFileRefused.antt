-- Bytes are one file, so their lines keep all rules or break a first one, and not both.
use Rattle.std.proofs.Common.{◌≡◌, ℕ, List, Ok, ap, subst, sym, ◌∙◌}
use Rattle.efg_lines.specs.File.{FileView}
use Rattle.efg_lines.specs.FileTokens.{IsFileOf}
use Rattle.efg_lines.proofs.OneFile.{one_file}
use Rattle.efg_reader.specs.FileGame.{game_of}
use Rattle.efg_reader.specs.FirstRefusal.{file_lines}
use Rattle.efg_reader.specs.RawGame.{RawGameView}
use Rattle.efg_reader.specs.Told.{Told}
use Rattle.report_form.specs.declared.refusals.Refusal.{Refusal}
use Rattle.corr_run.specs.FirstRefusal.{IsOfLines}
use Rattle.corr_run.specs.GameOfFile.{SayGame}

of_same : (bytes : List ℕ) (file other : FileView) (refusal : Refusal) → IsFileOf bytes file → IsFileOf bytes other → IsOfLines other refusal → IsOfLines file refusal
of_same bytes file other refusal x y of = subst (λ (f : FileView). IsOfLines f refusal) (sym (one_file bytes file other x y)) of

same_refusal : (file : FileView) (a b : Refusal) → IsOfLines file a → IsOfLines file b → a ≡ b
same_refusal file a b x y =
    let same : x.broken ≡ y.broken = cc (x.first, y.first) in
    cc (same, x.named, y.named)

pub no_lines_refusal : (bytes : List ℕ) (raw : RawGameView) (file : FileView) (refusal : Refusal) → SayGame bytes raw → IsFileOf bytes file → IsOfLines file refusal → ⊥
no_lines_refusal bytes raw file refusal say read of =
    let here = of_same bytes say.file file refusal say.read read of in
    absurd (cc (say.no_refusal, here.first))

pub one_lines_refusal : (bytes : List ℕ) (file other : FileView) (a b : Refusal) → IsFileOf bytes file → IsOfLines file a → IsFileOf bytes other → IsOfLines other b → a ≡ b
one_lines_refusal bytes file other a b x of y more = same_refusal file a b of (of_same bytes file other b x y more)

-- and say one game
pub one_game : (bytes : List ℕ) (a b : RawGameView) → SayGame bytes a → SayGame bytes b → a ≡ b
one_game bytes a b x y =
    let file : x.file ≡ y.file = one_file bytes x.file y.file x.read y.read in
    let here : file_lines y.file ≡ Ok x.said.lines = subst (λ (f : FileView). file_lines f ≡ Ok x.said.lines) file x.said.are_lines in
    let lines : x.said.lines ≡ y.said.lines = cc (here, y.said.are_lines) in
    x.said.game_is ∙ ap (λ (ls : List Told). game_of ls) lines ∙ sym y.said.game_is

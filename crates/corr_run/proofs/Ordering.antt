-- Blocks of selected notions stand in order.
use Rattle.std.proofs.Common.{◌≡◌, ℕ, ◌+◌, ◌≤◌, suc, Bool, true, false, List, [], ◌∷◌, length, arith, ap, sym, ◌∙◌}
use Rattle.std.proofs.lemmas.List.{length-map}
use Rattle.corr_game.specs.declared.notions.Notion.{Notion}
use Rattle.report_form.specs.declared.reports.NamedBlock.{NamedBlock}
use Rattle.report_form.specs.Ranges.{InOrderFrom, notion_number}
use Rattle.command_words.specs.declared.commands.Notions.{Notions}
use Rattle.corr_run.specs.Reports.{AreWhole, notions_of}
use Rattle.command_words.specs.Selection.{SelectsSome, selected}

-- notions in order, from this number on
abbrev pub AscendFrom : ℕ → List Notion → Type 0
AscendFrom low [] = Unit {0}
AscendFrom low (notion ∷ rest) = (low ≤ notion_number notion) × AscendFrom (notion_number notion + 1) rest

ascends : (efce efcce nfcce : Bool) → AscendFrom 0 (selected (record { efce = efce; efcce = efcce; nfcce = nfcce }))
ascends true true true = (omega arith, (omega arith, (omega arith, tt)))
ascends true true false = (omega arith, (omega arith, tt))
ascends true false true = (omega arith, (omega arith, tt))
ascends true false false = (omega arith, tt)
ascends false true true = (omega arith, (omega arith, tt))
ascends false true false = (omega arith, tt)
ascends false false true = (omega arith, tt)
ascends false false false = tt

ordered : (low : ℕ) (blocks : List NamedBlock) → AreWhole blocks → AscendFrom low (notions_of blocks) → InOrderFrom low blocks
ordered low [] whole ascends = tt
ordered low (named ∷ rest) whole ascends = (ascends.0, whole 0 named (omega arith), ordered (notion_number named.notion + 1) rest (λ k d h. whole (suc k) d (omega (arith, h))) ascends.1)

pub in_order : (notions : Notions) (blocks : List NamedBlock) → AreWhole blocks → notions_of blocks ≡ selected notions → InOrderFrom 0 blocks
in_order notions blocks whole same = ordered 0 blocks whole (rw same (ascends notions.efce notions.efcce notions.nfcce))

pub some_block : (notions : Notions) (blocks : List NamedBlock) → SelectsSome notions → notions_of blocks ≡ selected notions → 1 ≤ length blocks
some_block notions blocks some same =
    let count : length (notions_of blocks) ≡ length blocks = length-map blocks (λ (named : NamedBlock). named.notion) in
    omega (arith, some, sym count ∙ ap (λ (ns : List Notion). length ns) same)

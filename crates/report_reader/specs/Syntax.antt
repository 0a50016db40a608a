-- Which report some bytes begin with, and the place where they leave the format (this project's format).
use Rattle.std.specs.Prelude.{◌≡◌, ℕ, List, [], ◌∷◌, ◌++◌, length}
use Rattle.std.specs.List.{concat}
use Rattle.report_form.specs.Ranges.{IsReport}
use Rattle.report_form.specs.View.{ReportView}
use Rattle.report_text.specs.ReportText.{report_text}
use Rattle.report_reader.specs.Pieces.{pieces}

-- a report in its ranges whose text is a front of the bytes, of this length
pub record IsReadFrom (bytes : List ℕ) (report : ReportView) (count : ℕ) : Type 0 where
  pub ranges : IsReport report
  pub behind : List ℕ
  pub front : bytes ≡ report_text report ++ behind
  pub length_is : count ≡ length (report_text report)

-- the pieces of some report's text begin with these
pub record BeginsReport (these : List (List ℕ)) : Type 0 where
  pub report : ReportView
  pub ranges : IsReport report
  pub others : List (List ℕ)
  pub go_on : pieces (report_text report) ≡ these ++ others

-- with the first of the pieces that are left no report goes on; or none is left
abbrev pub StopsBehind : List (List ℕ) → List (List ℕ) → Type 0
StopsBehind before [] = Unit {0}
StopsBehind before (piece ∷ after) = BeginsReport (before ++ piece ∷ []) → ⊥

-- No report is read from the bytes. The place is the beginning of the first piece with which no report goes on; where there is
-- no such piece, it is the number of bytes.
pub record IsSyntaxAt (bytes : List ℕ) (at : ℕ) : Type 0 where
  pub none : (report : ReportView) (count : ℕ) → IsReadFrom bytes report count → ⊥
  pub before : List (List ℕ)
  pub left : List (List ℕ)
  pub cut : pieces bytes ≡ before ++ left
  pub begins : BeginsReport before
  pub stops : StopsBehind before left
  pub at_place : at ≡ length (concat before)

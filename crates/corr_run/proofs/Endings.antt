-- How a run's ending follows from what its calls did: each lemma is one way through the top call.
use Rattle.std.proofs.Common.{ℕ, ◌^◌, ◌<◌, ◌≤◌, List, [], ◌++◌, None, Some, refl, sym, ap, ◌∙◌, inl, inr, length, append-nil, length-append, arith}
use Rattle.std.proofs.lemmas.Bool.{cases_lt}
use Rattle.std.specs.declared.option.Option.{Option}
use Rattle.std.proofs.KnownBytes.{Keeps-refl}
use Rattle.std.specs.Io.KnownBytes.{Consumes, IsAtEnd}
use Rattle.command_words.specs.declared.commands.Notions.{Notions}
use Rattle.corr_run.specs.declared.status.Status.{Status}
use Rattle.corr_run.specs.declared.status.Status.TheVariants.{ReadFault, NoMemory}
use Rattle.corr_run.specs.CheckAnswer.{CheckAnswer}
use Rattle.corr_run.specs.CheckAnswer as checked
use Rattle.corr_run.specs.SolveAnswer.{SolveAnswer, too_long, one_node, refused, reported}
use Rattle.corr_run.specs.Ending.{Ending, written, unread, no_memory, IsKnown, Ends, Writes}

-- what a source had left is what it gave and what it has left now, where it tells
before_read : Option (List ℕ) → List ℕ → List ℕ
before_read None bytes = bytes
before_read (Some left) bytes = left

known_before : (left : Option (List ℕ)) (bytes : List ℕ) → IsKnown left (before_read left bytes)
unfolding before_read
known_before None bytes = tt
known_before (Some left) bytes = refl

-- a source that is at its end had left what it gave
known_whole : (left rest : Option (List ℕ)) (bytes : List ℕ) → Consumes left rest bytes → IsAtEnd rest → IsKnown left bytes
known_whole None rest bytes p end = tt
known_whole (Some left) None bytes p end = absurd p
known_whole (Some left) (Some rest) bytes p end = sym (p ∙ ap (λ l. bytes ++ l) end ∙ append-nil bytes)

-- it had left at least what it gave
no_shorter : (left rest : Option (List ℕ)) (bytes : List ℕ) → Consumes left rest bytes → length bytes ≤ length (before_read left bytes)
unfolding before_read
no_shorter None rest bytes p = omega arith
no_shorter (Some left) None bytes p = absurd p
no_shorter (Some left) (Some rest) bytes p = rw (p, length-append) (omega arith)

module _ (IsAnswer : List ℕ → List ℕ → Status → Type 0) where
  pub ends_unread : (left before : Option (List ℕ)) → Ends IsAnswer left before before ReadFault
  ends_unread left before = record { input = before_read left []; known = known_before left []; ending = unread refl (Keeps-refl before) }

  pub ends_no_memory : (left before : Option (List ℕ)) → Ends IsAnswer left before before NoMemory
  ends_no_memory left before = record { input = before_read left []; known = known_before left []; ending = no_memory refl (Keeps-refl before) }

  -- the answer to what was read, all of it or enough to see that it is too long
  pub ends_written : (left rest before after : Option (List ℕ)) (bytes text : List ℕ) (kind status : Status) (limit : ℕ)
      → Consumes left rest bytes → (length bytes ≤ limit → IsAtEnd rest)
      → ((input : List ℕ) → limit < length bytes → limit < length input → IsAnswer bytes text kind → IsAnswer input text kind)
      → IsAnswer bytes text kind → Writes before after text kind status → Ends IsAnswer left before after status
  ends_written left rest before after bytes text kind status limit read whole longer answer writes = elim (cases_lt limit (length bytes)) [
    | inl long ↦
        let more : limit < length (before_read left bytes) = omega (arith, no_shorter left rest bytes read) in
        record { input = before_read left bytes; known = known_before left bytes; ending = written text kind (longer (before_read left bytes) long more answer) writes }
    | inr short ↦ record { input = bytes; known = known_whole left rest bytes read (whole short); ending = written text kind answer writes }
  ]

  -- an answer for which nothing was read
  pub ends_at_once : (left before after : Option (List ℕ)) (text : List ℕ) (kind status : Status)
      → ((input : List ℕ) → IsAnswer input text kind) → Writes before after text kind status → Ends IsAnswer left before after status
  ends_at_once left before after text kind status answer writes = record {
    input = before_read left [];
    known = known_before left [];
    ending = written text kind (answer (before_read left [])) writes;
  }

-- a run whose answers are answers of another kind ends as one of that kind
pub ending_of : {P Q : List ℕ → Status → Type 0} {before after : Option (List ℕ)} {status : Status} → ((text : List ℕ) (kind : Status) → P text kind → Q text kind) → Ending P before after status → Ending Q before after status
ending_of f (written text kind answer writes) = written text kind (f text kind answer) writes
ending_of f (unread is keeps) = unread is keeps
ending_of f (no_memory is keeps) = no_memory is keeps

pub ends_of : {P Q : List ℕ → List ℕ → Status → Type 0} {left before after : Option (List ℕ)} {status : Status}
    → ((input text : List ℕ) (kind : Status) → P input text kind → Q input text kind) → Ends P left before after status → Ends Q left before after status
ends_of f ends = record { input = ends.input; known = ends.known; ending = ending_of (f ends.input) ends.ending }

-- what is too long stays so in a longer input
pub too_long_still : {notions : Notions} {bytes input text : List ℕ} {kind : Status} → 2 ^ 22 < length bytes → 2 ^ 22 < length input → SolveAnswer notions bytes text kind → SolveAnswer notions input text kind
too_long_still long longer (too_long h is_text is_status) = too_long longer is_text is_status
too_long_still long longer (one_node h pay form is_text is_status) = absurd (omega arith)
too_long_still long longer (refused general refusal first is_text is_status) = absurd (omega (arith, general.short))
too_long_still long longer (reported general report on is_text has_status) = absurd (omega (arith, general.short))

pub report_too_long_still : {bytes input text : List ℕ} {kind : Status} → 2 ^ 30 < length bytes → 2 ^ 30 < length input → CheckAnswer bytes text kind → CheckAnswer input text kind
report_too_long_still long longer (checked.too_long h is_text is_status) = checked.too_long longer is_text is_status
report_too_long_still long longer (checked.no_report h at within is_text is_status) = absurd (omega arith)
report_too_long_still long longer (checked.refused h place report read refusal first is_text is_status) = absurd (omega arith)
report_too_long_still long longer (checked.judged h place report read g p game given is_verdict is_text is_status) = absurd (omega arith)

-- an ending for which nothing was read
pub ends_made : (P : List ℕ → Status → Type 0) (left before after : Option (List ℕ)) (status : Status) → Ending P before after status → Ends (λ input. P) left before after status
ends_made P left before after status ending = record { input = before_read left []; known = known_before left []; ending = ending }

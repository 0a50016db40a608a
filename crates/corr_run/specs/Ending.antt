-- How a run ends: its answer was written whole, or a fault or want of memory cut it short.
use Rattle.std.specs.Prelude.{◌≡◌, ℕ, List, Option, None, Some, ⊤}
use Rattle.std.specs.Io.KnownBytes.{Appends, Keeps}
use Rattle.corr_port.specs.Known.{AppendsFront}
use Rattle.corr_run.specs.declared.status.Status.{Status}
use Rattle.corr_run.specs.declared.status.Status.TheVariants.{Solved, Written, Yes, No, Refused, TooWide, Usage, NoMemory, ReadFault, WriteFault}

-- the status goes with a text that was written whole
abbrev pub IsWhole : Status → Type 0
IsWhole Solved = ⊤
IsWhole Written = ⊤
IsWhole Yes = ⊤
IsWhole No = ⊤
IsWhole Refused = ⊤
IsWhole TooWide = ⊤
IsWhole Usage = ⊤
IsWhole NoMemory = ⊥
IsWhole ReadFault = ⊥
IsWhole WriteFault = ⊥

-- what a sink held before and after a text was to be written, with the status of the whole text and the one that came
pub data Writes (before after : Option (List ℕ)) (text : List ℕ) (status result : Status) : Type 0 where
  whole : result ≡ status → Appends before after text → Writes before after text status result
  cut : result ≡ WriteFault → AppendsFront before after text → Writes before after text status result
  no_room : result ≡ NoMemory → AppendsFront before after text → Writes before after text status result

-- what a sink held before and after a run whose answers are the texts with their statuses; one constructor a case
pub data Ending (IsAnswer : List ℕ → Status → Type 0) (before after : Option (List ℕ)) (status : Status) : Type 0 where
  written : (text : List ℕ) (kind : Status) → IsAnswer text kind → Writes before after text kind status → Ending IsAnswer before after status
  unread : status ≡ ReadFault → Keeps before after → Ending IsAnswer before after status
  no_memory : status ≡ NoMemory → Keeps before after → Ending IsAnswer before after status

-- these are the bytes that the source had left, where it tells
abbrev pub IsKnown : Option (List ℕ) → List ℕ → Type 0
IsKnown None input = ⊤
IsKnown (Some left) input = input ≡ left

-- the run ended so over the whole of what the source had left
pub record Ends (IsAnswer : List ℕ → List ℕ → Status → Type 0) (left before after : Option (List ℕ)) (status : Status) : Type 0 where
  pub input : List ℕ
  pub known : IsKnown left input
  pub ending : Ending (IsAnswer input) before after status

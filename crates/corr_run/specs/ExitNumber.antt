-- The number that a process ends with.
use Rattle.std.specs.Prelude.{ℕ}
use Rattle.corr_run.specs.declared.status.Status.{Status}
use Rattle.corr_run.specs.declared.status.Status.TheVariants.{Solved, Written, Yes, No, Refused, TooWide, Usage, NoMemory, ReadFault, WriteFault}

abbrev pub exit_number : Status → ℕ
exit_number Solved = 0
exit_number Written = 0
exit_number Yes = 0
exit_number No = 1
exit_number Refused = 2
exit_number TooWide = 3
exit_number Usage = 64
exit_number NoMemory = 70
exit_number ReadFault = 72
exit_number WriteFault = 74

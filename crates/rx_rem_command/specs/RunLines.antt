-- The status of each end of a run, and its line.
use Rattle.std.specs.Prelude.{ℕ, List, [], codes}
use Rattle.rx_meaning.specs.declared.outcome.Trap.{Trap}
use Rattle.rx_meaning.specs.declared.outcome.Trap.TheVariants.{Overflow, DivideByZero}
use Rattle.rx_meaning.specs.declared.outcome.End.{End}
use Rattle.rx_meaning.specs.declared.outcome.End.TheVariants as ends
use Rattle.rx_rem_command.specs.declared.status.Status.{Status}
use Rattle.rx_rem_command.specs.declared.status.Status.TheVariants as status
use Rattle.rx_rem_command.specs.Lines.{line_of, status_line}

abbrev pub end_status : End → Status
end_status ends.Ended = status.Done
end_status (ends.Trapped t) = status.Trapped
end_status ends.Running = status.StillRunning
end_status ends.Wrong = status.Wrong

abbrev pub trap_words : Trap → List ℕ
trap_words Overflow = codes "Trapped Overflow"
trap_words DivideByZero = codes "Trapped DivideByZero"

abbrev pub end_line : End → List ℕ
end_line ends.Ended = []
end_line (ends.Trapped t) = line_of (trap_words t)
end_line ends.Running = status_line status.StillRunning
end_line ends.Wrong = status_line status.Wrong

-- What is found for a program that is run, and how far it was written.
use Rattle.std.specs.Prelude.{ℕ, ℤ, ◌⊎◌, List, []}
use Rattle.rx_tree.specs.Plain.{ProgramTree}
use Rattle.rx_meaning.specs.declared.outcome.Outcome.{Outcome}
use Rattle.rx_check.specs.declared.fault.CheckFault.{CheckFault}
use Rattle.rx_check.specs.Passes.{Accepted}
use Rattle.rx_check.specs.Causes.{Causes}
use Rattle.rx_rem_command.specs.declared.status.Status.{Status}
use Rattle.rx_rem_command.specs.declared.status.Status.TheVariants.{OutOfMemory, WriteFault}
use Rattle.rx_rem_command.specs.Lines.{status_line}
use Rattle.rx_rem_command.specs.CheckLines.{line_of_check, status_of_check}
use Rattle.rx_rem_command.specs.RunLines.{end_status, end_line}
use Rattle.rx_engine.specs.Runs.{Does}
use Rattle.rx_rem_command.specs.Replies.{Stream, HasAll, IsCut, Reports}

-- what it does, why it is not accepted, or want of memory
pub data FoundRun (p : ProgramTree) (turns : ℕ) (input : List ℤ) : Status → List ℕ → List ℕ → Type 0 where
  did : (o : Outcome) → Accepted p → Does p turns input o → FoundRun p turns input (end_status o.end) o.printed (end_line o.end)
  not_passed : (f : CheckFault) → Causes f p → FoundRun p turns input (status_of_check f) [] (line_of_check p f)
  no_memory_left : FoundRun p turns input OutOfMemory [] (status_line OutOfMemory)

-- what was printed was written, and then the line; or it was cut
abbrev pub Tells : Stream → Stream → Stream → Stream → Status → List ℕ → List ℕ → Status → Type 0
Tells out out' err err' status outs errs result =
    (HasAll out out' outs × Reports err err' status errs result)
    ⊎ (IsCut out out' outs × Reports err err' WriteFault (status_line WriteFault) result)

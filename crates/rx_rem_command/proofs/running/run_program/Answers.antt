-- What is found is what the program does, or its fault.
use Rattle.std.proofs.Common.{[], inl, inr}
use Rattle.rx_tree.specs.PlainOf.{plain-Program}
use Rattle.rx_rem_command.specs.declared.status.Status.TheVariants.{OutOfMemory}
use Rattle.rx_rem_command.specs.Lines.{status_line}
use Rattle.rx_rem_command.specs.CheckLines.{line_of_check, status_of_check}
use Rattle.rx_rem_command.specs.RunReplies.{not_passed, no_memory_left}
use Rattle.rx_rem_command.proofs.Replies.{reported}
use Rattle.rx_rem_command.proofs.running.run_program.Goals as goal

pub returns-in-Err : goal.returns-in-Err
returns-in-Err g c =
    elim c.refuse_program.ensures [
      | inl r ↦ (
        status_of_check c.in-Err.fault,
        [],
        line_of_check (plain-Program c.args.program.now) c.in-Err.fault,
        not_passed c.in-Err.fault c.in-Err.ensures.fault,
        reported _ _ _ _ c.refuse_program.result _ r,
      )
      | inr r ↦ (OutOfMemory, [], status_line OutOfMemory, no_memory_left, reported _ _ _ OutOfMemory c.refuse_program.result _ r)
    ]

pub returns-in-Ok : goal.returns-in-Ok
returns-in-Ok g c = c.run_checked-status.ensures (plain-Program c.args.program.now) c.in-Ok.ensures.checked

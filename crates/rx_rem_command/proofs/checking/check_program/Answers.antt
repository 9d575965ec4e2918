-- What is found is that the program passes, or its fault, and the reply writes it.
use Rattle.std.proofs.Common.{[], inl, inr}
use Rattle.std.specs.Prelude.{codes}
use Rattle.rx_tree.specs.PlainOf.{plain-Program}
use Rattle.rx_rem_command.specs.declared.status.Status.TheVariants.{Done, OutOfMemory}
use Rattle.rx_rem_command.specs.Lines.{status_line}
use Rattle.rx_rem_command.specs.CheckLines.{line_of_check, status_of_check}
use Rattle.rx_rem_command.specs.Defined.{passed}
use Rattle.rx_rem_command.specs.Replies.{judged, no_space}
use Rattle.rx_rem_command.proofs.Replies.{delivered, reported}
use Rattle.rx_rem_command.proofs.CheckLemmas.{found_faulty}
use Rattle.rx_rem_command.proofs.checking.check_program.Goals as goal

pub returns-in-Ok : goal.returns-in-Ok
returns-in-Ok g c = (
  Done,
  codes "accepted\n",
  [],
  judged (passed (c.in-Ok.checked.front.typed, record { front = c.in-Ok.ensures.checked.front.accepted; borrows = c.in-Ok.ensures.checked.borrows })),
  delivered _ _ _ _ Done c.deliver.result (codes "accepted\n") c.deliver.ensures,
)

pub returns-in-Err : goal.returns-in-Err
returns-in-Err g c = let p = plain-Program c.args.program.now in
    elim c.refuse_program.ensures [
      | inl r ↦ (
        status_of_check c.in-Err.fault,
        [],
        line_of_check p c.in-Err.fault,
        found_faulty p c.in-Err.fault c.in-Err.ensures.fault,
        reported _ _ _ _ c.refuse_program.result _ r,
      )
      | inr r ↦ (OutOfMemory, [], status_line OutOfMemory, no_space, reported _ _ _ OutOfMemory c.refuse_program.result _ r)
    ]

-- What is found is what is found for the accepted text, or a fault of its program.
use Rattle.std.proofs.Common.{[], inl, inr}
use Rattle.rx_tree.specs.PlainOf.{plain-Program}
use Rattle.rx_rem_command.specs.declared.status.Status.TheVariants.{OutOfMemory}
use Rattle.rx_rem_command.specs.Lines.{status_line}
use Rattle.rx_rem_command.specs.CheckLines.{line_of_check, status_of_check}
use Rattle.rx_rem_command.specs.Replies.{no_room}
use Rattle.rx_rem_command.proofs.Replies.{reported}
use Rattle.rx_rem_command.proofs.Generations.{told_refused}
use Rattle.rx_rem_command.proofs.generating.generate_program.Goals as goal

pub check-requires : goal.check-requires
check-requires g c = c.parsed_programs_are_numbered.ensures c.args.text.now (plain-Program c.args.program.now) c.requires.parses c.requires.short

pub returns-in-Err : goal.returns-in-Err
returns-in-Err g c = let p = plain-Program c.args.program.now in
    elim c.refuse_program.ensures [
      | inl r ↦ (
        status_of_check c.in-Err.fault,
        [],
        line_of_check p c.in-Err.fault,
        told_refused _ _ _ p c.in-Err.fault c.requires.parses c.in-Err.ensures.fault,
        reported _ _ _ _ c.refuse_program.result _ r,
      )
      | inr r ↦ (OutOfMemory, [], status_line OutOfMemory, no_room, reported _ _ _ OutOfMemory c.refuse_program.result _ r)
    ]

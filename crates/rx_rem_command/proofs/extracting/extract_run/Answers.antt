-- What is found is the extraction's result, and the reply writes it.
use Rattle.std.proofs.Common.{[], inl, inr}
use Rattle.rx_tree.specs.PlainOf.{plain-Program}
use Rattle.rx_rem_command.specs.declared.status.Status.TheVariants.{Done, OutOfMemory}
use Rattle.rx_rem_command.specs.Lines.{status_line}
use Rattle.rx_rem_command.specs.ExtractionLines.{line_of_extraction, status_of_extraction}
use Rattle.rx_rem_command.specs.Replies.{no_room}
use Rattle.rx_rem_command.proofs.Replies.{delivered, reported}
use Rattle.rx_rem_command.proofs.Extractions.{found_answer, found_fault}
use Rattle.rx_rem_command.proofs.extracting.extract_run.Goals as goal

pub returns-in-Ok : goal.returns-in-Ok
returns-in-Ok g c = (
  Done,
  c.as_str.result.now,
  [],
  found_answer _ _ c.extract_checked.result c.in-Ok.answer c.as_str.result.now c.extract_checked.ensures.verdict c.in-Ok.is c.as_str.ensures,
  delivered _ _ _ _ Done c.deliver.result c.as_str.result.now c.deliver.ensures,
)

pub returns-in-Err : goal.returns-in-Err
returns-in-Err g c = let p = plain-Program c.args.program.now in
    elim c.refuse.ensures [
      | inl r ↦ (
        status_of_extraction c.in-Err.fault,
        [],
        line_of_extraction p c.in-Err.fault,
        found_fault _ _ c.extract_checked.result c.in-Err.fault p c.requires.parses c.extract_checked.ensures.verdict c.in-Err.is,
        reported _ _ _ _ c.refuse.result _ r,
      )
      | inr r ↦ (OutOfMemory, [], status_line OutOfMemory, no_room, reported _ _ _ OutOfMemory c.refuse.result _ r)
    ]

-- What is found is what both do, or want of memory, and the reply writes it.
use Rattle.std.proofs.Common.{[], List, ℕ, sym, subst}
use Rattle.rx_rem_command.specs.declared.status.Status.TheVariants.{Done, OutOfMemory}
use Rattle.rx_rem_command.specs.Lines.{status_line}
use Rattle.rx_rem_command.specs.GeneratedReplies.{FoundBoth, found, no_memory_for_both}
use Rattle.rx_rem_command.proofs.Replies.{delivered, reported}
use Rattle.rx_rem_command.proofs.generating.tell_both.Goals as goal

pub returns-in-Ok : goal.returns-in-Ok
returns-in-Ok g c p q h x = (
  Done,
  c.as_str.result.now,
  [],
  subst (λ (t : List ℕ). FoundBoth c.args.count p q c.args.text.now c.args.answer.now Done t []) (sym c.as_str.ensures) (found c.in-Ok.told (c.in-Ok.ensures p q h x)),
  delivered _ _ _ _ Done c.deliver.result c.as_str.result.now c.deliver.ensures,
)

pub returns-in-Err : goal.returns-in-Err
returns-in-Err g c p q h x =
    (OutOfMemory, [], status_line OutOfMemory, no_memory_for_both, reported _ _ _ OutOfMemory c.report_name.result _ c.report_name.ensures)

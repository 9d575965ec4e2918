-- What is found is what the program does, or want of memory.
use Rattle.std.proofs.Common.{[]}
use Rattle.rx_rem_command.specs.declared.status.Status.TheVariants.{OutOfMemory}
use Rattle.rx_rem_command.specs.Lines.{status_line}
use Rattle.rx_rem_command.specs.RunLines.{end_status, end_line}
use Rattle.rx_rem_command.specs.RunReplies.{did, no_memory_left}
use Rattle.rx_rem_command.proofs.Replies.{reported}
use Rattle.rx_rem_command.proofs.RunLemmas.{told}
use Rattle.rx_rem_command.proofs.running.run_checked.Goals as goal

pub returns-in-Ok : goal.returns-in-Ok
returns-in-Ok g c p h = let o = c.in-Ok.outcome in (
  end_status o.end,
  o.printed,
  end_line o.end,
  did o (c.args.checked.now.front.typed, record { front = h.front.accepted; borrows = h.borrows }) (c.in-Ok.ensures p h),
  told _ _ _ _ _ c.tell.result _ _ c.tell.ensures,
)

pub returns-in-Err : goal.returns-in-Err
returns-in-Err g c p h = (OutOfMemory, [], status_line OutOfMemory, no_memory_left, reported _ _ _ OutOfMemory c.report_name.result _ c.report_name.ensures)

-- What is found is what is found for the text that is made.
use Rattle.std.proofs.Common.{[], List, ℕ, ◌≤◌, length, ◌∙◌, sym, subst}
use Rattle.rx_rem_command.specs.declared.status.Status.TheVariants.{OutOfMemory}
use Rattle.rx_rem_command.specs.Lines.{status_line}
use Rattle.rx_rem_command.specs.Replies.{no_room}
use Rattle.rx_rem_command.proofs.Replies.{reported}
use Rattle.rx_rem_command.proofs.Generations.{of_generated}
use Rattle.rx_rem_command.proofs.generating.generate.Goals as goal

pub generate_from-requires-clause-short : goal.generate_from-requires-clause-short
generate_from-requires-clause-short g c = subst (λ (t : List ℕ). length t ≤ 1048576) (sym c.as_str.ensures) c.in-Ok.ensures.short

pub returns-in-Ok : goal.returns-in-Ok
returns-in-Ok g c = let f = c.generate_from.ensures in (
  f.0,
  f.1,
  f.2,
  of_generated c.as_str.result.now c.in-Ok.made.start c.in-Ok.made.end c.args.count (g.P.Policy.choice c.args.policy.now) f.0 f.1 f.2
      (c.as_str.ensures ∙ c.in-Ok.ensures.text) c.in-Ok.ensures.range.0 c.in-Ok.ensures.range.1 f.3,
  f.4,
)

pub returns-in-Err : goal.returns-in-Err
returns-in-Err g c = (OutOfMemory, [], status_line OutOfMemory, no_room, reported _ _ _ OutOfMemory c.report_name.result _ c.report_name.ensures)

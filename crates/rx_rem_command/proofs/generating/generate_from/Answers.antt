-- What is found is why the text is not read, or what is found for its program.
use Rattle.std.proofs.Common.{[], List, ℕ, inl, inr, subst}
use Rattle.rx_parse.specs.Answer.{IsCause}
use Rattle.rx_rem_command.specs.declared.status.Status.TheVariants.{OutOfMemory}
use Rattle.rx_rem_command.specs.Lines.{syntax_line, syntax_status, status_line}
use Rattle.rx_rem_command.specs.Replies.{no_room}
use Rattle.rx_rem_command.proofs.Replies.{reported}
use Rattle.rx_rem_command.proofs.Generations.{told_unread}
use Rattle.rx_rem_command.proofs.generating.generate_from.Goals as goal

pub returns-in-Err : goal.returns-in-Err
returns-in-Err g c =
    elim c.refuse_text.ensures [
      | inl r ↦ (
        syntax_status c.in-Err.fault,
        [],
        syntax_line c.in-Err.fault,
        told_unread c.args.text.now _ _ c.in-Err.fault (subst (λ (t : List ℕ). IsCause c.in-Err.fault t) c.as_bytes.ensures.value c.in-Err.ensures.fault),
        reported _ _ _ _ c.refuse_text.result _ r,
      )
      | inr r ↦ (OutOfMemory, [], status_line OutOfMemory, no_room, reported _ _ _ OutOfMemory c.refuse_text.result _ r)
    ]

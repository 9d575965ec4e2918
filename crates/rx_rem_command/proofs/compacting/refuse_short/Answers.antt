-- By the cases of the fault.
use Rattle.std.proofs.Common.{[], ◌∷◌, subst}
use Rattle.rx_compact_call.specs.Shortened.{CompactCauses}
use Rattle.rx_compact_call.specs.declared.fault.CompactFault.{CompactFault}
use Rattle.rx_rem_command.specs.declared.status.Status.TheVariants.{Refused, OutOfMemory}
use Rattle.rx_rem_command.specs.Lines.{status_line}
use Rattle.rx_rem_command.specs.Defined.{unnamed}
use Rattle.rx_rem_command.specs.Replies.{defined, no_room}
use Rattle.rx_rem_command.proofs.Certificates.{told, said}
use Rattle.rx_rem_command.proofs.Shorts.{found_unread_short, found_unshortened, found_long}
use Rattle.rx_rem_command.proofs.compacting.refuse_short.Goals as goal

pub returns-in-Syntax : goal.returns-in-Syntax
returns-in-Syntax g c = let x = subst (λ (e : CompactFault). CompactCauses e c.args.text.now c.args.name.now) c.in-Syntax.is c.requires in
    told _ _ _ _ _ _ (found_unread_short c.args.text.now c.args.name.now c.in-Syntax.cause x.1) c.refuse_text.ensures

pub returns-in-NotAccepted : goal.returns-in-NotAccepted
returns-in-NotAccepted g c = let x = subst (λ (e : CompactFault). CompactCauses e c.args.text.now c.args.name.now) c.in-NotAccepted.is c.requires in
    told _ _ _ _ _ _ (found_unshortened c.args.text.now c.args.name.now x.1.0 c.in-NotAccepted.cause x.1.1 x.1.2) (c.refuse_unaccepted.ensures x.1.0 x.1.1)

pub returns-in-NoFunction : goal.returns-in-NoFunction
returns-in-NoFunction g c = let x = subst (λ (e : CompactFault). CompactCauses e c.args.text.now c.args.name.now) c.in-NoFunction.is c.requires in
    told _ _ _ _ _ _ (defined (unnamed x)) c.refuse_by.ensures

pub returns-in-Limit : goal.returns-in-Limit
returns-in-Limit g c = let x = subst (λ (e : CompactFault). CompactCauses e c.args.text.now c.args.name.now) c.in-Limit.is c.requires in
    told _ _ _ _ _ _ (found_long c.args.text.now c.args.name.now c.in-Limit.which c.in-Limit.count x)
    (said _ _ _ _ _ _ (c.in-Limit.count ∷ []) c.limit_words-words.ensures c.refuse_by-in-Limit.ensures)

pub returns-in-OutOfMemory : goal.returns-in-OutOfMemory
returns-in-OutOfMemory g c = (OutOfMemory, status_line OutOfMemory, no_room, c.report_name.ensures)

-- By the cases of the fault.
use Rattle.std.proofs.Common.{[], ◌∷◌, subst}
use Rattle.rx_cert_least.specs.Certified.{CertifyCauses}
use Rattle.rx_cert_least.specs.declared.fault.CertifyFault.{CertifyFault}
use Rattle.rx_rem_command.specs.declared.status.Status.TheVariants.{OutOfMemory}
use Rattle.rx_rem_command.specs.Lines.{status_line}
use Rattle.rx_rem_command.specs.Replies.{no_room}
use Rattle.rx_rem_command.proofs.Certificates.{told, said, found_unread_certificate, found_uncertified, found_large}
use Rattle.rx_rem_command.proofs.certifying.refuse_certificate.Goals as goal

pub returns-in-Syntax : goal.returns-in-Syntax
returns-in-Syntax g c = let x = subst (λ (e : CertifyFault). CertifyCauses e c.args.text.now) c.in-Syntax.is c.requires in
    told _ _ _ _ _ _ (found_unread_certificate c.args.text.now c.in-Syntax.cause x.1) c.refuse_text.ensures

pub returns-in-NotAccepted : goal.returns-in-NotAccepted
returns-in-NotAccepted g c = let x = subst (λ (e : CertifyFault). CertifyCauses e c.args.text.now) c.in-NotAccepted.is c.requires in
    told _ _ _ _ _ _ (found_uncertified c.args.text.now x.1.0 c.in-NotAccepted.cause x.1.1 x.1.2) (c.refuse_unaccepted.ensures x.1.0 x.1.1)

pub returns-in-Limit : goal.returns-in-Limit
returns-in-Limit g c = let x = subst (λ (e : CertifyFault). CertifyCauses e c.args.text.now) c.in-Limit.is c.requires in
    told _ _ _ _ _ _ (found_large c.args.text.now c.in-Limit.which c.in-Limit.count x)
    (said _ _ _ _ _ _ (c.in-Limit.count ∷ []) c.limit_words-words.ensures c.refuse_by.ensures)

pub returns-in-OutOfMemory : goal.returns-in-OutOfMemory
returns-in-OutOfMemory g c = (OutOfMemory, status_line OutOfMemory, no_room, c.report_name.ensures)

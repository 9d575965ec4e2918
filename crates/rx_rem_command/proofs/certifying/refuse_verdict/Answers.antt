-- By the cases of the fault.
use Rattle.std.proofs.Common.{subst}
use Rattle.rx_cert.specs.Verified.{VerifyCauses}
use Rattle.rx_cert.specs.declared.fault.VerifyFault.{VerifyFault}
use Rattle.rx_rem_command.specs.declared.status.Status.TheVariants.{OutOfMemory}
use Rattle.rx_rem_command.specs.Lines.{status_line}
use Rattle.rx_rem_command.specs.Replies.{no_room}
use Rattle.rx_rem_command.proofs.Certificates.{told, found_form, found_unread_text, program_of, found_front, found_rule}
use Rattle.rx_rem_command.proofs.certifying.refuse_verdict.Goals as goal

pub returns-in-Form : goal.returns-in-Form
returns-in-Form g c = let x = subst (λ (e : VerifyFault). VerifyCauses e c.args.bytes.now) c.in-Form.is c.requires.cause in
    told _ _ _ _ _ _ (found_form c.args.bytes.now c.in-Form.line x) c.refuse_by.ensures

pub returns-in-Text : goal.returns-in-Text
returns-in-Text g c = let x = subst (λ (e : VerifyFault). VerifyCauses e c.args.bytes.now) c.in-Text.is c.requires.cause in
    told _ _ _ _ _ _ (found_unread_text c.args.bytes.now c.in-Text.cause x) c.refuse_text.ensures

pub returns-in-Front : goal.returns-in-Front
returns-in-Front g c = let x = subst (λ (e : VerifyFault). VerifyCauses e c.args.bytes.now) c.in-Front.is c.requires.cause in
    let p = program_of c.args.bytes.now c.in-Front.cause x in
    told _ _ _ _ _ _ (found_front c.args.bytes.now p.0 c.in-Front.cause p.1 x) (c.refuse_front.ensures p.0 p.1)

pub returns-in-Rule : goal.returns-in-Rule
returns-in-Rule g c = let x = subst (λ (e : VerifyFault). VerifyCauses e c.args.bytes.now) c.in-Rule.is c.requires.cause in
    told _ _ _ _ _ _ (found_rule c.args.bytes.now c.in-Rule.function c.in-Rule.rule x) c.refuse_by-in-Rule.ensures

pub returns-in-OutOfMemory : goal.returns-in-OutOfMemory
returns-in-OutOfMemory g c = (OutOfMemory, status_line OutOfMemory, no_room, c.report_name.ensures)

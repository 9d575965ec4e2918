-- The text that is read is that of the certificate.
use Rattle.std.proofs.Common.{inr}
use Rattle.rx_rem_command.proofs.Certificates.{same_program}
use Rattle.rx_rem_command.proofs.certifying.refuse_front.Goals as goal

pub returns-in-Ok : goal.returns-in-Ok
returns-in-Ok g c p x = c.refuse_unaccepted.ensures p (same_program c.args.bytes.now c.in-Ok.certificate.text.now c.in-Ok.certificate.lines p c.in-Ok.ensures x)

pub returns-in-Err : goal.returns-in-Err
returns-in-Err g c p x = inr c.report_name.ensures

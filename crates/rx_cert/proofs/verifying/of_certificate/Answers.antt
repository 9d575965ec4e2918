use Rattle.std.proofs.Common.{sym, subst}
use Rattle.rx_cert.specs.Verified.{Faults}
use Rattle.rx_cert.specs.declared.fault.VerifyFault.{VerifyFault}
use Rattle.rx_cert.proofs.Answering.{text_fault}
use Rattle.rx_cert.proofs.verifying.of_certificate.Goals as goal

pub returns-in-Err : goal.returns-in-Err
returns-in-Err c = subst (λ (e : VerifyFault). Faults e c.args.lines.now c.args.text.now) (sym c.of_text.ensures)
    (text_fault c.args.text.now c.args.lines.now c.in-Err.fault c.in-Err.ensures.fault)

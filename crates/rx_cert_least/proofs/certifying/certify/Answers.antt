use Rattle.std.proofs.Common.{sym, subst}
use Rattle.rx_cert_least.specs.Certified.{CertifyCauses}
use Rattle.rx_cert_least.specs.declared.fault.CertifyFault.{CertifyFault}
use Rattle.rx_cert_least.proofs.Writing.{text_fault}
use Rattle.rx_cert_least.proofs.certifying.certify.Goals as goal

pub returns-in-Err : goal.returns-in-Err
returns-in-Err c = subst (λ (e : CertifyFault). CertifyCauses e c.args.text.now) (sym c.of_text.ensures)
    (text_fault c.args.text.now c.in-Err.fault c.in-Err.ensures.fault)

use Rattle.std.proofs.Common.{sym, subst}
use Rattle.rx_tree.specs.PlainOf.{plain-Program}
use Rattle.rx_cert_least.specs.Certified.{CertifyCauses}
use Rattle.rx_cert_least.specs.declared.fault.CertifyFault.{CertifyFault}
use Rattle.rx_cert_least.proofs.Writing.{check_fault}
use Rattle.rx_cert_least.proofs.certifying.of_program.Goals as goal

pub check-requires : goal.check-requires
check-requires c = c.parsed_programs_are_numbered.ensures c.args.text.now (plain-Program c.args.program.now) c.requires.parses c.requires.short

pub returns-in-Err : goal.returns-in-Err
returns-in-Err c = subst (λ (e : CertifyFault). CertifyCauses e c.args.text.now) (sym c.of_check.ensures)
    (check_fault c.args.text.now (plain-Program c.args.program.now) c.requires.parses c.in-Err.fault c.in-Err.ensures.fault)

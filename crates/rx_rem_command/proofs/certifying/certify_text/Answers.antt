-- What is found is the certificate, or why there is none, and the reply writes it.
use Rattle.std.proofs.Common.{[]}
use Rattle.rx_rem_command.specs.declared.status.Status.TheVariants.{Done}
use Rattle.rx_rem_command.proofs.Replies.{delivered, reported}
use Rattle.rx_rem_command.proofs.Certificates.{found_certificate, refused_cause}
use Rattle.rx_rem_command.proofs.certifying.certify_text.Goals as goal

pub returns-in-Ok : goal.returns-in-Ok
returns-in-Ok g c = (
  Done,
  c.as_str.result.now,
  [],
  found_certificate c.args.text.now c.in-Ok.bytes c.as_str.result.now c.certify.result c.certify.ensures c.in-Ok.is c.as_str.ensures,
  delivered _ _ _ _ Done c.deliver.result c.as_str.result.now c.deliver.ensures,
)

pub refuse_certificate-requires : goal.refuse_certificate-requires
refuse_certificate-requires g c = refused_cause c.args.text.now c.in-Err.fault c.certify.result c.certify.ensures c.in-Err.is

pub returns-in-Err : goal.returns-in-Err
returns-in-Err g c = let f = c.refuse_certificate.ensures in (f.0, [], f.1, f.2, reported _ _ _ f.0 c.refuse_certificate.result _ f.3)

use Rattle.rx_cert.proofs.Answering.{complete_by}
use Rattle.rx_cert.proofs.verifying.verify.Goals as goal

pub returns-clause-complete : goal.returns-clause-complete
returns-clause-complete c = complete_by c.args.bytes.now (c.verified_or_refused.ensures c.args.bytes.now) c.of_bytes.result c.of_bytes.ensures

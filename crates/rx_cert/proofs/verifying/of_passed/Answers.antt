use Rattle.rx_cert.proofs.Answering.{passed_keeps, passed_fits}
use Rattle.rx_cert.proofs.verifying.of_passed.Goals as goal

pub returns-in-Ok : goal.returns-in-Ok
returns-in-Ok c = passed_keeps c.args.typed.now c.args.lines.now c.keep_rules.result c.in-Ok.ensures c.keep_rules.ensures

pub returns-in-Err : goal.returns-in-Err
returns-in-Err c = passed_fits c.args.typed.now c.args.lines.now c.in-Err.fault c.in-Err.ensures

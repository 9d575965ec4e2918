-- What is found is that the bytes are verified, or a fault of them, and the reply writes it.
use Rattle.std.proofs.Common.{[]}
use Rattle.std.specs.Prelude.{codes}
use Rattle.rx_rem_command.specs.declared.status.Status.TheVariants.{Done}
use Rattle.rx_rem_command.specs.Defined.{good}
use Rattle.rx_rem_command.specs.Replies.{defined}
use Rattle.rx_rem_command.proofs.Replies.{delivered, reported}
use Rattle.rx_rem_command.proofs.certifying.verify_certificate.Goals as goal

pub returns-in-Ok : goal.returns-in-Ok
returns-in-Ok g c = (Done, codes "accepted\n", [], defined (good c.in-Ok.ensures.told), delivered _ _ _ _ Done c.deliver.result (codes "accepted\n") c.deliver.ensures)

pub refuse_verdict-requires-clause-cause : goal.refuse_verdict-requires-clause-cause
refuse_verdict-requires-clause-cause g c = c.in-Err.ensures.told

pub returns-in-Err : goal.returns-in-Err
returns-in-Err g c = let f = c.refuse_verdict.ensures in (f.0, [], f.1, f.2, reported _ _ _ f.0 c.refuse_verdict.result _ f.3)

-- What is found is the text with a short signature, or why there is none, and the reply writes it.
use Rattle.std.proofs.Common.{[]}
use Rattle.rx_rem_command.specs.declared.status.Status.TheVariants.{Done}
use Rattle.rx_rem_command.proofs.Replies.{delivered, reported}
use Rattle.rx_rem_command.proofs.Shorts.{found_short, refused_cause}
use Rattle.rx_rem_command.proofs.compacting.compact_text.Goals as goal

pub returns-in-Ok : goal.returns-in-Ok
returns-in-Ok g c = (
  Done,
  c.as_str.result.now,
  [],
  found_short c.args.text.now c.args.name.now c.in-Ok.bytes c.as_str.result.now c.compact.result c.compact.ensures c.in-Ok.is c.as_str.ensures,
  delivered _ _ _ _ Done c.deliver.result c.as_str.result.now c.deliver.ensures,
)

pub refuse_short-requires : goal.refuse_short-requires
refuse_short-requires g c = refused_cause c.args.text.now c.args.name.now c.in-Err.fault c.compact.result c.compact.ensures c.in-Err.is

pub returns-in-Err : goal.returns-in-Err
returns-in-Err g c = let f = c.refuse_short.ensures in (f.0, [], f.1, f.2, reported _ _ _ f.0 c.refuse_short.result _ f.3)

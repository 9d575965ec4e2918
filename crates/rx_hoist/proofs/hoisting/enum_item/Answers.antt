use Rattle.std.proofs.Common.{ap}
use Rattle.rx_tree.specs.Plain as plain
use Rattle.rx_hoist.proofs.hoisting.enum_item.Goals as goal

pub returns : goal.returns
returns c = ap (plain.enum_item c.args.span) c.in_ok-made.ensures

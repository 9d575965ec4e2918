use Rattle.std.proofs.Common.{sym}
use Rattle.rx_exits_tree.proofs.Giving.{given_here, no_give_nowhere}
use Rattle.rx_exits_tree.proofs.blocks.is_given_at.Goals as goal

pub returns-in-Give : goal.returns-in-Give
returns-in-Give c = sym (given_here c.args.node c.args.last.now _ c.in-Give.is)

pub returns-in_default : goal.returns-in_default
returns-in_default c = sym (no_give_nowhere c.args.node c.args.last.now c.in_default.not-Give)

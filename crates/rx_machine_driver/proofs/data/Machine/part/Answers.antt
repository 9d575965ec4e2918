use Rattle.rx_typed.specs.PlainTree.{plain-Expr}
use Rattle.rx_machine_driver.proofs.FrameLemmas.{part_leads}
use Rattle.rx_machine_driver.proofs.data.Machine.part.Goals as goal

pub returns : goal.returns
returns c = part_leads c.args.self.now c.args.hole (plain-Expr c.args.expr.now) c.push.new.self c.opened.result c.in_ok-push.ensures.ok c.opened.ensures

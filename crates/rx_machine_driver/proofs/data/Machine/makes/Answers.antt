use Rattle.std.proofs.Common.{map, subst}
use Rattle.rx_machine_values.specs.PlainValues.{plain-Value}
use Rattle.rx_typed.specs.PlainTree.{plain-Making}
use Rattle.rx_machine_actions.specs.PlainActs.{written_fields}
use Rattle.rx_machine_driver.specs.Running.{IsMade}
use Rattle.rx_machine_driver.proofs.ActLemmas.{makes_lead}
use Rattle.rx_machine_driver.proofs.data.Machine.makes.Goals as goal

pub returns : goal.returns
returns c =
    makes_lead c.args.self.now (plain-Making c.args.making) (written_fields c.args.operands.now) (map plain-Value c.args.values) c.of_made.result
    (subst (λ k. IsMade k c.of_made.result) c.in_ok-it.ensures c.of_made.ensures)

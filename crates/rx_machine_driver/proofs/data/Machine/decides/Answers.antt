use Rattle.std.proofs.Common.{subst}
use Rattle.rx_machine_values.specs.PlainValues.{plain-Value}
use Rattle.rx_typed.specs.PlainTree.{plain-Expr}
use Rattle.rx_machine_driver.specs.Running.{IsDecided}
use Rattle.rx_machine_driver.proofs.ActLemmas.{decides_lead}
use Rattle.rx_machine_driver.proofs.data.Machine.decides.Goals as goal

pub returns : goal.returns
returns c =
    decides_lead c.args.self.now c.args.truth (plain-Value c.args.value) (plain-Expr c.args.second.now) c.decided.result
    (subst (λ o. IsDecided o (plain-Value c.args.value) (plain-Expr c.args.second.now) c.decided.result) c.equals_truth-holds.ensures c.decided.ensures)

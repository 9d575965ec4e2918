use Rattle.std.proofs.Common.{subst}
use Rattle.rx_machine_values.specs.PlainValues.{plain-Value}
use Rattle.rx_machine_driver.specs.Running.{IsGiven}
use Rattle.rx_machine_driver.proofs.ActLemmas.{shares_lead}
use Rattle.rx_machine_driver.proofs.data.Machine.shares.Goals as goal

pub returns : goal.returns
returns c = shares_lead c.args.self.now (plain-Value c.args.value) c.given.result (subst (λ o. IsGiven o c.given.result) c.share.ensures c.given.ensures)

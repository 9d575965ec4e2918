use Rattle.std.proofs.Common.{refl}
use Rattle.rx_machine_values.specs.PlainValues.{plain-Value}
use Rattle.rx_machine_driver.specs.declared.next.Next.TheVariants as next
use Rattle.rx_machine_driver.proofs.ActLemmas.{settles_lead}
use Rattle.rx_machine_driver.proofs.data.Machine.settles.Goals as goal

pub returns : goal.returns
returns c = settles_lead c.args.self.now (plain-Value c.args.value) (next.Gives c.args.value) refl

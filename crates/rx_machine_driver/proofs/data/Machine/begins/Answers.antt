use Rattle.std.proofs.Common.{refl}
use Rattle.rx_machine_driver.specs.PlainSteps.{rest_of}
use Rattle.rx_machine_driver.specs.declared.next.Next.TheVariants as next
use Rattle.rx_machine_driver.proofs.BindLemmas.{begins_next}
use Rattle.rx_machine_driver.proofs.data.Machine.begins.Goals as goal

pub returns : goal.returns
returns c =
    begins_next c.args.self.now c.declare_all.new.self c.args.variables.now (rest_of c.args.rest.now c.args.last.now) (next.RunsBody c.args.rest c.args.last) c.in_ok-declare_all.ensures refl

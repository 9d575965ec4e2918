use Rattle.std.proofs.Common.{ap, sym, ◌∙◌}
use Rattle.rx_typed.specs.PlainTree.{plain-Mode}
use Rattle.rx_machine_driver.specs.Binding.{taken_of}
use Rattle.rx_machine_driver.proofs.data.Machine.taken.Goals as goal

pub returns-in_ok-it-in-Value : goal.returns-in_ok-it-in-Value
returns-in_ok-it-in-Value c = c.in_ok-it-in-Value.ensures c.in-Value.field-0 ∙ ap (λ d. taken_of c.args.self.now (plain-Mode d) c.args.subject.now c.args.path.now) (sym c.in-Value.is)

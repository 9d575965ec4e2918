use Rattle.std.proofs.Common.{◌∙◌}
use Rattle.rx_machine_values.specs.PlainMemory.{plain-Memory}
use Rattle.rx_machine_values.specs.PlainValues.{plain-Part}
use Rattle.rx_machine_values.proofs.ReachLemmas.{reached_is}
use Rattle.rx_machine_values.proofs.memory.Memory.place.Goals as goal

pub returns : goal.returns
returns c = λ at e. c.reached.ensures ∙ reached_is (plain-Memory c.args.self.now) c.args.steps.now at (plain-Part c.args.from) e

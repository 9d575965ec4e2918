use Rattle.std.proofs.Common.{option_map, ap, sym, ◌∙◌}
use Rattle.rx_machine_values.specs.PlainValues.{plain-Value}
use Rattle.rx_typed.specs.PlainTree.{plain-Mode}
use Rattle.rx_machine_driver.proofs.BindLemmas.{one_bound, none_bound}
use Rattle.rx_machine_driver.proofs.data.Machine.bind_one.Goals as goal

pub returns-in_ok-bind-in-Some : goal.returns-in_ok-bind-in-Some
returns-in_ok-bind-in-Some c = λ node.
    one_bound c.args.self.now c.bind.new.self c.args.subject.now (record { node = node; variable = c.args.variable; steps = c.args.path.now; mode = plain-Mode c.args.mode }) (plain-Value c.in-Some.value)
    (sym c.in_ok-taken.ensures ∙ ap (option_map plain-Value) c.in-Some.is) c.in_ok-bind-in-Some.ensures

pub returns-in-None : goal.returns-in-None
returns-in-None c = λ node.
    none_bound c.args.self.now c.args.subject.now (record { node = node; variable = c.args.variable; steps = c.args.path.now; mode = plain-Mode c.args.mode }) (sym c.in_ok-taken.ensures ∙ ap (option_map plain-Value) c.in-None.is)

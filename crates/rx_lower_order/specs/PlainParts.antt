-- What subjects and bindings of the code stand for.
use Rattle.rx_typed.specs.PlainTree.{plain-Place, plain-Mode}
use Rattle.rx_lower_walks.specs.Matching as matching
use Rattle.rx_lower_walks.specs.Actions as actions
use Rattle.rx_lower_walks.specs.PlainFlow.{plain-Temporary}
use Rattle.rx_lower_order.specs.declared.subject.Subject.{Subject}
use Rattle.rx_lower_order.specs.declared.bindings.Binding.{Binding}

abbrev pub plain-Subject : Subject → actions.Subject
plain-Subject (Subject.InPlace p) = actions.in_place (plain-Place p.now)
plain-Subject (Subject.InTemporary t) = actions.in_temporary (plain-Temporary t)

abbrev pub plain-Binding : Binding → matching.Binding
plain-Binding b = record { node = b.node; variable = b.variable; steps = b.steps.now; mode = plain-Mode b.mode }

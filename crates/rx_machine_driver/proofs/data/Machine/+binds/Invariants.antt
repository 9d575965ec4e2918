use Rattle.std.proofs.Common.{map, drop}
use Rattle.rx_lower_walks.specs.Matching.{bindings_in}
use Rattle.rx_typed.specs.PlainTree.{plain-Subpattern, subpatterns_of}
use Rattle.rx_machine_driver.specs.PlainSteps.{plain-Subject, held_of}
use Rattle.rx_machine_driver.proofs.BindLemmas.{Binds}
use Rattle.rx_machine_driver.proofs.data.Machine.+binds.Given as goal

abbrev pub invariant-bind_parts-loop-part : goal.invariant-bind_parts-loop-part
invariant-bind_parts-loop-part l =
    Binds (plain-Subject l.fn.subject) (held_of l.fn.subject) (bindings_in l.fn.path (subpatterns_of (map plain-Subpattern l.fn.parts))) l.fn.self l.self
    (bindings_in l.fn.path (subpatterns_of (map plain-Subpattern (drop l.part-index l.parts))))

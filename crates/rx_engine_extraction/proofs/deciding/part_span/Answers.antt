use Rattle.std.proofs.Common.{sym, ap, ◌∙◌}
use Rattle.rx_tree.specs.PlainOf.{plain-Program}
use Rattle.rx_tree_operations.specs.NodeOf.{plain-Node}
use Rattle.rx_engine_extraction.specs.Failing.{span_if}
use Rattle.rx_engine_extraction.proofs.Placing.{part_nowhere, part_child}
use Rattle.rx_engine_extraction.proofs.deciding.part_span.Goals as goal

pub returns-in-None : goal.returns-in-None
returns-in-None c = sym (part_nowhere (plain-Program c.args.program.now) c.args.run.now c.args.number (sym c.in-None.ensures))

pub returns-in-Some-child : goal.returns-in-Some-child
returns-in-Some-child c = c.span_of_node.ensures ∙ ap span_if c.in-Some-child.ensures
    ∙ sym (part_child (plain-Program c.args.program.now) c.args.run.now c.args.number (plain-Node c.in-Some.block) (sym c.in-Some.ensures))

pub returns-in-None-child : goal.returns-in-None-child
returns-in-None-child c = ap span_if c.in-None-child.ensures
    ∙ sym (part_child (plain-Program c.args.program.now) c.args.run.now c.args.number (plain-Node c.in-Some.block) (sym c.in-Some.ensures))

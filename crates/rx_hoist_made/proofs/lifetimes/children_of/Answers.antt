use Rattle.std.proofs.Common.{◌≡◌, length, ap, sym, ◌∙◌}
use Rattle.std.specs.Prelude.{option_map}
use Rattle.rx_tree.specs.Positions.{children}
use Rattle.rx_tree_operations.specs.NodeOf.{plain-Node}
use Rattle.rx_hoist_made.proofs.Dropped.{all_there, child_taken}
use Rattle.rx_hoist_made.proofs.lifetimes.children_of.Goals as goal

pub loop-part-preserved : goal.loop-part-preserved
loop-part-preserved c = child_taken plain-Node c.loop-part.all.items c.push.new.self.items (children (plain-Node c.args.node)) (length c.as_slice.result.now) c.in-Some.part
    c.loop-part.invariant (sym c.child.ensures ∙ ap (option_map plain-Node) c.in-Some.is) (ap length c.as_slice.ensures.value) c.in_ok-push.ensures.items

pub returns : goal.returns
returns c = all_there plain-Node c.loop-part.all.items (children (plain-Node c.args.node)) (length c.as_slice.result.now)
    c.loop-part.invariant (sym c.child.ensures ∙ ap (option_map plain-Node) c.in_default.is) (ap length c.as_slice.ensures.value)

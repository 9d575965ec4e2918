use Rattle.std.proofs.Common.{◌==◌, ap, sym, ◌∙◌}
use Rattle.rx_tree_operations.specs.NodeOf.{plain-Node}
use Rattle.rx_select.specs.Descent.{is_tail}
use Rattle.rx_select.proofs.Around.{tail_number}
use Rattle.rx_select.proofs.children.is_tail_of.Goals as goal

pub returns-in-Block : goal.returns-in-Block
returns-in-Block c =
    ap (λ n. c.args.number == n) (c.len.ensures ∙ sym (tail_number c.in-Block.block.now))
    ∙ sym (ap (λ n. is_tail c.args.number (plain-Node n)) c.in-Block.is)

use Rattle.std.proofs.Common.{sym, ◌∙◌}
use Rattle.rx_typed.specs.PlainTree.{plain-Expr}
use Rattle.rx_exits_tree.specs.Shapes.{gives_at}
use Rattle.rx_exits_tree.proofs.Giving.{given_same}
use Rattle.rx_exits_tree.proofs.RunBlock.{same_tree}
use Rattle.rx_exits_tree.proofs.blocks.given_again.Goals as goal

pub returns-then-is_given_at : goal.returns-then-is_given_at
returns-then-is_given_at c =
    same_tree c.given_by.result _ _ (given_same c.args.last.now (plain-Expr c.args.value) (gives_at c.args.node (plain-Expr c.args.last.now)) (sym c.is_given_at.ensures ∙ c.if-is_given_at.true)) c.given_by.ensures

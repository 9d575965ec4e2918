use Rattle.std.proofs.Common.{arith, sym, ◌∙◌}
use Rattle.rx_typed.specs.PlainTree.{plain-Expr}
use Rattle.rx_engine_alike.proofs.GivenLemmas.{unit_end, unit_behind}
use Rattle.rx_engine_alike.proofs.giving.ends_with_unit.Goals as goal

pub returns-in-empty : goal.returns-in-empty
returns-in-empty c = c.is_unit.ensures ∙ sym (unit_end c.args.stmts.now (plain-Expr c.args.tail.now) (omega (arith, c.in-empty.len_below)))

pub returns-in-len1-up : goal.returns-in-len1-up
returns-in-len1-up c = sym (unit_behind c.args.stmts.now (plain-Expr c.args.tail.now) (omega (arith, c.in-len1-up.len_at_least)))

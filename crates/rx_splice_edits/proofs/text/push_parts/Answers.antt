use Rattle.std.proofs.Common.{◌++◌, ap, map, ◌∙◌, arith}
use Rattle.std.specs.Prelude.{option_map}
use Rattle.rx_tree.specs.PlainOf.{plain-Expr, plain-Stmt, optional_of}
use Rattle.rx_print_spelling.specs.Pieces.{flat}
use Rattle.rx_splice_laws.specs.SplicedText.{call_pieces}
use Rattle.std.proofs.lemmas.Result.{on_ok_weaker}
use Rattle.rx_splice_edits.proofs.CallLines.{whole, step, end}
use Rattle.rx_splice_edits.proofs.text.push_parts.Goals as goal

pub loop-stmt-init : goal.loop-stmt-init
loop-stmt-init c = ap (λ t. c.args.out.now ++ t) (whole (map plain-Stmt c.as_slice-stmt-items.result.now) (optional_of (option_map plain-Expr c.args.parts.now.tail)))

pub loop-stmt-preserved : goal.loop-stmt-preserved
loop-stmt-preserved c =
    step c.loop-stmt.follows c.as_slice-stmt-items.result.now (optional_of (option_map plain-Expr c.args.parts.now.tail)) c.loop-stmt.stmt-index c.stmt-item.result
    c.loop-stmt.out c.push_next_statement.new.out _ c.loop-stmt-test.true c.stmt-item.is c.in_ok-push_next_statement.ensures c.loop-stmt.invariant

pub returns : goal.returns
returns c =
    let o = optional_of (option_map plain-Expr c.args.parts.now.tail) in
    on_ok_weaker c.push_tail.result (λ e. end c.loop-stmt.follows c.as_slice-stmt-items.result.now o c.loop-stmt.stmt-index c.loop-stmt.out c.push_tail.new.out _ (omega arith) e
    (c.loop-stmt.invariant ∙ ap (λ l. c.args.out.now ++ flat (call_pieces (map plain-Stmt l) o)) c.as_slice-stmt-items.ensures)) c.push_tail.ensures

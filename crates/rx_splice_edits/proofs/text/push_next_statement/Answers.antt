use Rattle.rx_tree.specs.PlainOf.{plain-Stmt}
use Rattle.std.proofs.lemmas.Result.{on_ok_weaker}
use Rattle.rx_splice_edits.proofs.TextLemmas.{statement_written}
use Rattle.rx_splice_edits.proofs.text.push_next_statement.Goals as goal

pub returns : goal.returns
returns c =
    on_ok_weaker c.push_statement.result (statement_written c.args.follows (plain-Stmt c.args.stmt.now) c.none-margin.result c.args.out.now c.push_feed.new.out c.push_statement.new.out
    c.none-margin.ensures c.in_ok-push_feed.ensures) c.push_statement.ensures

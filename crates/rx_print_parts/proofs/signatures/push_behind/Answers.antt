-- The goals that no tactic closes: by the lemmas of texts and lists written one part after the other.
use Rattle.std.proofs.lemmas.Result.{on_ok_weaker}
use Rattle.rx_print_parts.proofs.WrittenItems.{some_bounds}
use Rattle.rx_print_parts.proofs.signatures.push_behind.Goals as goal

pub returns : goal.returns
returns c =
    on_ok_weaker c.push_bounds.result (some_bounds c.args.list.now c.is_empty.result c.is_empty.ensures c.if-is_empty.false c.args.out.now c.push.new.self c.push_bounds.new.out c.in_ok-push.ensures.ok)
    c.push_bounds.ensures

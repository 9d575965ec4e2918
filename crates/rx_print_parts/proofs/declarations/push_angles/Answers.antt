-- The goals that no tactic closes: by the lemmas of texts and lists written one part after the other.
use Rattle.std.proofs.lemmas.Result.{on_ok_weaker}
use Rattle.rx_print_spelling.specs.Items.{one_lifetime}
use Rattle.rx_print_parts.proofs.WrittenItems.{some_angles}
use Rattle.rx_print_parts.proofs.Seen.{mapped}
use Rattle.rx_print_parts.proofs.declarations.push_angles.Goals as goal

pub returns : goal.returns
returns c =
    on_ok_weaker c.push-2.result (some_angles (mapped one_lifetime) c.args.list.now c.is_empty.result c.is_empty.ensures c.if-is_empty.false c.args.out.now c.push.new.self c.push_lifetimes.new.out c.push-2.new.self
    c.in_ok-push.ensures.ok c.in_ok-push_lifetimes.ensures) c.push-2.ensures.ok

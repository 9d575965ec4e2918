-- The goals that no tactic closes: by the lemmas of texts and lists written one part after the other.
use Rattle.rx_print_spelling.specs.Items.{bound_pieces}
use Rattle.rx_print_parts.proofs.WrittenLists.{next_written}
use Rattle.rx_print_parts.proofs.Seen.{mapped}
use Rattle.rx_print_parts.proofs.signatures.push_lifetimes.Goals as goal

pub loop-lifetime-preserved : goal.loop-lifetime-preserved
loop-lifetime-preserved c =
    next_written (mapped bound_pieces) c.loop-lifetime.follows c.args.list.now c.loop-lifetime.lifetime-index c.lifetime-item.result c.loop-lifetime.out c.push_lifetime.new.out _ c.loop-lifetime-test.true c.lifetime-item.is
    c.in_ok-push_lifetime.ensures c.loop-lifetime.invariant

-- The goals that no tactic closes: by the lemmas of texts and lists written one part after the other.
use Rattle.rx_print_parts.proofs.WrittenLists.{next_written}
use Rattle.rx_print_parts.proofs.Seen.{parameters_seen}
use Rattle.rx_print_parts.proofs.signatures.push_parameters.Goals as goal

pub loop-parameter-preserved : goal.loop-parameter-preserved
loop-parameter-preserved c =
    next_written parameters_seen c.loop-parameter.follows c.args.list.now c.loop-parameter.parameter-index c.parameter-item.result c.loop-parameter.out c.push_parameter.new.out _ c.loop-parameter-test.true c.parameter-item.is
    c.in_ok-push_parameter.ensures c.loop-parameter.invariant

-- The goals that no tactic closes: by the lemmas of texts and lists written one part after the other.
use Rattle.std.proofs.Common.{get_or}
use Rattle.std.proofs.lemmas.List.{get_or_default}
use Rattle.rx_tree.specs.declared.tree.Derive.{Derive}
use Rattle.rx_tree.specs.declared.tree.Derive.TheVariants.{Clone}
use Rattle.rx_print_spelling.specs.Items.{derive_pieces}
use Rattle.rx_print_parts.proofs.WrittenLists.{next_written}
use Rattle.rx_print_parts.proofs.Seen.{mapped}
use Rattle.rx_print_parts.proofs.declarations.push_each_derive.Goals as goal

pub loop-derive-preserved : goal.loop-derive-preserved
loop-derive-preserved c =
    let x : Derive = get_or c.args.list.now c.loop-derive.derive-index Clone in
    next_written (mapped derive_pieces) c.loop-derive.follows c.args.list.now c.loop-derive.derive-index x c.loop-derive.out c.push_derive.new.out _ c.loop-derive-test.true
    (get_or_default c.args.list.now c.loop-derive.derive-index Clone x c.loop-derive-test.true) c.in_ok-push_derive.ensures c.loop-derive.invariant

-- The goals that no tactic closes: by the lemmas of texts and lists written one part after the other.
use Rattle.std.proofs.lemmas.Result.{on_ok_weaker}
use Rattle.rx_print_parts.proofs.WrittenItems.{some_entries}
use Rattle.rx_print_parts.proofs.Seen.{variants_seen}
use Rattle.rx_print_parts.proofs.declarations.push_variant_braces.Goals as goal

pub returns : goal.returns
returns c =
    on_ok_weaker c.push-3.result (some_entries variants_seen c.args.list.now c.is_empty.result c.is_empty.ensures c.if-is_empty.false c.args.out.now c.push-2.new.self c.push_variants.new.out c.push-3.new.self
    c.in_ok-push.ensures.ok c.in_ok-push_variants.ensures) c.push-3.ensures.ok

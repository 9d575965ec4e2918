use Rattle.rx_machine_values.specs.PlainValues.{plain-Value}
use Rattle.rx_machine_values.proofs.WriteLemmas.{tagged_ok}
use Rattle.rx_machine_values.proofs.writing.with_tagged.Goals as goal

pub returns-then-tag-variant : goal.returns-then-tag-variant
returns-then-tag-variant c = tagged_ok c.args.tag c.in-Variant.variant c.args.step (plain-Value c.args.value.now) c.with_variant.result c.in-Variant.is c.if-tag-variant.true c.with_variant.ensures

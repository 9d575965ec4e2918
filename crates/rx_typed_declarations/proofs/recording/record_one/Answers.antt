use Rattle.std.proofs.Common.{◌<◌, length, ◌∙◌, ap, arith}
use Rattle.rx_typed_declarations.specs.Variance.{recording}
use Rattle.rx_typed_declarations.proofs.RecordLemmas.{record_set}
use Rattle.rx_typed_declarations.proofs.recording.record_one.Goals as goal

pub returns-then-at-len : goal.returns-then-at-len
returns-then-at-len c =
    let less : c.args.at < length c.args.items.now.items = omega (arith, c.len.ensures) in
    record_set c.args.items.now.items c.args.at c.index_mut.result.now c.replace-item.new.dest c.replace.new.dest
    c.args.polarities less c.index_mut.ensures.value
    (c.replace.ensures.after ∙ c.recording.ensures
    ∙ ap (λ d. recording d c.args.polarities) c.replace-item.ensures.value)

use Rattle.std.proofs.Common.{◌≡◌, length, ◌∙◌, arith}
use Rattle.rx_typed_declarations.proofs.RecordLemmas.{record_pop}
use Rattle.rx_typed_declarations.proofs.recording.record_all.Goals as goal

pub loop-polarities-preserved : goal.loop-polarities-preserved
loop-polarities-preserved c =
    let last : c.len.result ≡ length c.pop.new.self.items = omega (arith, c.len.ensures) in
    record_pop c.loop-polarities.items.items c.record_one.new.items.items c.loop-polarities.table.items
    c.pop.new.self.items c.in-Some.polarities c.len.result c.in-Some.ensures.items last c.record_one.ensures
    ∙ c.loop-polarities.invariant

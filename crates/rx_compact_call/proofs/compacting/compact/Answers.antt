use Rattle.std.proofs.Common.{sym, subst}
use Rattle.rx_compact_call.specs.Shortened.{CompactCauses}
use Rattle.rx_compact_call.specs.declared.fault.CompactFault.{CompactFault}
use Rattle.rx_compact_call.proofs.Faults.{text_fault}
use Rattle.rx_compact_call.proofs.compacting.compact.Goals as goal

pub returns-in-Err : goal.returns-in-Err
returns-in-Err c = subst (λ (e : CompactFault). CompactCauses e c.args.text.now c.args.function.now) (sym c.of_text.ensures)
    (text_fault c.args.text.now c.args.function.now c.in-Err.fault c.in-Err.ensures.fault)

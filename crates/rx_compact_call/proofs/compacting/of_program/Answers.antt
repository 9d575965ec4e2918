use Rattle.std.proofs.Common.{sym, subst}
use Rattle.rx_tree.specs.PlainOf.{plain-Program}
use Rattle.rx_compact_call.specs.Shortened.{CompactCauses}
use Rattle.rx_compact_call.specs.declared.fault.CompactFault.{CompactFault}
use Rattle.rx_compact_call.proofs.Faults.{check_fault}
use Rattle.rx_compact_call.proofs.compacting.of_program.Goals as goal

pub check-requires : goal.check-requires
check-requires c = c.parsed_programs_are_numbered.ensures c.args.text.now (plain-Program c.args.program.now) c.requires.parses c.requires.short

pub returns-in-Err : goal.returns-in-Err
returns-in-Err c = subst (λ (e : CompactFault). CompactCauses e c.args.text.now c.args.name.now) (sym c.of_check.ensures)
    (check_fault c.args.text.now c.args.name.now (plain-Program c.args.program.now) c.requires.parses c.in-Err.fault c.in-Err.ensures.fault)

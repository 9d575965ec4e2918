use Rattle.rx_modes.proofs.Using.{uses_told}
use Rattle.rx_modes.proofs.uses.uses_of.Goals as goal

pub returns : goal.returns
returns c A muts known among = uses_told A muts c.args.known.now c.args.variable c.as_slice.result.now c.deeds_of-inside.result c.deeds_of-outside.result
    c.is_copy_at.result c.is_mutable_reference.result c.is_declared_mut.result c.is_live_out.result c.deeds_of-inside.ensures c.deeds_of-outside.ensures
    c.is_copy_at.ensures c.is_mutable_reference.ensures c.is_declared_mut.ensures c.as_slice.ensures c.is_live_out.ensures known among

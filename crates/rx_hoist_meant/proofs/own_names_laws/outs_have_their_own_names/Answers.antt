use Rattle.rx_hoist_meant.proofs.Outs.{out_at_jump, out_at_end, outs_apart}
use Rattle.rx_hoist_meant.proofs.own_names_laws.outs_have_their_own_names.Goals as goal

pub returns : goal.returns
returns c = record { at_jumps = out_at_jump; at_the_end = out_at_end; apart = λ A k names p none. outs_apart A k names none p }

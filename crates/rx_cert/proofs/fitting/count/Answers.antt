use Rattle.std.proofs.Common.{arith}
use Rattle.rx_cert.proofs.fitting.count.Goals as goal

pub overflow_add-result-2 : goal.overflow_add-result-2
overflow_add-result-2 c = omega (arith, c.requires.few, c.requires.within, c.len.ensures)

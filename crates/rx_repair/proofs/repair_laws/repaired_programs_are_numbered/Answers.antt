use Rattle.rx_repair.proofs.Numbering.{still_numbered}
use Rattle.rx_repair.proofs.repair_laws.repaired_programs_are_numbered.Goals as goal

pub returns : goal.returns
returns c p n bounds h = still_numbered bounds p n h

use Rattle.rx_repair.proofs.RepairPrograms.{program_accepted}
use Rattle.rx_repair.proofs.bounds_laws.least_bounds_serve.Goals as goal

pub returns : goal.returns
returns c p names q few meant typed f among never P asked least are bs fit =
    program_accepted p names q (c.signatures_are_well_formed.ensures p names q few meant typed) typed f among never bs least fit P asked are

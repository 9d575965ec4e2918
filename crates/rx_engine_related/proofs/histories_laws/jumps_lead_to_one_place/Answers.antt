use Rattle.rx_engine_related.proofs.Jumps.{jumps_meet}
use Rattle.rx_engine_related.proofs.MarkedJumps.{marked_jumps_meet}
use Rattle.rx_engine_related.proofs.MarkedExits.{exits_meet}
use Rattle.rx_engine_related.proofs.histories_laws.jumps_lead_to_one_place.Goals as goal

pub returns-clause-running : goal.returns-clause-running
returns-clause-running c = jumps_meet

pub returns-clause-marked : goal.returns-clause-marked
returns-clause-marked c = marked_jumps_meet

pub returns-clause-exits : goal.returns-clause-exits
returns-clause-exits c = exits_meet

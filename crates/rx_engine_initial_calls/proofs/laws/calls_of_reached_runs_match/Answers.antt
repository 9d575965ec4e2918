use Rattle.rx_meaning_keeping.proofs.Parts.{parted}
use Rattle.rx_engine_initial_calls.specs.RunPieces.{run_pieces}
use Rattle.rx_engine_initial_calls.proofs.Calls.{call_matches}
use Rattle.rx_engine_initial_calls.proofs.Ways.{has_ways}
use Rattle.rx_engine_initial_calls.proofs.laws.calls_of_reached_runs_match.Goals as goal

pub returns : goal.returns
returns c = λ A k S had f a o i R T H q r h n m.
    let z = (has_ways A S.muts_there k had f r).to_end i in
    call_matches A k had.plan S had.accepted o had.whole had.passed (parted S.frame a) R T H (run_pieces A k) q r i h z.0 z.1 z.2 n m

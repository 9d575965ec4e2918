use Rattle.rx_engine_related.proofs.MarkedExits.{exits_meet}
use Rattle.rx_engine_initial_calls.proofs.SeveralJumps.{exit_matches}
use Rattle.rx_engine_initial_calls.proofs.laws.exits_of_reached_runs_match.Goals as goal

pub returns : goal.returns
returns c = λ A k S had self e i n sized o R q meets.
    exit_matches A k had.plan e i (exits_meet A k had.plan had.sits had.unmarked had.one_block self e i n) S sized had.accepted o R q had.whole meets

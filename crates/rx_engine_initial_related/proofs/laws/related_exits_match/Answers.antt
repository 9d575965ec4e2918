use Rattle.rx_engine_initial_related.proofs.NewExits.{new_exit_matches}
use Rattle.rx_engine_initial_related.proofs.laws.related_exits_match.Goals as goal

pub returns : goal.returns
returns c = λ A k S had self e i n sized text R U g w zs v have gives q meets m d. new_exit_matches A k S had self e i n sized text R U g have gives q meets m d

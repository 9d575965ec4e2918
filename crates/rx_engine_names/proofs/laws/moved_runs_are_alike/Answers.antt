use Rattle.rx_engine_names.specs.Insertion.{number_there}
use Rattle.rx_engine_names.proofs.KeptItems.{inserted_keeps, items_keep}
use Rattle.rx_engine_names.proofs.MovedStatements.{moved_run}
use Rattle.rx_engine_names.proofs.laws.moved_runs_are_alike.Goals as goal

pub returns : goal.returns
returns c = λ p q k v a b ls ms start made exits alike.
    moved_run (number_there k) v (record { program = p; item = a; lifetimes = ls }) (record { program = q; item = b; lifetimes = ms }) start (items_keep (number_there k) p q (inserted_keeps p q k) a b ls ms) exits made alike

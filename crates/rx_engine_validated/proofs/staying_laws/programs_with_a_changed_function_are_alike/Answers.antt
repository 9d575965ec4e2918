use Rattle.std.proofs.Common.{false}
use Rattle.rx_engine_names.specs.Insertion.{number_there}
use Rattle.rx_engine_simulation.specs.Called.{a_turn, calls_of}
use Rattle.rx_engine_simulation.specs.Openings.{no_openings}
use Rattle.rx_engine_validated.proofs.AllStay.{programs_alike}
use Rattle.rx_engine_validated.proofs.staying_laws.programs_with_a_changed_function_are_alike.Goals as goal

pub returns-clause-renamed : goal.returns-clause-renamed
returns-clause-renamed c p q ns ms t u few meant means a b h known w k = programs_alike c.demands_are_orderly.ensures p q ns ms t u few meant means a b h known no_openings (record { turns = 0; strays = false }) w k

pub returns-clause-called : goal.returns-clause-called
returns-clause-called c p q ns ms t u few meant means a b h known strays units N w k = programs_alike c.demands_are_orderly.ensures p q ns ms t u few meant means a b h known (calls_of (number_there h) (a_turn strays) units N) (a_turn strays) w k

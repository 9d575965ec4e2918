use Rattle.std.proofs.Common.{false}
use Rattle.rx_engine_names.specs.Insertion.{number_there}
use Rattle.rx_engine_simulation.specs.Called.{a_turn, calls_of}
use Rattle.rx_engine_simulation.specs.Openings.{no_openings}
use Rattle.rx_engine_validated.proofs.AllStay.{all_stay}
use Rattle.rx_engine_validated.proofs.staying_laws.items_that_stay_are_alike.Goals as goal

pub returns-clause-renamed : goal.returns-clause-renamed
returns-clause-renamed c p q ns ms t u few meant means a b h w k l j n = all_stay c.demands_are_orderly.ensures p q ns ms t u few meant means a b h w no_openings (record { turns = 0; strays = false }) k l j n

pub returns-clause-called : goal.returns-clause-called
returns-clause-called c p q ns ms t u few meant means a b h w k l j n strays units N = all_stay c.demands_are_orderly.ensures p q ns ms t u few meant means a b h w (calls_of (number_there h) (a_turn strays) units N) (a_turn strays) k l j n

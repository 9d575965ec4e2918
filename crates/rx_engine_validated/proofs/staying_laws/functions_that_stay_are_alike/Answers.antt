use Rattle.std.proofs.Common.{false}
use Rattle.rx_engine_names.specs.Insertion.{number_there}
use Rattle.rx_engine_simulation.specs.Called.{a_turn, calls_of}
use Rattle.rx_engine_simulation.specs.Openings.{no_openings}
use Rattle.rx_engine_typing.proofs.Counting.{few_names}
use Rattle.rx_engine_validated.proofs.Programs.{function_stays}
use Rattle.rx_engine_validated.proofs.staying_laws.functions_that_stay_are_alike.Goals as goal

pub returns-clause-renamed : goal.returns-clause-renamed
returns-clause-renamed c p q k few n s f at t u e d G H w fields vars ws g h a b = function_stays c.demands_are_orderly.ensures p q k n s f t u e d (few_names p few n n s f t at e) G H w fields vars ws g h a b no_openings (record { turns = 0; strays = false })

pub returns-clause-called : goal.returns-clause-called
returns-clause-called c p q k few n s f at t u e d G H w fields vars ws g h a b strays units N = function_stays c.demands_are_orderly.ensures p q k n s f t u e d (few_names p few n n s f t at e) G H w fields vars ws g h a b (calls_of (number_there k) (a_turn strays) units N) (a_turn strays)

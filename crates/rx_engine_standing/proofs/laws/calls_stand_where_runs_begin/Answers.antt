use Rattle.rx_engine_standing.proofs.Standing.{call_stands}
use Rattle.rx_engine_standing.proofs.laws.calls_stand_where_runs_begin.Goals as goal

pub returns : goal.returns
returns c = λ D E N k R f made a b step front Z G fits A h end few. call_stands N R f A made a b step front G D E k Z fits end few h

use Rattle.std.proofs.Common.{List, [], subst}
use Rattle.rx_typeck_solver.specs.declared.facts.Demand.{Demand}
use Rattle.rx_typeck_typed.specs.Demands.{demands, of_statements}
use Rattle.rx_engine_blocks.specs.DemandsLike.{DemandsLike}
use Rattle.rx_engine_blocks.specs.Blocks.{none_behind, ToldIn}
use Rattle.rx_engine_blocks.specs.Parts.{StandsFor}
use Rattle.rx_engine_holes.proofs.laws.runs_and_calls_for_them_are_valid.Goals as goal

pub returns : goal.returns
returns c = λ r u view behind q w D E kr kq A V W f g h run call copied asked given head end same runs calls among loops round inner k copies parts oh og v references views wells fixes others ih ig added_head added_end added_call.
    let copy = of_statements h.item copied [] in
    let like = subst (λ (xs : List Demand). DemandsLike r (StandsFor r u view behind (ToldIn q none_behind (demands g)) D E A V (demands h)) xs copy) (runs [])
    (c.moved_statements_ask_alike.ensures r u view behind q none_behind (demands g) D E kr A V (demands h) references ih.meets inner f.item h.item k run copied copies) in
    let outside = c.functions_round_a_run_ask_alike.ensures q w r behind (demands h) (demands g) D E kq A W (λ x y e. cc) ig.meets loops run call asked given same f g runs calls round in
    c.runs_are_valid.ensures r u view behind q w D E kr kq A V W (demands f) asked given head copy end (demands h) (demands g) parts among like outside oh og v references views wells fixes others ih ig added_head added_end added_call

use Rattle.std.proofs.Common.{[]}
use Rattle.rx_typeck_typed.specs.Demands.{of_parameters, of_statements}
use Rattle.rx_engine_blocks.specs.Along.{composed}
use Rattle.rx_engine_blocks.specs.Parts.{SameAs}
use Rattle.rx_engine_blocks.proofs.MadeCode.{parameters_keep, statements_keep, EachMade, one_made, made_about, no_literals}
use Rattle.rx_engine_blocks.proofs.laws.what_is_made_is_added.Goals as goal

pub returns : goal.returns
returns c = λ r u view A V f xs ss h k.
    let P = SameAs (composed r u view A V) V in
    let p = parameters_keep P (EachMade P) (one_made P) xs h [] tt in
    let s = statements_keep P (EachMade P) (one_made P) f ss k [] tt in (
      record { about = made_about P (of_parameters xs []) p; literals = no_literals P (of_parameters xs []) p },
      record { about = made_about P (of_statements f ss []) s; literals = no_literals P (of_statements f ss []) s },
    )

use Rattle.std.proofs.Common.{[]}
use Rattle.rx_typeck_typed.specs.Demands.{demands, of_statements}
use Rattle.rx_engine_blocks.specs.Along.{composed, none_viewed}
use Rattle.rx_engine_holes.specs.Others.{Anywhere}
use Rattle.rx_engine_holes.specs.Entries.{assigned, of_text}
use Rattle.rx_engine_holes.proofs.Adding.{appended, names_its_own, statements_adds}
use Rattle.rx_engine_holes.proofs.Integers.{no_integer, no_literal, statements_keep}
use Rattle.rx_engine_holes.proofs.Themselves.{others_are_valid, round_a_run}
use Rattle.rx_engine_holes.proofs.Entering.{entries_are_had, tells_text}
use Rattle.rx_engine_holes.proofs.Calling.{statements_meet}
use Rattle.rx_engine_holes.proofs.Fitted.{statements_made}
use Rattle.rx_engine_holes.proofs.laws.functions_with_statements_that_fit_are_valid.Goals as goal

pub returns : goal.returns
returns c = λ q w D E k A loops run call same f g round ordered valid fixes made x p.
    let g' = q.items f.item in
    let plain = statements_keep Anywhere g' call (statements_made E g' x) [] tt in
    others_are_valid q w D E k A (assigned made) (demands f) (demands g) (of_statements f.item run []) (of_statements g' call []) ordered
    (round_a_run q loops (of_statements f.item run []) (of_statements g' call []) run call same f g (λ ds. appended (statements_adds f.item run) ds) (λ ds. appended (statements_adds g' call) ds) round) valid (names_its_own (statements_adds f.item run))
    (record {
      fixes = fixes;
      met = statements_meet E (composed q w none_viewed A (assigned made)) g' (of_text q w A) (tells_text q w A (assigned made)) x (entries_are_had q w A made p) [] tt;
      no_integer = λ n. (λ i. no_literal n (of_statements g' call []) plain i, λ s i. no_integer n s (of_statements g' call []) plain i);
    })

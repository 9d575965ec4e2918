use Rattle.std.proofs.Common.{[]}
use Rattle.rx_typeck_typed.specs.Demands.{demands, of_statements}
use Rattle.rx_engine_holes.proofs.Adding.{appended, names_its_own, statements_adds}
use Rattle.rx_engine_holes.proofs.Themselves.{others_are_valid, round_a_run}
use Rattle.rx_engine_holes.proofs.laws.functions_with_others_for_a_run_are_valid.Goals as goal

pub returns : goal.returns
returns c = λ q w D E k A W loops run call same f g round ordered valid fit.
    others_are_valid q w D E k A W (demands f) (demands g) (of_statements f.item run []) (of_statements (q.items f.item) call []) ordered
    (round_a_run q loops (of_statements f.item run []) (of_statements (q.items f.item) call []) run call same f g (λ ds. appended (statements_adds f.item run) ds) (λ ds. appended (statements_adds (q.items f.item) call) ds) round) valid (names_its_own (statements_adds f.item run)) fit

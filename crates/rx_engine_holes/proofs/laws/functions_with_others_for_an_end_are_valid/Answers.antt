use Rattle.std.proofs.Common.{[]}
use Rattle.rx_typeck_typed.specs.Demands.{demands}
use Rattle.rx_engine_blocks.specs.Renumbering.{node_at}
use Rattle.rx_engine_holes.specs.Tail.{of_end}
use Rattle.rx_engine_holes.proofs.Adding.{appended, end_adds, names_its_own}
use Rattle.rx_engine_holes.proofs.Themselves.{others_are_valid, round_an_end}
use Rattle.rx_engine_holes.proofs.laws.functions_with_others_for_an_end_are_valid.Goals as goal

pub returns : goal.returns
returns c = λ q w D E k A W loops n s d run o call p same same_never f g round ordered valid fit.
    others_are_valid q w D E k A W (demands f) (demands g) (of_end f.item n d run o []) (of_end (q.items f.item) (node_at q n s) d call p []) ordered
    (round_an_end q loops (of_end f.item n d run o []) (of_end (q.items f.item) (node_at q n s) d call p []) n s d run o call p same same_never f g (λ ds. appended (end_adds f.item n d run o) ds) (λ ds. appended (end_adds (q.items f.item) (node_at q n s) d call p) ds) round) valid (names_its_own (end_adds f.item n d run o)) fit

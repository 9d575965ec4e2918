use Rattle.std.proofs.Common.{[]}
use Rattle.rx_typeck_typed.specs.Demands.{demands}
use Rattle.rx_engine_blocks.specs.Along.{composed, none_viewed}
use Rattle.rx_engine_blocks.specs.Renumbering.{node_at}
use Rattle.rx_engine_holes.specs.Others.{Anywhere}
use Rattle.rx_engine_holes.specs.Tail.{of_end}
use Rattle.rx_engine_holes.specs.Entries.{assigned, of_text}
use Rattle.rx_engine_holes.proofs.Adding.{appended, end_adds, names_its_own}
use Rattle.rx_engine_holes.proofs.Integers.{end_keeps, no_integer, no_literal}
use Rattle.rx_engine_holes.proofs.Themselves.{others_are_valid, round_an_end}
use Rattle.rx_engine_holes.proofs.Entering.{entries_are_had, tells_text}
use Rattle.rx_engine_holes.proofs.Calling.{end_meets}
use Rattle.rx_engine_holes.proofs.Fitted.{end_made}
use Rattle.rx_engine_holes.proofs.laws.functions_with_ends_that_fit_are_valid.Goals as goal

pub returns : goal.returns
returns c = λ q w D E k A loops n s d run o call p same same_never f g round ordered valid fixes made x a.
    let g' = q.items f.item in
    let m = node_at q n s in
    let z = end_made E g' x in
    let plain = end_keeps Anywhere g' m d call p z.0 z.1 [] tt in
    others_are_valid q w D E k A (assigned made) (demands f) (demands g) (of_end f.item n d run o []) (of_end g' m d call p []) ordered
    (round_an_end q loops (of_end f.item n d run o []) (of_end g' m d call p []) n s d run o call p same same_never f g (λ ds. appended (end_adds f.item n d run o) ds) (λ ds. appended (end_adds g' m d call p) ds) round) valid (names_its_own (end_adds f.item n d run o))
    (record {
      fixes = fixes;
      met = end_meets E (composed q w none_viewed A (assigned made)) (of_text q w A) (tells_text q w A (assigned made)) g' m d x (entries_are_had q w A made a) [] tt;
      no_integer = λ k. (λ i. no_literal k (of_end g' m d call p []) plain i, λ s i. no_integer k s (of_end g' m d call p []) plain i);
    })

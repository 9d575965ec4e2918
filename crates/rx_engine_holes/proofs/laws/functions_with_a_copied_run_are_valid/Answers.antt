use Rattle.std.proofs.Common.{List, [], ◌++◌, subst}
use Rattle.rx_typeck_solver.specs.declared.facts.Demand.{Demand}
use Rattle.rx_typeck_solver.specs.Valid.{Valid}
use Rattle.rx_typeck_typed.specs.Demands.{demands, of_statements}
use Rattle.rx_engine_blocks.specs.Blocks.{task_of}
use Rattle.rx_engine_blocks.specs.ByItself.{ByItself}
use Rattle.rx_engine_blocks.specs.DemandsLike.DemandsLike.{like_no_demand}
use Rattle.rx_engine_blocks.specs.Parts.{StandsFor}
use Rattle.rx_engine_blocks.proofs.Sites.{changed_stands}
use Rattle.rx_engine_blocks.proofs.Standing.{one_stands, pinned_stands, seen_stands}
use Rattle.rx_engine_typing.proofs.Forms.{statements_like}
use Rattle.rx_engine_holes.specs.Named.{NamedIn}
use Rattle.rx_engine_holes.specs.Returned.{returned_holes}
use Rattle.rx_engine_holes.proofs.Alone.{copied_is_valid}
use Rattle.rx_engine_holes.proofs.Returned.{returned_asks, returned_fits}
use Rattle.rx_engine_holes.proofs.laws.functions_with_a_copied_run_are_valid.Goals as goal

pub returns : goal.returns
returns c = λ r u view behind D E known A V f h run copied front back head end text parts loops k copies ordered valid references views wells fixes itself added_head added_end.
    let There = NamedIn (front ++ back) in
    let es = demands h in
    let S = StandsFor r u view behind There D E A V es in
    let fits = returned_fits r u view behind D E A V loops f.item S (seen_stands r u view behind There D E known A V es references itself.meets) (pinned_stands r u view behind There D E known A V es) (one_stands r u view behind There D E known A V es) (changed_stands r u view behind There D E known A V es) in
    let asks = returned_asks r u view behind D E A V loops f.item S (seen_stands r u view behind There D E known A V es references itself.meets) (pinned_stands r u view behind There D E known A V es) (one_stands r u view behind There D E known A V es) (changed_stands r u view behind There D E known A V es) in
    let like = statements_like r loops (returned_holes r u view behind D E A V loops f.item k) S (fits k) f.item (asks h.item k) copies like_no_demand in
    copied_is_valid r u view behind D E known A V front (of_statements f.item run []) back head (of_statements h.item copied []) end es like parts ordered
    (subst (λ (ds : List Demand). Valid D (task_of ds) A) text valid) references views wells fixes (subst (λ (ds : List Demand). ByItself r u view There E A V ds es) text itself) added_head added_end

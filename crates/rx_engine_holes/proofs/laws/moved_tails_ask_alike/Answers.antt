use Rattle.std.proofs.Common.{[], ◌∷◌}
use Rattle.rx_typeck_solver.specs.declared.facts.Op.TheVariants as op
use Rattle.rx_typeck_typed.specs.Asking.{expected}
use Rattle.rx_engine_blocks.specs.Blocks.{ToldIn}
use Rattle.rx_engine_blocks.specs.DemandsLike.DemandsLike.{like_no_demand}
use Rattle.rx_engine_blocks.specs.Parts.{StandsFor}
use Rattle.rx_engine_blocks.proofs.Sites.{changed_stands}
use Rattle.rx_engine_blocks.proofs.Standing.{seen_stands, pinned_stands, one_stands}
use Rattle.rx_engine_typing.proofs.Looks.{like_node}
use Rattle.rx_engine_typing.proofs.Rules.{expects_like}
use Rattle.rx_engine_typing.proofs.Forms.{exp_alike, statements_like}
use Rattle.rx_engine_holes.specs.Returned.{returned_holes}
use Rattle.rx_engine_holes.proofs.Returned.{returned_fits, returned_asks}
use Rattle.rx_engine_holes.proofs.laws.moved_tails_ask_alike.Goals as goal

pub returns : goal.returns
returns c = λ r u view behind q elsewhere fs D E known A V es x m loops f g k n s a b e e' h t.
    let There = ToldIn q elsewhere fs in
    let S = StandsFor r u view behind There D E A V es in
    let H = returned_holes r u view behind D E A V loops f k in
    let fits = returned_fits r u view behind D E A V loops f S (seen_stands r u view behind There D E known A V es x m) (pinned_stands r u view behind There D E known A V es) (one_stands r u view behind There D E known A V es) (changed_stands r u view behind There D E known A V es) k in
    let asks = returned_asks r u view behind D E A V loops f S (seen_stands r u view behind There D E known A V es x m) (pinned_stands r u view behind There D E known A V es) (one_stands r u view behind There D E known A V es) (changed_stands r u view behind There D E known A V es) g k in
    exp_alike r loops H S fits f asks t (expects_like r loops H S fits op.Same (expected n ∷ []) (like_node r loops H S fits t) (statements_like r loops H S fits f asks h like_no_demand))

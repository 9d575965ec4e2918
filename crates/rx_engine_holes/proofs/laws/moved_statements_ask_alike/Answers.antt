use Rattle.rx_engine_blocks.specs.Blocks.{ToldIn}
use Rattle.rx_engine_blocks.specs.DemandsLike.DemandsLike.{like_no_demand}
use Rattle.rx_engine_blocks.specs.Parts.{StandsFor}
use Rattle.rx_engine_blocks.proofs.Sites.{changed_stands}
use Rattle.rx_engine_blocks.proofs.Standing.{seen_stands, pinned_stands, one_stands}
use Rattle.rx_engine_typing.proofs.Forms.{statements_like}
use Rattle.rx_engine_holes.specs.Returned.{returned_holes}
use Rattle.rx_engine_holes.proofs.Returned.{returned_fits, returned_asks}
use Rattle.rx_engine_holes.proofs.laws.moved_statements_ask_alike.Goals as goal

pub returns : goal.returns
returns c = λ r u view behind q elsewhere fs D E known A V es x m loops f g k a b h.
    let There = ToldIn q elsewhere fs in
    let S = StandsFor r u view behind There D E A V es in
    let fits = returned_fits r u view behind D E A V loops f S (seen_stands r u view behind There D E known A V es x m) (pinned_stands r u view behind There D E known A V es) (one_stands r u view behind There D E known A V es) (changed_stands r u view behind There D E known A V es) in
    let asks = returned_asks r u view behind D E A V loops f S (seen_stands r u view behind There D E known A V es x m) (pinned_stands r u view behind There D E known A V es) (one_stands r u view behind There D E known A V es) (changed_stands r u view behind There D E known A V es) in
    statements_like r loops (returned_holes r u view behind D E A V loops f k) S (fits k) f (asks g k) h like_no_demand

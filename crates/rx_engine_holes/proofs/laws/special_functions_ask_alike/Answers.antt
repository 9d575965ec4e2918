use Rattle.rx_engine_blocks.specs.Blocks.{ToldIn}
use Rattle.rx_engine_blocks.specs.Parts.{StandsFor}
use Rattle.rx_engine_blocks.proofs.Sites.{changed_stands}
use Rattle.rx_engine_blocks.proofs.Standing.{seen_stands, pinned_stands, one_stands}
use Rattle.rx_engine_typing.proofs.Forms.{function_like}
use Rattle.rx_engine_holes.specs.Special.{special_holes}
use Rattle.rx_engine_holes.proofs.Asking.{special_fits, special_asks}
use Rattle.rx_engine_holes.proofs.laws.special_functions_ask_alike.Goals as goal

pub returns : goal.returns
returns c = λ r u view behind q elsewhere fs D E k A V es x m loops f g h.
    let There = ToldIn q elsewhere fs in
    let S = StandsFor r u view behind There D E A V es in
    function_like r loops (special_holes r u view behind A V) S
    (special_fits (Unit {0}) r u view behind D E A V loops S (seen_stands r u view behind There D E k A V es x m) (pinned_stands r u view behind There D E k A V es) (one_stands r u view behind There D E k A V es) (changed_stands r u view behind There D E k A V es))
    (special_asks (Unit {0}) r u view behind D E A V loops S (seen_stands r u view behind There D E k A V es x m) (pinned_stands r u view behind There D E k A V es) (one_stands r u view behind There D E k A V es) (changed_stands r u view behind There D E k A V es))
    h

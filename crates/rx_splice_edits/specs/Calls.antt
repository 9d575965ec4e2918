-- Statements and a tail that are left to be written, each on a line.
use Rattle.std.specs.Prelude.{ℕ, Bool, true, false, List, [], ◌∷◌, ◌++◌}
use Rattle.rx_tree.specs.Plain as plain
use Rattle.rx_tree.specs.Plain.{OptionalExpression, Statement}
use Rattle.rx_print_spelling.specs.Pieces.{flat}
use Rattle.rx_splice_laws.specs.SplicedText.{call_pieces}

-- a line feed, where something stands in front
abbrev pub feed : Bool → List ℕ
feed false = []
feed true = 10 ∷ []

abbrev pub left_of : Bool → List Statement → OptionalExpression → List ℕ
left_of follows [] plain.absent = []
left_of follows [] (plain.present e) = feed follows ++ flat (call_pieces [] (plain.present e))
left_of follows (a ∷ ss) o = feed follows ++ flat (call_pieces (a ∷ ss) o)

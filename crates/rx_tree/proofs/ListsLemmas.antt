-- Statements as a list and back, by recursion.
use Rattle.std.proofs.Common.{◌≡◌, List, [], ◌∷◌, ◌++◌, length, Some, refl, ap}
use Rattle.rx_tree.specs.Plain as plain
use Rattle.rx_tree.specs.Plain.{Statement, Statements}
use Rattle.rx_tree.specs.PlainOf.{statements_of}
use Rattle.rx_tree.specs.Lists.{listed, nth}

pub listed-statements_of : (l : List Statement) → listed (statements_of l) ≡ l
listed-statements_of [] = refl
listed-statements_of (a ∷ l) = ap (λ t. a ∷ t) (listed-statements_of l)

pub statements_of-listed : (ss : Statements) → statements_of (listed ss) ≡ ss
statements_of-listed plain.no_statement = refl
statements_of-listed (plain.statement_and a ss) = ap (λ t. plain.statement_and a t) (statements_of-listed ss)

pub nth-middle : {A : Type 0} (before : List A) (x : A) (behind : List A) → nth (before ++ (x ∷ behind)) (length before) ≡ Some x
nth-middle [] x behind = refl
nth-middle (y ∷ before) x behind = nth-middle before x behind

-- A value that is let pass: made of itself alone, as what `&&` and `||` give is of their last operand. So a text may tell that it came behind a value
-- which is not dropped there, as that of a block's tail is not. No tree of a text has it.
use Rattle.std.specs.Prelude.{[], ◌∷◌}
use Rattle.rx_typed.specs.Tree as tree
use Rattle.rx_typed.specs.Tree.{Exp, Temporary, mark_of, temporary_of}
use Rattle.rx_lower_walks.specs.Actions.{Build, Action, at_mark}

abbrev pub let_pass : Exp → Exp
let_pass e = tree.build (mark_of e) tree.lazy (tree.operand_and 0 e tree.no_operand)

-- what a walk shows of it, where it goes to this temporary
abbrev pub passage : Exp → Temporary → Action
passage e d = at_mark (mark_of e) (Build tree.lazy (0 ∷ []) (temporary_of e ∷ []) d)

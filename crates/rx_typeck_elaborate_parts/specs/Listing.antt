-- The parts of typed trees that the definition chains, as lists.
use Rattle.std.specs.Prelude.{ℕ, List, [], ◌∷◌}
use Rattle.rx_typed.specs.Tree as tree
use Rattle.rx_typed.specs.Tree.{Pattern, Subpatterns, Exp, Operands, Arms}

abbrev pub parts_listed : Subpatterns → List (ℕ × Pattern)
parts_listed tree.no_part = []
parts_listed (tree.part_and i p ps) = (i, p) ∷ parts_listed ps

abbrev pub operands_listed : Operands → List (ℕ × Exp)
operands_listed tree.no_operand = []
operands_listed (tree.operand_and i e es) = (i, e) ∷ operands_listed es

abbrev pub arms_listed : Arms → List (Pattern × Exp)
arms_listed tree.no_arm = []
arms_listed (tree.arm_and p e l) = (p, e) ∷ arms_listed l

-- What typed expressions are made to.
use Rattle.std.proofs.Common.{◌≡◌, List, [], ◌∷◌, map, refl}
use Rattle.rx_typed.specs.declared.nodes.Node.{Node}
use Rattle.rx_typed.specs.Elaborated.{Assigned, tuple_of, mark}
use Rattle.rx_typed.specs.Tree as tree
use Rattle.rx_typed.specs.declared.tree.Operand.{Operand}
use Rattle.rx_typed.specs.PlainTree.{plain-Operand, operands_of}

pub tuple_without : (T : Assigned) (n : Node) (es : List Operand) → es ≡ [] → tuple_of T n (operands_of (map plain-Operand es)) ≡ tree.unit (mark T n)
tuple_without T n [] e = refl
tuple_without T n (x ∷ es) e = absurd cc

pub tuple_with : (T : Assigned) (n : Node) (es : List Operand) → (es ≡ [] → ⊥) → tuple_of T n (operands_of (map plain-Operand es)) ≡ tree.build (mark T n) tree.tuple (operands_of (map plain-Operand es))
tuple_with T n [] e = absurd (e refl)
tuple_with T n (x ∷ es) e = refl

pub ruleset tuple_made = (tuple_without, tuple_with)

-- What the rules of types ask of operators (Rust Reference, "Operator expressions").
use Rattle.std.specs.Prelude.{Bool, ◌||◌, List, [], ◌∷◌, ◌++◌}
use Rattle.rx_tree.specs.declared.tree.BinaryOp.{BinaryOp}
use Rattle.rx_typed.specs.declared.nodes.Node.{Node}
use Rattle.rx_typeck_solver.specs.declared.facts.Rule.{Rule}
use Rattle.rx_typeck_solver.specs.declared.facts.Op.TheVariants as op
use Rattle.rx_typeck_solver.specs.declared.facts.Test.TheVariants as test
use Rattle.rx_typeck_solver.specs.declared.facts.Fact.{Fact}
use Rattle.rx_typeck_solver.specs.declared.facts.Fact.TheVariants as fact
use Rattle.rx_typeck_typed.specs.Asking.{Asking, ◌>>◌, ask, typed, type_of, is, alike, passes, all, signed}
use Rattle.rx_typeck_typed.specs.rules.Places.{value_at}
use Rattle.rx_typeck_typed.specs.rules.Expressions.{own}

-- two operands of one type, where they have one: each its node, and whether it is Never
abbrev pub same_operands : Node → Bool → Node → Bool → List Fact
same_operands a x b y = typed (x || y) (alike (type_of a) (type_of b))

abbrev pub integer_operand : Node → Bool → List Fact
integer_operand a x = typed x (fact.Integer a.number all)

abbrev pub plain_operand : Node → Bool → List Fact
plain_operand a x = typed x (passes test.Plain (type_of a ∷ []))

abbrev pub truth_operand : Node → Bool → List Fact
truth_operand a x = typed x (is (type_of a) op.Truth [])

-- an operand has the type of the node
abbrev pub own_operand : Node → Node → Bool → List Fact
own_operand n a x = typed x (alike (type_of n) (type_of a))

-- two integers of one kind, which is that of the node (Rust Reference, "Arithmetic and logical binary operators")
abbrev pub arithmetic : Node → Node → Bool → Node → Bool → Asking
arithmetic n a x b y = ask n Rule.KindOf ((own_operand n a x ++ own_operand n b y) ++ fact.Integer n.number all ∷ []) >> value_at n

-- two integers or truth values of one type (Rust Reference, "Comparison operators")
abbrev pub equality : Node → Node → Bool → Node → Bool → Asking
equality n a x b y = ask n Rule.KindOf ((plain_operand a x ++ plain_operand b y) ++ same_operands a x b y) >> own n op.Truth []

-- two integers of one kind
abbrev pub order : Node → Node → Bool → Node → Bool → Asking
order n a x b y = ask n Rule.KindOf ((integer_operand a x ++ integer_operand b y) ++ same_operands a x b y) >> own n op.Truth []

-- two truth values (Rust Reference, "Lazy boolean operators")
abbrev pub lazy : Node → Node → Bool → Node → Bool → Asking
lazy n a x b y = ask n Rule.KindOf (truth_operand a x ++ truth_operand b y) >> own n op.Truth []

-- two integers of one kind, the first of which is changed (Rust Reference, "Compound assignment expressions")
abbrev pub updated : Node → Node → Bool → Node → Bool → Asking
updated n a x b y = ask n Rule.KindOf ((integer_operand a x ++ integer_operand b y) ++ same_operands a x b y)

-- an integer of a signed kind, which is that of the node (Rust Reference, "Negation operators")
abbrev pub negated : Node → Node → Bool → Asking
negated n a x = ask n Rule.KindOf (own_operand n a x ++ fact.Integer n.number signed ∷ []) >> value_at n

-- the opposite of a truth value (Rust Reference, "Negation operators")
abbrev pub inverted : Node → Node → Bool → Asking
inverted n a x = ask n Rule.KindOf (truth_operand a x) >> own n op.Truth []

abbrev pub operation : BinaryOp → Node → Node → Bool → Node → Bool → Asking
operation BinaryOp.Or = lazy
operation BinaryOp.And = lazy
operation BinaryOp.Eq = equality
operation BinaryOp.Ne = equality
operation BinaryOp.Lt = order
operation BinaryOp.Le = order
operation BinaryOp.Gt = order
operation BinaryOp.Ge = order
operation _ = arithmetic

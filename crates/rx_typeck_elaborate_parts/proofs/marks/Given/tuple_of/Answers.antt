use Rattle.std.proofs.Common.{◌≡◌, [], arith}
use Rattle.rx_typeck_elaborate_parts.specs.Coercing.{types_of}
use Rattle.rx_typeck_elaborate_parts.proofs.Tuples.{tuple_with}
use Rattle.rx_typeck_elaborate_parts.proofs.marks.Given.tuple_of.Goals as goal

pub returns-else-is_empty : goal.returns-else-is_empty
returns-else-is_empty c =
    let some : c.args.operands ≡ [] → ⊥ = λ e. grind arith in
    simp (tuple_with (types_of c.args.self.now) c.args.node c.args.operands some) c.build.ensures

-- The rules of types: what each asks at each node, in the order of the text. A demand stands at the node and carries
-- the name of the rule that it belongs to; a fact that only gives a node its own type belongs to Equal. The rules stand by topic in `rules`;
-- here is what they ask of a function.
use Rattle.std.specs.Prelude.{List, [], ◌∷◌, Option, Some, None}
use Rattle.rx_typed.specs.declared.nodes.Node.{Node}
use Rattle.rx_typed.specs.Named.{Written, Parameter, Function, written_node, body_node}
use Rattle.rx_typeck_solver.specs.declared.facts.Rule.{Rule}
use Rattle.rx_typeck_solver.specs.declared.facts.Subject.TheVariants as subject
use Rattle.rx_typeck_solver.specs.declared.facts.Op.TheVariants as op
use Rattle.rx_typeck_solver.specs.declared.facts.Demand.{Demand}
use Rattle.rx_typeck_solver.specs.Valid.{Task, literals_of}
use Rattle.rx_typeck_solver.specs.declared.facts.Fact.TheVariants as fact
use Rattle.rx_typeck_typed.specs.Asking.{Asking, ◌>>◌, nothing, ask, type_of, alike}
pub use Rattle.rx_typeck_typed.specs.rules.Types.{written_nodes, lifetimes_asked, written, of_type, of_types, limits, whole_type}
pub use Rattle.rx_typeck_typed.specs.rules.Places.{through, coerces, expects_own, kept, lendable, place_in, place_at, value_in, value_at, never_in, never_at, writable, assignable_at, assignable, step_at, borrowed}
pub use Rattle.rx_typeck_typed.specs.rules.Patterns.{Matched, a_value, a_place, an_initialiser, matched_in, matched_if, matched, binding_of, direct, count, field_names, under, pattern_is, minus, bound_at, literal_at, part_is, of_pattern, of_parts, of_variant_parts, of_field_patterns, tuple_at, variant_at, struct_at, part_with, whole_pattern}
pub use Rattle.rx_typeck_typed.specs.rules.Operators.{same_operands, integer_operand, plain_operand, truth_operand, own_operand, arithmetic, equality, order, lazy, updated, negated, inverted, operation}
pub use Rattle.rx_typeck_typed.specs.rules.Expressions.{expects, as_part, joins, join, hands_on, part_before, part_after, tested, printed, nothing_given, not_never, own, exp_nodes, argument_count, names_given, named_at, fits_given, given, returns_unit, branch_before, branch_after, if_joins, loop_given, Listed, members, values, parameters, parts_of, each_before, each_after, integer_at}
pub use Rattle.rx_typeck_typed.specs.rules.Statements.{one_variable_at, one_variable, declared, typed_before, initialised_by, initialised, evaluated, tail_before, tail_after}
pub use Rattle.rx_typeck_typed.specs.rules.Forms.{of_exp, of_each, of_fields, of_else, of_returned, of_arms, of_body, of_statement, of_statements}
pub use Rattle.rx_typeck_typed.specs.rules.Pieces.{of_form, of_assigned, of_given, of_call, of_hidden_call, of_variant, of_make, of_return, of_initialiser, of_element, of_field, of_branches, of_scrutinee, of_arm, of_part, of_body_part, of_unit_body, of_tail}

abbrev pub of_parameter : Parameter → Asking
of_parameter x = whole_type x.typ >> ask (written_node x.typ) Rule.Equal (alike (subject.Variable x.variable) (type_of (written_node x.typ)) ∷ [])

abbrev pub of_parameters : List Parameter → Asking
of_parameters [] = nothing
of_parameters (x ∷ xs) = of_parameter x >> of_parameters xs

abbrev pub of_result : Option Written → Asking
of_result None = nothing
of_result (Some t) = whole_type t

-- variables that no assignment gives a type
abbrev pub of_never_given : List Node → Asking
of_never_given [] = nothing
of_never_given (n ∷ ns) = ask n Rule.Unclear (fact.Never ∷ []) >> of_never_given ns

abbrev pub of_function : Function → Asking
of_function f = of_parameters f.params >> of_result f.result >> expects (body_node f.body) (op.Result f.item) [] >> of_body f.item f.body
    >> of_never_given f.never_given

-- all that the rules ask of a function
abbrev pub demands : Function → List Demand
demands f = of_function f []

-- and its literals without a suffix
abbrev pub task : Function → Task
task f = record { demands = demands f; literals = literals_of (demands f) }

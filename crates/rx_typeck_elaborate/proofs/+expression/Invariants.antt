-- The invariants of the loops (what is made, and what is left of the list behind it, are the whole), and the measures of the calls.
use Rattle.std.proofs.Common.{◌≡◌, ◌++◌, ◌||◌, ◌&&◌, ◌+◌, ◌*◌, max, map, drop}
use denote.Param.Weighed.{most}
use Rattle.rx_tree.proofs.tree.Expr.TheLaws as expr
use Rattle.rx_tree.proofs.tree.Block.TheLaws as block
use Rattle.rx_tree.proofs.tree.Arm.TheLaws as arm
use Rattle.rx_tree.specs.PlainOf.{plain-Expr, plain-FieldExpr, plain-Arm, plain-Stmt, expressions_of, field_expressions_of, arms_of, statements_of}
use Rattle.rx_typed.specs.Named.{any_diverges, any_field_diverges, all_never, all_diverge, some_diverges}
use Rattle.rx_typed.specs.Naming as naming
use Rattle.rx_typed.specs.Elaborated.{operands, fields, arms}
use Rattle.rx_typed.specs.PlainTree as typed
use Rattle.rx_typeck_elaborate_parts.specs.Coercing.{types_of}
use Rattle.rx_typeck_elaborate_parts.specs.Listing.{operands_listed, arms_listed}
use Rattle.rx_typeck_elaborate_parts.specs.Telling.{statements_listed}
use Rattle.rx_typeck_elaborate_parts.specs.Walks.{moved}
use Rattle.rx_typeck_elaborate.proofs.+expression.Given as goal

abbrev pub invariant-operands::operands-loop-field : goal.invariant-operands::operands-loop-field
invariant-operands::operands-loop-field l =
    let left = naming.of_expressions l.fn.site (expressions_of (map plain-Expr (drop l.field l.exprs))) l.walk.cursor in
    let whole = naming.of_expressions l.fn.site (expressions_of (map plain-Expr l.fn.exprs)) l.fn.walk.cursor in
    (map typed.plain-Operand l.all ++ operands_listed (operands (types_of l.walk.given) l.field left.0)
    ≡ operands_listed (operands (types_of l.fn.walk.given) 0 whole.0))
    × ((l.diverges || any_diverges left.0) ≡ any_diverges whole.0)
    × (moved left.1 l.walk ≡ moved whole.1 l.fn.walk)

abbrev pub invariant-operands::field_trees-loop-field : goal.invariant-operands::field_trees-loop-field
invariant-operands::field_trees-loop-field l =
    let left = naming.of_fields (field_expressions_of (map plain-FieldExpr (drop l.field-index l.fields))) l.walk.cursor in
    let whole = naming.of_fields (field_expressions_of (map plain-FieldExpr l.fn.fields)) l.fn.walk.cursor in
    (map typed.plain-Operand l.all ++ operands_listed (fields (types_of l.walk.given) l.fn.item left.0)
    ≡ operands_listed (fields (types_of l.fn.walk.given) l.fn.item whole.0))
    × ((l.diverges || any_field_diverges left.0) ≡ any_field_diverges whole.0)
    × (moved left.1 l.walk ≡ moved whole.1 l.fn.walk)

abbrev pub invariant-branches::arm_trees-loop-arm : goal.invariant-branches::arm_trees-loop-arm
invariant-branches::arm_trees-loop-arm l =
    let left = naming.of_arms l.fn.site (arms_of (map plain-Arm (drop l.arm-index l.arms))) l.walk.cursor in
    let whole = naming.of_arms l.fn.site (arms_of (map plain-Arm l.fn.arms)) l.fn.walk.cursor in
    (map typed.plain-Arm l.all ++ arms_listed (arms (types_of l.walk.given) left.0)
    ≡ arms_listed (arms (types_of l.fn.walk.given) whole.0))
    × ((l.ways.never && all_never left.0) ≡ all_never whole.0)
    × ((l.ways.diverges && all_diverge left.0) ≡ all_diverge whole.0)
    × (moved left.1 l.walk ≡ moved whole.1 l.fn.walk)

abbrev pub invariant-statements::statement_trees-loop-statement : goal.invariant-statements::statement_trees-loop-statement
invariant-statements::statement_trees-loop-statement l =
    let left = naming.of_statements (statements_of (map plain-Stmt (drop l.statement-index l.statements))) l.walk.cursor in
    let whole = naming.of_statements (statements_of (map plain-Stmt l.fn.statements)) l.fn.walk.cursor in
    (map typed.plain-Stmt l.all ++ statements_listed (types_of l.walk.given) left.0
    ≡ statements_listed (types_of l.fn.walk.given) whole.0)
    × ((l.diverges || some_diverges left.0) ≡ some_diverges whole.0)
    × (moved left.1 l.walk ≡ moved whole.1 l.fn.walk)

-- ---- that the calls end: by the depth of the tree, and in one depth by the rank of the function

abbrev pub decreases-forms::expression : goal.decreases-forms::expression
decreases-forms::expression l = 8 * (goal.size-forms::expression l)

abbrev pub decreases-walked_places::no_place : goal.decreases-walked_places::no_place
decreases-walked_places::no_place l = 8 * (goal.size-walked_places::no_place l) + 1

abbrev pub decreases-walked_places::matched_value : goal.decreases-walked_places::matched_value
decreases-walked_places::matched_value l = 8 * (goal.size-walked_places::matched_value l) + 1

abbrev pub decreases-walked_places::place : goal.decreases-walked_places::place
decreases-walked_places::place l = 8 * (goal.size-walked_places::place l) + 2

abbrev pub decreases-walked_places::field_place : goal.decreases-walked_places::field_place
decreases-walked_places::field_place l = 8 * (goal.size-walked_places::field_place l) + 3

abbrev pub decreases-walked_places::part_place : goal.decreases-walked_places::part_place
decreases-walked_places::part_place l = 8 * (goal.size-walked_places::part_place l) + 3

abbrev pub decreases-walked_places::deref_place : goal.decreases-walked_places::deref_place
decreases-walked_places::deref_place l = 8 * (goal.size-walked_places::deref_place l) + 3

abbrev pub decreases-walked_places::field_value : goal.decreases-walked_places::field_value
decreases-walked_places::field_value l = 8 * (goal.size-walked_places::field_value l) + 4

abbrev pub decreases-walked_places::part_value : goal.decreases-walked_places::part_value
decreases-walked_places::part_value l = 8 * (goal.size-walked_places::part_value l) + 4

abbrev pub decreases-walked_places::deref_value : goal.decreases-walked_places::deref_value
decreases-walked_places::deref_value l = 8 * (goal.size-walked_places::deref_value l) + 4

abbrev pub decreases-walked_places::matched_place : goal.decreases-walked_places::matched_place
decreases-walked_places::matched_place l = 8 * (goal.size-walked_places::matched_place l) + 3

abbrev pub decreases-walked_places::matched : goal.decreases-walked_places::matched
decreases-walked_places::matched l = 8 * (goal.size-walked_places::matched l) + 4

abbrev pub decreases-expressions::negate : goal.decreases-expressions::negate
decreases-expressions::negate l = 8 * (goal.size-expressions::negate l) + 1

abbrev pub decreases-expressions::invert : goal.decreases-expressions::invert
decreases-expressions::invert l = 8 * (goal.size-expressions::invert l) + 1

abbrev pub decreases-expressions::print : goal.decreases-expressions::print
decreases-expressions::print l = 8 * (goal.size-expressions::print l) + 1

abbrev pub decreases-expressions::borrow : goal.decreases-expressions::borrow
decreases-expressions::borrow l = 8 * (goal.size-expressions::borrow l) + 3

abbrev pub decreases-expressions::binary : goal.decreases-expressions::binary
decreases-expressions::binary l = 8 * max (goal.size-expressions::binary l) (expr.the_size l.right.now) + 1

abbrev pub decreases-expressions::update : goal.decreases-expressions::update
decreases-expressions::update l = 8 * max (goal.size-expressions::update l) (expr.the_size l.right.now) + 3

abbrev pub decreases-expressions::assign : goal.decreases-expressions::assign
decreases-expressions::assign l = 8 * max (goal.size-expressions::assign l) (expr.the_size l.right.now) + 3

abbrev pub decreases-expressions::gives : goal.decreases-expressions::gives
decreases-expressions::gives l = 8 * (goal.size-expressions::gives l) + 1

abbrev pub decreases-expressions::assigned : goal.decreases-expressions::assigned
decreases-expressions::assigned l = 8 * (goal.size-expressions::assigned l) + 1

abbrev pub decreases-operands::operand : goal.decreases-operands::operand
decreases-operands::operand l = 8 * (goal.size-operands::operand l) + 1

abbrev pub decreases-operands::operands : goal.decreases-operands::operands
decreases-operands::operands l = 8 * (goal.size-operands::operands l) + 2

abbrev pub decreases-operands::argument_trees : goal.decreases-operands::argument_trees
decreases-operands::argument_trees l = 8 * (goal.size-operands::argument_trees l) + 3

abbrev pub decreases-operands::tuple_tree : goal.decreases-operands::tuple_tree
decreases-operands::tuple_tree l = 8 * (goal.size-operands::tuple_tree l) + 3

abbrev pub decreases-operands::hidden_call : goal.decreases-operands::hidden_call
decreases-operands::hidden_call l = 8 * (goal.size-operands::hidden_call l) + 3

abbrev pub decreases-operands::open_call : goal.decreases-operands::open_call
decreases-operands::open_call l = 8 * (goal.size-operands::open_call l) + 3

abbrev pub decreases-operands::call_tree : goal.decreases-operands::call_tree
decreases-operands::call_tree l = 8 * (goal.size-operands::call_tree l) + 4

abbrev pub decreases-operands::variant_tree : goal.decreases-operands::variant_tree
decreases-operands::variant_tree l = 8 * (goal.size-operands::variant_tree l) + 4

abbrev pub decreases-operands::field_operand : goal.decreases-operands::field_operand
decreases-operands::field_operand l = 8 * (goal.size-operands::field_operand l)

abbrev pub decreases-operands::field_trees : goal.decreases-operands::field_trees
decreases-operands::field_trees l = 8 * (goal.size-operands::field_trees l) + 1

abbrev pub decreases-operands::make_tree : goal.decreases-operands::make_tree
decreases-operands::make_tree l = 8 * (goal.size-operands::make_tree l) + 2

abbrev pub decreases-branches::present : goal.decreases-branches::present
decreases-branches::present l = 8 * (goal.size-branches::present l) + 1

abbrev pub decreases-branches::otherwise : goal.decreases-branches::otherwise
decreases-branches::otherwise l = 8 * (goal.size-branches::otherwise l) + 2

abbrev pub decreases-branches::last : goal.decreases-branches::last
decreases-branches::last l = 8 * (goal.size-branches::last l) + 2

abbrev pub decreases-branches::block : goal.decreases-branches::block
decreases-branches::block l = 8 * (goal.size-branches::block l) + 2

abbrev pub decreases-branches::return_at : goal.decreases-branches::return_at
decreases-branches::return_at l = 8 * (goal.size-branches::return_at l) + 3

abbrev pub decreases-branches::ways : goal.decreases-branches::ways
decreases-branches::ways l = 8 * max (goal.size-branches::ways l) (block.the_size l.body.now) + 3

abbrev pub decreases-branches::if_at : goal.decreases-branches::if_at
decreases-branches::if_at l = 8 * max (goal.size-branches::if_at l) (max (expr.the_size l.condition.now) (block.the_size l.body.now)) + 4

abbrev pub decreases-branches::tested : goal.decreases-branches::tested
decreases-branches::tested l = 8 * (expr.the_size l.expr.now) + 5

abbrev pub decreases-branches::if_let : goal.decreases-branches::if_let
decreases-branches::if_let l = 8 * max (goal.size-branches::if_let l) (max (expr.the_size l.expr.now) (block.the_size l.body.now)) + 6

abbrev pub decreases-branches::match_at : goal.decreases-branches::match_at
decreases-branches::match_at l = 8 * max (goal.size-branches::match_at l) (most arm.the_size l.arms.now) + 5

abbrev pub decreases-branches::arm_trees : goal.decreases-branches::arm_trees
decreases-branches::arm_trees l = 8 * (goal.size-branches::arm_trees l) + 1

abbrev pub decreases-branches::arm_tree : goal.decreases-branches::arm_tree
decreases-branches::arm_tree l = 8 * (goal.size-branches::arm_tree l)

abbrev pub decreases-statements::loop_at : goal.decreases-statements::loop_at
decreases-statements::loop_at l = 8 * (goal.size-statements::loop_at l) + 2

abbrev pub decreases-statements::while_at : goal.decreases-statements::while_at
decreases-statements::while_at l = 8 * max (goal.size-statements::while_at l) (block.the_size l.body.now) + 2

abbrev pub decreases-statements::while_let : goal.decreases-statements::while_let
decreases-statements::while_let l = 8 * max (expr.the_size l.expr.now) (block.the_size l.body.now) + 6

abbrev pub decreases-statements::body_tree : goal.decreases-statements::body_tree
decreases-statements::body_tree l = 8 * (goal.size-statements::body_tree l) + 1

abbrev pub decreases-statements::body_parts : goal.decreases-statements::body_parts
decreases-statements::body_parts l = 8 * (goal.size-statements::body_parts l)

abbrev pub decreases-statements::statement_trees : goal.decreases-statements::statement_trees
decreases-statements::statement_trees l = 8 * (goal.size-statements::statement_trees l) + 1

abbrev pub decreases-statements::statement_tree : goal.decreases-statements::statement_tree
decreases-statements::statement_tree l = 8 * (goal.size-statements::statement_tree l)

abbrev pub decreases-statements::evaluates : goal.decreases-statements::evaluates
decreases-statements::evaluates l = 8 * (goal.size-statements::evaluates l) + 1

abbrev pub decreases-statements::initialised : goal.decreases-statements::initialised
decreases-statements::initialised l = 8 * (expr.the_size l.expr.now) + 5

abbrev pub decreases-statements::let_parts : goal.decreases-statements::let_parts
decreases-statements::let_parts l = 8 * (expr.the_size l.expr.now) + 6

abbrev pub decreases-statements::lets : goal.decreases-statements::lets
decreases-statements::lets l = 8 * (expr.the_size l.expr.now) + 7

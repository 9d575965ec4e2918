-- What is told of the parts of expressions.
use Rattle.std.specs.Prelude.{ℕ, zero, suc, Bool, true, false, ◌&&◌, List, [], ◌∷◌, Option, Some, None}
use Rattle.rx_tree.specs.declared.tree.Expr.{Expr}
use Rattle.rx_tree.specs.declared.tree.TypeText.{TypeText}
use Rattle.rx_typed.specs.declared.nodes.Site.{Site}
use Rattle.rx_typed.specs.Named as named
use Rattle.rx_typed.specs.Named.{Else, body_node, body_never, body_diverges, else_never, else_diverges, all_never, all_diverge}
use Rattle.rx_typed.specs.Naming.{Cursor, Numbering, and_then, give, passed_on, gives_here, with_stage, branch_site, initialiser_site, counted, known_between, of_expression, of_pattern, of_body, of_optional, of_optional_type}
use Rattle.rx_tree.specs.Plain.{TypeTree, PatternTree, Expression, OptionalExpression, Body}
use Rattle.rx_typed.specs.declared.nodes.Node.{Node}
use Rattle.rx_typed.specs.declared.nodes.Stage.{Stage}
use Rattle.rx_typeck_elaborate_parts.specs.declared.patterns.Declares.{Declares}
use Rattle.rx_typed.specs.Elaborated as elaborated
use Rattle.rx_typed.specs.Elaborated.{Assigned}
use Rattle.rx_typed.specs.Tree as tree
use Rattle.rx_typed.specs.declared.tree.Expr.{Expr as ExprOf}
use Rattle.rx_typed.specs.declared.tree.Pattern.{Pattern as PatternOf}
use Rattle.rx_typed.specs.declared.tree.Matched.{Matched}
use Rattle.rx_typed.specs.PlainTree.{plain-Expr, plain-Pattern, plain-Matched}
use Rattle.rx_typeck_elaborate_parts.specs.declared.told.Ends.{Ends}
use Rattle.rx_typeck_elaborate_parts.specs.declared.told.Branch.{Branch}
use Rattle.rx_typeck_elaborate_parts.specs.declared.told.Ways.{Ways}

abbrev pub is_present : Else → Bool
is_present named.absent = false
is_present (named.present e) = true

abbrev pub branch_of : Else → Branch
branch_of o = record { present = is_present o; never = else_never o; diverges = else_diverges o }

abbrev pub ends_of : named.Body → Ends
ends_of b = record { node = body_node b; never = body_never b; diverges = body_diverges b }

abbrev pub ways_of : named.Arms → Ways
ways_of l = record { never = all_never l; diverges = all_diverge l }

-- whether a body is Never: whether it has a tail, whether that is Never, whether a statement diverges
abbrev pub never_by : Bool → Bool → Bool → Bool
never_by true v d = v
never_by false v d = d

abbrev pub branch_site_of : Site → Option Expr → Site
branch_site_of t None = Site.Value
branch_site_of t (Some e) = passed_on t

abbrev pub initialiser_site_of : Option TypeText → Site
initialiser_site_of None = Site.Scrutinee
initialiser_site_of (Some t) = Site.Initialises

abbrev pub has_no_type_of : Option TypeText → Bool
has_no_type_of None = true
has_no_type_of (Some t) = false

-- ---- the statements of a body

abbrev pub statements_listed : Assigned → named.Statements → List (tree.Body → tree.Body)
statements_listed T named.no_statement = []
statements_listed T (named.statement_and a ss) = elaborated.statement T a ∷ statements_listed T ss

-- the statements and the tail, or the unit
abbrev pub body_parts : Assigned → named.Body → List (tree.Body → tree.Body) × tree.Exp
body_parts T (named.body n ss o) = (statements_listed T ss, elaborated.tail T n o)

-- ---- parts that the definition numbers one after the other

-- the right side of an assignment, by the variable that waits for its type
abbrev pub right_side : Option (ℕ × ℕ) → (Site → Numbering named.Exp) → Numbering named.Exp
right_side None f = f Site.Expects
right_side (Some w) f = and_then (f Site.Reborrows) (λ e. and_then (gives_here w.0) (λ _. give e))

-- the body of an `if`, and what follows it
abbrev pub both_ways : Site → Body → OptionalExpression → Numbering (named.Body × Else)
both_ways t b o = and_then (of_body (branch_site t o) b) (λ b. and_then (of_optional (passed_on t) o) (λ o. give (b, o)))

abbrev pub ways_of_both : named.Body × Else → Ways
ways_of_both w = record { never = body_never w.0 && else_never w.1; diverges = body_diverges w.0 && else_diverges w.1 }

abbrev pub ways_made : Assigned → Node → named.Body × Else → tree.Exp × tree.Exp
ways_made T n w = (elaborated.body T w.0, elaborated.otherwise T n w.1)

abbrev pub plain_ways : ExprOf × ExprOf → tree.Exp × tree.Exp
plain_ways w = (plain-Expr w.0, plain-Expr w.1)

-- a pattern and what is matched with it, behind which its variables are known
abbrev pub a_test : PatternTree → Expression → Numbering (named.Pattern × named.Exp)
a_test p e = and_then counted (λ i. and_then (of_pattern p) (λ p. and_then counted (λ j.
    and_then (of_expression false Site.Scrutinee e) (λ e. and_then (known_between i j) (λ _. give (p, e))))))

abbrev pub test_made : Assigned → named.Pattern × named.Exp → tree.Pattern × tree.Scrutinee
test_made T w = (elaborated.pattern T None w.0, elaborated.matched T w.1 (elaborated.value T w.1))

abbrev pub plain_test : PatternOf × Matched → tree.Pattern × tree.Scrutinee
plain_test w = (plain-Pattern w.0, plain-Matched w.1)

abbrev pub an_arm : Site → PatternTree → Expression → Numbering (named.Pattern × named.Exp)
an_arm t p e = and_then counted (λ i. and_then (of_pattern p) (λ p. and_then counted (λ j. and_then (known_between i j) (λ _.
    and_then (of_expression false t e) (λ e. give (p, e))))))

-- the type of a `let`, and its initialiser
abbrev pub an_initialiser : Option TypeTree → Expression → Numbering named.Exp
an_initialiser y e = and_then (of_optional_type y) (λ y. of_expression false (initialiser_site y) e)

-- a variable that may wait for its type
abbrev pub waiting_for : Option ℕ → Node → Cursor → Cursor
waiting_for None n c = c
waiting_for (Some x) n c = with_stage x (Stage.Waits n.number n.span) c

abbrev pub waiting_if : Bool → Declares → Cursor → Cursor
waiting_if true d c = waiting_for d.variable d.node c
waiting_if false d c = c

-- the numbers from one on, so many
abbrev pub numbers_from : ℕ → ℕ → List ℕ
numbers_from i zero = []
numbers_from i (suc k) = i ∷ numbers_from (suc i) k

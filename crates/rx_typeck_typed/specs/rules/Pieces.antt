-- Parts of what the rules of types ask of a form, as a walk goes through them.
use Rattle.std.specs.Prelude.{ℕ, Bool, ◌&&◌, List, [], ◌∷◌, Option}
use Rattle.rx_typed.specs.declared.nodes.Node.{Node}
use Rattle.rx_typed.specs.declared.nodes.Use.{Use}
use Rattle.rx_typed.specs.Named as named
use Rattle.rx_typed.specs.Named.{Pattern, Exp, Exps, Else, Fields, Body, node_of, body_node, never, body_never, else_never}
use Rattle.rx_typeck_solver.specs.declared.facts.Rule.{Rule}
use Rattle.rx_typeck_solver.specs.declared.facts.Subject.{Subject}
use Rattle.rx_typeck_solver.specs.declared.facts.Op.TheVariants as op
use Rattle.rx_typeck_solver.specs.declared.facts.Test.TheVariants as test
use Rattle.rx_typeck_solver.specs.declared.facts.Passing.{Passing}
use Rattle.rx_typeck_solver.specs.declared.facts.Fact.TheVariants as fact
use Rattle.rx_typeck_typed.specs.Asking.{Asking, ◌>>◌, ask, type_of, passes}
use Rattle.rx_typeck_typed.specs.rules.Places.{assignable_at, step_at}
use Rattle.rx_typeck_typed.specs.rules.Patterns.{Matched, matched, whole_pattern}
use Rattle.rx_typeck_typed.specs.rules.Expressions.{expects, join, part_before, part_after, nothing_given, not_never, own, argument_count, names_given, named_at, given, returns_unit, branch_before, branch_after, if_joins, Listed, values, parameters, parts_of, each_before, each_after}
use Rattle.rx_typeck_typed.specs.rules.Statements.{tail_before, tail_after}
use Rattle.rx_typeck_typed.specs.rules.Forms.{of_exp, of_each, of_fields, of_else, of_returned, of_body}

-- an expression but for what it asks as a place
abbrev pub of_form : ℕ → Exp → Asking
of_form f (named.var n x) = named_at n x x.known
of_form f (named.field n e x) = of_exp f e >> step_at n (op.Field x) (node_of e)
of_form f (named.part n e i) = of_exp f e >> step_at n (op.Part i) (node_of e)
of_form f (named.deref n e) = of_exp f e >> step_at n op.Pointee (node_of e)
of_form f e = of_exp f e

-- the value of an assignment: of the node, what is assigned and its node, the dereferences
abbrev pub of_assigned : ℕ → Node → Node → Bool → Use → List Passing → Exp → Asking
of_assigned f n p whole x ps e = expects (node_of e) op.Same (type_of p ∷ []) >> of_exp f e >> assignable_at n whole x ps >> own n op.Unit []

-- the value of an assignment before which the variable waits for its type: of the node, that of the variable, the variable
-- behind it, the pattern that declares the variable where the assignment gives the type
abbrev pub of_given : ℕ → Node → Node → Use → Option ℕ → Exp → Asking
of_given f n p x d e = of_exp f e >> given n p x d (node_of e) (never e) >> own n op.Unit []

-- the arguments of a call
abbrev pub of_call : ℕ → Node → ℕ → Exps → Asking
of_call f n g es = ask n Rule.Count (passes (test.Takes g (argument_count es)) [] ∷ []) >> of_each f (parameters g) 0 es >> own n (op.Result g) []

abbrev pub of_hidden_call : ℕ → Node → Exps → Asking
of_hidden_call f n es = ask n Rule.NotFunction (fact.Never ∷ []) >> of_each f values 0 es

abbrev pub of_variant : ℕ → Node → ℕ → ℕ → Exps → Asking
of_variant f n i v es = ask n Rule.Count (passes (test.Holds i v (argument_count es)) [] ∷ []) >> of_each f (parts_of i v) 0 es >> own n (op.Item i) []

abbrev pub of_make : ℕ → Node → ℕ → Fields → Asking
of_make f n i fs = ask n Rule.Fields (passes (test.HasFields i (names_given fs)) [] ∷ []) >> of_fields f i fs >> own n (op.Item i) []

-- what is returned by a node
abbrev pub of_return : ℕ → Node → Else → Asking
of_return f n o = returns_unit f n o >> of_returned f o

-- an initialiser that is expected to have the type of something
abbrev pub of_initialiser : ℕ → Subject → Exp → Asking
of_initialiser f x e = expects (node_of e) op.Same (x ∷ []) >> of_exp f e

-- an element of a list of values
abbrev pub of_element : ℕ → Listed → ℕ → Exp → Asking
of_element f w k e = each_before w k (node_of e) >> of_exp f e >> each_after w e

-- the value of a field
abbrev pub of_field : ℕ → ℕ → List ℕ → Exp → Asking
of_field f i x e = expects (node_of e) (op.FieldOf i x) [] >> of_exp f e

-- the branches of an `if`: its body, and what follows `else`
abbrev pub of_branches : ℕ → Node → Body × Else → Asking
of_branches f n r = branch_before n r.1 r.0 >> of_body f r.0 >> branch_after n r.1 r.0 >> of_else f n r.1 >> if_joins n r.1 (body_never r.0 && else_never r.1)

-- what is matched, and the pattern
abbrev pub of_scrutinee : ℕ → Pattern × Exp → Asking
of_scrutinee f r = of_exp f r.1 >> not_never (node_of r.1) (never r.1) >> whole_pattern (matched r.1) (type_of (node_of r.1)) r.0

-- an arm: of the node, what is matched and its node
abbrev pub of_arm : ℕ → Node → Matched → Node → Pattern × Exp → Asking
of_arm f n s m r = whole_pattern s (type_of m) r.0 >> part_before n n.site (node_of r.1) >> of_exp f r.1 >> part_after n n.site (never r.1) (node_of r.1)

-- a part of what joins values
abbrev pub of_part : ℕ → Node → Exp → Asking
of_part f n e = part_before n n.site (node_of e) >> of_exp f e >> part_after n n.site (never e) (node_of e)

abbrev pub of_body_part : ℕ → Node → Body → Asking
of_body_part f n b = part_before n n.site (body_node b) >> of_body f b >> part_after n n.site (body_never b) (body_node b)

-- a body that gives the unit
abbrev pub of_unit_body : ℕ → Body → Asking
of_unit_body f b = of_body f b >> nothing_given (body_node b) (body_never b)

-- the tail of a block, whose statements diverge or not
abbrev pub of_tail : ℕ → Node → Bool → Else → Asking
of_tail f n d o = tail_before n o >> of_returned f o >> tail_after n d o >> join n (named.tail_never d o)

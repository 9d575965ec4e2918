-- Pieces of an expression as a walk goes through them: how each is numbered, what it asks, and what is told of it.
use Rattle.std.specs.Prelude.{ℕ, Bool, true, false, ◌&&◌, ◌||◌, List, [], ◌++◌, map, Option, Some, None}
use Rattle.rx_tree.specs.declared.tree.FieldExpr.{FieldExpr}
use Rattle.rx_tree.specs.Plain as plain
use Rattle.rx_tree.specs.Plain.{PatternTree, Expression, OptionalExpression}
use Rattle.rx_typed.specs.declared.nodes.Node.{Node}
use Rattle.rx_typed.specs.declared.nodes.Site.{Site}
use Rattle.rx_typed.specs.declared.nodes.Use.{Use}
use Rattle.rx_typed.specs.Named as named
use Rattle.rx_typed.specs.Named.{Exp, Exps, no_variable, Else, Arms, Body, Pattern, node_of, never, diverges, any_diverges, all_never, all_diverge, else_never, else_diverges, body_node, body_never, body_diverges, tail_never}
use Rattle.rx_typed.specs.Naming.{Numbering, give, and_then, a_use, gives_here, counted, known_between, passed_on, waits_for, of_pattern, of_expression}
use Rattle.rx_typeck_solver.specs.declared.facts.Subject.{Subject}
use Rattle.rx_typeck_solver.specs.declared.facts.Passing.{Passing}
use Rattle.rx_typeck_solver.specs.declared.facts.Op.TheVariants as op
use Rattle.rx_typeck_elaborate_parts.specs.declared.seen.Seen.{Seen}
use Rattle.rx_typeck_elaborate_parts.specs.Seeing.{seen_of, value_seen}
use Rattle.rx_typeck_typed.specs.Asking.{Asking, ◌>>◌, nothing}
use Rattle.rx_typeck_typed.specs.Demands as demands
use Rattle.rx_typeck_typed.specs.Demands.{Matched, Listed, values, parameters, parts_of, exp_nodes, of_exp, of_body, of_else, of_arms, tested, not_never, updated, assignable_at, own, part_before, part_after, nothing_given, if_joins, join, expects}
use Rattle.rx_typeck_demands.specs.declared.assignments.Left.{Left}
use Rattle.rx_typeck_demands.specs.declared.listed.Each as code
use Rattle.rx_typeck_demands.specs.declared.listed.Each.TheVariants as form
use Rattle.rx_typeck_demands.specs.declared.listed.Members.{Members}
use Rattle.rx_typeck_demands.specs.declared.listed.Ways.{Ways}

-- ---- lists

abbrev pub each_as : code.Each → Listed
each_as form.Values = values
each_as (form.Parameters g) = parameters g
each_as (form.Parts i v) = parts_of i v

-- behind the members before
abbrev pub members_behind : List Subject → Bool → Exps → Members
members_behind xs d es = record { nodes = xs ++ exp_nodes es; diverges = d || any_diverges es }

abbrev pub members_of : Exps → Members
members_of es = record { nodes = exp_nodes es; diverges = any_diverges es }

abbrev pub ways_behind : Bool → Bool → Arms → Ways
ways_behind v d l = record { never = v && all_never l; diverges = d && all_diverge l }

abbrev pub ways_of : Arms → Ways
ways_of l = record { never = all_never l; diverges = all_diverge l }

-- a value, of these parts
abbrev pub parts_seen : Node → Exps → Seen
parts_seen n es = value_seen n false (any_diverges es)

abbrev pub fields_named : List FieldExpr → List (List ℕ)
fields_named fs = map (λ (f : FieldExpr). f.field.name) fs

-- ---- parts

-- a condition
abbrev pub of_condition : ℕ → Exp → Asking
of_condition f e = of_exp f e >> tested (node_of e) (never e)

-- what a `match` looks into
abbrev pub of_matched : ℕ → Exp → Asking
of_matched f e = of_exp f e >> not_never (node_of e) (never e)

-- ---- assignments

-- the left side of an assignment, and the variable that it is where that waits for its type: it asks nothing then
abbrev pub numbered_left : Expression → Numbering (Exp × Option (ℕ × ℕ))
numbered_left p = and_then (of_expression false Site.Place p) (λ q. and_then (waits_for p q) (λ w. give (q, w)))

abbrev pub of_left : ℕ → Option (ℕ × ℕ) → Exp → Asking
of_left f None q = of_exp f q
of_left f (Some w) q = nothing

abbrev pub left_told : Exp × Option (ℕ × ℕ) → Left
left_told r = record { seen = seen_of r.0; waits = r.1 }

-- the value of an assignment; of one before which its variable waits for its type also the variable behind the value, and
-- the pattern that declares it where this assignment gives the type
abbrev pub Valued : Type 0
Valued = Exp × Use × Option ℕ

abbrev pub numbered_given : ℕ → Expression → Numbering Valued
numbered_given x e = and_then (of_expression false Site.Reborrows e) (λ e. and_then (a_use x) (λ u. and_then (gives_here x) (λ d. give (e, u, d))))

-- the value of an assignment, whose left side is a variable that waits for its type, or none
abbrev pub numbered_value : Option (ℕ × ℕ) → Expression → Numbering Valued
numbered_value None e = and_then (of_expression false Site.Expects e) (λ e. give (e, no_variable, None))
numbered_value (Some w) e = numbered_given w.0 e

-- of the function, the node, the left side and the dereferences that it goes through
abbrev pub of_value : ℕ → Node → Option (ℕ × ℕ) → Seen → List Passing → Valued → Asking
of_value f n None s ps v = demands.of_assigned f n s.node s.whole s.root ps v.0
of_value f n (Some w) s ps v = demands.of_given f n s.node v.1 v.2 v.0

abbrev pub value_told : Node → Option (ℕ × ℕ) → Seen → Valued → Seen
value_told n None s v = value_seen n false (s.diverges || diverges v.0)
value_told n (Some w) s v = value_seen n false (diverges v.0)

-- an operation with assignment: of the node, what is changed and the value, each with whether it is Never, and whether what is
-- changed is a whole variable, its variable, the dereferences
abbrev pub update_at : Node → Node → Bool → Node → Bool → Bool → Use → List Passing → Asking
update_at n a x b y whole root ps = updated n a x b y >> assignable_at n whole root ps >> own n op.Unit []

-- ---- branches

abbrev pub is_there : OptionalExpression → Bool
is_there plain.absent = false
is_there (plain.present e) = true

-- the body of an `if`, which is a branch where an `else` follows
abbrev pub branch_place : Site → Bool → Site
branch_place t true = passed_on t
branch_place t false = Site.Value

abbrev pub before_branch : Node → Bool → Node → Asking
before_branch n true m = part_before n n.site m
before_branch n false m = nothing

abbrev pub after_branch : Node → Bool → Bool → Node → Asking
after_branch n true v m = part_after n n.site v m
after_branch n false v m = nothing_given m v >> own n op.Unit []

abbrev pub of_branch : ℕ → Node → Bool → Body → Asking
of_branch f n j b = before_branch n j (body_node b) >> of_body f b >> after_branch n j (body_never b) (body_node b)

-- what follows the body; whether the body is Never
abbrev pub of_other : ℕ → Node → Bool → Else → Asking
of_other f n v o = of_else f n o >> if_joins n o (v && else_never o)

-- whether what stands before the branches diverges
abbrev pub other_told : Node → Bool → Seen → Else → Seen
other_told n d b o = value_seen n (b.never && else_never o) (d || (b.diverges && else_diverges o))

abbrev pub body_told : Body → Seen
body_told b = value_seen (body_node b) (body_never b) (body_diverges b)

-- what is matched, and the pattern before it
abbrev pub numbered_scrutinee : PatternTree → Expression → Numbering (Pattern × Exp)
numbered_scrutinee p e = and_then counted (λ i. and_then (of_pattern p) (λ p. and_then counted (λ j. and_then (of_expression false Site.Scrutinee e) (λ e.
    and_then (known_between i j) (λ _. give (p, e))))))

abbrev pub numbered_arm : Site → PatternTree × Expression → Numbering (Pattern × Exp)
numbered_arm t a = and_then counted (λ i. and_then (of_pattern a.0) (λ p. and_then counted (λ j. and_then (known_between i j) (λ _.
    and_then (of_expression false t a.1) (λ e. give (p, e))))))

-- all arms of a `match`: of the function, the node, what is matched and its node
abbrev pub of_all_arms : ℕ → Node → Matched → Node → Arms → Asking
of_all_arms f n s m l = of_arms f n s m l >> join n (all_never l)

abbrev pub arms_told : Node → Bool → Arms → Seen
arms_told n d l = value_seen n (all_never l) (d || all_diverge l)

-- ---- blocks

-- the end of a block, whose statements diverge or not
abbrev pub tail_told : Bool → Else → Ways
tail_told d o = record { never = tail_never d o; diverges = d || else_diverges o }

-- ---- functions

-- a value that is returned, and a body, of a function
abbrev pub of_returned_value : ℕ → Exp → Asking
of_returned_value f e = expects (node_of e) (op.Result f) [] >> of_exp f e

abbrev pub of_function_body : ℕ → Body → Asking
of_function_body f b = expects (body_node b) (op.Result f) [] >> of_body f b

-- What the rules of types ask of an expression, a block and a statement with all their parts, in the order of the text.
use Rattle.std.specs.Prelude.{ℕ, suc, ◌&&◌, [], ◌∷◌}
use Rattle.rx_core.specs.declared.types.Kind.{Kind}
use Rattle.rx_typed.specs.declared.nodes.Node.{Node}
use Rattle.rx_typed.specs.Named as named
use Rattle.rx_typed.specs.Named.{Exp, Exps, Else, Fields, Arms, Body, Statement, Statements, node_of, body_node, root, never, body_never, else_never, some_diverges}
use Rattle.rx_typeck_solver.specs.declared.facts.Rule.{Rule}
use Rattle.rx_typeck_solver.specs.declared.facts.Op.TheVariants as op
use Rattle.rx_typeck_solver.specs.declared.facts.Test.TheVariants as test
use Rattle.rx_typeck_solver.specs.declared.facts.Fact.TheVariants as fact
use Rattle.rx_typeck_typed.specs.Asking.{Asking, ◌>>◌, nothing, ask, type_of, is, passes}
use Rattle.rx_typeck_typed.specs.rules.Types.{limits}
use Rattle.rx_typeck_typed.specs.rules.Places.{through, place_at, never_at, assignable, step_at, borrowed}
use Rattle.rx_typeck_typed.specs.rules.Patterns.{Matched, matched, whole_pattern}
use Rattle.rx_typeck_typed.specs.rules.Operators.{updated, negated, inverted, operation}
use Rattle.rx_typeck_typed.specs.rules.Expressions.{expects, join, part_before, part_after, tested, printed, nothing_given, not_never, own, exp_nodes, argument_count, names_given, named_at, given, returns_unit, branch_before, branch_after, if_joins, loop_given, Listed, members, values, parameters, parts_of, each_before, each_after, integer_at}
use Rattle.rx_typeck_typed.specs.rules.Statements.{declared, typed_before, initialised, evaluated, tail_before, tail_after}

-- The demands of a part of the function with this item number.
abbrev mutual
  pub of_exp : ℕ → Exp → Asking
  of_exp f (named.int n m v k) = integer_at n m v k
  of_exp f (named.bool n b) = own n op.Truth []
  of_exp f (named.tuple n es) = of_each f members 0 es >> own n op.Tuple (exp_nodes es) >> limits n
  of_exp f (named.var n x) = named_at n x x.known >> place_at (named.var n x)
  of_exp f (named.field n e x) = of_exp f e >> step_at n (op.Field x) (node_of e) >> place_at (named.field n e x)
  of_exp f (named.part n e i) = of_exp f e >> step_at n (op.Part i) (node_of e) >> place_at (named.part n e i)
  of_exp f (named.deref n e) = of_exp f e >> step_at n op.Pointee (node_of e) >> place_at (named.deref n e)
  of_exp f (named.negate n e) = of_exp f e >> negated n (node_of e) (never e)
  of_exp f (named.invert n e) = of_exp f e >> inverted n (node_of e) (never e)
  of_exp f (named.borrow n m e) = of_exp f e >> borrowed n m (node_of e) (root e) (through e)
  of_exp f (named.binary n o a b) = of_exp f a >> of_exp f b >> operation o n (node_of a) (never a) (node_of b) (never b)
  of_exp f (named.assign n p e) = of_exp f p >> expects (node_of e) op.Same (type_of (node_of p) ∷ []) >> of_exp f e >> assignable n p >> own n op.Unit []
  of_exp f (named.gives n p x d e) = of_exp f e >> given n p x d (node_of e) (never e) >> own n op.Unit []
  of_exp f (named.update n o p e) = of_exp f p >> of_exp f e
      >> updated n (node_of p) (never p) (node_of e) (never e) >> assignable n p >> own n op.Unit []
  of_exp f (named.call n g es) = ask n Rule.Count (passes (test.Takes g (argument_count es)) [] ∷ []) >> of_each f (parameters g) 0 es >> own n (op.Result g) []
  of_exp f (named.hidden_call n es) = ask n Rule.NotFunction (fact.Never ∷ []) >> of_each f values 0 es
  of_exp f (named.next_input n) = own n (op.Integer Kind.I64) []
  of_exp f (named.variant n i v es) = ask n Rule.Count (passes (test.Holds i v (argument_count es)) [] ∷ []) >> of_each f (parts_of i v) 0 es >> own n (op.Item i) []
  of_exp f (named.make n i fs) = ask n Rule.Fields (passes (test.HasFields i (names_given fs)) [] ∷ []) >> of_fields f i fs >> own n (op.Item i) []
  of_exp f (named.print n e) = of_exp f e >> printed (node_of e) (never e) >> own n op.Unit []
  of_exp f (named.block n b) = let v = body_never b in part_before n n.site (body_node b) >> of_body f b >> part_after n n.site v (body_node b) >> join n v
  of_exp f (named.if n c b o) = let v = body_never b && else_never o in of_exp f c >> tested (node_of c) (never c) >> branch_before n o b >> of_body f b >> branch_after n o b >> of_else f n o >> if_joins n o v
  of_exp f (named.if_let n p e b o) = let v = body_never b && else_never o in of_exp f e >> not_never (node_of e) (never e) >> whole_pattern (matched e) (type_of (node_of e)) p
      >> branch_before n o b >> of_body f b >> branch_after n o b >> of_else f n o >> if_joins n o v
  of_exp f (named.match n e l) = let v = named.all_never l in of_exp f e >> not_never (node_of e) (never e) >> of_arms f n (matched e) (node_of e) l >> join n v
  of_exp f (named.loop n l k b) = of_body f b >> nothing_given (body_node b) (body_never b) >> loop_given n k
  of_exp f (named.while n l c b) = of_exp f c >> tested (node_of c) (never c) >> of_body f b >> nothing_given (body_node b) (body_never b) >> own n op.Unit []
  of_exp f (named.while_let n l p e b) = of_exp f e >> not_never (node_of e) (never e) >> whole_pattern (matched e) (type_of (node_of e)) p >> of_body f b
      >> nothing_given (body_node b) (body_never b) >> own n op.Unit []
  of_exp f (named.break n l) = never_at n
  of_exp f (named.continue n l) = never_at n
  of_exp f (named.return n o) = returns_unit f n o >> of_returned f o >> never_at n

  -- a list of values, from a number on
  pub of_each : ℕ → Listed → ℕ → Exps → Asking
  of_each f w k named.no_exp = nothing
  of_each f w k (named.exp_and e es) = each_before w k (node_of e) >> of_exp f e >> each_after w e >> of_each f w (suc k) es

  -- the fields of a struct
  pub of_fields : ℕ → ℕ → Fields → Asking
  of_fields f i named.no_field = nothing
  of_fields f i (named.field_and x e fs) = expects (node_of e) (op.FieldOf i x) [] >> of_exp f e >> of_fields f i fs

  -- what follows `else`, a part of the node
  pub of_else : ℕ → Node → Else → Asking
  of_else f n named.absent = nothing
  of_else f n (named.present e) = part_before n n.site (node_of e) >> of_exp f e >> part_after n n.site (never e) (node_of e)

  pub of_returned : ℕ → Else → Asking
  of_returned f named.absent = nothing
  of_returned f (named.present e) = of_exp f e

  -- the arms of a node, over what is matched and its node
  pub of_arms : ℕ → Node → Matched → Node → Arms → Asking
  of_arms f n s m named.no_arm = nothing
  of_arms f n s m (named.arm_and p e l) = whole_pattern s (type_of m) p >> part_before n n.site (node_of e) >> of_exp f e
      >> part_after n n.site (never e) (node_of e) >> of_arms f n s m l

  pub of_body : ℕ → Body → Asking
  of_body f (named.body n ss o) = let v = body_never (named.body n ss o) in of_statements f ss >> tail_before n o >> of_returned f o >> tail_after n (some_diverges ss) o >> join n v

  pub of_statement : ℕ → Statement → Asking
  of_statement f (named.declares n p t) = declared p t
  of_statement f (named.lets n p t e) = typed_before t e >> of_exp f e >> initialised p t e
  of_statement f (named.evaluates n e s) = of_exp f e >> evaluated s (node_of e) (never e)

  pub of_statements : ℕ → Statements → Asking
  of_statements f named.no_statement = nothing
  of_statements f (named.statement_and a ss) = of_statement f a >> of_statements f ss

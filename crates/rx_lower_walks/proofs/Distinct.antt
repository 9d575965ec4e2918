-- No two sites of a function have one key: in each part of its typed tree, no more have it than nodes of the tree with numbers
-- have its node. The proof goes over the tree with numbers; what a form does itself it does at its own node, each kind of act
-- once. Variables end where a block or an arm ends, or at a jump: a jump has a node of its own, but for a jump that is an arm's
-- value and for the end of the function's body, where nothing goes on; so there no variable ends again.
use Rattle.std.proofs.Common.{◌≡◌, ℕ, zero, suc, ◌+◌, ◌≤◌, ◌<◌, ◌==◌, Bool, true, false, ◌&&◌, List, [], ◌∷◌, ◌++◌, Some, None, refl, sym, ap, subst, ◌∙◌, arith}
use Rattle.std.proofs.lemmas.Bool.Decides.{Decides-eqb}
use Rattle.rx_typed.specs.declared.nodes.Node.{Node}
use Rattle.rx_typed.specs.Named as numbered
use Rattle.rx_typed.specs.Named.{is_place, node_of, body_node, written_node, body_never, else_never, all_never}
use Rattle.rx_typed.specs.Tree as tree
use Rattle.rx_typed.specs.Tree.{Root, variable, temporary, Place, Temporary, Constant, truth, Mode, by_value, by_reference, Pattern, Mark, Exp, Operands, Scrutinee, Making, mark_of, temporary_of, temporary_at}
use Rattle.rx_typed.specs.Elaborated as elaborated
use Rattle.rx_typed.specs.Elaborated.{Assigned, Coercion, Met, place, mark, mark_if, no_mark, pattern, subpatterns, field_patterns, behind_all, has_several, value, body, tail, nested, statement, arms, operands, fields, parameters, variables, variables_in, variables_in_fields}
use Rattle.rx_typed.specs.TypedNumbers.{AreFrom, type_nodes, optional_nodes, pattern_nodes, exp_nodes, exps_nodes, else_nodes, fields_nodes, arms_nodes, body_nodes, statement_nodes, statements_nodes, parameters_nodes, nodes, exp_variables, exps_variables, else_variables, fields_variables, arms_variables, body_variables, statements_variables, parameters_variables, declared}
use Rattle.rx_lower_walks.specs.Matching.{PartTest, Binding, tag_test, tests, tests_in, bindings, bindings_in}
use Rattle.rx_lower_walks.specs.Actions.{Declare, Dead, Read, Write, Test, Build, Input, Print, Subject, in_temporary, subject, part}
use Rattle.rx_lower_walks.specs.Orders.{Order, perhaps, testing, binding, declaring, order_all, order_scrutinee, order_arms, order_body, argument, written_parameter, beginning, order_function}
use Rattle.rx_lower_walks.specs.Orders as order
use Rattle.rx_lower_walks.specs.Pieces.{Scope, Variable, Looped, all_of, within}
use Rattle.rx_lower_walks.specs.Walks.{Among, here, there}
use Rattle.rx_lower_walks.specs.Graph.{Site, site_at, EachOnce}
use Rattle.rx_lower_walks.specs.Text.{actions_of}
use Rattle.rx_lower_walks.specs.Pieces.{graph, no_exits}
use Rattle.rx_lower_walks.proofs.Keys.{Key, one_if, times, times_both, weight, ends_of, onward, only_if, most, few_sites, each_once}
use Rattle.rx_lower_walks.proofs.Weights.{two_acts, three_acts, no_end, declares_of, with_all, with_times, within_times, own_loop, Fine, Held, fine_under, fine_left, fine_right, fine_behind, fine_scope, fine_outside, plain_held, act_held, still_held}
use Rattle.rx_lower_walks.proofs.Forms.{only_more, and_right, declaring_most, directs, behind, fine_rest, fine_tail, nested_onward, read_held, passed_borrow, passed_call, tuple_held, build_held, operated_held, scrutinee_few, tests_held, arm_few, looks_few, NestedFew, statement_then, first_fine, last_fine, arm_fine, declares_own, initialiser_fine, binding_in, only_none, only_never, leaves_held, gives_one, give_held, block_held}

mutual
  exp_held : (K : Key) (T : Assigned) (e : numbered.Exp) (scope : Scope) (d : Temporary) → Fine K scope (exp_nodes e) (exp_variables e)
      → Held K scope (order.order (value T e) d) (mark_of (value T e)).node (exp_nodes e) (exp_variables e)
  exp_held K T (numbered.int n m v k) scope d f = build_held K scope (mark T n) _ tree.no_operand [] [] d (omega arith) f.node
  exp_held K T (numbered.bool n b) scope d f = build_held K scope (mark T n) _ tree.no_operand [] [] d (omega arith) f.node
  exp_held K T (numbered.tuple n es) scope d f =
      tuple_held K T scope n (operands T 0 es) (exps_nodes es) (exps_variables es) d (exps_few K T es 0 scope (fine_under K scope n.number _ _ f)) f.node
  exp_held K T (numbered.var n x) scope d f = read_held K T scope n (elaborated.coercion_at T n) (place T (numbered.var n x)) [] [] d f.node
  exp_held K T (numbered.field n e x) scope d f = read_held K T scope n (elaborated.coercion_at T n) (place T (numbered.field n e x)) (exp_nodes e) (exp_variables e) d f.node
  exp_held K T (numbered.part n e i) scope d f = read_held K T scope n (elaborated.coercion_at T n) (place T (numbered.part n e i)) (exp_nodes e) (exp_variables e) d f.node
  exp_held K T (numbered.deref n e) scope d f = read_held K T scope n (elaborated.coercion_at T n) (place T (numbered.deref n e)) (exp_nodes e) (exp_variables e) d f.node
  exp_held K T (numbered.negate n e) scope d f =
      let h = (exp_held K T e scope (temporary_of (value T e)) (fine_under K scope n.number _ _ f)).all in
      build_held K scope (mark T n) tree.negation (elaborated.one_operand (value T e)) (exp_nodes e) (exp_variables e) d (omega (arith, h)) f.node
  exp_held K T (numbered.invert n e) scope d f =
      let h = (exp_held K T e scope (temporary_of (value T e)) (fine_under K scope n.number _ _ f)).all in
      build_held K scope (mark T n) tree.inversion (elaborated.one_operand (value T e)) (exp_nodes e) (exp_variables e) d (omega (arith, h)) f.node
  exp_held K T (numbered.borrow n m e) scope d f = passed_borrow K T scope n (elaborated.coercion_at T n) m e (exp_nodes e) (exp_variables e) d f.node
  exp_held K T (numbered.binary n o a b) scope d f =
      let g = fine_under K scope n.number (exp_nodes a ++ exp_nodes b) (exp_variables a ++ exp_variables b) f in
      let h = (exp_held K T a scope (temporary_of (value T a)) (fine_left K scope (exp_nodes a) (exp_nodes b) (exp_variables a) (exp_variables b) g)).all in
      let i = (exp_held K T b scope (temporary_of (value T b)) (fine_right K scope (exp_nodes a) (exp_nodes b) (exp_variables a) (exp_variables b) g)).all in
      let u = times_both K.node (exp_nodes a) (exp_nodes b) in
      operated_held K T scope n o (value T a) (value T b) (exp_nodes a ++ exp_nodes b) (exp_variables a ++ exp_variables b) d (omega (arith, h, i, u)) f.node
  exp_held K T (numbered.assign n p e) scope d f =
      let g = fine_under K scope n.number (exp_nodes p ++ exp_nodes e) (exp_variables p ++ exp_variables e) f in
      let h = (exp_held K T e scope (temporary_of (value T e)) (fine_right K scope (exp_nodes p) (exp_nodes e) (exp_variables p) (exp_variables e) g)).all in
      let u = times_both K.node (exp_nodes p) (exp_nodes e) in
      act_held K scope _ n.number (exp_nodes p ++ exp_nodes e) (exp_variables p ++ exp_variables e) (most K scope (order.order (value T e) (temporary_of (value T e))))
      (Write (place T p) (temporary_of (value T e)) []) (omega arith) (omega (arith, h, u)) (λ e. omega (arith, e)) f.node
  exp_held K T (numbered.gives n p x v e) scope d f =
      let h = (exp_held K T e scope (temporary_of (value T e)) (fine_under K scope p.number _ _ (fine_under K scope n.number _ _ f))).all in
      act_held K scope _ n.number (p.number ∷ exp_nodes e) (exp_variables e) (most K scope (order.order (value T e) (temporary_of (value T e))))
      (Write (tree.own x.number) (temporary_of (value T e)) []) (omega arith) (omega (arith, h)) (λ e. omega (arith, e)) f.node
  exp_held K T (numbered.update n o p e) scope d f =
      let g = fine_under K scope n.number (exp_nodes p ++ exp_nodes e) (exp_variables p ++ exp_variables e) f in
      let h = (exp_held K T e scope (temporary_of (value T e)) (fine_right K scope (exp_nodes p) (exp_nodes e) (exp_variables p) (exp_variables e) g)).all in
      let u = times_both K.node (exp_nodes p) (exp_nodes e) in
      let a = Read false (place T p) (temporary_at n.number 1) in
      let b = Build (tree.operation (elaborated.operator o)) [] (temporary_at n.number 1 ∷ temporary_of (value T e) ∷ []) (temporary_at n.number 2) in
      let c = Write (place T p) (temporary_at n.number 2) [] in
      plain_held K scope _ n.number (exp_nodes p ++ exp_nodes e) (exp_variables p ++ exp_variables e) (most K scope (order.order (value T e) (temporary_of (value T e))))
      (weight K n.number a + (weight K n.number b + weight K n.number c)) (omega arith) (omega (arith, h, u))
      (three_acts K n.number a b c (λ e. omega (arith, e)) (λ e. omega (arith, e)) (λ e. omega (arith, e)))
      (λ k. let x = no_end K n.number a (λ e. omega (arith, e)) k in let y = no_end K n.number b (λ e. omega (arith, e)) k in let z = no_end K n.number c (λ e. omega (arith, e)) k in
      omega (arith, x, y, z)) f.node
  exp_held K T (numbered.call n g es) scope d f =
      passed_call K T scope n (elaborated.coercion_at T n) g (operands T 0 es) (exps_nodes es) (exps_variables es) d (exps_few K T es 0 scope (fine_under K scope n.number _ _ f)) f.node
  exp_held K T (numbered.hidden_call n es) scope d f = still_held K scope _ n.number (exps_nodes es) (exps_variables es) (omega arith) f.node
  exp_held K T (numbered.next_input n) scope d f = act_held K scope _ n.number [] [] 0 (Input d) (omega arith) (omega arith) (λ e. omega (arith, e)) f.node
  exp_held K T (numbered.variant n i v es) scope d f =
      build_held K scope (mark T n) (tree.variant_of i v) (operands T 0 es) (exps_nodes es) (exps_variables es) d (exps_few K T es 0 scope (fine_under K scope n.number _ _ f)) f.node
  exp_held K T (numbered.make n i fs) scope d f =
      build_held K scope (mark T n) (tree.struct i) (fields T i fs) (fields_nodes fs) (fields_variables fs) d (fields_few K T fs i scope (fine_under K scope n.number _ _ f)) f.node
  exp_held K T (numbered.print n e) scope d f =
      let h = (exp_held K T e scope (temporary_of (value T e)) (fine_under K scope n.number _ _ f)).all in
      act_held K scope _ n.number (exp_nodes e) (exp_variables e) (most K scope (order.order (value T e) (temporary_of (value T e)))) (Print (temporary_of (value T e)))
      (omega arith) (omega (arith, h)) (λ e. omega (arith, e)) f.node
  exp_held K T (numbered.block n b) scope d f =
      let h = body_held K T b scope d (fine_under K scope n.number (body_nodes b) (body_variables b) f) in
      record { all = let a = h.all in omega (arith, a); root = h.root; own = λ e. let o = h.own e in omega (arith, o) }
  exp_held K T (numbered.if n c b o) scope d f =
      let g = fine_under K scope n.number (exp_nodes c ++ (body_nodes b ++ else_nodes o)) (exp_variables c ++ (body_variables b ++ else_variables o)) f in
      let gr = fine_right K scope (exp_nodes c) (body_nodes b ++ else_nodes o) (exp_variables c) (body_variables b ++ else_variables o) g in
      let h = (exp_held K T c scope (temporary_of (value T c)) (fine_left K scope (exp_nodes c) (body_nodes b ++ else_nodes o) (exp_variables c) (body_variables b ++ else_variables o) g)).all in
      let i = (body_held K T b scope d (fine_left K scope (body_nodes b) (else_nodes o) (body_variables b) (else_variables o) gr)).all in
      let j = otherwise_few K T n o scope d (fine_right K scope (body_nodes b) (else_nodes o) (body_variables b) (else_variables o) gr) in
      let u = times_both K.node (exp_nodes c) (body_nodes b ++ else_nodes o) in
      let v = times_both K.node (body_nodes b) (else_nodes o) in
      tests_held K scope n (value T c) (mark_if T n (body_never b && else_never o)) (body T b) (elaborated.otherwise T n o)
      (exp_nodes c ++ (body_nodes b ++ else_nodes o)) (exp_variables c ++ (body_variables b ++ else_variables o)) d n.number refl (omega (arith, h, i, j, u, v)) f.node
  exp_held K T (numbered.if_let n p e b o) scope d f =
      let BO = body_nodes b ++ else_nodes o in
      let VO = body_variables b ++ else_variables o in
      let g0 = fine_under K scope n.number (pattern_nodes p ++ (exp_nodes e ++ BO)) (variables p ++ (exp_variables e ++ VO)) f in
      let g = fine_behind K scope (pattern_nodes p) (exp_nodes e ++ BO) (variables p ++ (exp_variables e ++ VO)) g0 in
      let outside = fine_outside K scope (exp_nodes e ++ BO) (variables p) (exp_variables e ++ VO) g in
      let rest = fine_right K scope (exp_nodes e) BO (exp_variables e) VO outside in
      let scoped = fine_right K (with_all (variables p) scope) (exp_nodes e) BO (exp_variables e) VO (fine_scope K scope (exp_nodes e ++ BO) (variables p) (exp_variables e ++ VO) g) in
      let inner = fine_left K (with_all (variables p) scope) (body_nodes b) (else_nodes o) (body_variables b) (else_variables o) scoped in
      let h = (exp_held K T e scope (temporary_of (value T e)) (fine_left K scope (exp_nodes e) BO (exp_variables e) VO outside)).all in
      let s = scrutinee_few K T scope e (value T e) in
      let i = body_held K T b (with_all (variables p) scope) d inner in
      let j = otherwise_few K T n o scope d (fine_right K scope (body_nodes b) (else_nodes o) (body_variables b) (else_variables o) rest) in
      let a = looks_few K T scope (mark_if T n (body_never b && else_never o)) (elaborated.matched T e (value T e)) p (body T b) (elaborated.otherwise T n o) d (body_nodes b) (body_variables b)
      (arm_fine K scope p (exp_nodes e) (body_nodes b) (else_nodes o) (exp_variables e) (body_variables b) (else_variables o) g) i in
      let t = times_both K.node (pattern_nodes p) (exp_nodes e ++ BO) in
      let u = times_both K.node (exp_nodes e) BO in
      let v = times_both K.node (body_nodes b) (else_nodes o) in
      still_held K scope _ n.number (pattern_nodes p ++ (exp_nodes e ++ BO)) (variables p ++ (exp_variables e ++ VO)) (omega (arith, h, s, j, a, t, u, v)) f.node
  exp_held K T (numbered.match n e l) scope d f =
      let g = fine_under K scope n.number (exp_nodes e ++ arms_nodes l) (exp_variables e ++ arms_variables l) f in
      let h = (exp_held K T e scope (temporary_of (value T e)) (fine_left K scope (exp_nodes e) (arms_nodes l) (exp_variables e) (arms_variables l) g)).all in
      let s = scrutinee_few K T scope e (value T e) in
      let i = arms_few K T l scope (subject (elaborated.matched T e (value T e))) d (fine_right K scope (exp_nodes e) (arms_nodes l) (exp_variables e) (arms_variables l) g) in
      let u = times_both K.node (exp_nodes e) (arms_nodes l) in
      still_held K scope _ n.number (exp_nodes e ++ arms_nodes l) (exp_variables e ++ arms_variables l) (omega (arith, h, s, i, u)) f.node
  exp_held K T (numbered.loop n l k b) scope d f =
      let g = fine_under K scope n.number (body_nodes b) (body_variables b) f in
      let h = (body_held K T b (Looped l ∷ scope) (temporary_of (body T b)) (record { node = g.node; variable = g.variable })).all in
      still_held K scope _ n.number (body_nodes b) (body_variables b) (omega (arith, h)) f.node
  exp_held K T (numbered.while n l c b) scope d f =
      let g = fine_under K scope n.number (exp_nodes c ++ body_nodes b) (exp_variables c ++ body_variables b) f in
      let gl : Fine K (Looped l ∷ scope) (exp_nodes c ++ body_nodes b) (exp_variables c ++ body_variables b) = record { node = g.node; variable = g.variable } in
      let d' = temporary_of (elaborated.tests n (value T c) (mark_if T (body_node b) (body_never b)) (body T b) (elaborated.leaves n l)) in
      let h = (exp_held K T c (Looped l ∷ scope) (temporary_of (value T c)) (fine_left K (Looped l ∷ scope) (exp_nodes c) (body_nodes b) (exp_variables c) (body_variables b) gl)).all in
      let i = (body_held K T b (Looped l ∷ scope) d' (fine_right K (Looped l ∷ scope) (exp_nodes c) (body_nodes b) (exp_variables c) (body_variables b) gl)).all in
      let o = own_loop K n.number l scope in
      let u = times_both K.node (exp_nodes c) (body_nodes b) in
      let w = Test (part (in_temporary (temporary_of (value T c))) []) (Rattle.rx_lower_walks.specs.Matching.equals (truth true)) in
      act_held K scope _ n.number (exp_nodes c ++ body_nodes b) (exp_variables c ++ body_variables b)
      (most K (Looped l ∷ scope) (order.order (value T c) (temporary_of (value T c))) + most K (Looped l ∷ scope) (order.order (body T b) d')) w (omega (arith, o)) (omega (arith, h, i, u)) (λ e. omega (arith, e)) f.node
  exp_held K T (numbered.while_let n l p e b) scope d f =
      let g0 = fine_under K scope n.number (pattern_nodes p ++ (exp_nodes e ++ body_nodes b)) (variables p ++ (exp_variables e ++ body_variables b)) f in
      let gl : Fine K (Looped l ∷ scope) (pattern_nodes p ++ (exp_nodes e ++ body_nodes b)) (variables p ++ (exp_variables e ++ body_variables b)) = record { node = g0.node; variable = g0.variable } in
      let inside = Looped l ∷ scope in
      let g = fine_behind K inside (pattern_nodes p) (exp_nodes e ++ body_nodes b) (variables p ++ (exp_variables e ++ body_variables b)) gl in
      let outside = fine_outside K inside (exp_nodes e ++ body_nodes b) (variables p) (exp_variables e ++ body_variables b) g in
      let scoped = fine_right K (with_all (variables p) inside) (exp_nodes e) (body_nodes b) (exp_variables e) (body_variables b) (fine_scope K inside (exp_nodes e ++ body_nodes b) (variables p) (exp_variables e ++ body_variables b) g) in
      let m = mark_if T (body_node b) (body_never b) in
      let d' = temporary_of (elaborated.looks m (elaborated.matched T e (value T e)) (pattern T None p) (body T b) (elaborated.leaves n l)) in
      let h = (exp_held K T e inside (temporary_of (value T e)) (fine_left K inside (exp_nodes e) (body_nodes b) (exp_variables e) (body_variables b) outside)).all in
      let s = scrutinee_few K T inside e (value T e) in
      let i = body_held K T b (with_all (variables p) inside) d' scoped in
      let a = looks_few K T inside m (elaborated.matched T e (value T e)) p (body T b) (elaborated.leaves n l) d' (body_nodes b) (body_variables b)
      (last_fine K inside p (exp_nodes e) (body_nodes b) (exp_variables e) (body_variables b) g) i in
      let o = own_loop K n.number l scope in
      let t = times_both K.node (pattern_nodes p) (exp_nodes e ++ body_nodes b) in
      let u = times_both K.node (exp_nodes e) (body_nodes b) in
      still_held K scope _ n.number (pattern_nodes p ++ (exp_nodes e ++ body_nodes b)) (variables p ++ (exp_variables e ++ body_variables b)) (omega (arith, h, s, a, o, t, u)) f.node
  exp_held K T (numbered.break n l) scope d f = leaves_held K scope (order.leave (order.breaks n.number l)) n.number (within l scope) (omega arith) refl (within_times K.variable l scope) f
  exp_held K T (numbered.continue n l) scope d f = leaves_held K scope (order.leave (order.continues n.number l)) n.number (within l scope) (omega arith) refl (within_times K.variable l scope) f
  exp_held K T (numbered.return n o) scope d f = give_held K scope (no_mark n) (elaborated.returned T n o) (else_nodes o) (else_variables o) d (returned_few K T n o scope (fine_under K scope n.number (else_nodes o) (else_variables o) f)) f

  exps_few : (K : Key) (T : Assigned) (es : numbered.Exps) (k : ℕ) (scope : Scope) → Fine K scope (exps_nodes es) (exps_variables es) → most K scope (order_all (operands T k es)) ≤ times K.node (exps_nodes es)
  exps_few K T numbered.no_exp k scope f = omega arith
  exps_few K T (numbered.exp_and e es) k scope f =
      let h = (exp_held K T e scope (temporary_of (value T e)) (fine_left K scope (exp_nodes e) (exps_nodes es) (exp_variables e) (exps_variables es) f)).all in
      let i = exps_few K T es (suc k) scope (fine_right K scope (exp_nodes e) (exps_nodes es) (exp_variables e) (exps_variables es) f) in
      let u = times_both K.node (exp_nodes e) (exps_nodes es) in
      omega (arith, h, i, u)

  fields_few : (K : Key) (T : Assigned) (fs : numbered.Fields) (k : ℕ) (scope : Scope) → Fine K scope (fields_nodes fs) (fields_variables fs) → most K scope (order_all (fields T k fs)) ≤ times K.node (fields_nodes fs)
  fields_few K T numbered.no_field k scope f = omega arith
  fields_few K T (numbered.field_and x e fs) k scope f =
      let h = (exp_held K T e scope (temporary_of (value T e)) (fine_left K scope (exp_nodes e) (fields_nodes fs) (exp_variables e) (fields_variables fs) f)).all in
      let i = fields_few K T fs k scope (fine_right K scope (exp_nodes e) (fields_nodes fs) (exp_variables e) (fields_variables fs) f) in
      let u = times_both K.node (exp_nodes e) (fields_nodes fs) in
      omega (arith, h, i, u)

  otherwise_few : (K : Key) (T : Assigned) (n : Node) (o : numbered.Else) (scope : Scope) (d : Temporary) → Fine K scope (else_nodes o) (else_variables o)
      → most K scope (order.order (elaborated.otherwise T n o) d) ≤ times K.node (else_nodes o)
  otherwise_few K T n numbered.absent scope d f = omega arith
  otherwise_few K T n (numbered.present e) scope d f = (exp_held K T e scope d f).all

  returned_few : (K : Key) (T : Assigned) (n : Node) (o : numbered.Else) (scope : Scope) → Fine K scope (else_nodes o) (else_variables o)
      → most K scope (order.order (elaborated.returned T n o) (temporary_of (elaborated.returned T n o))) ≤ times K.node (else_nodes o)
  returned_few K T n numbered.absent scope f = omega arith
  returned_few K T n (numbered.present e) scope f = (exp_held K T e scope (temporary_of (value T e)) f).all

  tail_few : (K : Key) (T : Assigned) (n : Node) (o : numbered.Else) (scope : Scope) (d : Temporary) → Fine K scope (else_nodes o) (else_variables o)
      → most K scope (order.order (tail T n o) d) ≤ times K.node (else_nodes o)
  tail_few K T n numbered.absent scope d f = omega arith
  tail_few K T n (numbered.present e) scope d f = (exp_held K T e scope d f).all

  arms_few : (K : Key) (T : Assigned) (l : numbered.Arms) (scope : Scope) (S : Subject) (d : Temporary) → Fine K scope (arms_nodes l) (arms_variables l)
      → most K scope (order_arms S (arms T l) d) ≤ times K.node (arms_nodes l)
  arms_few K T numbered.no_arm scope S d f = omega arith
  arms_few K T (numbered.arm_and p e l) scope S d f =
      let g = fine_behind K scope (pattern_nodes p) (exp_nodes e ++ arms_nodes l) (variables p ++ (exp_variables e ++ arms_variables l)) f in
      let scoped = fine_left K (with_all (variables p) scope) (exp_nodes e) (arms_nodes l) (exp_variables e) (arms_variables l)
      (fine_scope K scope (exp_nodes e ++ arms_nodes l) (variables p) (exp_variables e ++ arms_variables l) g) in
      let rest = fine_right K scope (exp_nodes e) (arms_nodes l) (exp_variables e) (arms_variables l) (fine_outside K scope (exp_nodes e ++ arms_nodes l) (variables p) (exp_variables e ++ arms_variables l) g) in
      let h = exp_held K T e (with_all (variables p) scope) d scoped in
      let a = arm_few K T scope S p (value T e) d (exp_nodes e) (exp_variables e) (first_fine K scope p (exp_nodes e) (arms_nodes l) (exp_variables e) (arms_variables l) g) h in
      let i = arms_few K T l scope S d rest in
      let t = times_both K.node (pattern_nodes p) (exp_nodes e ++ arms_nodes l) in
      let u = times_both K.node (exp_nodes e) (arms_nodes l) in
      omega (arith, a, i, t, u)

  body_held : (K : Key) (T : Assigned) (b : numbered.Body) (scope : Scope) (d : Temporary) → Fine K scope (body_nodes b) (body_variables b)
      → Held K scope (order.order (body T b) d) (mark_of (body T b)).node (body_nodes b) (body_variables b)
  body_held K T (numbered.body n ss o) scope d f =
      let g = fine_under K scope n.number (statements_nodes ss ++ else_nodes o) (statements_variables ss ++ else_variables o) f in
      let h = nested_few K T ss (tail T n o) scope n.number d (fine_left K scope (statements_nodes ss) (else_nodes o) (statements_variables ss) (else_variables o) g) in
      let i = tail_few K T n o (behind scope ss) d (fine_tail K scope ss (else_nodes o) (else_variables o) g) in
      block_held K T scope n.number ss (tail T n o) (else_nodes o) (else_variables o) d h i f

  nested_few : (K : Key) (T : Assigned) (ss : numbered.Statements) → NestedFew K T ss
  nested_few K T numbered.no_statement last scope n d f = let o = only_none (onward (order.order last d)) in omega (arith, o)
  nested_few K T (numbered.statement_and (numbered.declares s p t) ss) last scope n d f =
      let h = nested_few K T ss last (with_all (variables p) scope) n d (fine_rest K scope (numbered.declares s p t) ss f) in
      let m = declaring_most K scope s.number (variables p) n (order_body (nested T ss last) n d) in
      let own = declares_own K scope s.number p (optional_nodes t) (statements_nodes ss) (statements_variables ss) f in
      let u = times_both K.node (statement_nodes (numbered.declares s p t)) (statements_nodes ss) in
      let e = statement_then K n (variables p) (directs ss) (onward (order_body (nested T ss last) n d)) (onward (order.order last d)) (declares_of K s.number (variables p))
      (most K (with_all (variables p) scope) (order_body (nested T ss last) n d)) (most K scope (declaring s.number (variables p) n (order_body (nested T ss last) n d)))
      (times K.node (statement_nodes (numbered.declares s p t))) (times K.node (statements_nodes ss)) (most K (behind (with_all (variables p) scope) ss) (order.order last d))
      (nested_onward T ss last n d) m own h in
      omega (arith, e, u)
  nested_few K T (numbered.statement_and (numbered.lets s p t v) ss) last scope n d f =
      let c = elaborated.matched T v (value T v) in
      let rest = order_body (nested T ss last) n d in
      let h = nested_few K T ss last (with_all (variables p) scope) n d (fine_rest K scope (numbered.lets s p t v) ss f) in
      let m = binding_in K T scope (subject c) p n rest in
      let q = scrutinee_few K T scope v (value T v) in
      let x = (exp_held K T v scope (temporary_of (value T v)) (initialiser_fine K scope s.number p (optional_nodes t) (exp_nodes v) (statements_nodes ss) (exp_variables v) (statements_variables ss) f)).all in
      let a1 = times_both K.node (pattern_nodes p) (optional_nodes t ++ exp_nodes v) in
      let a2 = times_both K.node (optional_nodes t) (exp_nodes v) in
      let u = times_both K.node (statement_nodes (numbered.lets s p t v)) (statements_nodes ss) in
      let e = statement_then K n (variables p) (directs ss) (onward rest) (onward (order.order last d)) (most K scope (order_scrutinee c) + times K.node (pattern_nodes p))
      (most K (with_all (variables p) scope) rest) (most K scope (order_scrutinee c) + most K scope (binding (subject c) (bindings [] (pattern T None p)) n rest))
      (times K.node (statement_nodes (numbered.lets s p t v))) (times K.node (statements_nodes ss)) (most K (behind (with_all (variables p) scope) ss) (order.order last d))
      (nested_onward T ss last n d) (omega (arith, m)) (omega (arith, q, x, a1, a2)) h in
      omega (arith, e, u)
  nested_few K T (numbered.statement_and (numbered.evaluates s v b) ss) last scope n d f =
      let h = nested_few K T ss last scope n d (fine_rest K scope (numbered.evaluates s v b) ss f) in
      let x = (exp_held K T v scope (temporary_of (value T v)) (fine_under K scope s.number (exp_nodes v) (exp_variables v)
      (fine_left K scope (s.number ∷ exp_nodes v) (statements_nodes ss) (exp_variables v) (statements_variables ss) f))).all in
      let u = times_both K.node (s.number ∷ exp_nodes v) (statements_nodes ss) in
      omega (arith, h, x, u)

-- ---- functions

first_node : (v : ℕ) (t : numbered.Written) → one_if ((written_node t).number == v) ≤ times v (type_nodes t)
first_node v (numbered.a_kind n k) = omega arith
first_node v (numbered.a_bool n) = omega arith
first_node v (numbered.a_tuple n ts) = omega arith
first_node v (numbered.a_reference n m t) = omega arith
first_node v (numbered.an_item n i ls) = omega arith

beginning_onward : (ps : List numbered.Parameter) (n : ℕ) (rest : Order) → onward (beginning (parameters ps) n rest) ≡ true → onward rest ≡ true
beginning_onward [] n rest e = e
beginning_onward (p ∷ ps) n rest e = beginning_onward ps n rest e

beginning_few : (K : Key) (ps : List numbered.Parameter) (scope : Scope) (n : ℕ) (rest : Order)
    → most K scope (beginning (parameters ps) n rest)
    ≤ times K.node (parameters_nodes ps) + (most K (with_all (parameters_variables ps) scope) rest + only_if (onward rest) (ends_of K n (parameters_variables ps)))
beginning_few K [] scope n rest = omega arith
beginning_few K (p ∷ ps) scope n rest =
    let h = beginning_few K ps (Variable p.variable ∷ scope) n rest in
    let q : tree.Parameter = record { node = (written_node p.typ).number; variable = p.variable } in
    let w = two_acts K q.node (Declare q.variable) (Write (tree.own q.variable) (argument q) []) (λ e. omega (arith, e)) in
    let t = first_node K.node p.typ in
    let u = times_both K.node (type_nodes p.typ) (parameters_nodes ps) in
    let o = only_more (onward (beginning (parameters ps) n rest)) (onward rest) (weight K n (Dead p.variable)) (ends_of K n (parameters_variables ps)) (beginning_onward ps n rest) in
    omega (arith, h, w, t, u, o)

function_onward : (T : Assigned) (b : numbered.Body) (d : Temporary) → onward (order.order (elaborated.function_body T b) d) ≡ true → ⊥
function_onward T (numbered.body n ss o) d e =
    let last = tree.give (no_mark n) (tail T n o) in
    let h = nested_onward T ss last n.number d e in
    let z = and_right (onward (order.order (tail T n o) (temporary_of (tail T n o)))) false h in
    absurd (cc)

function_body_few : (K : Key) (T : Assigned) (b : numbered.Body) (scope : Scope) (d : Temporary) → Fine K scope (body_nodes b) (body_variables b)
    → most K scope (order.order (elaborated.function_body T b) d) ≤ times K.node (body_nodes b)
function_body_few K T (numbered.body n ss o) scope d f =
    let last = tree.give (no_mark n) (tail T n o) in
    let g = fine_under K scope n.number (statements_nodes ss ++ else_nodes o) (statements_variables ss ++ else_variables o) f in
    let h = nested_few K T ss last scope n.number d (fine_left K scope (statements_nodes ss) (else_nodes o) (statements_variables ss) (else_variables o) g) in
    let t = fine_tail K scope ss (else_nodes o) (else_variables o) g in
    let i = tail_few K T n o (behind scope ss) (temporary_of (tail T n o)) t in
    let v = t.variable in
    let w = gives_one K n.number (temporary_of (tail T n o)) (all_of (behind scope ss)) (omega (arith, v)) in
    let u = times_both K.node (statements_nodes ss) (else_nodes o) in
    let z = only_never (onward (order.order last d)) (ends_of K n.number (directs ss)) (λ e. let x = and_right (onward (order.order (tail T n o) (temporary_of (tail T n o)))) false e in absurd (cc)) in
    omega (arith, h, i, w, u, z)

function_few : (K : Key) (T : Assigned) (f : numbered.Function) → times K.node (nodes f) ≤ 1 → times K.variable (declared f) ≤ 1 → most K [] (order_function (elaborated.elaborated T f)) ≤ 1
function_few K T f ns vs =
    let B = elaborated.function_body T f.body in
    let b = order.order B (temporary_of B) in
    let scope = with_all (parameters_variables f.params) [] in
    let h = beginning_few K f.params [] (mark_of B).node b in
    let u = times_both K.node (parameters_nodes f.params) (optional_nodes f.result ++ body_nodes f.body) in
    let v = times_both K.node (optional_nodes f.result) (body_nodes f.body) in
    let w = times_both K.variable (parameters_variables f.params) (body_variables f.body) in
    let x = with_times K.variable (parameters_variables f.params) [] in
    let i = function_body_few K T f.body scope (temporary_of B) (record { node = omega (arith, ns, u, v); variable = omega (arith, vs, w, x) }) in
    let z = only_never (onward b) (ends_of K (mark_of B).node (parameters_variables f.params)) (function_onward T f.body (temporary_of B)) in
    omega (arith, h, i, u, v, z, ns)

-- ---- numbers in order stand once

not_before : (v i j : ℕ) (ns : List ℕ) → AreFrom i ns j → v < i → times v ns ≡ 0
not_before v i j [] a h = refl
not_before v i j (n ∷ ns) a h =
    let e = a.0 in
    let k = not_before v (suc i) j ns a.1 (omega (arith, h)) in
    other (n == v) refl k
  where
    other : (b : Bool) → (n == v) ≡ b → times v ns ≡ 0 → one_if b + times v ns ≡ 0
    other true p k = let q = (Decides-eqb n v).0 p in let e = a.0 in absurd (omega (arith, q, e, h))
    other false p k = omega (arith, k)

stand_once : (v i j : ℕ) (ns : List ℕ) → AreFrom i ns j → times v ns ≤ 1
stand_once v i j [] a = omega arith
stand_once v i j (n ∷ ns) a = by (n == v) refl (stand_once v (suc i) j ns a.1)
  where
    by : (b : Bool) → (n == v) ≡ b → times v ns ≤ 1 → one_if b + times v ns ≤ 1
    by true p h = let q = (Decides-eqb n v).0 p in let e = a.0 in let k = not_before v (suc i) j ns a.1 (omega (arith, q, e)) in omega (arith, k)
    by false p h = omega (arith, h)

pub distinct : (T : Assigned) (f : numbered.Function) (i j : ℕ) → AreFrom 0 (nodes f) i → AreFrom 0 (declared f) j → EachOnce (actions_of (graph (elaborated.elaborated T f)))
distinct T f i j ns vs = each_once _ (λ K.
    let h = few_sites K [] (order_function (elaborated.elaborated T f)) 0 no_exits in
    let g = function_few K T f (stand_once K.node 0 i (nodes f) ns) (stand_once K.variable 0 j (declared f) vs) in
    omega (arith, h, g))

-- ---- sites

found : (g : List Site) (i : ℕ) (s : Site) → site_at g i ≡ Some s → Among s.action (actions_of g)
found [] i s e = absurd (cc)
found (x ∷ g) zero s e = let h : x ≡ s = cc in subst (λ (y : Site). Among y.action (x.action ∷ actions_of g)) h here
found (x ∷ g) (suc i) s e = there (found g i s e)

first_elsewhere : (x : Site) (g : List Site) (j : ℕ) (s t : Site) → (Among x.action (actions_of g) → ⊥) → x ≡ s → site_at g j ≡ Some t → s.action ≡ t.action → ⊥
first_elsewhere x g j s t o e f h = let k : t.action ≡ x.action = sym h ∙ ap (λ (y : Site). y.action) (sym e) in o (subst (λ a. Among a (actions_of g)) k (found g j t f))

pub one_site : (g : List Site) → EachOnce (actions_of g) → (i j : ℕ) (s t : Site) → site_at g i ≡ Some s → site_at g j ≡ Some t → s.action ≡ t.action → i ≡ j
one_site [] o i j s t e f h = absurd (cc)
one_site (x ∷ g) o zero zero s t e f h = refl
one_site (x ∷ g) o zero (suc j) s t e f h = absurd (first_elsewhere x g j s t o.0 (cc) f h)
one_site (x ∷ g) o (suc i) zero s t e f h = absurd (first_elsewhere x g i t s o.0 (cc) e (sym h))
one_site (x ∷ g) o (suc i) (suc j) s t e f h = let k = one_site g o.1 i j s t e f h in omega (arith, k)

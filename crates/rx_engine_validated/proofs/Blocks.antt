-- In a function's typed tree no two blocks have one node: no more of them have it than nodes of the tree with numbers.
use Rattle.std.proofs.Common.{◌≡◌, ℕ, suc, ◌+◌, ◌≤◌, ◌<◌, ◌==◌, Bool, true, false, if◌then◌else◌, ◌&&◌, None, List, [], ◌∷◌, ◌++◌, refl, arith}
use Rattle.std.proofs.lemmas.Bool.Decides.{Decides-eqb}
use Rattle.rx_tree.specs.declared.tree.BinaryOp.{BinaryOp}
use Rattle.rx_typed.specs.declared.nodes.Node.{Node}
use Rattle.rx_typed.specs.Named as numbered
use Rattle.rx_typed.specs.Named.{is_place, node_of, body_node, body_never, else_never}
use Rattle.rx_typed.specs.TypedNumbers.{AreFrom, optional_nodes, pattern_nodes, exp_nodes, exps_nodes, else_nodes, fields_nodes, arms_nodes, body_nodes, statement_nodes, statements_nodes, parameters_nodes, nodes}
use Rattle.rx_typed.specs.Tree as tree
use Rattle.rx_typed.specs.Tree.{Place}
use Rattle.rx_typed.specs.Elaborated as elaborated
use Rattle.rx_typed.specs.Elaborated.{Assigned, Coercion, Met, place, value, body, tail, nested, statement, arms, operands, fields}
use Rattle.rx_lower_walks.proofs.Keys.{one_if, times, times_both}
use Rattle.rx_exits_plan.specs.Spots.{Around, Spot, a_block, a_jump, a_return, with_variables, with_loop, spots, spots_in, spots_matched, spots_armed, spots_of, outermost, spots_of_function}
use Rattle.rx_exits_plan.specs.Blocks.{bound}
use Rattle.rx_engine_related.specs.OneSite.{blocks_at}

-- ---- numbers in order stand once

not_before : (v i j : ℕ) (ns : List ℕ) → AreFrom i ns j → v < i → times v ns ≡ 0
not_before v i j [] a h = refl
not_before v i j (n ∷ ns) a h =
    let e = a.0 in
    let k = not_before v (suc i) j ns a.1 (omega (arith, h)) in
    other (n == v) refl k
  where
    other : (b : Bool) → (n == v) ≡ b → times v ns ≡ 0 → one_if b + times v ns ≡ 0
    other true p k = let q = (Decides-eqb n v).0 p in let e = a.0 in absurd (omega (arith, q, e, h))
    other false p k = omega (arith, k)

stand_once : (v i j : ℕ) (ns : List ℕ) → AreFrom i ns j → times v ns ≤ 1
stand_once v i j [] a = omega arith
stand_once v i j (n ∷ ns) a = by (n == v) refl (stand_once v (suc i) j ns a.1)
  where
    by : (b : Bool) → (n == v) ≡ b → times v ns ≤ 1 → one_if b + times v ns ≤ 1
    by true p h = let q = (Decides-eqb n v).0 p in let e = a.0 in let k = not_before v (suc i) j ns a.1 (omega (arith, q, e)) in omega (arith, k)
    by false p h = omega (arith, h)

module _ (v : ℕ) (T : Assigned) where
  -- how many blocks among spots
  abbrev B : List Spot → ℕ
  B l = blocks_at v l

  one_more : (b : Bool) (k : ℕ) → (if b then suc k else k) ≡ one_if b + k
  one_more true k = omega arith
  one_more false k = omega arith

  both : (l m : List Spot) → B (l ++ m) ≡ B l + B m
  both [] m = omega arith
  both (a_block a n b ∷ l) m = let h = both l m in let i = one_more (n == v) (B (l ++ m)) in let j = one_more (n == v) (B l) in omega (arith, h, i, j)
  both (a_jump a n k g ∷ l) m = both l m
  both (a_return a n ∷ l) m = both l m

  -- so many in an expression at most, whatever is around it
  abbrev Few : tree.Exp → ℕ → Type 0
  Few e k = (a : Around) → B (spots a e) ≤ k

  abbrev FewMatched : tree.Scrutinee → ℕ → Type 0
  FewMatched s k = (a : Around) → B (spots_matched a s) ≤ k

  abbrev FewOf : tree.Body → ℕ → Type 0
  FewOf b k = (a : Around) → B (spots_of a b) ≤ k

  -- ---- forms

  read_few : (n : Node) (c : Coercion) (p : Place) (k : ℕ) → Few (elaborated.read_as T n c p) k
  read_few n elaborated.plain p k a = omega arith
  read_few n elaborated.reborrow p k a = omega arith
  read_few n elaborated.share p k a = omega arith

  passed_few : (n : Node) (c : Coercion) (e : tree.Exp) (k : ℕ) → Few e k → Few (elaborated.passed_as T n c e) k
  passed_few n elaborated.plain e k h a = h a
  passed_few n elaborated.reborrow e k h a = h a
  passed_few n elaborated.share e k h a = h a

  tuple_few : (n : Node) (es : tree.Operands) (k : ℕ) → ((a : Around) → B (spots_in a es) ≤ k) → Few (elaborated.tuple_of T n es) k
  tuple_few n tree.no_operand k h a = omega arith
  tuple_few n (tree.operand_and i e es) k h a = h a

  lazily_few : (m : tree.Mark) (o : Bool) (x y : tree.Exp) (k l : ℕ) → Few x k → Few y l → Few (tree.lazily m o x y) (k + l)
  lazily_few m o x y k l g h a = let p = g a in let q = h a in let s = both (spots a x) (spots a y) in omega (arith, p, q, s)

  two_few : (m : tree.Mark) (w : tree.Making) (x y : tree.Exp) (k l : ℕ) → Few x k → Few y l → Few (tree.build m w (tree.operand_and 0 x (tree.operand_and 1 y tree.no_operand))) (k + l)
  two_few m w x y k l g h a =
      let p = g a in let q = h a in let s = both (spots a x) (spots a y ++ []) in let t = both (spots a y) [] in omega (arith, p, q, s, t)

  one_few : (m : tree.Mark) (w : tree.Making) (x : tree.Exp) (k : ℕ) → Few x k → Few (tree.build m w (elaborated.one_operand x)) k
  one_few m w x k g a = let p = g a in let s = both (spots a x) [] in omega (arith, p, s)

  operated_few : (n : Node) (o : BinaryOp) (x y : tree.Exp) (k l : ℕ) → Few x k → Few y l → Few (elaborated.operated T n o x y) (k + l)
  operated_few n BinaryOp.And x y k l g h = lazily_few (elaborated.mark T n) true x y k l g h
  operated_few n BinaryOp.Or x y k l g h = lazily_few (elaborated.mark T n) false x y k l g h
  operated_few n BinaryOp.Eq x y k l g h = two_few (elaborated.mark T n) (tree.operation BinaryOp.Eq) x y k l g h
  operated_few n BinaryOp.Ne x y k l g h = two_few (elaborated.mark T n) (tree.operation BinaryOp.Ne) x y k l g h
  operated_few n BinaryOp.Lt x y k l g h = two_few (elaborated.mark T n) (tree.operation BinaryOp.Lt) x y k l g h
  operated_few n BinaryOp.Le x y k l g h = two_few (elaborated.mark T n) (tree.operation BinaryOp.Le) x y k l g h
  operated_few n BinaryOp.Gt x y k l g h = two_few (elaborated.mark T n) (tree.operation BinaryOp.Gt) x y k l g h
  operated_few n BinaryOp.Ge x y k l g h = two_few (elaborated.mark T n) (tree.operation BinaryOp.Ge) x y k l g h
  operated_few n BinaryOp.Add x y k l g h = two_few (elaborated.mark T n) (tree.operation BinaryOp.Add) x y k l g h
  operated_few n BinaryOp.Sub x y k l g h = two_few (elaborated.mark T n) (tree.operation BinaryOp.Sub) x y k l g h
  operated_few n BinaryOp.Mul x y k l g h = two_few (elaborated.mark T n) (tree.operation BinaryOp.Mul) x y k l g h
  operated_few n BinaryOp.Div x y k l g h = two_few (elaborated.mark T n) (tree.operation BinaryOp.Div) x y k l g h
  operated_few n BinaryOp.Rem x y k l g h = two_few (elaborated.mark T n) (tree.operation BinaryOp.Rem) x y k l g h

  matched_few : (b : Bool) (c : Coercion) (e : numbered.Exp) (x : tree.Exp) (k : ℕ) → Few x k → FewMatched (elaborated.matched_as T b c e x) k
  matched_few true elaborated.plain e x k h a = omega arith
  matched_few true elaborated.reborrow e x k h a = h a
  matched_few true elaborated.share e x k h a = h a
  matched_few false elaborated.plain e x k h a = h a
  matched_few false elaborated.reborrow e x k h a = h a
  matched_few false elaborated.share e x k h a = h a

  looks_few : (m : tree.Mark) (s : tree.Scrutinee) (p : tree.Pattern) (x y : tree.Exp) (i k l : ℕ) → FewMatched s i → Few x k → Few y l → Few (elaborated.looks m s p x y) (i + (k + l))
  looks_few m s p x y i k l f g h a =
      let X = spots (with_variables (bound p) a) x in let Y = spots (with_variables [] a) y in
      let j1 = f a in let q = g (with_variables (bound p) a) in let r = h (with_variables [] a) in
      let s1 = both (spots_matched a s) (X ++ (Y ++ [])) in let s2 = both X (Y ++ []) in let s3 = both Y [] in omega (arith, j1, q, r, s1, s2, s3)

  under : (k n : ℕ) (ns : List ℕ) → k ≤ times v ns → k ≤ times v (n ∷ ns)
  under k n ns h = omega (arith, h)

  jump_few : (m : tree.Mark) (l : ℕ) (g : Bool) (k : ℕ) → Few (tree.jump m l g) k
  jump_few m l g k a = omega arith

  given_few : (m : tree.Mark) (e : tree.Exp) (k : ℕ) → Few e k → Few (tree.give m e) k
  given_few m e k h a = let p = h a in let s = both (spots a e) (a_return a m.node ∷ []) in omega (arith, p, s)

  mutual
    exp_few : (e : numbered.Exp) → Few (value T e) (times v (exp_nodes e))
    exp_few (numbered.int n m w k) a = omega arith
    exp_few (numbered.bool n b) a = omega arith
    exp_few (numbered.tuple n es) a = under _ n.number (exps_nodes es) (tuple_few n (operands T 0 es) (times v (exps_nodes es)) (λ a. exps_few 0 es a) a)
    exp_few (numbered.var n x) a = read_few n (elaborated.coercion_at T n) (place T (numbered.var n x)) _ a
    exp_few (numbered.field n e x) a = read_few n (elaborated.coercion_at T n) (place T (numbered.field n e x)) _ a
    exp_few (numbered.part n e i) a = read_few n (elaborated.coercion_at T n) (place T (numbered.part n e i)) _ a
    exp_few (numbered.deref n e) a = read_few n (elaborated.coercion_at T n) (place T (numbered.deref n e)) _ a
    exp_few (numbered.negate n e) a = under _ n.number (exp_nodes e) (one_few (elaborated.mark T n) tree.negation (value T e) (times v (exp_nodes e)) (exp_few e) a)
    exp_few (numbered.invert n e) a = under _ n.number (exp_nodes e) (one_few (elaborated.mark T n) tree.inversion (value T e) (times v (exp_nodes e)) (exp_few e) a)
    exp_few (numbered.borrow n m e) a = passed_few n (elaborated.coercion_at T n) (tree.borrow (elaborated.mark T n) m (place T e)) _ (λ a. omega arith) a
    exp_few (numbered.binary n o x y) a =
        let h = operated_few n o (value T x) (value T y) (times v (exp_nodes x)) (times v (exp_nodes y)) (exp_few x) (exp_few y) a in let u = times_both v (exp_nodes x) (exp_nodes y) in omega (arith, h, u)
    exp_few (numbered.assign n p e) a = let h = exp_few e a in let u = times_both v (exp_nodes p) (exp_nodes e) in omega (arith, h, u)
    exp_few (numbered.gives n p x d e) a = let h = exp_few e a in omega (arith, h)
    exp_few (numbered.update n o p e) a = let h = exp_few e a in let u = times_both v (exp_nodes p) (exp_nodes e) in omega (arith, h, u)
    exp_few (numbered.call n f es) a = under _ n.number (exps_nodes es) (passed_few n (elaborated.coercion_at T n) (tree.call (elaborated.mark T n) f (operands T 0 es)) (times v (exps_nodes es)) (λ a. exps_few 0 es a) a)
    exp_few (numbered.hidden_call n es) a = omega arith
    exp_few (numbered.next_input n) a = omega arith
    exp_few (numbered.variant n i w es) a = under _ n.number (exps_nodes es) (exps_few 0 es a)
    exp_few (numbered.make n i fs) a = under _ n.number (fields_nodes fs) (fields_few i fs a)
    exp_few (numbered.print n e) a = under _ n.number (exp_nodes e) (exp_few e a)
    exp_few (numbered.block n b) a = under _ n.number (body_nodes b) (body_few b a)
    exp_few (numbered.if n c b o) a =
        let h = looks_few (elaborated.mark_if T n (body_never b && else_never o)) (tree.of_value (value T c)) (tree.exactly n.number (tree.truth true)) (body T b) (elaborated.otherwise T n o)
        (times v (exp_nodes c)) (times v (body_nodes b)) (times v (else_nodes o)) (exp_few c) (body_few b) (otherwise_few n o) a in
        let u = times_both v (exp_nodes c) (body_nodes b ++ else_nodes o) in let w = times_both v (body_nodes b) (else_nodes o) in omega (arith, h, u, w)
    exp_few (numbered.if_let n p e b o) a =
        let h = looks_few (elaborated.mark_if T n (body_never b && else_never o)) (elaborated.matched T e (value T e)) (elaborated.pattern T None p) (body T b) (elaborated.otherwise T n o)
        (times v (exp_nodes e)) (times v (body_nodes b)) (times v (else_nodes o)) (matched_few (is_place e) (elaborated.coercion_at T (node_of e)) e (value T e) (times v (exp_nodes e)) (exp_few e)) (body_few b) (otherwise_few n o) a in
        let t = times_both v (pattern_nodes p) (exp_nodes e ++ (body_nodes b ++ else_nodes o)) in
        let u = times_both v (exp_nodes e) (body_nodes b ++ else_nodes o) in let w = times_both v (body_nodes b) (else_nodes o) in omega (arith, h, t, u, w)
    exp_few (numbered.match n e l) a =
        let h = matched_few (is_place e) (elaborated.coercion_at T (node_of e)) e (value T e) (times v (exp_nodes e)) (exp_few e) a in let i = arms_few l a in
        let s = both (spots_matched a (elaborated.matched T e (value T e))) (spots_armed a (arms T l)) in
        let u = times_both v (exp_nodes e) (arms_nodes l) in omega (arith, h, i, s, u)
    exp_few (numbered.loop n l k b) a = under _ n.number (body_nodes b) (body_few b (with_loop l a))
    exp_few (numbered.while n l c b) a =
        let h = looks_few (elaborated.mark_if T (body_node b) (body_never b)) (tree.of_value (value T c)) (tree.exactly n.number (tree.truth true)) (body T b) (elaborated.leaves n l)
        (times v (exp_nodes c)) (times v (body_nodes b)) 0 (exp_few c) (body_few b) (jump_few (elaborated.no_mark n) l false 0) (with_loop l a) in
        let u = times_both v (exp_nodes c) (body_nodes b) in omega (arith, h, u)
    exp_few (numbered.while_let n l p e b) a =
        let h = looks_few (elaborated.mark_if T (body_node b) (body_never b)) (elaborated.matched T e (value T e)) (elaborated.pattern T None p) (body T b) (elaborated.leaves n l)
        (times v (exp_nodes e)) (times v (body_nodes b)) 0 (matched_few (is_place e) (elaborated.coercion_at T (node_of e)) e (value T e) (times v (exp_nodes e)) (exp_few e)) (body_few b)
        (jump_few (elaborated.no_mark n) l false 0) (with_loop l a) in
        let t = times_both v (pattern_nodes p) (exp_nodes e ++ body_nodes b) in let u = times_both v (exp_nodes e) (body_nodes b) in omega (arith, h, t, u)
    exp_few (numbered.break n l) a = omega arith
    exp_few (numbered.continue n l) a = omega arith
    exp_few (numbered.return n o) a = under _ n.number (else_nodes o) (given_few (elaborated.no_mark n) (elaborated.returned T n o) (times v (else_nodes o)) (returned_few n o) a)

    exps_few : (k : ℕ) (es : numbered.Exps) (a : Around) → B (spots_in a (operands T k es)) ≤ times v (exps_nodes es)
    exps_few k numbered.no_exp a = omega arith
    exps_few k (numbered.exp_and e es) a =
        let h = exp_few e a in let i = exps_few (suc k) es a in let s = both (spots a (value T e)) (spots_in a (operands T (suc k) es)) in let u = times_both v (exp_nodes e) (exps_nodes es) in omega (arith, h, i, s, u)

    fields_few : (i : ℕ) (fs : numbered.Fields) (a : Around) → B (spots_in a (fields T i fs)) ≤ times v (fields_nodes fs)
    fields_few i numbered.no_field a = omega arith
    fields_few i (numbered.field_and x e fs) a =
        let h = exp_few e a in let j = fields_few i fs a in let s = both (spots a (value T e)) (spots_in a (fields T i fs)) in let u = times_both v (exp_nodes e) (fields_nodes fs) in omega (arith, h, j, s, u)

    otherwise_few : (n : Node) (o : numbered.Else) → Few (elaborated.otherwise T n o) (times v (else_nodes o))
    otherwise_few n numbered.absent a = omega arith
    otherwise_few n (numbered.present e) a = exp_few e a

    returned_few : (n : Node) (o : numbered.Else) → Few (elaborated.returned T n o) (times v (else_nodes o))
    returned_few n numbered.absent a = omega arith
    returned_few n (numbered.present e) a = exp_few e a

    tail_few : (n : Node) (o : numbered.Else) → Few (tail T n o) (times v (else_nodes o))
    tail_few n numbered.absent a = omega arith
    tail_few n (numbered.present e) a = exp_few e a

    arms_few : (l : numbered.Arms) (a : Around) → B (spots_armed a (arms T l)) ≤ times v (arms_nodes l)
    arms_few numbered.no_arm a = omega arith
    arms_few (numbered.arm_and p e l) a =
        let b = with_variables (bound (elaborated.pattern T None p)) a in
        let h = exp_few e b in let i = arms_few l a in let s = both (spots b (value T e)) (spots_armed a (arms T l)) in
        let u = times_both v (pattern_nodes p) (exp_nodes e ++ arms_nodes l) in let w = times_both v (exp_nodes e) (arms_nodes l) in omega (arith, h, i, s, u, w)

    body_few : (b : numbered.Body) → Few (body T b) (times v (body_nodes b))
    body_few (numbered.body n ss o) a =
        let h = statements_few ss (tail T n o) (times v (else_nodes o)) (tail_few n o) a in let u = times_both v (statements_nodes ss) (else_nodes o) in
        let w = one_more (n.number == v) (B (spots_of a (nested T ss (tail T n o)))) in omega (arith, h, u, w)

    statements_few : (ss : numbered.Statements) (last : tree.Exp) (k : ℕ) → Few last k → FewOf (nested T ss last) (times v (statements_nodes ss) + k)
    statements_few numbered.no_statement last k h a = let p = h a in omega (arith, p)
    statements_few (numbered.statement_and x ss) last k h a =
        let p = statement_few x (nested T ss last) (times v (statements_nodes ss) + k) (statements_few ss last k h) a in let u = times_both v (statement_nodes x) (statements_nodes ss) in omega (arith, p, u)

    statement_few : (x : numbered.Statement) (rest : tree.Body) (k : ℕ) → FewOf rest k → FewOf (statement T x rest) (times v (statement_nodes x) + k)
    statement_few (numbered.declares n p t) rest k h a = let q = h (with_variables (elaborated.variables p) a) in omega (arith, q)
    statement_few (numbered.lets n p t e) rest k h a =
        let b = with_variables (bound (elaborated.pattern T None p)) a in
        let q = h b in let g = matched_few (is_place e) (elaborated.coercion_at T (node_of e)) e (value T e) (times v (exp_nodes e)) (exp_few e) a in
        let s = both (spots_matched a (elaborated.matched T e (value T e))) (spots_of b rest) in
        let u = times_both v (pattern_nodes p) (optional_nodes t ++ exp_nodes e) in let w = times_both v (optional_nodes t) (exp_nodes e) in omega (arith, q, g, s, u, w)
    statement_few (numbered.evaluates n e z) rest k h a =
        let q = h a in let g = exp_few e a in let s = both (spots a (value T e)) (spots_of a rest) in omega (arith, q, g, s)

  function_body_few : (b : numbered.Body) → Few (elaborated.function_body T b) (times v (body_nodes b))
  function_body_few (numbered.body n ss o) a =
      let last = tree.give (elaborated.no_mark n) (tail T n o) in
      let h = statements_few ss last (times v (else_nodes o)) (given_few (elaborated.no_mark n) (tail T n o) (times v (else_nodes o)) (tail_few n o)) a in let u = times_both v (statements_nodes ss) (else_nodes o) in
      let w = one_more (n.number == v) (B (spots_of a (nested T ss last))) in omega (arith, h, u, w)

  pub one_block : (f : numbered.Function) (j : ℕ) → AreFrom 0 (nodes f) j → B (spots_of_function (elaborated.elaborated T f)) ≤ 1
  one_block f j a =
      let h = function_body_few f.body (outermost (elaborated.elaborated T f)) in let o = stand_once v 0 j (nodes f) a in
      let u = times_both v (parameters_nodes f.params) (optional_nodes f.result ++ body_nodes f.body) in let w = times_both v (optional_nodes f.result) (body_nodes f.body) in omega (arith, h, o, u, w)

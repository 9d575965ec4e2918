-- In the typed tree of a function the loops round each block, jump and return stand there once: their numbers rise inwards.
use Rattle.std.proofs.Common.{◌≡◌, ℕ, suc, ◌+◌, ◌≤◌, ◌<◌, ◌==◌, ◌||◌, Bool, true, false, ◌&&◌, Option, None, List, [], ◌∷◌, ◌++◌, refl, arith, eqb-true}
use Rattle.rx_tree.specs.Lists.{Every}
use Rattle.rx_tree.proofs.NodesLaws.{every_both}
use Rattle.rx_tree.specs.declared.tree.BinaryOp.{BinaryOp}
use Rattle.rx_typed.specs.declared.nodes.Node.{Node}
use Rattle.rx_typed.specs.Named as numbered
use Rattle.rx_typed.specs.Named.{is_place, node_of, body_node, body_never, else_never}
use Rattle.rx_typed.specs.Tree as tree
use Rattle.rx_typed.specs.Tree.{Place}
use Rattle.rx_typed.specs.Elaborated as elaborated
use Rattle.rx_typed.specs.Elaborated.{Assigned, Coercion, place, value, body, tail, nested, statement, arms, operands, fields}
use Rattle.rx_exits_plan.specs.Spots.{Around, Spot, a_block, a_jump, a_return, with_variables, with_loop, spots, spots_in, spots_matched, spots_armed, spots_of, outermost, spots_of_function}
use Rattle.rx_exits_plan.specs.Blocks.{bound}
use Rattle.rx_exits_plan.specs.Occurrences.{has_number}
use Rattle.rx_engine_planned.specs.Loops.{EachOnce}
use Rattle.rx_engine_planned.proofs.LoopNumbers.{LExp, LExps, LElse, LFields, LArms, LBody, LStatement, LStatements}

module _ (N : ℕ) (T : Assigned) where
  -- loops round something that begins loops from a number on alone
  record Inside (k : ℕ) (ls : List ℕ) : Type 0 where
    once : EachOnce ls
    below : Every (λ (l : ℕ). l < k) ls
    few : Every (λ (l : ℕ). l < N) ls

  abbrev Fine : List ℕ → Type 0
  Fine ls = EachOnce ls × Every (λ (l : ℕ). l < N) ls

  abbrev pub Good : Spot → Type 0
  Good (a_block a n b) = EachOnce a.loops × Every (λ (l : ℕ). l < N) a.loops
  Good (a_jump a n l g) = EachOnce a.loops × Every (λ (l : ℕ). l < N) a.loops
  Good (a_return a n) = EachOnce a.loops × Every (λ (l : ℕ). l < N) a.loops

  fine : (k : ℕ) (ls : List ℕ) → Inside k ls → Fine ls
  fine k ls i = (i.once, i.few)

  -- a loop more
  not_there : (k l : ℕ) (ls : List ℕ) → k ≤ l → Every (λ (x : ℕ). x < k) ls → has_number l ls ≡ false
  not_there k l [] h b = refl
  not_there k l (x ∷ ls) h b = by (l == x) refl (not_there k l ls h b.1)
    where
      by : (c : Bool) → (l == x) ≡ c → has_number l ls ≡ false → (c || has_number l ls) ≡ false
      by true e r = let s = eqb-true l x e in let j = b.0 in absurd (omega (arith, s, j, h))
      by false e r = r

  all_below : (k l : ℕ) (ls : List ℕ) → k ≤ l → Every (λ (x : ℕ). x < k) ls → Every (λ (x : ℕ). x < suc l) ls
  all_below k l [] h b = tt
  all_below k l (x ∷ ls) h b = (let j = b.0 in omega (arith, j, h), all_below k l ls h b.1)

  one_in : (k l : ℕ) (ls : List ℕ) → k ≤ l → l < N → Inside k ls → Inside (suc l) (l ∷ ls)
  one_in k l ls h n i = record { once = (not_there k l ls h i.below, i.once); below = (omega arith, all_below k l ls h i.below); few = (n, i.few) }

  abbrev Few : tree.Exp → ℕ → Type 0
  Few e k = (a : Around) → Inside k a.loops → Every Good (spots a e)

  abbrev FewMatched : tree.Scrutinee → ℕ → Type 0
  FewMatched s k = (a : Around) → Inside k a.loops → Every Good (spots_matched a s)

  abbrev FewIn : tree.Operands → ℕ → Type 0
  FewIn es k = (a : Around) → Inside k a.loops → Every Good (spots_in a es)

  abbrev FewArmed : tree.Arms → ℕ → Type 0
  FewArmed l k = (a : Around) → Inside k a.loops → Every Good (spots_armed a l)

  abbrev FewOf : tree.Body → ℕ → Type 0
  FewOf b k = (a : Around) → Inside k a.loops → Every Good (spots_of a b)

  -- ---- forms

  read_few : (n : Node) (c : Coercion) (p : Place) (k : ℕ) → Few (elaborated.read_as T n c p) k
  read_few n elaborated.plain p k a i = tt
  read_few n elaborated.reborrow p k a i = tt
  read_few n elaborated.share p k a i = tt

  passed_few : (n : Node) (c : Coercion) (e : tree.Exp) (k : ℕ) → Few e k → Few (elaborated.passed_as T n c e) k
  passed_few n elaborated.plain e k h a i = h a i
  passed_few n elaborated.reborrow e k h a i = h a i
  passed_few n elaborated.share e k h a i = h a i

  tuple_few : (n : Node) (es : tree.Operands) (k : ℕ) → FewIn es k → Few (elaborated.tuple_of T n es) k
  tuple_few n tree.no_operand k h a i = tt
  tuple_few n (tree.operand_and j e es) k h a i = h a i

  lazily_few : (m : tree.Mark) (o : Bool) (x y : tree.Exp) (k : ℕ) → Few x k → Few y k → Few (tree.lazily m o x y) k
  lazily_few m o x y k g h a i = every_both Good (spots a x) (spots a y) (g a i) (h a i)

  two_few : (m : tree.Mark) (w : tree.Making) (x y : tree.Exp) (k : ℕ) → Few x k → Few y k → Few (tree.build m w (tree.operand_and 0 x (tree.operand_and 1 y tree.no_operand))) k
  two_few m w x y k g h a i = every_both Good (spots a x) (spots a y ++ []) (g a i) (every_both Good (spots a y) [] (h a i) tt)

  one_few : (m : tree.Mark) (w : tree.Making) (x : tree.Exp) (k : ℕ) → Few x k → Few (tree.build m w (elaborated.one_operand x)) k
  one_few m w x k g a i = every_both Good (spots a x) [] (g a i) tt

  operated_few : (n : Node) (o : BinaryOp) (x y : tree.Exp) (k : ℕ) → Few x k → Few y k → Few (elaborated.operated T n o x y) k
  operated_few n BinaryOp.And x y k g h = lazily_few (elaborated.mark T n) true x y k g h
  operated_few n BinaryOp.Or x y k g h = lazily_few (elaborated.mark T n) false x y k g h
  operated_few n BinaryOp.Eq x y k g h = two_few (elaborated.mark T n) (tree.operation BinaryOp.Eq) x y k g h
  operated_few n BinaryOp.Ne x y k g h = two_few (elaborated.mark T n) (tree.operation BinaryOp.Ne) x y k g h
  operated_few n BinaryOp.Lt x y k g h = two_few (elaborated.mark T n) (tree.operation BinaryOp.Lt) x y k g h
  operated_few n BinaryOp.Le x y k g h = two_few (elaborated.mark T n) (tree.operation BinaryOp.Le) x y k g h
  operated_few n BinaryOp.Gt x y k g h = two_few (elaborated.mark T n) (tree.operation BinaryOp.Gt) x y k g h
  operated_few n BinaryOp.Ge x y k g h = two_few (elaborated.mark T n) (tree.operation BinaryOp.Ge) x y k g h
  operated_few n BinaryOp.Add x y k g h = two_few (elaborated.mark T n) (tree.operation BinaryOp.Add) x y k g h
  operated_few n BinaryOp.Sub x y k g h = two_few (elaborated.mark T n) (tree.operation BinaryOp.Sub) x y k g h
  operated_few n BinaryOp.Mul x y k g h = two_few (elaborated.mark T n) (tree.operation BinaryOp.Mul) x y k g h
  operated_few n BinaryOp.Div x y k g h = two_few (elaborated.mark T n) (tree.operation BinaryOp.Div) x y k g h
  operated_few n BinaryOp.Rem x y k g h = two_few (elaborated.mark T n) (tree.operation BinaryOp.Rem) x y k g h

  matched_few : (b : Bool) (c : Coercion) (e : numbered.Exp) (x : tree.Exp) (k : ℕ) → Few x k → FewMatched (elaborated.matched_as T b c e x) k
  matched_few true elaborated.plain e x k h a i = tt
  matched_few true elaborated.reborrow e x k h a i = h a i
  matched_few true elaborated.share e x k h a i = h a i
  matched_few false elaborated.plain e x k h a i = h a i
  matched_few false elaborated.reborrow e x k h a i = h a i
  matched_few false elaborated.share e x k h a i = h a i

  looks_few : (m : tree.Mark) (s : tree.Scrutinee) (p : tree.Pattern) (x y : tree.Exp) (k : ℕ) → FewMatched s k → Few x k → Few y k → Few (elaborated.looks m s p x y) k
  looks_few m s p x y k f g h a i =
      let X = spots (with_variables (bound p) a) x in let Y = spots (with_variables [] a) y in
      every_both Good (spots_matched a s) (X ++ (Y ++ [])) (f a i) (every_both Good X (Y ++ []) (g (with_variables (bound p) a) i) (every_both Good Y [] (h (with_variables [] a) i) tt))

  jump_few : (m : tree.Mark) (l : ℕ) (g : Bool) (k : ℕ) → Few (tree.jump m l g) k
  jump_few m l g k a i = (fine k a.loops i, tt)

  given_few : (m : tree.Mark) (e : tree.Exp) (k : ℕ) → Few e k → Few (tree.give m e) k
  given_few m e k h a i = every_both Good (spots a e) (a_return a m.node ∷ []) (h a i) (fine k a.loops i, tt)

  mutual
    exp_few : (e : numbered.Exp) (k : ℕ) → LExp N k e → Few (value T e) k
    exp_few (numbered.int n m w v) k z a i = tt
    exp_few (numbered.bool n b) k z a i = tt
    exp_few (numbered.tuple n es) k z a i = tuple_few n (operands T 0 es) k (exps_few 0 es k z) a i
    exp_few (numbered.var n x) k z a i = read_few n (elaborated.coercion_at T n) (place T (numbered.var n x)) k a i
    exp_few (numbered.field n e x) k z a i = read_few n (elaborated.coercion_at T n) (place T (numbered.field n e x)) k a i
    exp_few (numbered.part n e j) k z a i = read_few n (elaborated.coercion_at T n) (place T (numbered.part n e j)) k a i
    exp_few (numbered.deref n e) k z a i = read_few n (elaborated.coercion_at T n) (place T (numbered.deref n e)) k a i
    exp_few (numbered.negate n e) k z a i = one_few (elaborated.mark T n) tree.negation (value T e) k (exp_few e k z) a i
    exp_few (numbered.invert n e) k z a i = one_few (elaborated.mark T n) tree.inversion (value T e) k (exp_few e k z) a i
    exp_few (numbered.borrow n m e) k z a i = passed_few n (elaborated.coercion_at T n) (tree.borrow (elaborated.mark T n) m (place T e)) k (λ a i. tt) a i
    exp_few (numbered.binary n o x y) k z a i = operated_few n o (value T x) (value T y) k (exp_few x k z.0) (exp_few y k z.1) a i
    exp_few (numbered.assign n p e) k z a i = exp_few e k z.1 a i
    exp_few (numbered.gives n p x d e) k z a i = exp_few e k z a i
    exp_few (numbered.update n o p e) k z a i = exp_few e k z.1 a i
    exp_few (numbered.call n f es) k z a i = passed_few n (elaborated.coercion_at T n) (tree.call (elaborated.mark T n) f (operands T 0 es)) k (exps_few 0 es k z) a i
    exp_few (numbered.hidden_call n es) k z a i = tt
    exp_few (numbered.next_input n) k z a i = tt
    exp_few (numbered.variant n j w es) k z a i = exps_few 0 es k z a i
    exp_few (numbered.make n j fs) k z a i = fields_few j fs k z a i
    exp_few (numbered.print n e) k z a i = exp_few e k z a i
    exp_few (numbered.block n b) k z a i = body_few b k z a i
    exp_few (numbered.if n c b o) k z a i =
        looks_few (elaborated.mark_if T n (body_never b && else_never o)) (tree.of_value (value T c)) (tree.exactly n.number (tree.truth true)) (body T b) (elaborated.otherwise T n o) k (exp_few c k z.0) (body_few b k z.1) (otherwise_few n o k z.2) a i
    exp_few (numbered.if_let n p e b o) k z a i =
        looks_few (elaborated.mark_if T n (body_never b && else_never o)) (elaborated.matched T e (value T e)) (elaborated.pattern T None p) (body T b) (elaborated.otherwise T n o) k
        (matched_few (is_place e) (elaborated.coercion_at T (node_of e)) e (value T e) k (exp_few e k z.0)) (body_few b k z.1) (otherwise_few n o k z.2) a i
    exp_few (numbered.match n e l) k z a i =
        every_both Good (spots_matched a (elaborated.matched T e (value T e))) (spots_armed a (arms T l)) (matched_few (is_place e) (elaborated.coercion_at T (node_of e)) e (value T e) k (exp_few e k z.0) a i) (arms_few l k z.1 a i)
    exp_few (numbered.loop n l j b) k z a i = body_few b (suc l) z.2 (with_loop l a) (one_in k l a.loops z.0 z.1 i)
    exp_few (numbered.while n l c b) k z a i =
        looks_few (elaborated.mark_if T (body_node b) (body_never b)) (tree.of_value (value T c)) (tree.exactly n.number (tree.truth true)) (body T b) (elaborated.leaves n l) (suc l)
        (exp_few c (suc l) z.2) (body_few b (suc l) z.3) (jump_few (elaborated.no_mark n) l false (suc l)) (with_loop l a) (one_in k l a.loops z.0 z.1 i)
    exp_few (numbered.while_let n l p e b) k z a i =
        looks_few (elaborated.mark_if T (body_node b) (body_never b)) (elaborated.matched T e (value T e)) (elaborated.pattern T None p) (body T b) (elaborated.leaves n l) (suc l)
        (matched_few (is_place e) (elaborated.coercion_at T (node_of e)) e (value T e) (suc l) (exp_few e (suc l) z.2)) (body_few b (suc l) z.3) (jump_few (elaborated.no_mark n) l false (suc l)) (with_loop l a) (one_in k l a.loops z.0 z.1 i)
    exp_few (numbered.break n l) k z a i = (fine k a.loops i, tt)
    exp_few (numbered.continue n l) k z a i = (fine k a.loops i, tt)
    exp_few (numbered.return n o) k z a i = given_few (elaborated.no_mark n) (elaborated.returned T n o) k (returned_few n o k z) a i

    exps_few : (j : ℕ) (es : numbered.Exps) (k : ℕ) → LExps N k es → FewIn (operands T j es) k
    exps_few j numbered.no_exp k z a i = tt
    exps_few j (numbered.exp_and e es) k z a i = every_both Good (spots a (value T e)) (spots_in a (operands T (suc j) es)) (exp_few e k z.0 a i) (exps_few (suc j) es k z.1 a i)

    fields_few : (j : ℕ) (fs : numbered.Fields) (k : ℕ) → LFields N k fs → FewIn (fields T j fs) k
    fields_few j numbered.no_field k z a i = tt
    fields_few j (numbered.field_and x e fs) k z a i = every_both Good (spots a (value T e)) (spots_in a (fields T j fs)) (exp_few e k z.0 a i) (fields_few j fs k z.1 a i)

    otherwise_few : (n : Node) (o : numbered.Else) (k : ℕ) → LElse N k o → Few (elaborated.otherwise T n o) k
    otherwise_few n numbered.absent k z a i = tt
    otherwise_few n (numbered.present e) k z a i = exp_few e k z a i

    returned_few : (n : Node) (o : numbered.Else) (k : ℕ) → LElse N k o → Few (elaborated.returned T n o) k
    returned_few n numbered.absent k z a i = tt
    returned_few n (numbered.present e) k z a i = exp_few e k z a i

    tail_few : (n : Node) (o : numbered.Else) (k : ℕ) → LElse N k o → Few (tail T n o) k
    tail_few n numbered.absent k z a i = tt
    tail_few n (numbered.present e) k z a i = exp_few e k z a i

    arms_few : (l : numbered.Arms) (k : ℕ) → LArms N k l → FewArmed (arms T l) k
    arms_few numbered.no_arm k z a i = tt
    arms_few (numbered.arm_and p e l) k z a i =
        let b = with_variables (bound (elaborated.pattern T None p)) a in
        every_both Good (spots b (value T e)) (spots_armed a (arms T l)) (exp_few e k z.0 b i) (arms_few l k z.1 a i)

    body_few : (b : numbered.Body) (k : ℕ) → LBody N k b → Few (body T b) k
    body_few (numbered.body n ss o) k z a i = (fine k a.loops i, statements_few ss (tail T n o) k z.0 (tail_few n o k z.1) a i)

    statements_few : (ss : numbered.Statements) (last : tree.Exp) (k : ℕ) → LStatements N k ss → Few last k → FewOf (nested T ss last) k
    statements_few numbered.no_statement last k z h a i = h a i
    statements_few (numbered.statement_and x ss) last k z h a i = statement_few x (nested T ss last) k z.0 (statements_few ss last k z.1 h) a i

    statement_few : (x : numbered.Statement) (rest : tree.Body) (k : ℕ) → LStatement N k x → FewOf rest k → FewOf (statement T x rest) k
    statement_few (numbered.declares n p t) rest k z h a i = h (with_variables (elaborated.variables p) a) i
    statement_few (numbered.lets n p t e) rest k z h a i =
        let b = with_variables (bound (elaborated.pattern T None p)) a in
        every_both Good (spots_matched a (elaborated.matched T e (value T e))) (spots_of b rest) (matched_few (is_place e) (elaborated.coercion_at T (node_of e)) e (value T e) k (exp_few e k z) a i) (h b i)
    statement_few (numbered.evaluates n e w) rest k z h a i = every_both Good (spots a (value T e)) (spots_of a rest) (exp_few e k z a i) (h a i)

  function_body_few : (b : numbered.Body) (k : ℕ) → LBody N k b → Few (elaborated.function_body T b) k
  function_body_few (numbered.body n ss o) k z a i =
      let last = tree.give (elaborated.no_mark n) (tail T n o) in
      (fine k a.loops i, statements_few ss last k z.0 (given_few (elaborated.no_mark n) (tail T n o) k (tail_few n o k z.1)) a i)

  pub all_good : (f : numbered.Function) → LBody N 0 f.body → Every Good (spots_of_function (elaborated.elaborated T f))
  all_good f z = function_body_few f.body 0 z (outermost (elaborated.elaborated T f)) (record { once = tt; below = tt; few = tt })

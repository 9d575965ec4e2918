-- In a typed tree that is elaborated from a text whose names have a meaning no `break` in the test of a loop leads to this loop: none there is
-- told to, and the loops there have other numbers.
use Rattle.std.proofs.Common.{◌≡◌, inl, inr, ℕ, suc, Bool, true, false, [], ◌∷◌, refl, sym, subst}
use Rattle.rx_tree.specs.declared.tree.BinaryOp.{BinaryOp}
use Rattle.rx_typed.specs.Types.{Declarations}
use Rattle.rx_typed.specs.declared.nodes.Node.{Node}
use Rattle.rx_typed.specs.Named as named
use Rattle.rx_typed.specs.Named.{Exp, Exps, Else, Fields, Arms, Body, Statement, Statements, Function, node_of, is_place}
use Rattle.rx_typed.specs.Elaborated as elaborated
use Rattle.rx_typed.specs.Elaborated.{Assigned, Coercion, variables}
use Rattle.rx_typed.specs.Tree as tree
use Rattle.rx_typed.specs.Tree.{Place}
use Rattle.rx_typeck_solver.specs.Valid.{IsIn}
use Rattle.rx_engine_typing.specs.Scoped.{Around, entered, behind, behind_all, ScopedExp, ScopedExps, ScopedElse, ScopedFields, ScopedArms, ScopedBody, ScopedStatement, ScopedStatements, ScopedFunction, parameter_variables}
use Rattle.rx_meaning_accepted.specs.Fitting.{BreaksNot, EachBreaksNot, ElseBreaksNot, FieldsBreakNot, ArmsBreakNot, BodyBreaksNot, StatementBreaksNot, StatementsBreakNot, Fits, EachFits, ElseFits, FieldsFit, ArmsFit, BodyFits, StatementFits, StatementsFit, FunctionFits}
use Rattle.rx_engine_related.specs.Never.{HasNoBreak, NoneHasBreak, MatchedHasNoBreak, ArmsHaveNoBreak, BodyHasNoBreak}
use Rattle.rx_engine_validated.proofs.Forms.{TestHasNoBreak, TestsStay, OperandsStay, MatchedStays, ArmsStay, BodyStays}

-- ---- a loop that no `break` of a part is told to lead to, round the part

module _ (l : ℕ) (T : Assigned) where
  read_unbroken : (n : Node) (c : Coercion) (p : Place) → HasNoBreak l (elaborated.read_as T n c p)
  read_unbroken n elaborated.plain p = tt
  read_unbroken n elaborated.reborrow p = tt
  read_unbroken n elaborated.share p = tt

  passed_unbroken : (n : Node) (c : Coercion) (e : tree.Exp) → HasNoBreak l e → HasNoBreak l (elaborated.passed_as T n c e)
  passed_unbroken n elaborated.plain e h = h
  passed_unbroken n elaborated.reborrow e h = h
  passed_unbroken n elaborated.share e h = h

  operated_unbroken : (n : Node) (o : BinaryOp) (a b : tree.Exp) → HasNoBreak l a → HasNoBreak l b → HasNoBreak l (elaborated.operated T n o a b)
  operated_unbroken n BinaryOp.And a b g h = (g, h)
  operated_unbroken n BinaryOp.Or a b g h = (g, h)
  operated_unbroken n BinaryOp.Eq a b g h = (g, (h, tt))
  operated_unbroken n BinaryOp.Ne a b g h = (g, (h, tt))
  operated_unbroken n BinaryOp.Lt a b g h = (g, (h, tt))
  operated_unbroken n BinaryOp.Le a b g h = (g, (h, tt))
  operated_unbroken n BinaryOp.Gt a b g h = (g, (h, tt))
  operated_unbroken n BinaryOp.Ge a b g h = (g, (h, tt))
  operated_unbroken n BinaryOp.Add a b g h = (g, (h, tt))
  operated_unbroken n BinaryOp.Sub a b g h = (g, (h, tt))
  operated_unbroken n BinaryOp.Mul a b g h = (g, (h, tt))
  operated_unbroken n BinaryOp.Div a b g h = (g, (h, tt))
  operated_unbroken n BinaryOp.Rem a b g h = (g, (h, tt))

  tuple_unbroken : (n : Node) (es : tree.Operands) → NoneHasBreak l es → HasNoBreak l (elaborated.tuple_of T n es)
  tuple_unbroken n tree.no_operand h = tt
  tuple_unbroken n (tree.operand_and i e es) h = h

  matched_unbroken : (b : Bool) (c : Coercion) (e : Exp) (x : tree.Exp) → HasNoBreak l x → MatchedHasNoBreak l (elaborated.matched_as T b c e x)
  matched_unbroken true elaborated.plain e x h = tt
  matched_unbroken true elaborated.reborrow e x h = h
  matched_unbroken true elaborated.share e x h = h
  matched_unbroken false elaborated.plain e x h = h
  matched_unbroken false elaborated.reborrow e x h = h
  matched_unbroken false elaborated.share e x h = h

  -- a loop inside has another number
  differs : (ls : Around) (j : ℕ) → IsIn l ls → (IsIn j ls → ⊥) → j ≡ l → ⊥
  differs ls j i new e = new (subst (λ (x : ℕ). IsIn x ls) (sym e) i)

  mutual
    pub value_unbroken : (xs ls : Around) (e : Exp) → IsIn l ls → ScopedExp xs ls e → BreaksNot l e → HasNoBreak l (elaborated.value T e)
    value_unbroken xs ls (named.int n m v k) i s h = tt
    value_unbroken xs ls (named.bool n b) i s h = tt
    value_unbroken xs ls (named.tuple n es) i s h = tuple_unbroken n (elaborated.operands T 0 es) (each_unbroken xs ls 0 es i s h)
    value_unbroken xs ls (named.var n x) i s h = read_unbroken n (elaborated.coercion_at T n) (elaborated.place T (named.var n x))
    value_unbroken xs ls (named.field n e x) i s h = read_unbroken n (elaborated.coercion_at T n) (elaborated.place T (named.field n e x))
    value_unbroken xs ls (named.part n e k) i s h = read_unbroken n (elaborated.coercion_at T n) (elaborated.place T (named.part n e k))
    value_unbroken xs ls (named.deref n e) i s h = read_unbroken n (elaborated.coercion_at T n) (elaborated.place T (named.deref n e))
    value_unbroken xs ls (named.negate n e) i s h = (value_unbroken xs ls e i s h, tt)
    value_unbroken xs ls (named.invert n e) i s h = (value_unbroken xs ls e i s h, tt)
    value_unbroken xs ls (named.borrow n m e) i s h = passed_unbroken n (elaborated.coercion_at T n) (tree.borrow (elaborated.mark T n) m (elaborated.place T e)) tt
    value_unbroken xs ls (named.binary n o a b) i s h = operated_unbroken n o (elaborated.value T a) (elaborated.value T b) (value_unbroken xs ls a i s.0 h.0) (value_unbroken xs ls b i s.1 h.1)
    value_unbroken xs ls (named.assign n p e) i s h = value_unbroken xs ls e i s.1 h.1
    value_unbroken xs ls (named.gives n p u k e) i s h = value_unbroken xs ls e i s.1 h
    value_unbroken xs ls (named.update n o p e) i s h = value_unbroken xs ls e i s.1 h.1
    value_unbroken xs ls (named.call n f es) i s h = passed_unbroken n (elaborated.coercion_at T n) (tree.call (elaborated.mark T n) f (elaborated.operands T 0 es)) (each_unbroken xs ls 0 es i s h)
    value_unbroken xs ls (named.hidden_call n es) i s h = tt
    value_unbroken xs ls (named.next_input n) i s h = tt
    value_unbroken xs ls (named.variant n j v es) i s h = each_unbroken xs ls 0 es i s h
    value_unbroken xs ls (named.make n j fs) i s h = fields_unbroken xs ls j fs i s h
    value_unbroken xs ls (named.print n e) i s h = value_unbroken xs ls e i s h
    value_unbroken xs ls (named.block n b) i s h = body_unbroken xs ls b i s h
    value_unbroken xs ls (named.if n c b o) i s h = (value_unbroken xs ls c i s.0 h.0, (body_unbroken xs ls b i s.1 h.1, (else_unbroken xs ls n o i s.2 h.2, tt)))
    value_unbroken xs ls (named.if_let n p e b o) i s h =
        (matched_unbroken (is_place e) (elaborated.coercion_at T (node_of e)) e (elaborated.value T e) (value_unbroken xs ls e i s.1 h.0), (body_unbroken (entered xs (variables p)) ls b i s.2 h.1, (else_unbroken xs ls n o i s.3 h.2, tt)))
    value_unbroken xs ls (named.match n e r) i s h = (matched_unbroken (is_place e) (elaborated.coercion_at T (node_of e)) e (elaborated.value T e) (value_unbroken xs ls e i s.0 h.0), arms_unbroken xs ls r i s.1 h.1)
    value_unbroken xs ls (named.loop n j k b) i s h = body_unbroken xs (j ∷ ls) b (inr i) s.1 h
    value_unbroken xs ls (named.while n j c b) i s h = (value_unbroken xs (j ∷ ls) c (inr i) s.1 h.0, (body_unbroken xs (j ∷ ls) b (inr i) s.2 h.1, (differs ls j i s.0, tt)))
    value_unbroken xs ls (named.while_let n j p e b) i s h =
        (matched_unbroken (is_place e) (elaborated.coercion_at T (node_of e)) e (elaborated.value T e) (value_unbroken xs (j ∷ ls) e (inr i) s.2 h.0), (body_unbroken (entered xs (variables p)) (j ∷ ls) b (inr i) s.3 h.1, (differs ls j i s.0, tt)))
    value_unbroken xs ls (named.break n k) i s h = h
    value_unbroken xs ls (named.continue n k) i s h = tt
    value_unbroken xs ls (named.return n o) i s h = returned_unbroken xs ls n o i s h

    each_unbroken : (xs ls : Around) (k : ℕ) (es : Exps) → IsIn l ls → ScopedExps xs ls es → EachBreaksNot l es → NoneHasBreak l (elaborated.operands T k es)
    each_unbroken xs ls k named.no_exp i s h = tt
    each_unbroken xs ls k (named.exp_and e es) i s h = (value_unbroken xs ls e i s.0 h.0, each_unbroken xs ls (suc k) es i s.1 h.1)

    fields_unbroken : (xs ls : Around) (j : ℕ) (fs : Fields) → IsIn l ls → ScopedFields xs ls fs → FieldsBreakNot l fs → NoneHasBreak l (elaborated.fields T j fs)
    fields_unbroken xs ls j named.no_field i s h = tt
    fields_unbroken xs ls j (named.field_and x e fs) i s h = (value_unbroken xs ls e i s.0 h.0, fields_unbroken xs ls j fs i s.1 h.1)

    else_unbroken : (xs ls : Around) (n : Node) (o : Else) → IsIn l ls → ScopedElse xs ls o → ElseBreaksNot l o → HasNoBreak l (elaborated.otherwise T n o)
    else_unbroken xs ls n named.absent i s h = tt
    else_unbroken xs ls n (named.present e) i s h = value_unbroken xs ls e i s h

    returned_unbroken : (xs ls : Around) (n : Node) (o : Else) → IsIn l ls → ScopedElse xs ls o → ElseBreaksNot l o → HasNoBreak l (elaborated.returned T n o)
    returned_unbroken xs ls n named.absent i s h = tt
    returned_unbroken xs ls n (named.present e) i s h = value_unbroken xs ls e i s h

    tail_unbroken : (xs ls : Around) (n : Node) (o : Else) → IsIn l ls → ScopedElse xs ls o → ElseBreaksNot l o → HasNoBreak l (elaborated.tail T n o)
    tail_unbroken xs ls n named.absent i s h = tt
    tail_unbroken xs ls n (named.present e) i s h = value_unbroken xs ls e i s h

    arms_unbroken : (xs ls : Around) (r : Arms) → IsIn l ls → ScopedArms xs ls r → ArmsBreakNot l r → ArmsHaveNoBreak l (elaborated.arms T r)
    arms_unbroken xs ls named.no_arm i s h = tt
    arms_unbroken xs ls (named.arm_and p e r) i s h = (value_unbroken (entered xs (variables p)) ls e i s.1 h.0, arms_unbroken xs ls r i s.2 h.1)

    body_unbroken : (xs ls : Around) (b : Body) → IsIn l ls → ScopedBody xs ls b → BodyBreaksNot l b → HasNoBreak l (elaborated.body T b)
    body_unbroken xs ls (named.body n ss o) i s h = statements_unbroken xs ls ss (elaborated.tail T n o) i s.0 h.0 (tail_unbroken (behind_all xs ss) ls n o i s.1 h.1)

    statements_unbroken : (xs ls : Around) (ss : Statements) (e : tree.Exp) → IsIn l ls → ScopedStatements xs ls ss → StatementsBreakNot l ss → HasNoBreak l e → BodyHasNoBreak l (elaborated.nested T ss e)
    statements_unbroken xs ls named.no_statement e i s h g = g
    statements_unbroken xs ls (named.statement_and a ss) e i s h g = statement_unbroken xs ls a (elaborated.nested T ss e) i s.0 h.0 (statements_unbroken (behind xs a) ls ss e i s.1 h.1 g)

    statement_unbroken : (xs ls : Around) (a : Statement) (b : tree.Body) → IsIn l ls → ScopedStatement xs ls a → StatementBreaksNot l a → BodyHasNoBreak l b → BodyHasNoBreak l (elaborated.statement T a b)
    statement_unbroken xs ls (named.declares n p t) b i s h g = g
    statement_unbroken xs ls (named.lets n p t e) b i s h g = (matched_unbroken (is_place e) (elaborated.coercion_at T (node_of e)) e (elaborated.value T e) (value_unbroken xs ls e i s.1 h), g)
    statement_unbroken xs ls (named.evaluates n e k) b i s h g = (value_unbroken xs ls e i s h, g)

-- ---- the tests of all loops of a part

module _ (D : Declarations) (T : Assigned) where
  read_stays : (n : Node) (c : Coercion) (p : Place) → TestsStay (elaborated.read_as T n c p)
  read_stays n elaborated.plain p = tt
  read_stays n elaborated.reborrow p = tt
  read_stays n elaborated.share p = tt

  passed_stays : (n : Node) (c : Coercion) (e : tree.Exp) → TestsStay e → TestsStay (elaborated.passed_as T n c e)
  passed_stays n elaborated.plain e h = h
  passed_stays n elaborated.reborrow e h = h
  passed_stays n elaborated.share e h = h

  operated_stays : (n : Node) (o : BinaryOp) (a b : tree.Exp) → TestsStay a → TestsStay b → TestsStay (elaborated.operated T n o a b)
  operated_stays n BinaryOp.And a b g h = (g, h)
  operated_stays n BinaryOp.Or a b g h = (g, h)
  operated_stays n BinaryOp.Eq a b g h = (g, (h, tt))
  operated_stays n BinaryOp.Ne a b g h = (g, (h, tt))
  operated_stays n BinaryOp.Lt a b g h = (g, (h, tt))
  operated_stays n BinaryOp.Le a b g h = (g, (h, tt))
  operated_stays n BinaryOp.Gt a b g h = (g, (h, tt))
  operated_stays n BinaryOp.Ge a b g h = (g, (h, tt))
  operated_stays n BinaryOp.Add a b g h = (g, (h, tt))
  operated_stays n BinaryOp.Sub a b g h = (g, (h, tt))
  operated_stays n BinaryOp.Mul a b g h = (g, (h, tt))
  operated_stays n BinaryOp.Div a b g h = (g, (h, tt))
  operated_stays n BinaryOp.Rem a b g h = (g, (h, tt))

  tuple_stays : (n : Node) (es : tree.Operands) → OperandsStay es → TestsStay (elaborated.tuple_of T n es)
  tuple_stays n tree.no_operand h = tt
  tuple_stays n (tree.operand_and i e es) h = h

  matched_stays : (b : Bool) (c : Coercion) (e : Exp) (x : tree.Exp) → TestsStay x → MatchedStays (elaborated.matched_as T b c e x)
  matched_stays true elaborated.plain e x h = tt
  matched_stays true elaborated.reborrow e x h = h
  matched_stays true elaborated.share e x h = h
  matched_stays false elaborated.plain e x h = h
  matched_stays false elaborated.reborrow e x h = h
  matched_stays false elaborated.share e x h = h

  -- a block is no choice
  no_test : (l : ℕ) (b : Body) → TestHasNoBreak l (elaborated.body T b)
  no_test l (named.body n ss o) = tt

  mutual
    pub value_stays : (xs ls : Around) (e : Exp) → ScopedExp xs ls e → Fits D e → TestsStay (elaborated.value T e)
    value_stays xs ls (named.int n m v k) s h = tt
    value_stays xs ls (named.bool n b) s h = tt
    value_stays xs ls (named.tuple n es) s h = tuple_stays n (elaborated.operands T 0 es) (each_stays xs ls 0 es s h)
    value_stays xs ls (named.var n x) s h = read_stays n (elaborated.coercion_at T n) (elaborated.place T (named.var n x))
    value_stays xs ls (named.field n e x) s h = read_stays n (elaborated.coercion_at T n) (elaborated.place T (named.field n e x))
    value_stays xs ls (named.part n e k) s h = read_stays n (elaborated.coercion_at T n) (elaborated.place T (named.part n e k))
    value_stays xs ls (named.deref n e) s h = read_stays n (elaborated.coercion_at T n) (elaborated.place T (named.deref n e))
    value_stays xs ls (named.negate n e) s h = (value_stays xs ls e s h, tt)
    value_stays xs ls (named.invert n e) s h = (value_stays xs ls e s h, tt)
    value_stays xs ls (named.borrow n m e) s h = passed_stays n (elaborated.coercion_at T n) (tree.borrow (elaborated.mark T n) m (elaborated.place T e)) tt
    value_stays xs ls (named.binary n o a b) s h = operated_stays n o (elaborated.value T a) (elaborated.value T b) (value_stays xs ls a s.0 h.0) (value_stays xs ls b s.1 h.1)
    value_stays xs ls (named.assign n p e) s h = value_stays xs ls e s.1 h.1
    value_stays xs ls (named.gives n p u k e) s h = value_stays xs ls e s.1 h
    value_stays xs ls (named.update n o p e) s h = value_stays xs ls e s.1 h.1
    value_stays xs ls (named.call n f es) s h = passed_stays n (elaborated.coercion_at T n) (tree.call (elaborated.mark T n) f (elaborated.operands T 0 es)) (each_stays xs ls 0 es s h)
    value_stays xs ls (named.hidden_call n es) s h = tt
    value_stays xs ls (named.next_input n) s h = tt
    value_stays xs ls (named.variant n j v es) s h = each_stays xs ls 0 es s h.1
    value_stays xs ls (named.make n j fs) s h = fields_stay xs ls j fs s h.1
    value_stays xs ls (named.print n e) s h = value_stays xs ls e s h
    value_stays xs ls (named.block n b) s h = body_stays xs ls b s h
    value_stays xs ls (named.if n c b o) s h = (value_stays xs ls c s.0 h.0, (body_stays xs ls b s.1 h.1, (else_stays xs ls n o s.2 h.2, tt)))
    value_stays xs ls (named.if_let n p e b o) s h =
        (matched_stays (is_place e) (elaborated.coercion_at T (node_of e)) e (elaborated.value T e) (value_stays xs ls e s.1 h.0), (body_stays (entered xs (variables p)) ls b s.2 h.1, (else_stays xs ls n o s.3 h.2, tt)))
    value_stays xs ls (named.match n e r) s h = (matched_stays (is_place e) (elaborated.coercion_at T (node_of e)) e (elaborated.value T e) (value_stays xs ls e s.0 h.0), arms_stay xs ls r s.1 h.1)
    value_stays xs ls (named.loop n j k b) s h = (no_test j b, body_stays xs (j ∷ ls) b s.1 h.1)
    value_stays xs ls (named.while n j c b) s h =
        (value_unbroken j T xs (j ∷ ls) c (inl refl) s.1 h.0, (value_stays xs (j ∷ ls) c s.1 h.1, (body_stays xs (j ∷ ls) b s.2 h.2, (tt, tt))))
    value_stays xs ls (named.while_let n j p e b) s h = (
      matched_unbroken j T (is_place e) (elaborated.coercion_at T (node_of e)) e (elaborated.value T e) (value_unbroken j T xs (j ∷ ls) e (inl refl) s.2 h.0),
      (matched_stays (is_place e) (elaborated.coercion_at T (node_of e)) e (elaborated.value T e) (value_stays xs (j ∷ ls) e s.2 h.1), (body_stays (entered xs (variables p)) (j ∷ ls) b s.3 h.2, (tt, tt))),
    )
    value_stays xs ls (named.break n k) s h = tt
    value_stays xs ls (named.continue n k) s h = tt
    value_stays xs ls (named.return n o) s h = returned_stays xs ls n o s h

    each_stays : (xs ls : Around) (k : ℕ) (es : Exps) → ScopedExps xs ls es → EachFits D es → OperandsStay (elaborated.operands T k es)
    each_stays xs ls k named.no_exp s h = tt
    each_stays xs ls k (named.exp_and e es) s h = (value_stays xs ls e s.0 h.0, each_stays xs ls (suc k) es s.1 h.1)

    fields_stay : (xs ls : Around) (j : ℕ) (fs : Fields) → ScopedFields xs ls fs → FieldsFit D fs → OperandsStay (elaborated.fields T j fs)
    fields_stay xs ls j named.no_field s h = tt
    fields_stay xs ls j (named.field_and x e fs) s h = (value_stays xs ls e s.0 h.0, fields_stay xs ls j fs s.1 h.1)

    else_stays : (xs ls : Around) (n : Node) (o : Else) → ScopedElse xs ls o → ElseFits D o → TestsStay (elaborated.otherwise T n o)
    else_stays xs ls n named.absent s h = tt
    else_stays xs ls n (named.present e) s h = value_stays xs ls e s h

    returned_stays : (xs ls : Around) (n : Node) (o : Else) → ScopedElse xs ls o → ElseFits D o → TestsStay (elaborated.returned T n o)
    returned_stays xs ls n named.absent s h = tt
    returned_stays xs ls n (named.present e) s h = value_stays xs ls e s h

    tail_stays : (xs ls : Around) (n : Node) (o : Else) → ScopedElse xs ls o → ElseFits D o → TestsStay (elaborated.tail T n o)
    tail_stays xs ls n named.absent s h = tt
    tail_stays xs ls n (named.present e) s h = value_stays xs ls e s h

    arms_stay : (xs ls : Around) (r : Arms) → ScopedArms xs ls r → ArmsFit D r → ArmsStay (elaborated.arms T r)
    arms_stay xs ls named.no_arm s h = tt
    arms_stay xs ls (named.arm_and p e r) s h = (value_stays (entered xs (variables p)) ls e s.1 h.0, arms_stay xs ls r s.2 h.1)

    body_stays : (xs ls : Around) (b : Body) → ScopedBody xs ls b → BodyFits D b → TestsStay (elaborated.body T b)
    body_stays xs ls (named.body n ss o) s h = statements_stay xs ls ss (elaborated.tail T n o) s.0 h.0 (tail_stays (behind_all xs ss) ls n o s.1 h.1)

    statements_stay : (xs ls : Around) (ss : Statements) (e : tree.Exp) → ScopedStatements xs ls ss → StatementsFit D ss → TestsStay e → BodyStays (elaborated.nested T ss e)
    statements_stay xs ls named.no_statement e s h g = g
    statements_stay xs ls (named.statement_and a ss) e s h g = statement_stays xs ls a (elaborated.nested T ss e) s.0 h.0 (statements_stay (behind xs a) ls ss e s.1 h.1 g)

    statement_stays : (xs ls : Around) (a : Statement) (b : tree.Body) → ScopedStatement xs ls a → StatementFits D a → BodyStays b → BodyStays (elaborated.statement T a b)
    statement_stays xs ls (named.declares n p t) b s h g = g
    statement_stays xs ls (named.lets n p t e) b s h g = (matched_stays (is_place e) (elaborated.coercion_at T (node_of e)) e (elaborated.value T e) (value_stays xs ls e s.1 h), g)
    statement_stays xs ls (named.evaluates n e k) b s h g = (value_stays xs ls e s h, g)

  in_the_body : (xs ls : Around) (b : Body) → ScopedBody xs ls b → BodyFits D b → TestsStay (elaborated.function_body T b)
  in_the_body xs ls (named.body n ss o) s h = statements_stay xs ls ss (tree.give (elaborated.no_mark n) (elaborated.tail T n o)) s.0 h.0 (tail_stays (behind_all xs ss) ls n o s.1 h.1)

  pub function_stays : (f : Function) → ScopedFunction f → FunctionFits D f → TestsStay (elaborated.elaborated T f).body
  function_stays f s h = in_the_body (entered [] (parameter_variables f.params)) [] f.body s.body h

-- What is Never diverges, by the syntax; and the order of an elaborated part leaves no loop that its tree with numbers has no `break` of.
use Rattle.std.proofs.Common.{◌≡◌, ℕ, suc, Bool, true, false, ◌&&◌, ◌||◌, List, [], ◌∷◌, Option, Some, None, refl}
use Rattle.std.proofs.lemmas.Bool.{true≢false}
use Rattle.rx_tree.specs.declared.tree.BinaryOp.{BinaryOp}
use Rattle.rx_typed.specs.declared.nodes.Node.{Node}
use Rattle.rx_typed.specs.Named as named
use Rattle.rx_typed.specs.Named.{Exp, Exps, Else, Fields, Arms, Body, Statement, Statements, node_of, body_node, is_place, never, body_never, else_never, all_never, diverges, else_diverges, all_diverge, body_diverges, some_diverges, statement_diverges, tail_never}
use Rattle.rx_typed.specs.Elaborated as elaborated
use Rattle.rx_typed.specs.Elaborated.{Assigned, Coercion}
use Rattle.rx_typed.specs.Tree as tree
use Rattle.rx_typed.specs.Tree.{Temporary, Place, temporary_of, temporary_at, mark_of}
use Rattle.rx_lower_walks.specs.Matching.{PartTest, Binding, tests, bindings}
use Rattle.rx_lower_walks.specs.Actions as actions
use Rattle.rx_lower_walks.specs.Orders as order
use Rattle.rx_lower_walks.specs.Orders.{Order, order_all, order_scrutinee, order_arms, order_body, testing, binding, declaring}
use Rattle.rx_meaning_accepted.specs.Fitting.{BreaksNot, EachBreaksNot, ElseBreaksNot, FieldsBreakNot, ArmsBreakNot, BodyBreaksNot, StatementBreaksNot, StatementsBreakNot}
use Rattle.rx_meaning_accepted.proofs.Walking.{Avoids}

-- ---- truth values

pub or_left : (a b : Bool) → a ≡ true → (a || b) ≡ true
or_left true b e = refl
or_left false b e = absurd (true≢false (sym_bool e))
  where
    sym_bool : false ≡ true → true ≡ false
    sym_bool e = cc

pub or_right : (a b : Bool) → b ≡ true → (a || b) ≡ true
or_right true b e = refl
or_right false b e = e

pub both_true : (a b c d : Bool) → (a ≡ true → c ≡ true) → (b ≡ true → d ≡ true) → (a && b) ≡ true → (c && d) ≡ true
both_true true true c d f g e = joined c d (f refl) (g refl)
  where
    joined : (c d : Bool) → c ≡ true → d ≡ true → (c && d) ≡ true
    joined true true p q = refl
    joined true false p q = absurd (cc)
    joined false d p q = absurd (cc)
both_true true false c d f g e = absurd (cc)
both_true false b c d f g e = absurd (cc)

-- ---- what is Never diverges

mutual
  pub never_diverges : (e : Exp) → never e ≡ true → diverges e ≡ true
  never_diverges (named.int n m v k) h = absurd (cc)
  never_diverges (named.bool n b) h = absurd (cc)
  never_diverges (named.tuple n es) h = absurd (cc)
  never_diverges (named.var n x) h = absurd (cc)
  never_diverges (named.field n e x) h = absurd (cc)
  never_diverges (named.part n e i) h = absurd (cc)
  never_diverges (named.deref n e) h = absurd (cc)
  never_diverges (named.negate n e) h = absurd (cc)
  never_diverges (named.invert n e) h = absurd (cc)
  never_diverges (named.borrow n m e) h = absurd (cc)
  never_diverges (named.binary n o a b) h = absurd (cc)
  never_diverges (named.assign n p e) h = absurd (cc)
  never_diverges (named.gives n p x d e) h = absurd (cc)
  never_diverges (named.update n o p e) h = absurd (cc)
  never_diverges (named.call n f es) h = absurd (cc)
  never_diverges (named.hidden_call n es) h = absurd (cc)
  never_diverges (named.next_input n) h = absurd (cc)
  never_diverges (named.variant n i v es) h = absurd (cc)
  never_diverges (named.make n i fs) h = absurd (cc)
  never_diverges (named.print n e) h = absurd (cc)
  never_diverges (named.block n b) h = body_never_diverges b h
  never_diverges (named.if n c b o) h = or_right (diverges c) _ (both_true (body_never b) (else_never o) (body_diverges b) (else_diverges o) (body_never_diverges b) (else_never_diverges o) h)
  never_diverges (named.if_let n p e b o) h = or_right (diverges e) _ (both_true (body_never b) (else_never o) (body_diverges b) (else_diverges o) (body_never_diverges b) (else_never_diverges o) h)
  never_diverges (named.match n e l) h = or_right (diverges e) _ (arms_never_diverge l h)
  never_diverges (named.loop n l k b) h = h
  never_diverges (named.while n l c b) h = absurd (cc)
  never_diverges (named.while_let n l p e b) h = absurd (cc)
  never_diverges (named.break n l) h = refl
  never_diverges (named.continue n l) h = refl
  never_diverges (named.return n o) h = refl

  else_never_diverges : (o : Else) → else_never o ≡ true → else_diverges o ≡ true
  else_never_diverges named.absent h = absurd (cc)
  else_never_diverges (named.present e) h = never_diverges e h

  arms_never_diverge : (l : Arms) → all_never l ≡ true → all_diverge l ≡ true
  arms_never_diverge named.no_arm h = refl
  arms_never_diverge (named.arm_and p e l) h = both_true (never e) (all_never l) (diverges e) (all_diverge l) (never_diverges e) (arms_never_diverge l) h

  body_never_diverges : (b : Body) → body_never b ≡ true → body_diverges b ≡ true
  body_never_diverges (named.body n ss named.absent) h = or_left (some_diverges ss) false h
  body_never_diverges (named.body n ss (named.present e)) h = or_right (some_diverges ss) (diverges e) (never_diverges e h)

-- ---- loops that are not left

module _ (l : ℕ) where
  testing_avoids : (S : actions.Subject) (ts : List PartTest) (rest : Order) → Avoids l rest → Avoids l (testing S ts rest)
  testing_avoids S [] rest a = a
  testing_avoids S (t ∷ ts) rest a = (tt, (testing_avoids S ts rest a, tt))

  perhaps_avoids : (n : ℕ) (o : Option actions.Act) → Avoids l (order.perhaps n o)
  perhaps_avoids n None = tt
  perhaps_avoids n (Some a) = tt

  binding_avoids : (S : actions.Subject) (bs : List Binding) (n : ℕ) (rest : Order) → Avoids l rest → Avoids l (binding S bs n rest)
  binding_avoids S [] n rest a = a
  binding_avoids S (b ∷ bs) n rest a = (perhaps_avoids b.node (actions.taken S b), (tt, (tt, binding_avoids S bs n rest a)))

  declaring_avoids : (s : ℕ) (xs : List ℕ) (n : ℕ) (rest : Order) → Avoids l rest → Avoids l (declaring s xs n rest)
  declaring_avoids s [] n rest a = a
  declaring_avoids s (x ∷ xs) n rest a = (tt, declaring_avoids s xs n rest a)

  abbrev All : tree.Exp → Type 0
  All e = (d : Temporary) → Avoids l (order.order e d)

  arm_avoids : (S : actions.Subject) (p : tree.Pattern) (e : tree.Exp) (d : Temporary) → All e → Avoids l (testing S (tests [] p) (binding S (bindings [] p) (mark_of e).node (order.order e d)))
  arm_avoids S p e d a = testing_avoids S (tests [] p) _ (binding_avoids S (bindings [] p) _ _ (a d))

  two_avoid : (S : actions.Subject) (p : tree.Pattern) (a b : tree.Exp) (d : Temporary) → All a → All b → Avoids l (order_arms S (tree.arm_and p a (tree.arm_and tree.any b tree.no_arm)) d)
  two_avoid S p a b d f g = (arm_avoids S p a d f, (arm_avoids S tree.any b d g, tt))

  module _ (T : Assigned) where
    read_avoids : (n : Node) (c : Coercion) (p : Place) → All (elaborated.read_as T n c p)
    read_avoids n elaborated.plain p d = tt
    read_avoids n elaborated.reborrow p d = tt
    read_avoids n elaborated.share p d = tt

    passed_avoids : (n : Node) (c : Coercion) (e : tree.Exp) → All e → All (elaborated.passed_as T n c e)
    passed_avoids n elaborated.plain e a d = a d
    passed_avoids n elaborated.reborrow e a d = a d
    passed_avoids n elaborated.share e a d = (a (temporary_at n.number 1), tt)

    lazily_avoids : (n : Node) (k : Bool) (a b : tree.Exp) → All a → All b → All (tree.lazily (elaborated.mark T n) k a b)
    lazily_avoids n k a b f g d = (f (temporary_of a), (tt, ((g (temporary_of b), tt), tt)))

    two_operands : (n : Node) (o : BinaryOp) (a b : tree.Exp) → All a → All b → All (tree.build (elaborated.mark T n) (tree.operation o) (tree.operand_and 0 a (tree.operand_and 1 b tree.no_operand)))
    two_operands n o a b f g d = ((f (temporary_of a), (g (temporary_of b), tt)), tt)

    operated_avoids : (n : Node) (o : BinaryOp) (a b : tree.Exp) → All a → All b → All (elaborated.operated T n o a b)
    operated_avoids n BinaryOp.And a b f g = lazily_avoids n true a b f g
    operated_avoids n BinaryOp.Or a b f g = lazily_avoids n false a b f g
    operated_avoids n BinaryOp.Eq a b f g = two_operands n BinaryOp.Eq a b f g
    operated_avoids n BinaryOp.Ne a b f g = two_operands n BinaryOp.Ne a b f g
    operated_avoids n BinaryOp.Lt a b f g = two_operands n BinaryOp.Lt a b f g
    operated_avoids n BinaryOp.Le a b f g = two_operands n BinaryOp.Le a b f g
    operated_avoids n BinaryOp.Gt a b f g = two_operands n BinaryOp.Gt a b f g
    operated_avoids n BinaryOp.Ge a b f g = two_operands n BinaryOp.Ge a b f g
    operated_avoids n BinaryOp.Add a b f g = two_operands n BinaryOp.Add a b f g
    operated_avoids n BinaryOp.Sub a b f g = two_operands n BinaryOp.Sub a b f g
    operated_avoids n BinaryOp.Mul a b f g = two_operands n BinaryOp.Mul a b f g
    operated_avoids n BinaryOp.Div a b f g = two_operands n BinaryOp.Div a b f g
    operated_avoids n BinaryOp.Rem a b f g = two_operands n BinaryOp.Rem a b f g

    tuple_avoids : (n : Node) (es : tree.Operands) → Avoids l (order_all es) → All (elaborated.tuple_of T n es)
    tuple_avoids n tree.no_operand a d = tt
    tuple_avoids n (tree.operand_and i e es) a d = (a, tt)

    pub matched_avoids : (b : Bool) (c : Coercion) (e : Exp) (x : tree.Exp) → All x → Avoids l (order_scrutinee (elaborated.matched_as T b c e x))
    matched_avoids true elaborated.plain e x a = tt
    matched_avoids true elaborated.reborrow e x a = a (temporary_of x)
    matched_avoids true elaborated.share e x a = a (temporary_of x)
    matched_avoids false elaborated.plain e x a = a (temporary_of x)
    matched_avoids false elaborated.reborrow e x a = a (temporary_of x)
    matched_avoids false elaborated.share e x a = a (temporary_of x)

    -- a test that fails leaves the loop itself
    leaves_avoids : (n : Node) (k : ℕ) → (k ≡ l → ⊥) → All (elaborated.leaves n k)
    leaves_avoids n k f d = f

    mutual
      pub value_avoids : (e : Exp) → BreaksNot l e → All (elaborated.value T e)
      value_avoids (named.int n m v k) h = λ d. (tt, tt)
      value_avoids (named.bool n b) h = λ d. (tt, tt)
      value_avoids (named.tuple n es) h = tuple_avoids n (elaborated.operands T 0 es) (each_avoids 0 es h)
      value_avoids (named.var n x) h = read_avoids n (elaborated.coercion_at T n) (elaborated.place T (named.var n x))
      value_avoids (named.field n e x) h = read_avoids n (elaborated.coercion_at T n) (elaborated.place T (named.field n e x))
      value_avoids (named.part n e i) h = read_avoids n (elaborated.coercion_at T n) (elaborated.place T (named.part n e i))
      value_avoids (named.deref n e) h = read_avoids n (elaborated.coercion_at T n) (elaborated.place T (named.deref n e))
      value_avoids (named.negate n e) h = λ d. ((value_avoids e h (temporary_of (elaborated.value T e)), tt), tt)
      value_avoids (named.invert n e) h = λ d. ((value_avoids e h (temporary_of (elaborated.value T e)), tt), tt)
      value_avoids (named.borrow n m e) h = passed_avoids n (elaborated.coercion_at T n) (tree.borrow (elaborated.mark T n) m (elaborated.place T e)) (λ d. tt)
      value_avoids (named.binary n o a b) h = operated_avoids n o (elaborated.value T a) (elaborated.value T b) (value_avoids a h.0) (value_avoids b h.1)
      value_avoids (named.assign n p e) h = λ d. (value_avoids e h.1 (temporary_of (elaborated.value T e)), tt)
      value_avoids (named.gives n p x k e) h = λ d. (value_avoids e h (temporary_of (elaborated.value T e)), tt)
      value_avoids (named.update n o p e) h = λ d. (value_avoids e h.1 (temporary_of (elaborated.value T e)), (tt, (tt, tt)))
      value_avoids (named.call n f es) h = passed_avoids n (elaborated.coercion_at T n) (tree.call (elaborated.mark T n) f (elaborated.operands T 0 es)) (λ d. (each_avoids 0 es h, tt))
      value_avoids (named.hidden_call n es) h = λ d. tt
      value_avoids (named.next_input n) h = λ d. tt
      value_avoids (named.variant n i v es) h = λ d. (each_avoids 0 es h, tt)
      value_avoids (named.make n i fs) h = λ d. (fields_avoid i fs h, tt)
      value_avoids (named.print n e) h = λ d. (value_avoids e h (temporary_of (elaborated.value T e)), tt)
      value_avoids (named.block n b) h = body_avoids b h
      value_avoids (named.if n c b o) h = λ d.
          (value_avoids c h.0 (temporary_of (elaborated.value T c)), two_avoid (actions.in_temporary (temporary_of (elaborated.value T c))) (tree.exactly n.number (tree.truth true)) (elaborated.body T b) (elaborated.otherwise T n o) d (body_avoids b h.1) (else_avoids n o h.2))
      value_avoids (named.if_let n p e b o) h = λ d.
          (matched_avoids (is_place e) (elaborated.coercion_at T (node_of e)) e (elaborated.value T e) (value_avoids e h.0), two_avoid (actions.subject (elaborated.matched T e (elaborated.value T e))) (elaborated.pattern T None p) (elaborated.body T b) (elaborated.otherwise T n o) d (body_avoids b h.1) (else_avoids n o h.2))
      value_avoids (named.match n e r) h = λ d. (matched_avoids (is_place e) (elaborated.coercion_at T (node_of e)) e (elaborated.value T e) (value_avoids e h.0), arms_avoid (actions.subject (elaborated.matched T e (elaborated.value T e))) r d h.1)
      value_avoids (named.loop n j k b) h = λ d f. body_avoids b h (temporary_of (elaborated.body T b))
      value_avoids (named.while n j c b) h = λ d f.
          (value_avoids c h.0 (temporary_of (elaborated.value T c)), two_avoid (actions.in_temporary (temporary_of (elaborated.value T c))) (tree.exactly n.number (tree.truth true)) (elaborated.body T b) (elaborated.leaves n j) _ (body_avoids b h.1) (leaves_avoids n j f))
      value_avoids (named.while_let n j p e b) h = λ d f.
          (matched_avoids (is_place e) (elaborated.coercion_at T (node_of e)) e (elaborated.value T e) (value_avoids e h.0), two_avoid (actions.subject (elaborated.matched T e (elaborated.value T e))) (elaborated.pattern T None p) (elaborated.body T b) (elaborated.leaves n j) _ (body_avoids b h.1) (leaves_avoids n j f))
      value_avoids (named.break n k) h = λ d. h
      value_avoids (named.continue n k) h = λ d. tt
      value_avoids (named.return n o) h = λ d. (returned_avoids n o h, (tt, tt))

      each_avoids : (k : ℕ) (es : Exps) → EachBreaksNot l es → Avoids l (order_all (elaborated.operands T k es))
      each_avoids k named.no_exp h = tt
      each_avoids k (named.exp_and e es) h = (value_avoids e h.0 (temporary_of (elaborated.value T e)), each_avoids (suc k) es h.1)

      fields_avoid : (i : ℕ) (fs : Fields) → FieldsBreakNot l fs → Avoids l (order_all (elaborated.fields T i fs))
      fields_avoid i named.no_field h = tt
      fields_avoid i (named.field_and x e fs) h = (value_avoids e h.0 (temporary_of (elaborated.value T e)), fields_avoid i fs h.1)

      else_avoids : (n : Node) (o : Else) → ElseBreaksNot l o → All (elaborated.otherwise T n o)
      else_avoids n named.absent h = λ d. tt
      else_avoids n (named.present e) h = value_avoids e h

      returned_avoids : (n : Node) (o : Else) → ElseBreaksNot l o → Avoids l (order.order (elaborated.returned T n o) (temporary_of (elaborated.returned T n o)))
      returned_avoids n named.absent h = tt
      returned_avoids n (named.present e) h = value_avoids e h (temporary_of (elaborated.value T e))

      tail_avoids : (n : Node) (o : Else) → ElseBreaksNot l o → All (elaborated.tail T n o)
      tail_avoids n named.absent h = λ d. tt
      tail_avoids n (named.present e) h = value_avoids e h

      arms_avoid : (S : actions.Subject) (r : Arms) (d : Temporary) → ArmsBreakNot l r → Avoids l (order_arms S (elaborated.arms T r) d)
      arms_avoid S named.no_arm d h = tt
      arms_avoid S (named.arm_and p e r) d h = (arm_avoids S (elaborated.pattern T None p) (elaborated.value T e) d (value_avoids e h.0), arms_avoid S r d h.1)

      pub body_avoids : (b : Body) → BodyBreaksNot l b → All (elaborated.body T b)
      body_avoids (named.body n ss o) h d = statements_avoid ss (elaborated.tail T n o) n.number d h.0 (tail_avoids n o h.1 d)

      statements_avoid : (ss : Statements) (e : tree.Exp) (n : ℕ) (d : Temporary) → StatementsBreakNot l ss → Avoids l (order.order e d) → Avoids l (order_body (elaborated.nested T ss e) n d)
      statements_avoid named.no_statement e n d h a = a
      statements_avoid (named.statement_and a ss) e n d h g = statement_avoids a (elaborated.nested T ss e) n d h.0 (statements_avoid ss e n d h.1 g)

      statement_avoids : (a : Statement) (b : tree.Body) (n : ℕ) (d : Temporary) → StatementBreaksNot l a → Avoids l (order_body b n d) → Avoids l (order_body (elaborated.statement T a b) n d)
      statement_avoids (named.declares s p t) b n d h g = declaring_avoids s.number (elaborated.variables p) n (order_body b n d) g
      statement_avoids (named.lets s p t e) b n d h g =
          (matched_avoids (is_place e) (elaborated.coercion_at T (node_of e)) e (elaborated.value T e) (value_avoids e h), binding_avoids (actions.subject (elaborated.matched T e (elaborated.value T e))) (bindings [] (elaborated.pattern T None p)) n (order_body b n d) g)
      statement_avoids (named.evaluates s e k) b n d h g = (value_avoids e h (temporary_of (elaborated.value T e)), g)

-- What is put at a coercion site diverges, is Never and has its typed tree as it was: the types of its nodes and those that are expected say
-- what a place makes of a value, at a coercion site as where a value is only reborrowed.
use Rattle.std.proofs.Common.{◌≡◌, Bool, ◌&&◌, ◌||◌, None, refl, ap, ◌∙◌}
use Rattle.rx_tree.specs.declared.tree.BinaryOp.{BinaryOp}
use Rattle.rx_typed.specs.declared.nodes.Node.{Node}
use Rattle.rx_typed.specs.declared.nodes.Site.{Site}
use Rattle.rx_typed.specs.Named as named
use Rattle.rx_typed.specs.Named.{Exp, Else, Arms, Body, never, else_never, all_never, body_never, tail_never, diverges, else_diverges, all_diverge, body_diverges, some_diverges}
use Rattle.rx_typed.specs.Elaborated as elaborated
use Rattle.rx_typed.specs.Elaborated.{Assigned, Coercion, coercion_at, coercion_in, value, body, otherwise, returned, tail, tuple_of, operated, mark, mark_if}
use Rattle.rx_typed.specs.Tree as tree
use Rattle.rx_typed.specs.Tree.{Place, Operands}
use Rattle.rx_engine_typing.specs.Expecting.{expecting_site, expecting_node, expecting, expecting_else, expecting_arms, expecting_body}

-- ---- what diverges, and what is Never

pub tail_same : (d : Bool) (o : Else) → else_never (expecting_else o) ≡ else_never o → tail_never d (expecting_else o) ≡ tail_never d o
tail_same d named.absent e = refl
tail_same d (named.present x) e = e

or_same : (a : Bool) {b b' : Bool} → b' ≡ b → (a || b') ≡ (a || b)
or_same a e = ap (λ (x : Bool). a || x) e

and_same : {a a' b b' : Bool} → a' ≡ a → b' ≡ b → (a' && b') ≡ (a && b)
and_same {a} {a'} {b} {b'} e f = ap (λ (x : Bool). x && b') e ∙ ap (λ (x : Bool). a && x) f

mutual
  pub never_same : (e : Exp) → never (expecting e) ≡ never e
  never_same (named.block n b) = body_never_same b
  never_same (named.if n c b o) = and_same (body_never_same b) (else_never_same o)
  never_same (named.if_let n p e b o) = and_same (body_never_same b) (else_never_same o)
  never_same (named.match n e l) = all_never_same l
  never_same (named.int n m v k) = refl
  never_same (named.bool n b) = refl
  never_same (named.tuple n es) = refl
  never_same (named.var n x) = refl
  never_same (named.field n e x) = refl
  never_same (named.part n e i) = refl
  never_same (named.deref n e) = refl
  never_same (named.negate n e) = refl
  never_same (named.invert n e) = refl
  never_same (named.borrow n m e) = refl
  never_same (named.binary n o a b) = refl
  never_same (named.assign n p e) = refl
  never_same (named.gives n p x d e) = refl
  never_same (named.update n o p e) = refl
  never_same (named.call n f es) = refl
  never_same (named.hidden_call n es) = refl
  never_same (named.next_input n) = refl
  never_same (named.variant n i v es) = refl
  never_same (named.make n i fs) = refl
  never_same (named.print n e) = refl
  never_same (named.loop n l k b) = refl
  never_same (named.while n l c b) = refl
  never_same (named.while_let n l p e b) = refl
  never_same (named.break n l) = refl
  never_same (named.continue n l) = refl
  never_same (named.return n o) = refl

  pub else_never_same : (o : Else) → else_never (expecting_else o) ≡ else_never o
  else_never_same named.absent = refl
  else_never_same (named.present e) = never_same e

  pub all_never_same : (l : Arms) → all_never (expecting_arms l) ≡ all_never l
  all_never_same named.no_arm = refl
  all_never_same (named.arm_and p e l) = and_same (never_same e) (all_never_same l)

  pub body_never_same : (b : Body) → body_never (expecting_body b) ≡ body_never b
  body_never_same (named.body n ss o) = tail_same (some_diverges ss) o (else_never_same o)

mutual
  pub diverges_same : (e : Exp) → diverges (expecting e) ≡ diverges e
  diverges_same (named.block n b) = body_diverges_same b
  diverges_same (named.if n c b o) = or_same (diverges c) (and_same (body_diverges_same b) (else_diverges_same o))
  diverges_same (named.if_let n p e b o) = or_same (diverges e) (and_same (body_diverges_same b) (else_diverges_same o))
  diverges_same (named.match n e l) = or_same (diverges e) (all_diverge_same l)
  diverges_same (named.int n m v k) = refl
  diverges_same (named.bool n b) = refl
  diverges_same (named.tuple n es) = refl
  diverges_same (named.var n x) = refl
  diverges_same (named.field n e x) = refl
  diverges_same (named.part n e i) = refl
  diverges_same (named.deref n e) = refl
  diverges_same (named.negate n e) = refl
  diverges_same (named.invert n e) = refl
  diverges_same (named.borrow n m e) = refl
  diverges_same (named.binary n o a b) = refl
  diverges_same (named.assign n p e) = refl
  diverges_same (named.gives n p x d e) = refl
  diverges_same (named.update n o p e) = refl
  diverges_same (named.call n f es) = refl
  diverges_same (named.hidden_call n es) = refl
  diverges_same (named.next_input n) = refl
  diverges_same (named.variant n i v es) = refl
  diverges_same (named.make n i fs) = refl
  diverges_same (named.print n e) = refl
  diverges_same (named.loop n l k b) = refl
  diverges_same (named.while n l c b) = refl
  diverges_same (named.while_let n l p e b) = refl
  diverges_same (named.break n l) = refl
  diverges_same (named.continue n l) = refl
  diverges_same (named.return n o) = refl

  pub else_diverges_same : (o : Else) → else_diverges (expecting_else o) ≡ else_diverges o
  else_diverges_same named.absent = refl
  else_diverges_same (named.present e) = diverges_same e

  pub all_diverge_same : (l : Arms) → all_diverge (expecting_arms l) ≡ all_diverge l
  all_diverge_same named.no_arm = refl
  all_diverge_same (named.arm_and p e l) = and_same (diverges_same e) (all_diverge_same l)

  pub body_diverges_same : (b : Body) → body_diverges (expecting_body b) ≡ body_diverges b
  body_diverges_same (named.body n ss o) = or_same (some_diverges ss) (else_diverges_same o)

-- ---- the typed tree

module _ (T : Assigned) where
  coercion_there : (n : Node) → coercion_at T (expecting_node n) ≡ coercion_at T n
  coercion_there n = go n.site
    where
      go : (t : Site) → coercion_in T n.number (expecting_site t) ≡ coercion_in T n.number t
      go Site.Value = refl
      go Site.Place = refl
      go Site.Scrutinee = refl
      go Site.Expects = refl
      go Site.Initialises = refl
      go Site.Reborrows = refl

  read_there : (n : Node) (w : Coercion) (p : Place) → elaborated.read_as T (expecting_node n) w p ≡ elaborated.read_as T n w p
  read_there n elaborated.plain p = refl
  read_there n elaborated.reborrow p = refl
  read_there n elaborated.share p = refl

  place_value_there : (n : Node) (p : Place) → elaborated.place_value T (expecting_node n) p ≡ elaborated.place_value T n p
  place_value_there n p = ap (λ (w : Coercion). elaborated.read_as T (expecting_node n) w p) (coercion_there n) ∙ read_there n (coercion_at T n) p

  passed_there : (n : Node) (w : Coercion) (e : tree.Exp) → elaborated.passed_as T (expecting_node n) w e ≡ elaborated.passed_as T n w e
  passed_there n elaborated.plain e = refl
  passed_there n elaborated.reborrow e = refl
  passed_there n elaborated.share e = refl

  value_of_there : (n : Node) (e : tree.Exp) → elaborated.value_of T (expecting_node n) e ≡ elaborated.value_of T n e
  value_of_there n e = ap (λ (w : Coercion). elaborated.passed_as T (expecting_node n) w e) (coercion_there n) ∙ passed_there n (coercion_at T n) e

  tuple_there : (n : Node) (es : Operands) → tuple_of T (expecting_node n) es ≡ tuple_of T n es
  tuple_there n tree.no_operand = refl
  tuple_there n (tree.operand_and i e es) = refl

  operated_there : (n : Node) (o : BinaryOp) (a b : tree.Exp) → operated T (expecting_node n) o a b ≡ operated T n o a b
  operated_there n BinaryOp.And a b = refl
  operated_there n BinaryOp.Or a b = refl
  operated_there n BinaryOp.Eq a b = refl
  operated_there n BinaryOp.Ne a b = refl
  operated_there n BinaryOp.Lt a b = refl
  operated_there n BinaryOp.Le a b = refl
  operated_there n BinaryOp.Gt a b = refl
  operated_there n BinaryOp.Ge a b = refl
  operated_there n BinaryOp.Add a b = refl
  operated_there n BinaryOp.Sub a b = refl
  operated_there n BinaryOp.Mul a b = refl
  operated_there n BinaryOp.Div a b = refl
  operated_there n BinaryOp.Rem a b = refl

  returned_there : (n : Node) (o : Else) → returned T (expecting_node n) o ≡ returned T n o
  returned_there n named.absent = refl
  returned_there n (named.present e) = refl

  mark_there : (n : Node) {v v' : Bool} → v' ≡ v → mark_if T (expecting_node n) v' ≡ mark_if T n v
  mark_there n e = ap (λ (v : Bool). mark_if T n v) e

  mutual
    pub value_same : (e : Exp) → value T (expecting e) ≡ value T e
    value_same (named.int n m v k) = refl
    value_same (named.bool n b) = refl
    value_same (named.tuple n es) = tuple_there n (elaborated.operands T 0 es)
    value_same (named.var n x) = place_value_there n (elaborated.place T (named.var n x))
    value_same (named.field n e x) = place_value_there n (elaborated.place T (named.field n e x))
    value_same (named.part n e i) = place_value_there n (elaborated.place T (named.part n e i))
    value_same (named.deref n e) = place_value_there n (elaborated.place T (named.deref n e))
    value_same (named.negate n e) = refl
    value_same (named.invert n e) = refl
    value_same (named.borrow n m e) = value_of_there n (tree.borrow (mark T n) m (elaborated.place T e))
    value_same (named.binary n o a b) = operated_there n o (value T a) (value T b)
    value_same (named.assign n p e) = refl
    value_same (named.gives n p x d e) = refl
    value_same (named.update n o p e) = refl
    value_same (named.call n f es) = value_of_there n (tree.call (mark T n) f (elaborated.operands T 0 es))
    value_same (named.hidden_call n es) = refl
    value_same (named.next_input n) = refl
    value_same (named.variant n i v es) = refl
    value_same (named.make n i fs) = refl
    value_same (named.print n e) = refl
    value_same (named.block n b) = body_same b
    value_same (named.if n c b o) =
        ap (λ (m : tree.Mark). elaborated.tests n (value T c) m (body T (expecting_body b)) (otherwise T (expecting_node n) (expecting_else o))) (mark_there n (and_same (body_never_same b) (else_never_same o)))
        ∙ ap (λ (x : tree.Exp). elaborated.tests n (value T c) (mark_if T n (body_never b && else_never o)) x (otherwise T (expecting_node n) (expecting_else o))) (body_same b)
        ∙ ap (λ (x : tree.Exp). elaborated.tests n (value T c) (mark_if T n (body_never b && else_never o)) (body T b) x) (otherwise_same n o)
    value_same (named.if_let n p e b o) =
        ap (λ (m : tree.Mark). elaborated.looks m (elaborated.matched T e (value T e)) (elaborated.pattern T None p) (body T (expecting_body b)) (otherwise T (expecting_node n) (expecting_else o))) (mark_there n (and_same (body_never_same b) (else_never_same o)))
        ∙ ap (λ (x : tree.Exp). elaborated.looks (mark_if T n (body_never b && else_never o)) (elaborated.matched T e (value T e)) (elaborated.pattern T None p) x (otherwise T (expecting_node n) (expecting_else o))) (body_same b)
        ∙ ap (λ (x : tree.Exp). elaborated.looks (mark_if T n (body_never b && else_never o)) (elaborated.matched T e (value T e)) (elaborated.pattern T None p) (body T b) x) (otherwise_same n o)
    value_same (named.match n e l) =
        ap (λ (m : tree.Mark). tree.choose m (elaborated.matched T e (value T e)) (elaborated.arms T (expecting_arms l))) (mark_there n (all_never_same l))
        ∙ ap (λ (x : tree.Arms). tree.choose (mark_if T n (all_never l)) (elaborated.matched T e (value T e)) x) (arms_same l)
    value_same (named.loop n l k b) = refl
    value_same (named.while n l c b) = refl
    value_same (named.while_let n l p e b) = refl
    value_same (named.break n l) = refl
    value_same (named.continue n l) = refl
    value_same (named.return n o) = ap (λ (x : tree.Exp). tree.give (elaborated.no_mark n) x) (returned_there n o)

    otherwise_same : (n : Node) (o : Else) → otherwise T (expecting_node n) (expecting_else o) ≡ otherwise T n o
    otherwise_same n named.absent = refl
    otherwise_same n (named.present e) = value_same e

    tail_value_same : (n : Node) (o : Else) → tail T (expecting_node n) (expecting_else o) ≡ tail T n o
    tail_value_same n named.absent = refl
    tail_value_same n (named.present e) = value_same e

    arms_same : (l : Arms) → elaborated.arms T (expecting_arms l) ≡ elaborated.arms T l
    arms_same named.no_arm = refl
    arms_same (named.arm_and p e l) =
        ap (λ (x : tree.Exp). tree.arm_and (elaborated.pattern T None p) x (elaborated.arms T (expecting_arms l))) (value_same e) ∙ ap (λ (x : tree.Arms). tree.arm_and (elaborated.pattern T None p) (value T e) x) (arms_same l)

    body_same : (b : Body) → body T (expecting_body b) ≡ body T b
    body_same (named.body n ss o) =
        ap (λ (m : tree.Mark). tree.block m (elaborated.nested T ss (tail T (expecting_node n) (expecting_else o)))) (mark_there n (body_never_same (named.body n ss o)))
        ∙ ap (λ (x : tree.Exp). tree.block (mark_if T n (body_never (named.body n ss o))) (elaborated.nested T ss x)) (tail_value_same n o)

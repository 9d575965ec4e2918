-- Where what the rules of types ask of a function is met, a place stands wherever one is wanted: by induction on the tree with numbers.
use Rattle.std.proofs.Common.{◌≡◌, ℕ, suc, Bool, true, ◌&&◌, List, [], ◌∷◌, refl, subst}
use Rattle.rx_core.specs.declared.types.Kind.{Kind}
use Rattle.rx_typed.specs.declared.nodes.Node.{Node}
use Rattle.rx_typed.specs.Named as named
use Rattle.rx_typed.specs.Named.{Exp, Exps, Else, Fields, Arms, Body, Statement, Statements, Function, node_of, body_node, is_place, is_variable, root, never, body_never, else_never, some_diverges}
use Rattle.rx_typeck_solver.specs.declared.facts.Op.TheVariants as op
use Rattle.rx_typeck_solver.specs.declared.facts.Demand.{Demand}
use Rattle.rx_typeck_solver.specs.Facts.{Assignment, KnownItems, MeetsEach}
use Rattle.rx_typeck_solver.specs.declared.facts.Broken.{Broken}
use Rattle.rx_typeck_solver.specs.declared.facts.Fact.{Fact}
use Rattle.rx_typeck_typed.specs.Asking.{Asking, ◌>>◌, nothing, asks}
use Rattle.rx_typeck_typed.specs.Demands as rules
use Rattle.rx_hoist_naming.proofs.Claims.{Claims, IsPlaced, OfExp, OfExps, OfElse, OfFields, OfArms, OfBody, OfStatement, OfStatements, OfFunction}
use Rattle.rx_hoist_naming.proofs.Good.{GoodFact}
use Rattle.rx_hoist_naming.proofs.Asked as asked
use Rattle.rx_hoist_meant.specs.Placed.{Placed, PlacedAll, PlacedElse, PlacedFields, PlacedArms, PlacedBody, PlacedStatement, PlacedRow}

module _ (C : Claims) (K : KnownItems) (A : Assignment) where
  abbrev Asks : Type 0 → Asking → Type 0
  Asks R a = asked.Asks C K A R a

  asks_map : {R S : Type 0} {a : Asking} → (R → S) → Asks R a → Asks S a
  asks_map f x = asked.asks_map C K A f x

  both : {R S : Type 0} {a b : Asking} → Asks R a → Asks S b → Asks (R × S) (a >> b)
  both x y = asked.both C K A x y

  then_first : {R S : Type 0} {a b : Asking} → Asks R a → Asks S b → Asks R (a >> b)
  then_first x y = asked.then_first C K A x y

  then_second : {R S : Type 0} {a b : Asking} → Asks R a → Asks S b → Asks S (a >> b)
  then_second x y = asked.then_second C K A x y

  then_u : {R S : Type 0} {a b : Asking} → Asks R a → Asks S b → Asks (Unit {0}) (a >> b)
  then_u x y = asked.then_u C K A x y

  none : Asks (Unit {0}) nothing
  none = asked.none C K A

  one : (n : Node) (b : Broken) (o : Bool) (f : Fact) → GoodFact C.item f → Asks (Unit {0}) (asks n b o (f ∷ []))
  one n b o f g = asked.asked C K A n b o f g

  -- it is a place where one is wanted, and so are its parts
  record Gives (e : Exp) : Type 0 where
    placed : IsPlaced e → is_place e ≡ true
    whole : Placed e

  no_place : (e : Exp) → asked.NoPlace C K A (node_of e).site → Placed e → Gives e
  no_place e f h = record { placed = λ p. absurd (f p); whole = h }

  a_place : (e : Exp) → is_place e ≡ true → Placed e → Gives e
  a_place e is h = record { placed = λ p. is; whole = h }

  record Branches (n : Node) (b : Body) (o : Else) : Type 0 where
    first : PlacedBody b
    second : PlacedElse o
    outside : asked.NoPlace C K A n.site

  branches : (f : ℕ) (n : Node) (b : Body) (o : Else) → Asks (PlacedBody b) (rules.of_body f b) → Asks (PlacedElse o) (rules.of_else f n o) → Asks (Branches n b o) (rules.of_branches f n (b, o))
  branches f n b o x y =
      asks_map (λ h. record { first = h.0; second = h.1.1.0; outside = asked.no_if_place C K A n o h.1.0 h.1.1.1 })
      (then_second (asked.branch_before_u C K A n o b) (both x (both (asked.branch_after_asks C K A n o b) (both y (asked.if_joins_asks C K A n o (body_never b && else_never o))))))

  mutual
    exp_asks : (f : ℕ) (e : Exp) → OfExp C e → Asks (Gives e) (rules.of_exp f e)
    exp_asks f (named.int n m v k) h = asks_map (λ p. no_place (named.int n m v k) p tt) (asked.integer_asks C K A n m v k)
    exp_asks f (named.bool n b) h = asks_map (λ p. no_place (named.bool n b) p tt) (asked.own_asks C K A n op.Truth [] tt)
    exp_asks f (named.tuple n es) h = asks_map (λ g. no_place (named.tuple n es) g.1.0 g.0) (both (each_asks f rules.members 0 es h) (both (asked.own_asks C K A n op.Tuple _ tt) (one n _ _ _ tt)))
    exp_asks f (named.var n u) h = asks_map (λ _. a_place (named.var n u) refl tt) (then_u (asked.named_u C K A n u u.known) (asked.place_u C K A n _ _ n.site))
    exp_asks f (named.field n e y) h = asks_map (λ g. a_place (named.field n e y) refl (g.whole, g.placed h.1)) (then_first (exp_asks f e h.0) (then_u (one n _ _ _ tt) (asked.place_u C K A n _ _ n.site)))
    exp_asks f (named.part n e i) h = asks_map (λ g. a_place (named.part n e i) refl (g.whole, g.placed h.1)) (then_first (exp_asks f e h.0) (then_u (one n _ _ _ tt) (asked.place_u C K A n _ _ n.site)))
    exp_asks f (named.deref n e) h = asks_map (λ g. a_place (named.deref n e) refl (g.whole, g.placed h.1)) (then_first (exp_asks f e h.0) (then_u (one n _ _ _ tt) (asked.place_u C K A n _ _ n.site)))
    exp_asks f (named.negate n e) h = asks_map (λ g. no_place (named.negate n e) g.1 g.0.whole) (both (exp_asks f e h) (asked.negated_asks C K A n (node_of e) (never e)))
    exp_asks f (named.invert n e) h = asks_map (λ g. no_place (named.invert n e) g.1 g.0.whole) (both (exp_asks f e h) (asked.inverted_asks C K A n (node_of e) (never e)))
    exp_asks f (named.borrow n m e) h = asks_map (λ g. no_place (named.borrow n m e) g.1 (g.0.whole, g.0.placed h.1)) (both (exp_asks f e h.0) (asked.borrowed_asks C K A n m (node_of e) (root e) _))
    exp_asks f (named.binary n o c d) h =
        asks_map (λ g. no_place (named.binary n o c d) g.1.1 (g.0.whole, g.1.0.whole)) (both (exp_asks f c h.0) (both (exp_asks f d h.1) (asked.operation_asks C K A o n (node_of c) (never c) (node_of d) (never d))))
    exp_asks f (named.assign n p e) h =
        asks_map (λ g. no_place (named.assign n p e) g.1.1.1 ((g.0.whole, g.0.placed h.0.1), g.1.1.0.whole))
        (both (exp_asks f p h.0.0) (both (one (node_of e) _ _ _ tt) (both (exp_asks f e h.1) (then_second (asked.assignable_u C K A n (is_variable p) (root p) _) (asked.own_asks C K A n op.Unit [] tt)))))
    exp_asks f (named.gives n p u d e) h =
        asks_map (λ g. no_place (named.gives n p u d e) g.1 g.0.whole) (both (exp_asks f e h.1) (then_second (asked.given_u C K A n p u d (node_of e) (never e)) (asked.own_asks C K A n op.Unit [] tt)))
    exp_asks f (named.update n o p e) h =
        asks_map (λ g. no_place (named.update n o p e) g.1.1 ((g.0.whole, g.0.placed h.0.1), g.1.0.whole))
        (both (exp_asks f p h.0.0) (both (exp_asks f e h.1) (then_second (asked.updated_u C K A n (node_of p) (never p) (node_of e) (never e)) (then_second (asked.assignable_u C K A n (is_variable p) (root p) _) (asked.own_asks C K A n op.Unit [] tt)))))
    exp_asks f (named.call n g es) h = asks_map (λ y. no_place (named.call n g es) y.1 y.0) (then_second (one n _ _ _ tt) (both (each_asks f (rules.parameters g) 0 es h) (asked.own_asks C K A n (op.Result g) [] tt)))
    exp_asks f (named.hidden_call n es) h = asks_map (λ g. absurd g) (then_first (asked.refused C K A n _) (each_asks f rules.values 0 es h))
    exp_asks f (named.next_input n) h = asks_map (λ p. no_place (named.next_input n) p tt) (asked.own_asks C K A n (op.Integer Kind.I64) [] tt)
    exp_asks f (named.variant n i v es) h = asks_map (λ y. no_place (named.variant n i v es) y.1 y.0) (then_second (one n _ _ _ tt) (both (each_asks f (rules.parts_of i v) 0 es h.1) (asked.own_asks C K A n (op.Item i) [] h.0)))
    exp_asks f (named.make n i fs) h = asks_map (λ y. no_place (named.make n i fs) y.1 y.0) (then_second (one n _ _ _ tt) (both (fields_asks f i fs h.1) (asked.own_asks C K A n (op.Item i) [] h.0)))
    exp_asks f (named.print n e) h = asks_map (λ g. no_place (named.print n e) g.1 g.0.whole) (both (exp_asks f e h) (then_second (asked.printed_u C K A (node_of e) (never e)) (asked.own_asks C K A n op.Unit [] tt)))
    exp_asks f (named.block n b) h =
        asks_map (λ g. no_place (named.block n b) g.1 g.0)
        (then_second (asked.before_u C K A n n.site (body_node b)) (both (body_asks f b h) (then_second (asked.after_u C K A n n.site (body_never b) (body_node b)) (asked.join_asks C K A n (body_never b)))))
    exp_asks f (named.if n c b o) h =
        asks_map (λ g. no_place (named.if n c b o) g.1.outside (g.0.whole, g.1.first, g.1.second)) (both (exp_asks f c h.0) (then_second (asked.tested_u C K A (node_of c) (never c)) (branches f n b o (body_asks f b h.1) (else_asks f n o h.2))))
    exp_asks f (named.if_let n p e b o) h =
        asks_map (λ g. no_place (named.if_let n p e b o) g.1.outside (g.0.whole, g.1.first, g.1.second))
        (both (exp_asks f e h.1) (then_second (asked.not_never_u C K A (node_of e) (never e)) (then_second (asked.whole_u C K A (rules.matched e) _ p h.0) (branches f n b o (body_asks f b h.2) (else_asks f n o h.3)))))
    exp_asks f (named.match n e l) h =
        asks_map (λ g. no_place (named.match n e l) g.1.1 (g.0.whole, g.1.0))
        (both (exp_asks f e h.0) (then_second (asked.not_never_u C K A (node_of e) (never e)) (both (arms_asks f n (rules.matched e) (node_of e) l h.1) (asked.join_asks C K A n (named.all_never l)))))
    exp_asks f (named.loop n l k b) h = asks_map (λ g. no_place (named.loop n l k b) g.1 g.0) (both (body_asks f b h) (then_second (asked.unit_u C K A (body_node b) (body_never b)) (asked.loop_asks C K A n k)))
    exp_asks f (named.while n l c b) h =
        asks_map (λ g. no_place (named.while n l c b) g.1.1 (g.0.whole, g.1.0))
        (both (exp_asks f c h.0) (then_second (asked.tested_u C K A (node_of c) (never c)) (both (body_asks f b h.1) (then_second (asked.unit_u C K A (body_node b) (body_never b)) (asked.own_asks C K A n op.Unit [] tt)))))
    exp_asks f (named.while_let n l p e b) h =
        asks_map (λ g. no_place (named.while_let n l p e b) g.1.1 (g.0.whole, g.1.0))
        (both (exp_asks f e h.1) (then_second (asked.not_never_u C K A (node_of e) (never e)) (then_second (asked.whole_u C K A (rules.matched e) _ p h.0) (both (body_asks f b h.2) (then_second (asked.unit_u C K A (body_node b) (body_never b)) (asked.own_asks C K A n op.Unit [] tt))))))
    exp_asks f (named.break n l) h = asks_map (λ p. no_place (named.break n l) p tt) (asked.never_asks C K A n n.site)
    exp_asks f (named.continue n l) h = asks_map (λ p. no_place (named.continue n l) p tt) (asked.never_asks C K A n n.site)
    exp_asks f (named.return n o) h = asks_map (λ g. no_place (named.return n o) g.1 g.0) (then_second (asked.returns_u C K A f n o) (both (returned_asks f o h) (asked.never_asks C K A n n.site)))

    each_asks : (f : ℕ) (w : rules.Listed) (k : ℕ) (es : Exps) → OfExps C es → Asks (PlacedAll es) (rules.of_each f w k es)
    each_asks f w k named.no_exp h = none
    each_asks f w k (named.exp_and e es) h = asks_map (λ g. (g.0.whole, g.1)) (then_second (asked.each_before_u C K A w k (node_of e)) (both (exp_asks f e h.0) (then_second (asked.each_after_u C K A w e) (each_asks f w (suc k) es h.1))))

    fields_asks : (f i : ℕ) (fs : Fields) → OfFields C fs → Asks (PlacedFields fs) (rules.of_fields f i fs)
    fields_asks f i named.no_field h = none
    fields_asks f i (named.field_and y e fs) h = asks_map (λ g. (g.0.whole, g.1)) (then_second (one (node_of e) _ _ _ tt) (both (exp_asks f e h.0) (fields_asks f i fs h.1)))

    else_asks : (f : ℕ) (n : Node) (o : Else) → OfElse C o → Asks (PlacedElse o) (rules.of_else f n o)
    else_asks f n named.absent h = none
    else_asks f n (named.present e) h = asks_map (λ g. g.whole) (then_second (asked.before_u C K A n n.site (node_of e)) (then_first (exp_asks f e h) (asked.after_u C K A n n.site (never e) (node_of e))))

    returned_asks : (f : ℕ) (o : Else) → OfElse C o → Asks (PlacedElse o) (rules.of_returned f o)
    returned_asks f named.absent h = none
    returned_asks f (named.present e) h = asks_map (λ g. g.whole) (exp_asks f e h)

    arms_asks : (f : ℕ) (n : Node) (s : rules.Matched) (m : Node) (l : Arms) → OfArms C l → Asks (PlacedArms l) (rules.of_arms f n s m l)
    arms_asks f n s m named.no_arm h = none
    arms_asks f n s m (named.arm_and p e l) h =
        asks_map (λ g. (g.0.whole, g.1))
        (then_second (asked.whole_u C K A s _ p h.0) (then_second (asked.before_u C K A n n.site (node_of e)) (both (exp_asks f e h.1) (then_second (asked.after_u C K A n n.site (never e) (node_of e)) (arms_asks f n s m l h.2)))))

    body_asks : (f : ℕ) (b : Body) → OfBody C b → Asks (PlacedBody b) (rules.of_body f b)
    body_asks f (named.body n ss o) h =
        both (statements_asks f ss h.0) (then_second (asked.tail_before_u C K A n o) (then_first (returned_asks f o h.1)
        (then_u (asked.tail_after_u C K A n (some_diverges ss) o) (asked.join_asks C K A n (named.tail_never (some_diverges ss) o)))))

    statement_asks : (f : ℕ) (x : Statement) → OfStatement C x → Asks (PlacedStatement x) (rules.of_statement f x)
    statement_asks f (named.declares n p t) h = asked.declared_u C K A p t h.0 h.1
    statement_asks f (named.lets n p t e) h = asks_map (λ g. g.whole) (then_second (asked.typed_before_u C K A t e h.1) (then_first (exp_asks f e h.2) (asked.initialised_u C K A p t e h.0)))
    statement_asks f (named.evaluates n e s) h = asks_map (λ g. g.whole) (then_first (exp_asks f e h) (asked.evaluated_u C K A s (node_of e) (never e)))

    statements_asks : (f : ℕ) (ss : Statements) → OfStatements C ss → Asks (PlacedRow ss) (rules.of_statements f ss)
    statements_asks f named.no_statement h = none
    statements_asks f (named.statement_and y ss) h = both (statement_asks f y h.0) (statements_asks f ss h.1)

  -- ---- functions

  function_asks : (F : Function) → OfFunction C F → Asks (PlacedBody F.body) (rules.of_function F)
  function_asks F h =
      then_second (asked.parameters_u C K A F.params h.params) (then_second (asked.result_u C K A F.result h.result) (then_second (one (body_node F.body) _ _ _ tt)
      (then_first (body_asks F.item F.body h.body) (asked.never_given_u C K A F.never_given))))

  pub function_placed : (F : Function) → OfFunction C F → MeetsEach K A (rules.demands F) → PlacedBody F.body
  function_placed F h met = let y = function_asks F h in y.gives (subst (λ (l : List Demand). MeetsEach K A l) (y.adds []) met)

-- Where what the rules of types ask of a function is met, and in its tree with numbers each name means what it names, so it is in the
-- typed tree: what is no place is refused where a place is wanted. By induction on the tree with numbers.
use Rattle.std.proofs.Common.{◌≡◌, ℕ, suc, Bool, true, false, ◌&&◌, List, [], ◌∷◌, ◌++◌, map, None, refl, sym, ◌∙◌, subst}
use Rattle.std.proofs.lemmas.List.{map-append}
use Rattle.rx_core.specs.declared.types.Kind.{Kind}
use Rattle.rx_core.specs.declared.types.Step.{Step}
use Rattle.rx_core.specs.declared.types.Step.TheVariants as step
use Rattle.rx_tree.specs.declared.tree.BinaryOp.{BinaryOp}
use Rattle.rx_typed.specs.declared.nodes.Node.{Node}
use Rattle.rx_typed.specs.Types.{Typ, integer, boolean, tuple_of, reference, named as named_type, peeled}
use Rattle.rx_typed.specs.Named as named
use Rattle.rx_typed.specs.Named.{Exp, Exps, Else, Fields, Arms, Body, Statement, Statements, Function, pattern_node, node_of, body_node, is_place, is_variable, root, never, body_never, else_never, some_diverges}
use Rattle.rx_typed.specs.Elaborated as elaborated
use Rattle.rx_typed.specs.Elaborated.{Assigned, Coercion, plain, reborrow, share, Met, variables, variables_in, variables_in_fields}
use Rattle.rx_typed.specs.Tree as tree
use Rattle.rx_lower_walks.specs.Matching.{Binding, bindings, bindings_in}
use Rattle.rx_exits_plan.specs.Blocks.{bound}
use Rattle.rx_exits_plan.specs.Spots.{Around, with_variables, with_loop}
use Rattle.rx_typeck_solver.specs.declared.facts.Op.TheVariants as op
use Rattle.rx_typeck_solver.specs.declared.facts.Demand.{Demand}
use Rattle.rx_typeck_solver.specs.Facts.{Assignment, KnownItems, MeetsEach}
use Rattle.rx_typeck_solver.specs.declared.facts.Broken.{Broken}
use Rattle.rx_typeck_solver.specs.declared.facts.Fact.{Fact}
use Rattle.rx_typeck_typed.specs.Asking.{Asking, ◌>>◌, nothing, asks}
use Rattle.rx_typeck_typed.specs.Demands as rules
use Rattle.rx_hoist_naming.proofs.Claims.{Claims, IsPlaced, OfExp, OfExps, OfElse, OfFields, OfArms, OfBody, OfStatement, OfStatements, OfFunction}
use Rattle.rx_hoist_naming.proofs.Good.{GoodFact}
use Rattle.rx_hoist_naming.proofs.Asked as asked
use Rattle.rx_hoist_meant.specs.NamesMeant.{AtRoot, InExp, InOperands, InScrutinee, InArms, InBody}
use Rattle.rx_hoist_meant.proofs.Scopes.{declared_in, NExp, NExps, NElse, NFields, NArms, NBody, NStatement, NRow}

-- ---- what a pattern binds

module _ (T : Assigned) where
  behind_binds : (t : Typ) (p : tree.Pattern) (xs : List ℕ) → ((at : List Step) → map (λ (b : Binding). b.variable) (bindings at p) ≡ xs) → (at : List Step) → map (λ (b : Binding). b.variable) (bindings at (elaborated.behind_all t p)) ≡ xs
  behind_binds (integer k) p xs h at = h at
  behind_binds boolean p xs h at = h at
  behind_binds (tuple_of ts) p xs h at = h at
  behind_binds (reference m t) p xs h at = behind_binds t p xs h (at ++ step.Deref m ∷ [])
  behind_binds (named_type i) p xs h at = h at

  two_rows : (bs cs : List Binding) (xs ys : List ℕ) → map (λ (b : Binding). b.variable) bs ≡ xs → map (λ (b : Binding). b.variable) cs ≡ ys → map (λ (b : Binding). b.variable) (bs ++ cs) ≡ xs ++ ys
  two_rows bs cs xs ys d e = map-append (λ (b : Binding). b.variable) bs cs ∙ (λ j. d j ++ e j)

  mutual
    binds : (r : Met) (p : named.Pattern) (at : List Step) → map (λ (b : Binding). b.variable) (bindings at (elaborated.pattern T r p)) ≡ variables p
    binds r (named.wild n) at = refl
    binds r (named.bind n x m) at = refl
    binds r (named.whole_number n g v k) at =
        behind_binds (T.typ n.number) (tree.exactly n.number (tree.whole_number (elaborated.kind_in (peeled (T.typ n.number))) (elaborated.with_sign g v))) [] (λ at. refl) at
    binds r (named.truth n b) at = behind_binds (T.typ n.number) (tree.exactly n.number (tree.truth b)) [] (λ at. refl) at
    binds r (named.tuple_pattern n ps) at =
        behind_binds (T.typ n.number) (tree.parts (elaborated.subpatterns T (elaborated.met (T.typ n.number) r) 0 ps)) (variables_in ps) (λ at. binds_in (elaborated.met (T.typ n.number) r) 0 ps at) at
    binds r (named.variant_pattern n i v ps) at =
        behind_binds (T.typ n.number) (tree.variant n.number i (elaborated.has_several T.items i) v (elaborated.subpatterns T (elaborated.met (T.typ n.number) r) 0 ps)) (variables_in ps)
        (λ at. binds_in (elaborated.met (T.typ n.number) r) 0 ps (at ++ step.Variant v ∷ [])) at
    binds r (named.struct_pattern n i fs) at =
        behind_binds (T.typ n.number) (tree.parts (elaborated.field_patterns T (elaborated.met (T.typ n.number) r) i fs)) (variables_in_fields fs) (λ at. binds_fields (elaborated.met (T.typ n.number) r) i fs at) at

    binds_in : (r : Met) (k : ℕ) (ps : named.Patterns) (at : List Step) → map (λ (b : Binding). b.variable) (bindings_in at (elaborated.subpatterns T r k ps)) ≡ variables_in ps
    binds_in r k named.no_pattern at = refl
    binds_in r k (named.pattern_and p ps) at =
        two_rows (bindings (at ++ step.Field k ∷ []) (elaborated.pattern T r p)) (bindings_in at (elaborated.subpatterns T r (suc k) ps)) (variables p) (variables_in ps)
        (binds r p (at ++ step.Field k ∷ [])) (binds_in r (suc k) ps at)

    binds_fields : (r : Met) (i : ℕ) (fs : named.FieldPatterns) (at : List Step) → map (λ (b : Binding). b.variable) (bindings_in at (elaborated.field_patterns T r i fs)) ≡ variables_in_fields fs
    binds_fields r i named.no_field_pattern at = refl
    binds_fields r i (named.field_pattern_and x p fs) at =
        let k = elaborated.field_in T.items (named_type i) x in
        two_rows (bindings (at ++ step.Field k ∷ []) (elaborated.pattern T r p)) (bindings_in at (elaborated.field_patterns T r i fs)) (variables p) (variables_in_fields fs)
        (binds r p (at ++ step.Field k ∷ [])) (binds_fields r i fs at)

  pub bound_is : (r : Met) (p : named.Pattern) → variables p ≡ bound (elaborated.pattern T r p)
  bound_is r p = sym (binds r p [])

-- ---- the parts of a typed tree, as it is put together

module _ (C : Claims) (K : KnownItems) (A : Assignment) (same : ℕ → ℕ → Bool) where
  abbrev pub T : Assigned
  T = asked.T C K A

  reads : (a : Around) (n : Node) (w : Coercion) (p : tree.Place) → AtRoot same a p.root → InExp same a (elaborated.read_as T n w p)
  reads a n plain p h = h
  reads a n reborrow p h = h
  reads a n share p h = h

  passes_on : (a : Around) (n : Node) (w : Coercion) (x : tree.Exp) → InExp same a x → InExp same a (elaborated.passed_as T n w x)
  passes_on a n plain x h = h
  passes_on a n reborrow x h = h
  passes_on a n share x h = h

  matches : (a : Around) (b : Bool) (w : Coercion) (e : Exp) (x : tree.Exp) → (b ≡ true → AtRoot same a (elaborated.place T e).root) → InExp same a x → InScrutinee same a (elaborated.matched_as T b w e x)
  matches a true plain e x p h = p refl
  matches a true reborrow e x p h = h
  matches a true share e x p h = h
  matches a false plain e x p h = h
  matches a false reborrow e x p h = h
  matches a false share e x p h = h

  operates : (a : Around) (n : Node) (o : BinaryOp) (x y : tree.Exp) → InExp same a x → InExp same a y → InExp same a (elaborated.operated T n o x y)
  operates a n BinaryOp.And x y g h = (g, h)
  operates a n BinaryOp.Or x y g h = (g, h)
  operates a n BinaryOp.Eq x y g h = (g, (h, tt))
  operates a n BinaryOp.Ne x y g h = (g, (h, tt))
  operates a n BinaryOp.Lt x y g h = (g, (h, tt))
  operates a n BinaryOp.Le x y g h = (g, (h, tt))
  operates a n BinaryOp.Gt x y g h = (g, (h, tt))
  operates a n BinaryOp.Ge x y g h = (g, (h, tt))
  operates a n _ x y g h = (g, (h, tt))

  tuples : (a : Around) (n : Node) (es : tree.Operands) → InOperands same a es → InExp same a (elaborated.tuple_of T n es)
  tuples a n tree.no_operand h = tt
  tuples a n (tree.operand_and i e es) h = h

  -- behind a pattern
  in_pattern : (R : Around → Type 0) (r : Met) (p : named.Pattern) (a : Around) → R (with_variables (variables p) a) → R (with_variables (bound (elaborated.pattern T r p)) a)
  in_pattern R r p a h = subst (λ (xs : List ℕ). R (with_variables xs a)) (bound_is T r p) h

  -- ---- asking

  abbrev Asks : Type 0 → Asking → Type 0
  Asks R a = asked.Asks C K A R a

  asks_map : {R S : Type 0} {a : Asking} → (R → S) → Asks R a → Asks S a
  asks_map f x = asked.asks_map C K A f x

  both : {R S : Type 0} {a b : Asking} → Asks R a → Asks S b → Asks (R × S) (a >> b)
  both x y = asked.both C K A x y

  then_first : {R S : Type 0} {a b : Asking} → Asks R a → Asks S b → Asks R (a >> b)
  then_first x y = asked.then_first C K A x y

  then_second : {R S : Type 0} {a b : Asking} → Asks R a → Asks S b → Asks S (a >> b)
  then_second x y = asked.then_second C K A x y

  then_u : {R S : Type 0} {a b : Asking} → Asks R a → Asks S b → Asks (Unit {0}) (a >> b)
  then_u x y = asked.then_u C K A x y

  none : Asks (Unit {0}) nothing
  none = asked.none C K A

  one : (n : Node) (b : Broken) (o : Bool) (f : Fact) → GoodFact C.item f → Asks (Unit {0}) (asks n b o (f ∷ []))
  one n b o f g = asked.asked C K A n b o f g

  -- ---- what expressions give

  record Gives (a : Around) (e : Exp) : Type 0 where
    place : is_place e ≡ true → AtRoot same a (elaborated.place T e).root
    value : InExp same a (elaborated.value T e)

  -- wherever its names mean what they name; and it is a place where one is wanted
  record GivesAll (e : Exp) : Type 0 where
    placed : IsPlaced e → is_place e ≡ true
    gives : (a : Around) → NExp same a.scope e → Gives a e

  no_place : (e : Exp) → is_place e ≡ false → asked.NoPlace C K A (node_of e).site → ((a : Around) → NExp same a.scope e → InExp same a (elaborated.value T e)) → GivesAll e
  no_place e is f h = record { placed = λ p. absurd (f p); gives = λ a x. record { place = λ q. absurd (cc); value = h a x } }

  a_place : (e : Exp) (n : Node) → is_place e ≡ true → elaborated.value T e ≡ elaborated.place_value T n (elaborated.place T e) → ((a : Around) → NExp same a.scope e → AtRoot same a (elaborated.place T e).root) → GivesAll e
  a_place e n is alike h = record {
    placed = λ p. is;
    gives = λ a x. record {
      place = λ q. h a x;
      value = subst (λ (y : tree.Exp). InExp same a y) (sym alike) (reads a n (elaborated.coercion_at T n) (elaborated.place T e) (h a x));
    };
  }

  -- where a place is wanted
  root_of : (e : Exp) → IsPlaced e → GivesAll e → (a : Around) → NExp same a.scope e → AtRoot same a (elaborated.place T e).root
  root_of e p g a x = (g.gives a x).place (g.placed p)

  abbrev GivesElse : Else → Type 0
  GivesElse named.absent = Unit {0}
  GivesElse (named.present e) = (a : Around) → NExp same a.scope e → InExp same a (elaborated.value T e)

  otherwise_gives : (n : Node) (o : Else) → GivesElse o → (a : Around) → NElse same a.scope o → InExp same a (elaborated.otherwise T n o)
  otherwise_gives n named.absent h a x = tt
  otherwise_gives n (named.present e) h a x = h a x

  returned_gives : (n : Node) (o : Else) → GivesElse o → (a : Around) → NElse same a.scope o → InExp same a (elaborated.returned T n o)
  returned_gives n named.absent h a x = tt
  returned_gives n (named.present e) h a x = h a x

  tail_gives : (n : Node) (o : Else) → GivesElse o → (a : Around) → NElse same a.scope o → InExp same a (elaborated.tail T n o)
  tail_gives n named.absent h a x = tt
  tail_gives n (named.present e) h a x = h a x

  record GivesBody (b : Body) : Type 0 where
    value : (a : Around) → NBody same a.scope b → InExp same a (elaborated.body T b)
    whole : (a : Around) → NBody same a.scope b → InExp same a (elaborated.function_body T b)

  abbrev GivesStatement : Statement → Type 0
  GivesStatement x = (a : Around) → NStatement same a.scope x → (rest : tree.Body) → InBody same (with_variables (declared_in x) a) rest → InBody same a (elaborated.statement T x rest)

  abbrev GivesStatements : Statements → Type 0
  GivesStatements ss = (a : Around) (after : List ℕ) → NRow same a.scope ss after → (last : tree.Exp) → ((b : Around) → b.scope ≡ after → InExp same b last) → InBody same a (elaborated.nested T ss last)

  matched_gives : (e : Exp) (a : Around) → Gives a e → InScrutinee same a (elaborated.matched T e (elaborated.value T e))
  matched_gives e a g = matches a (is_place e) (elaborated.coercion_at T (node_of e)) e (elaborated.value T e) g.place g.value

  -- the branches of an `if`
  record Branches (n : Node) (b : Body) (o : Else) : Type 0 where
    first : (a : Around) → NBody same a.scope b → InExp same a (elaborated.body T b)
    second : GivesElse o
    outside : asked.NoPlace C K A n.site

  branches : (f : ℕ) (n : Node) (b : Body) (o : Else) → Asks (GivesBody b) (rules.of_body f b) → Asks (GivesElse o) (rules.of_else f n o) → Asks (Branches n b o) (rules.of_branches f n (b, o))
  branches f n b o x y =
      asks_map (λ h. record { first = h.0.value; second = h.1.1.0; outside = asked.no_if_place C K A n o h.1.0 h.1.1.1 })
      (then_second (asked.branch_before_u C K A n o b) (both x (both (asked.branch_after_asks C K A n o b) (both y (asked.if_joins_asks C K A n o (body_never b && else_never o))))))

  mutual
    exp_asks : (f : ℕ) (e : Exp) → OfExp C e → Asks (GivesAll e) (rules.of_exp f e)
    exp_asks f (named.int n m v k) h = asks_map (λ p. no_place (named.int n m v k) refl p (λ a x. tt)) (asked.integer_asks C K A n m v k)
    exp_asks f (named.bool n b) h = asks_map (λ p. no_place (named.bool n b) refl p (λ a x. tt)) (asked.own_asks C K A n op.Truth [] tt)
    exp_asks f (named.tuple n es) h =
        asks_map (λ g. no_place (named.tuple n es) refl g.1.0 (λ a x. tuples a n (elaborated.operands T 0 es) (g.0 a x)))
        (both (each_asks f rules.members 0 es h) (both (asked.own_asks C K A n op.Tuple _ tt) (one n _ _ _ tt)))
    exp_asks f (named.var n u) h = asks_map (λ _. a_place (named.var n u) n refl refl (λ a x. x)) (then_u (asked.named_u C K A n u u.known) (asked.place_u C K A n _ _ n.site))
    exp_asks f (named.field n e y) h = asks_map (λ g. a_place (named.field n e y) n refl refl (λ a x. root_of e h.1 g a x)) (then_first (exp_asks f e h.0) (then_u (one n _ _ _ tt) (asked.place_u C K A n _ _ n.site)))
    exp_asks f (named.part n e i) h = asks_map (λ g. a_place (named.part n e i) n refl refl (λ a x. root_of e h.1 g a x)) (then_first (exp_asks f e h.0) (then_u (one n _ _ _ tt) (asked.place_u C K A n _ _ n.site)))
    exp_asks f (named.deref n e) h = asks_map (λ g. a_place (named.deref n e) n refl refl (λ a x. root_of e h.1 g a x)) (then_first (exp_asks f e h.0) (then_u (one n _ _ _ tt) (asked.place_u C K A n _ _ n.site)))
    exp_asks f (named.negate n e) h = asks_map (λ g. no_place (named.negate n e) refl g.1 (λ a x. ((g.0.gives a x).value, tt))) (both (exp_asks f e h) (asked.negated_asks C K A n (node_of e) (never e)))
    exp_asks f (named.invert n e) h = asks_map (λ g. no_place (named.invert n e) refl g.1 (λ a x. ((g.0.gives a x).value, tt))) (both (exp_asks f e h) (asked.inverted_asks C K A n (node_of e) (never e)))
    exp_asks f (named.borrow n m e) h =
        asks_map (λ g. no_place (named.borrow n m e) refl g.1 (λ a x. passes_on a n (elaborated.coercion_at T n) (tree.borrow (elaborated.mark T n) m (elaborated.place T e)) (root_of e h.1 g.0 a x)))
        (both (exp_asks f e h.0) (asked.borrowed_asks C K A n m (node_of e) (root e) _))
    exp_asks f (named.binary n o c d) h =
        asks_map (λ g. no_place (named.binary n o c d) refl g.1.1 (λ a x. operates a n o (elaborated.value T c) (elaborated.value T d) (g.0.gives a x.0).value (g.1.0.gives a x.1).value))
        (both (exp_asks f c h.0) (both (exp_asks f d h.1) (asked.operation_asks C K A o n (node_of c) (never c) (node_of d) (never d))))
    exp_asks f (named.assign n p e) h =
        asks_map (λ g. no_place (named.assign n p e) refl g.1.1.1 (λ a x. (root_of p h.0.1 g.0 a x.0, (g.1.1.0.gives a x.1).value)))
        (both (exp_asks f p h.0.0) (both (one (node_of e) _ _ _ tt) (both (exp_asks f e h.1) (then_second (asked.assignable_u C K A n (is_variable p) (root p) _) (asked.own_asks C K A n op.Unit [] tt)))))
    exp_asks f (named.gives n p u d e) h =
        asks_map (λ g. no_place (named.gives n p u d e) refl g.1 (λ a x. (x.0, (g.0.gives a x.1).value)))
        (both (exp_asks f e h.1) (then_second (asked.given_u C K A n p u d (node_of e) (never e)) (asked.own_asks C K A n op.Unit [] tt)))
    exp_asks f (named.update n o p e) h =
        asks_map (λ g. no_place (named.update n o p e) refl g.1.1 (λ a x. (root_of p h.0.1 g.0 a x.0, (g.1.0.gives a x.1).value)))
        (both (exp_asks f p h.0.0) (both (exp_asks f e h.1) (then_second (asked.updated_u C K A n (node_of p) (never p) (node_of e) (never e)) (then_second (asked.assignable_u C K A n (is_variable p) (root p) _) (asked.own_asks C K A n op.Unit [] tt)))))
    exp_asks f (named.call n g es) h =
        asks_map (λ y. no_place (named.call n g es) refl y.1 (λ a x. passes_on a n (elaborated.coercion_at T n) (tree.call (elaborated.mark T n) g (elaborated.operands T 0 es)) (y.0 a x)))
        (then_second (one n _ _ _ tt) (both (each_asks f (rules.parameters g) 0 es h) (asked.own_asks C K A n (op.Result g) [] tt)))
    exp_asks f (named.hidden_call n es) h = asks_map (λ g. absurd g) (then_first (asked.refused C K A n _) (each_asks f rules.values 0 es h))
    exp_asks f (named.next_input n) h = asks_map (λ p. no_place (named.next_input n) refl p (λ a x. tt)) (asked.own_asks C K A n (op.Integer Kind.I64) [] tt)
    exp_asks f (named.variant n i v es) h =
        asks_map (λ y. no_place (named.variant n i v es) refl y.1 (λ a x. y.0 a x))
        (then_second (one n _ _ _ tt) (both (each_asks f (rules.parts_of i v) 0 es h.1) (asked.own_asks C K A n (op.Item i) [] h.0)))
    exp_asks f (named.make n i fs) h =
        asks_map (λ y. no_place (named.make n i fs) refl y.1 (λ a x. y.0 a x))
        (then_second (one n _ _ _ tt) (both (fields_asks f i fs h.1) (asked.own_asks C K A n (op.Item i) [] h.0)))
    exp_asks f (named.print n e) h = asks_map (λ g. no_place (named.print n e) refl g.1 (λ a x. (g.0.gives a x).value)) (both (exp_asks f e h) (then_second (asked.printed_u C K A (node_of e) (never e)) (asked.own_asks C K A n op.Unit [] tt)))
    exp_asks f (named.block n b) h =
        asks_map (λ g. no_place (named.block n b) refl g.1 (λ a x. g.0.value a x))
        (then_second (asked.before_u C K A n n.site (body_node b)) (both (body_asks f b h) (then_second (asked.after_u C K A n n.site (body_never b) (body_node b)) (asked.join_asks C K A n (body_never b)))))
    exp_asks f (named.if n c b o) h =
        asks_map (λ g. no_place (named.if n c b o) refl g.1.outside (λ a x. ((g.0.gives a x.0).value, (g.1.first a x.1, (otherwise_gives n o g.1.second a x.2, tt)))))
        (both (exp_asks f c h.0) (then_second (asked.tested_u C K A (node_of c) (never c)) (branches f n b o (body_asks f b h.1) (else_asks f n o h.2))))
    exp_asks f (named.if_let n p e b o) h =
        asks_map (λ g. no_place (named.if_let n p e b o) refl g.1.outside (λ a x. (
          matched_gives e a (g.0.gives a x.0),
          (in_pattern (λ (z : Around). InExp same z (elaborated.body T b)) None p a (g.1.first (with_variables (variables p) a) x.1), (otherwise_gives n o g.1.second a x.2, tt)),
        )))
        (both (exp_asks f e h.1) (then_second (asked.not_never_u C K A (node_of e) (never e)) (then_second (asked.whole_u C K A (rules.matched e) _ p h.0) (branches f n b o (body_asks f b h.2) (else_asks f n o h.3)))))
    exp_asks f (named.match n e l) h =
        asks_map (λ g. no_place (named.match n e l) refl g.1.1 (λ a x. (matched_gives e a (g.0.gives a x.0), g.1.0 a x.1)))
        (both (exp_asks f e h.0) (then_second (asked.not_never_u C K A (node_of e) (never e)) (both (arms_asks f n (rules.matched e) (node_of e) l h.1) (asked.join_asks C K A n (named.all_never l)))))
    exp_asks f (named.loop n l k b) h = asks_map (λ g. no_place (named.loop n l k b) refl g.1 (λ a x. g.0.value (with_loop l a) x)) (both (body_asks f b h) (then_second (asked.unit_u C K A (body_node b) (body_never b)) (asked.loop_asks C K A n k)))
    exp_asks f (named.while n l c b) h =
        asks_map (λ g. no_place (named.while n l c b) refl g.1.1 (λ a x. ((g.0.gives (with_loop l a) x.0).value, (g.1.0.value (with_loop l a) x.1, (tt, tt)))))
        (both (exp_asks f c h.0) (then_second (asked.tested_u C K A (node_of c) (never c)) (both (body_asks f b h.1) (then_second (asked.unit_u C K A (body_node b) (body_never b)) (asked.own_asks C K A n op.Unit [] tt)))))
    exp_asks f (named.while_let n l p e b) h =
        asks_map (λ g. no_place (named.while_let n l p e b) refl g.1.1 (λ a x. (
          matched_gives e (with_loop l a) (g.0.gives (with_loop l a) x.0),
          (in_pattern (λ (z : Around). InExp same z (elaborated.body T b)) None p (with_loop l a) (g.1.0.value (with_variables (variables p) (with_loop l a)) x.1), (tt, tt)),
        )))
        (both (exp_asks f e h.1) (then_second (asked.not_never_u C K A (node_of e) (never e)) (then_second (asked.whole_u C K A (rules.matched e) _ p h.0) (both (body_asks f b h.2) (then_second (asked.unit_u C K A (body_node b) (body_never b)) (asked.own_asks C K A n op.Unit [] tt))))))
    exp_asks f (named.break n l) h = asks_map (λ p. no_place (named.break n l) refl p (λ a x. tt)) (asked.never_asks C K A n n.site)
    exp_asks f (named.continue n l) h = asks_map (λ p. no_place (named.continue n l) refl p (λ a x. tt)) (asked.never_asks C K A n n.site)
    exp_asks f (named.return n o) h =
        asks_map (λ g. no_place (named.return n o) refl g.1 (λ a x. returned_gives n o g.0 a x)) (then_second (asked.returns_u C K A f n o) (both (returned_asks f o h) (asked.never_asks C K A n n.site)))

    each_asks : (f : ℕ) (w : rules.Listed) (k : ℕ) (es : Exps) → OfExps C es → Asks ((a : Around) → NExps same a.scope es → InOperands same a (elaborated.operands T k es)) (rules.of_each f w k es)
    each_asks f w k named.no_exp h = asks_map (λ _ a x. tt) none
    each_asks f w k (named.exp_and e es) h =
        asks_map (λ g a x. ((g.0.gives a x.0).value, g.1 a x.1))
        (then_second (asked.each_before_u C K A w k (node_of e)) (both (exp_asks f e h.0) (then_second (asked.each_after_u C K A w e) (each_asks f w (suc k) es h.1))))

    fields_asks : (f i : ℕ) (fs : Fields) → OfFields C fs → Asks ((a : Around) → NFields same a.scope fs → InOperands same a (elaborated.fields T i fs)) (rules.of_fields f i fs)
    fields_asks f i named.no_field h = asks_map (λ _ a x. tt) none
    fields_asks f i (named.field_and y e fs) h =
        asks_map (λ g a x. ((g.0.gives a x.0).value, g.1 a x.1))
        (then_second (one (node_of e) _ _ _ tt) (both (exp_asks f e h.0) (fields_asks f i fs h.1)))

    else_asks : (f : ℕ) (n : Node) (o : Else) → OfElse C o → Asks (GivesElse o) (rules.of_else f n o)
    else_asks f n named.absent h = none
    else_asks f n (named.present e) h = asks_map (λ g a x. (g.gives a x).value) (then_second (asked.before_u C K A n n.site (node_of e)) (then_first (exp_asks f e h) (asked.after_u C K A n n.site (never e) (node_of e))))

    returned_asks : (f : ℕ) (o : Else) → OfElse C o → Asks (GivesElse o) (rules.of_returned f o)
    returned_asks f named.absent h = none
    returned_asks f (named.present e) h = asks_map (λ g a x. (g.gives a x).value) (exp_asks f e h)

    arms_asks : (f : ℕ) (n : Node) (s : rules.Matched) (m : Node) (l : Arms) → OfArms C l → Asks ((a : Around) → NArms same a.scope l → InArms same a (elaborated.arms T l)) (rules.of_arms f n s m l)
    arms_asks f n s m named.no_arm h = asks_map (λ _ a x. tt) none
    arms_asks f n s m (named.arm_and p e l) h =
        asks_map (λ g a x. (in_pattern (λ (z : Around). InExp same z (elaborated.value T e)) None p a (g.0.gives (with_variables (variables p) a) x.0).value, g.1 a x.1))
        (then_second (asked.whole_u C K A s _ p h.0) (then_second (asked.before_u C K A n n.site (node_of e)) (both (exp_asks f e h.1) (then_second (asked.after_u C K A n n.site (never e) (node_of e)) (arms_asks f n s m l h.2)))))

    body_asks : (f : ℕ) (b : Body) → OfBody C b → Asks (GivesBody b) (rules.of_body f b)
    body_asks f (named.body n ss o) h =
        asks_map (λ g. record {
          value = λ a x. g.0 a x.0 x.1 (elaborated.tail T n o) (λ b e. tail_gives n o g.1 b (subst (λ (vs : List ℕ). NElse same vs o) (sym e) x.2));
          whole = λ a x. g.0 a x.0 x.1 (tree.give (elaborated.no_mark n) (elaborated.tail T n o)) (λ b e. tail_gives n o g.1 b (subst (λ (vs : List ℕ). NElse same vs o) (sym e) x.2));
        })
        (both (statements_asks f ss h.0) (then_second (asked.tail_before_u C K A n o) (then_first (returned_asks f o h.1)
        (then_u (asked.tail_after_u C K A n (some_diverges ss) o) (asked.join_asks C K A n (named.tail_never (some_diverges ss) o))))))

    statement_asks : (f : ℕ) (x : Statement) → OfStatement C x → Asks (GivesStatement x) (rules.of_statement f x)
    statement_asks f (named.declares n p t) h = asks_map (λ _ a x rest r. r) (asked.declared_u C K A p t h.0 h.1)
    statement_asks f (named.lets n p t e) h =
        asks_map (λ g a x rest r. (matched_gives e a (g.gives a x), in_pattern (λ (z : Around). InBody same z rest) None p a r))
        (then_second (asked.typed_before_u C K A t e h.1) (then_first (exp_asks f e h.2) (asked.initialised_u C K A p t e h.0)))
    statement_asks f (named.evaluates n e s) h = asks_map (λ g a x rest r. ((g.gives a x).value, r)) (then_first (exp_asks f e h) (asked.evaluated_u C K A s (node_of e) (never e)))

    statements_asks : (f : ℕ) (ss : Statements) → OfStatements C ss → Asks (GivesStatements ss) (rules.of_statements f ss)
    statements_asks f named.no_statement h = asks_map (λ _ a after x last r. r a x) none
    statements_asks f (named.statement_and y ss) h =
        asks_map (λ g a after x last r. g.0 a x.0 (elaborated.nested T ss last) (g.1 (with_variables (declared_in y) a) after x.1 last r)) (both (statement_asks f y h.0) (statements_asks f ss h.1))

  -- ---- functions

  function_asks : (F : Function) → OfFunction C F → Asks (GivesBody F.body) (rules.of_function F)
  function_asks F h =
      then_second (asked.parameters_u C K A F.params h.params) (then_second (asked.result_u C K A F.result h.result) (then_second (one (body_node F.body) _ _ _ tt)
      (then_first (body_asks F.item F.body h.body) (asked.never_given_u C K A F.never_given))))

  pub body_means : (F : Function) → OfFunction C F → MeetsEach K A (rules.demands F) → (a : Around) → NBody same a.scope F.body → InExp same a (elaborated.function_body T F.body)
  body_means F h met a x = let y = function_asks F h in (y.gives (subst (λ (l : List Demand). MeetsEach K A l) (y.adds []) met)).whole a x

-- An elaborated tree whose literals are in range, but for those under a minus: no action but a negation uses what such a one makes.
use Rattle.std.proofs.Common.{◌≡◌, ◌⊎◌, inl, inr, ℕ, suc, pos, Bool, true, false, ◌&&◌, not, true≢false, List, [], ◌∷◌, ◌++◌, map, Option, Some, None, refl, sym, ap, ◌∙◌, subst}
use Rattle.rx_core.specs.declared.types.Step.{Step}
use Rattle.rx_core.specs.declared.types.Step.TheVariants as step
use Rattle.rx_tree.specs.declared.tree.BinaryOp.{BinaryOp}
use Rattle.rx_tree.specs.Lists.{Every}
use Rattle.rx_typed.specs.declared.nodes.Node.{Node}
use Rattle.rx_typed.specs.Types as types
use Rattle.rx_typed.specs.Types.{Typ, integer, boolean, tuple_of, reference}
use Rattle.rx_typed.specs.Named as named
use Rattle.rx_typed.specs.Named.{Written, Pattern, Patterns, FieldPatterns, Exp, Exps, Else, Fields, Arms, Body, Statement, Statements, Parameter, Function, written_node, node_of, body_node, is_place, body_never, else_never}
use Rattle.rx_typed.specs.TypedNumbers.{type_nodes, optional_nodes, pattern_nodes, patterns_nodes, field_patterns_nodes, parameters_nodes}
use Rattle.rx_typed.specs.Elaborated as elaborated
use Rattle.rx_typed.specs.Elaborated.{Assigned, Coercion, Met, kind_in}
use Rattle.rx_typed.specs.Tree as tree
use Rattle.rx_typed.specs.Tree.{Temporary, Place, Making, Constant, constant, negation, inversion, operation, lazy, tuple, struct, variant_of, mark_of, temporary_at, temporary_of, temporaries_of}
use Rattle.rx_lower_walks.specs.Matching.{PartTest, Binding, tests, bindings, bindings_in}
use Rattle.rx_lower_walks.specs.Actions.{Act, Declare, Dead, Read, Write, Borrow, Test, Call, Build, Input, Print, Give, Action, does, operands, Subject, in_place, in_temporary, subject, taking, taken, source, source_of}
use Rattle.rx_lower_walks.specs.Orders as order
use Rattle.rx_lower_walks.specs.Orders.{Order, perhaps, testing, binding, declaring, order_all, order_scrutinee, order_arms, order_body, order_function, beginning, argument}
use Rattle.rx_lower_walks.specs.Walks.{Among, here, there, IsWalk}
use Rattle.rx_meaning_covered.specs.Standing.{Standing, StandingAll, StandingScrutinee, StandingArms, StandingBody}
use Rattle.rx_meaning_covered.specs.Ranged.{ConstantRanged, IsNegation, RangesFit}
use Rattle.rx_meaning_covered.specs.Covered.{IsNotOf}
use Rattle.rx_repair.proofs.Patterns.{every_front, every_behind, every_both}
use Rattle.rx_meaning_accepted.proofs.Holding.{Holds, of_walk}
use Rattle.rx_meaning_covered.specs.Ways.{HasNoVariant, IsDirect}
use Rattle.rx_meaning_sound.proofs.Direct.{further, place_direct}
use Rattle.rx_meaning_sound.proofs.Minus.{Signed, EachSigned, ElseSigned, FieldsSigned, ArmsSigned, BodySigned, StatementSigned, StatementsSigned}
use Rattle.rx_meaning_sound.proofs.Literals.{Literals, EachLiterals, ElseLiterals, FieldsLiterals, ArmsLiterals, BodyLiterals, StatementLiterals, StatementsLiterals}
use Rattle.rx_meaning_sound.proofs.Flagged.{Flag, flag, clear, exp_flags, exps_flags, else_flags, fields_flags, arms_flags, body_flags, statement_flags, statements_flags, function_flags, Found}

map_both : (a b : List ℕ) → map clear (a ++ b) ≡ map clear a ++ map clear b
map_both [] b = refl
map_both (n ∷ a) b = ap (λ (l : List Flag). clear n ∷ l) (map_both a b)

module _ (T : Assigned) (N : Temporary → Bool) where
  abbrev NotN : Temporary → Type 0
  NotN t = N t ≡ true → ⊥

  abbrev NoneN : List Temporary → Type 0
  NoneN [] = Unit {0}
  NoneN (t ∷ ts) = NotN t × NoneN ts

  -- what is asked of each act
  abbrev Makes : Making → List Temporary → Temporary → Type 0
  Makes (constant c) ts d = ((N d ≡ true) ⊎ ConstantRanged c) × NoneN ts
  Makes negation ts d = Unit {0}
  Makes inversion ts d = NoneN ts
  Makes (operation o) ts d = NoneN ts
  Makes lazy ts d = NoneN ts
  Makes tuple ts d = NoneN ts
  Makes (struct i) ts d = NoneN ts
  Makes (variant_of i v) ts d = NoneN ts

  abbrev Q : Act → Type 0
  Q (Declare x) = Unit {0}
  Q (Dead x) = Unit {0}
  Q (Read m p d) = Unit {0}
  Q (Write p t ss) = NotN t
  Q (Borrow k p d) = Unit {0}
  Q (Test p c) = Unit {0}
  Q (Call g ts d) = NoneN ts
  Q (Build w js ts d) = Makes w ts d
  Q (Input d) = Unit {0}
  Q (Print t) = NotN t
  Q (Give t) = NotN t

  abbrev H : Order → Type 0
  H s = Holds Q s

  abbrev C : tree.Scrutinee → tree.Arms → Type 0
  C c l = IsNotOf N (subject c)

  abbrev L : tree.Scrutinee → tree.Pattern → Type 0
  L c p = IsNotOf N (subject c)

  abbrev OfFlags : List Flag → Type 0
  OfFlags l = Every (Found N) l

  abbrev value : Exp → tree.Exp
  value e = elaborated.value T e

  not_if : (t : Temporary) → N t ≡ false → NotN t
  not_if t e h = true≢false (sym h ∙ e)

  two_of : (a b : List Flag) → OfFlags (a ++ b) → OfFlags a × OfFlags b
  two_of a b h = (every_front (Found N) a b h, every_behind (Found N) a b h)

  three_of : (a b c : List Flag) → OfFlags (a ++ (b ++ c)) → OfFlags a × OfFlags b × OfFlags c
  three_of a b c h = let g = every_behind (Found N) a (b ++ c) h in (every_front (Found N) a (b ++ c) h, every_front (Found N) b c g, every_behind (Found N) b c g)

  four_of : (a b c d : List Flag) → OfFlags (a ++ (b ++ (c ++ d))) → OfFlags a × OfFlags b × OfFlags c × OfFlags d
  four_of a b c d h = let g = three_of b c d (every_behind (Found N) a (b ++ (c ++ d)) h) in (every_front (Found N) a (b ++ (c ++ d)) h, g.0, g.1, g.2)

  at_node : (n k : ℕ) → Found N (clear n) → NotN (temporary_at n k)
  at_node n k u = not_if (temporary_at n k) (u k)

  -- ---- patterns

  abbrev Bound : Binding → Type 0
  Bound b = NotN (temporary_at b.node 0)

  behind_bound : (t : Typ) (p : tree.Pattern) → ((at : List Step) → Every Bound (bindings at p)) → (at : List Step) → Every Bound (bindings at (elaborated.behind_all t p))
  behind_bound (integer k) p h at = h at
  behind_bound boolean p h at = h at
  behind_bound (tuple_of ts) p h at = h at
  behind_bound (reference m t) p h at = behind_bound t p h (at ++ step.Deref m ∷ [])
  behind_bound (types.named i) p h at = h at

  cleared : (a b : List ℕ) → OfFlags (map clear (a ++ b)) → OfFlags (map clear a) × OfFlags (map clear b)
  cleared a b h = two_of (map clear a) (map clear b) (subst OfFlags (map_both a b) h)

  mutual
    pattern_bound : (r : Met) (p : Pattern) → OfFlags (map clear (pattern_nodes p)) → (at : List Step) → Every Bound (bindings at (elaborated.pattern T r p))
    pattern_bound r (named.wild n) u at = tt
    pattern_bound r (named.bind n x m) u at = (at_node n.number 0 u.0, tt)
    pattern_bound r (named.whole_number n g v k) u at = behind_bound (T.typ n.number) (tree.exactly n.number (tree.whole_number (kind_in (types.peeled (T.typ n.number))) (elaborated.with_sign g v))) (λ a. tt) at
    pattern_bound r (named.truth n b) u at = behind_bound (T.typ n.number) (tree.exactly n.number (tree.truth b)) (λ a. tt) at
    pattern_bound r (named.tuple_pattern n ps) u at =
        behind_bound (T.typ n.number) (tree.parts (elaborated.subpatterns T (elaborated.met (T.typ n.number) r) 0 ps)) (λ a. parts_bound (elaborated.met (T.typ n.number) r) 0 ps u.1 a) at
    pattern_bound r (named.variant_pattern n i v ps) u at =
        behind_bound (T.typ n.number) (tree.variant n.number i (elaborated.has_several T.items i) v (elaborated.subpatterns T (elaborated.met (T.typ n.number) r) 0 ps))
        (λ a. parts_bound (elaborated.met (T.typ n.number) r) 0 ps u.1 (a ++ step.Variant v ∷ [])) at
    pattern_bound r (named.struct_pattern n i fs) u at =
        behind_bound (T.typ n.number) (tree.parts (elaborated.field_patterns T (elaborated.met (T.typ n.number) r) i fs)) (λ a. fields_bound (elaborated.met (T.typ n.number) r) i fs u.1 a) at

    parts_bound : (r : Met) (k : ℕ) (ps : Patterns) → OfFlags (map clear (patterns_nodes ps)) → (at : List Step) → Every Bound (bindings_in at (elaborated.subpatterns T r k ps))
    parts_bound r k named.no_pattern u at = tt
    parts_bound r k (named.pattern_and p ps) u at =
        let v = cleared (pattern_nodes p) (patterns_nodes ps) u in
        every_both Bound (bindings (at ++ step.Field k ∷ []) (elaborated.pattern T r p)) (bindings_in at (elaborated.subpatterns T r (suc k) ps)) (pattern_bound r p v.0 (at ++ step.Field k ∷ [])) (parts_bound r (suc k) ps v.1 at)

    fields_bound : (r : Met) (i : ℕ) (fs : FieldPatterns) → OfFlags (map clear (field_patterns_nodes fs)) → (at : List Step) → Every Bound (bindings_in at (elaborated.field_patterns T r i fs))
    fields_bound r i named.no_field_pattern u at = tt
    fields_bound r i (named.field_pattern_and x p fs) u at =
        let k = elaborated.field_in T.items (types.named i) x in let v = cleared (pattern_nodes p) (field_patterns_nodes fs) u in
        every_both Bound (bindings (at ++ step.Field k ∷ []) (elaborated.pattern T r p)) (bindings_in at (elaborated.field_patterns T r i fs)) (pattern_bound r p v.0 (at ++ step.Field k ∷ [])) (fields_bound r i fs v.1 at)

  -- ---- orders

  testing_holds : (S : Subject) (ts : List PartTest) (rest : Order) → H rest → H (testing S ts rest)
  testing_holds S [] rest h = h
  testing_holds S (t ∷ ts) rest h = (tt, (testing_holds S ts rest h, tt))

  taken_holds : (S : Subject) (b : Binding) → H (perhaps b.node (taken S b))
  taken_holds S b = by b.mode S
    where
      by : (m : tree.Mode) (S : Subject) → H (perhaps b.node (taking m S b.steps (temporary_at b.node 0)))
      by (tree.by_reference k) S = tt
      by (tree.by_value v) (in_place p) = tt
      by (tree.by_value v) (in_temporary t) = tt

  source_holds : (S : Subject) (b : Binding) → IsNotOf N S → Bound b → NotN (source_of S b).0
  source_holds S b h g = by b.mode S h
    where
      by : (m : tree.Mode) (S : Subject) → IsNotOf N S → NotN (source m S b.steps (temporary_at b.node 0)).0
      by (tree.by_reference k) (in_place p) h = g
      by (tree.by_reference k) (in_temporary t) h = g
      by (tree.by_value v) (in_place p) h = g
      by (tree.by_value v) (in_temporary t) h = h

  binding_holds : (S : Subject) (bs : List Binding) (n : ℕ) (rest : Order) → IsNotOf N S → Every Bound bs → H rest → H (binding S bs n rest)
  binding_holds S [] n rest s h g = g
  binding_holds S (b ∷ bs) n rest s h g = (taken_holds S b, (tt, (source_holds S b s h.0, (tt, binding_holds S bs n rest s h.1 g))))

  declaring_holds : (s : ℕ) (xs : List ℕ) (n : ℕ) (rest : Order) → H rest → H (declaring s xs n rest)
  declaring_holds s [] n rest g = g
  declaring_holds s (x ∷ xs) n rest g = (tt, (tt, declaring_holds s xs n rest g))

  -- ---- what is so of each part

  -- whether it stands directly under a minus: then its value goes to its own temporary
  pub record Ranges (b : Bool) (e : Exp) : Type 0 where
    pub acts : (d : Temporary) → (b ≡ true → d ≡ temporary_of (value e)) → H (order.order (value e) d)
    pub own : b ≡ false → NotN (temporary_of (value e))
    pub stands : Standing C L (value e)

  acts_of : (e : Exp) → Ranges false e → (d : Temporary) → H (order.order (value e) d)
  acts_of e r d = r.acts d (λ q. absurd (true≢false (sym q)))

  self_of : (e : Exp) → Ranges false e → H (order.order (value e) (temporary_of (value e)))
  self_of e r = acts_of e r (temporary_of (value e))

  own_of : (e : Exp) → Ranges false e → NotN (temporary_of (value e))
  own_of e r = r.own refl

  ranges : (b : Bool) (e : Exp) (k : ℕ) → (mark_of (value e)).node ≡ k → Found N (clear k) → ((d : Temporary) → H (order.order (value e) d)) → Standing C L (value e) → Ranges b e
  ranges b e k m u h s = record { acts = λ d q. h d; own = λ q. subst (λ (j : ℕ). NotN (temporary_at j 0)) (sym m) (at_node k 0 u); stands = s }

  pub record EachRanges (k : ℕ) (es : Exps) : Type 0 where
    pub acts : H (order_all (elaborated.operands T k es))
    pub none : NoneN (temporaries_of (elaborated.operands T k es))
    pub stands : StandingAll C L (elaborated.operands T k es)

  pub record FieldsRange (i : ℕ) (fs : Fields) : Type 0 where
    pub acts : H (order_all (elaborated.fields T i fs))
    pub none : NoneN (temporaries_of (elaborated.fields T i fs))
    pub stands : StandingAll C L (elaborated.fields T i fs)

  abbrev ElseRanges : Else → Type 0
  ElseRanges named.absent = Unit {0}
  ElseRanges (named.present e) = Ranges false e

  pub record BodyRanges (b : Body) : Type 0 where
    pub acts : (d : Temporary) → H (order.order (elaborated.body T b) d)
    pub ends : (d : Temporary) → H (order.order (elaborated.function_body T b) d)
    pub own : NotN (temporary_of (elaborated.body T b))
    pub stands : Standing C L (elaborated.body T b)
    pub stands_ends : Standing C L (elaborated.function_body T b)

  pub record StatementRanges (a : Statement) : Type 0 where
    pub acts : (rest : tree.Body) (n : ℕ) (d : Temporary) → H (order_body rest n d) → H (order_body (elaborated.statement T a rest) n d)
    pub stands : (rest : tree.Body) → StandingBody C L rest → StandingBody C L (elaborated.statement T a rest)

  pub record StatementsRange (ss : Statements) : Type 0 where
    pub acts : (last : tree.Exp) (n : ℕ) (d : Temporary) → H (order.order last d) → H (order_body (elaborated.nested T ss last) n d)
    pub stands : (last : tree.Exp) → Standing C L last → StandingBody C L (elaborated.nested T ss last)

  pub record ArmsRange (l : Arms) : Type 0 where
    pub acts : (S : Subject) → IsNotOf N S → (d : Temporary) → H (order_arms S (elaborated.arms T l) d)
    pub stands : StandingArms C L (elaborated.arms T l)

  -- ---- forms

  read_node : (n : Node) (c : Coercion) (p : Place) → (mark_of (elaborated.read_as T n c p)).node ≡ n.number
  read_node n elaborated.plain p = refl
  read_node n elaborated.reborrow p = refl
  read_node n elaborated.share p = refl

  read_acts : (n : Node) (c : Coercion) (p : Place) (d : Temporary) → H (order.order (elaborated.read_as T n c p) d)
  read_acts n elaborated.plain p d = tt
  read_acts n elaborated.reborrow p d = tt
  read_acts n elaborated.share p d = tt

  lent : (e : Exp) → HasNoVariant (step.Deref true ∷ []) → IsDirect (tree.under (elaborated.place T e) (step.Deref true ∷ []))
  lent e h = further T (elaborated.place T e) (step.Deref true ∷ []) h (place_direct T e)

  read_stands : (n : Node) (c : Coercion) (e : Exp) → Standing C L (elaborated.read_as T n c (elaborated.place T e))
  read_stands n elaborated.plain e = place_direct T e
  read_stands n elaborated.reborrow e = lent e tt
  read_stands n elaborated.share e = lent e tt

  place_ranges : (b : Bool) (e : Exp) → value e ≡ elaborated.place_value T (node_of e) (elaborated.place T e) → Found N (clear (node_of e).number) → Ranges b e
  place_ranges b e is u =
      let n = node_of e in let c = elaborated.coercion_at T n in let p = elaborated.place T e in
      ranges b e n.number (subst (λ (x : tree.Exp). (mark_of x).node ≡ n.number) (sym is) (read_node n c p)) u (λ d. subst (λ (x : tree.Exp). H (order.order x d)) (sym is) (read_acts n c p d))
      (subst (λ (x : tree.Exp). Standing C L x) (sym is) (read_stands n c e))

  passed_node : (n : Node) (c : Coercion) (x : tree.Exp) → (mark_of x).node ≡ n.number → (mark_of (elaborated.passed_as T n c x)).node ≡ n.number
  passed_node n elaborated.plain x h = h
  passed_node n elaborated.reborrow x h = h
  passed_node n elaborated.share x h = refl

  passed_acts : (n : Node) (c : Coercion) (x : tree.Exp) → ((d : Temporary) → H (order.order x d)) → (d : Temporary) → H (order.order (elaborated.passed_as T n c x) d)
  passed_acts n elaborated.plain x h d = h d
  passed_acts n elaborated.reborrow x h d = h d
  passed_acts n elaborated.share x h d = (h (temporary_at n.number 1), tt)

  passed_stands : (n : Node) (c : Coercion) (x : tree.Exp) → Standing C L x → Standing C L (elaborated.passed_as T n c x)
  passed_stands n elaborated.plain x h = h
  passed_stands n elaborated.reborrow x h = h
  passed_stands n elaborated.share x h = h

  passed_ranges : (b : Bool) (e : Exp) (x : tree.Exp) → value e ≡ elaborated.value_of T (node_of e) x → (mark_of x).node ≡ (node_of e).number → Found N (clear (node_of e).number) → ((d : Temporary) → H (order.order x d)) → Standing C L x → Ranges b e
  passed_ranges b e x is m u h s =
      let n = node_of e in let c = elaborated.coercion_at T n in
      ranges b e n.number (subst (λ (y : tree.Exp). (mark_of y).node ≡ n.number) (sym is) (passed_node n c x m)) u (λ d. subst (λ (y : tree.Exp). H (order.order y d)) (sym is) (passed_acts n c x h d))
      (subst (λ (y : tree.Exp). Standing C L y) (sym is) (passed_stands n c x s))

  tuple_node : (n : Node) (es : Exps) → (mark_of (elaborated.tuple_of T n (elaborated.operands T 0 es))).node ≡ n.number
  tuple_node n named.no_exp = refl
  tuple_node n (named.exp_and e es) = refl

  tuple_acts : (n : Node) (es : Exps) → EachRanges 0 es → (d : Temporary) → H (order.order (elaborated.tuple_of T n (elaborated.operands T 0 es)) d)
  tuple_acts n named.no_exp h d = tt
  tuple_acts n (named.exp_and e es) h d = (h.acts, h.none)

  tuple_stands : (n : Node) (es : Exps) → EachRanges 0 es → Standing C L (elaborated.tuple_of T n (elaborated.operands T 0 es))
  tuple_stands n named.no_exp h = tt
  tuple_stands n (named.exp_and e es) h = h.stands

  operated_node : (n : Node) (o : BinaryOp) (a b : tree.Exp) → (mark_of (elaborated.operated T n o a b)).node ≡ n.number
  operated_node n BinaryOp.And a b = refl
  operated_node n BinaryOp.Or a b = refl
  operated_node n BinaryOp.Eq a b = refl
  operated_node n BinaryOp.Ne a b = refl
  operated_node n BinaryOp.Lt a b = refl
  operated_node n BinaryOp.Le a b = refl
  operated_node n BinaryOp.Gt a b = refl
  operated_node n BinaryOp.Ge a b = refl
  operated_node n BinaryOp.Add a b = refl
  operated_node n BinaryOp.Sub a b = refl
  operated_node n BinaryOp.Mul a b = refl
  operated_node n BinaryOp.Div a b = refl
  operated_node n BinaryOp.Rem a b = refl

  abbrev Both : tree.Exp → tree.Exp → Type 0
  Both a b = H (order.order a (temporary_of a)) × NotN (temporary_of a) × Standing C L a × H (order.order b (temporary_of b)) × NotN (temporary_of b) × Standing C L b

  lazy_acts : (m : tree.Mark) (k : Bool) (a b : tree.Exp) → Both a b → (d : Temporary) → H (order.order (tree.lazily m k a b) d)
  lazy_acts m k a b h d = (h.0, (tt, ((h.3, tt), (h.1, (h.4, tt)))))

  strict_acts : (m : tree.Mark) (o : BinaryOp) (a b : tree.Exp) → Both a b → (d : Temporary) → H (order.order (tree.build m (tree.operation o) (tree.operand_and 0 a (tree.operand_and 1 b tree.no_operand))) d)
  strict_acts m o a b h d = ((h.0, (h.3, tt)), (h.1, (h.4, tt)))

  operated_acts : (n : Node) (o : BinaryOp) (a b : tree.Exp) → Both a b → (d : Temporary) → H (order.order (elaborated.operated T n o a b) d)
  operated_acts n BinaryOp.And a b h d = lazy_acts (elaborated.mark T n) true a b h d
  operated_acts n BinaryOp.Or a b h d = lazy_acts (elaborated.mark T n) false a b h d
  operated_acts n BinaryOp.Eq a b h d = strict_acts (elaborated.mark T n) BinaryOp.Eq a b h d
  operated_acts n BinaryOp.Ne a b h d = strict_acts (elaborated.mark T n) BinaryOp.Ne a b h d
  operated_acts n BinaryOp.Lt a b h d = strict_acts (elaborated.mark T n) BinaryOp.Lt a b h d
  operated_acts n BinaryOp.Le a b h d = strict_acts (elaborated.mark T n) BinaryOp.Le a b h d
  operated_acts n BinaryOp.Gt a b h d = strict_acts (elaborated.mark T n) BinaryOp.Gt a b h d
  operated_acts n BinaryOp.Ge a b h d = strict_acts (elaborated.mark T n) BinaryOp.Ge a b h d
  operated_acts n BinaryOp.Add a b h d = strict_acts (elaborated.mark T n) BinaryOp.Add a b h d
  operated_acts n BinaryOp.Sub a b h d = strict_acts (elaborated.mark T n) BinaryOp.Sub a b h d
  operated_acts n BinaryOp.Mul a b h d = strict_acts (elaborated.mark T n) BinaryOp.Mul a b h d
  operated_acts n BinaryOp.Div a b h d = strict_acts (elaborated.mark T n) BinaryOp.Div a b h d
  operated_acts n BinaryOp.Rem a b h d = strict_acts (elaborated.mark T n) BinaryOp.Rem a b h d

  operated_stands : (n : Node) (o : BinaryOp) (a b : tree.Exp) → Both a b → Standing C L (elaborated.operated T n o a b)
  operated_stands n BinaryOp.And a b h = (h.2, h.5)
  operated_stands n BinaryOp.Or a b h = (h.2, h.5)
  operated_stands n BinaryOp.Eq a b h = (h.2, (h.5, tt))
  operated_stands n BinaryOp.Ne a b h = (h.2, (h.5, tt))
  operated_stands n BinaryOp.Lt a b h = (h.2, (h.5, tt))
  operated_stands n BinaryOp.Le a b h = (h.2, (h.5, tt))
  operated_stands n BinaryOp.Gt a b h = (h.2, (h.5, tt))
  operated_stands n BinaryOp.Ge a b h = (h.2, (h.5, tt))
  operated_stands n BinaryOp.Add a b h = (h.2, (h.5, tt))
  operated_stands n BinaryOp.Sub a b h = (h.2, (h.5, tt))
  operated_stands n BinaryOp.Mul a b h = (h.2, (h.5, tt))
  operated_stands n BinaryOp.Div a b h = (h.2, (h.5, tt))
  operated_stands n BinaryOp.Rem a b h = (h.2, (h.5, tt))

  body_node_is : (b : Body) → (mark_of (elaborated.body T b)).node ≡ (body_node b).number
  body_node_is (named.body n ss o) = refl

  -- ---- what is matched

  pub record MatchedRanges (c : tree.Scrutinee) : Type 0 where
    pub acts : H (order_scrutinee c)
    pub own : IsNotOf N (subject c)
    pub stands : StandingScrutinee C L c

  matched_ranges : (b : Bool) (c : Coercion) (e : Exp) (x : tree.Exp) → H (order.order x (temporary_of x)) → NotN (temporary_of x) → Standing C L x → MatchedRanges (elaborated.matched_as T b c e x)
  matched_ranges true elaborated.plain e x h k s = record { acts = tt; own = tt; stands = place_direct T e }
  matched_ranges true elaborated.reborrow e x h k s = record { acts = h; own = k; stands = s }
  matched_ranges true elaborated.share e x h k s = record { acts = h; own = k; stands = s }
  matched_ranges false elaborated.plain e x h k s = record { acts = h; own = k; stands = s }
  matched_ranges false elaborated.reborrow e x h k s = record { acts = h; own = k; stands = s }
  matched_ranges false elaborated.share e x h k s = record { acts = h; own = k; stands = s }

  looked : (e : Exp) → Ranges false e → MatchedRanges (elaborated.matched T e (value e))
  looked e r = matched_ranges (is_place e) (elaborated.coercion_at T (node_of e)) e (value e) (self_of e r) (own_of e r) r.stands

  arm_holds : (S : Subject) (p : tree.Pattern) (e : tree.Exp) (rest : tree.Arms) (d : Temporary) → IsNotOf N S → Every Bound (bindings [] p) → H (order.order e d) → H (order_arms S rest d) → H (order_arms S (tree.arm_and p e rest) d)
  arm_holds S p e rest d s u h g = (testing_holds S (tests [] p) _ (binding_holds S (bindings [] p) (mark_of e).node (order.order e d) s u h), g)

  tests_acts : (n : Node) (m : tree.Mark) (c a b : tree.Exp) → H (order.order c (temporary_of c)) → NotN (temporary_of c) → ((d : Temporary) → H (order.order a d)) → ((d : Temporary) → H (order.order b d)) → (d : Temporary) → H (order.order (elaborated.tests n c m a b) d)
  tests_acts n m c a b h k x y d =
      let S = in_temporary (temporary_of c) in
      (h, arm_holds S (tree.exactly n.number (tree.truth true)) a (tree.arm_and tree.any b tree.no_arm) d k tt (x d) (arm_holds S tree.any b tree.no_arm d k tt (y d) tt))

  tests_stand : (n : Node) (m : tree.Mark) (c a b : tree.Exp) → NotN (temporary_of c) → Standing C L c → Standing C L a → Standing C L b → Standing C L (elaborated.tests n c m a b)
  tests_stand n m c a b k s x y = (s, k, (x, (y, tt)))

  looks_acts : (m : tree.Mark) (c : tree.Scrutinee) (p : tree.Pattern) (a b : tree.Exp) → MatchedRanges c → Every Bound (bindings [] p) → ((d : Temporary) → H (order.order a d)) → ((d : Temporary) → H (order.order b d)) → (d : Temporary) → H (order.order (elaborated.looks m c p a b) d)
  looks_acts m c p a b h u x y d =
      (h.acts, arm_holds (subject c) p a (tree.arm_and tree.any b tree.no_arm) d h.own u (x d) (arm_holds (subject c) tree.any b tree.no_arm d h.own tt (y d) tt))

  looks_stand : (m : tree.Mark) (c : tree.Scrutinee) (p : tree.Pattern) (a b : tree.Exp) → MatchedRanges c → Standing C L a → Standing C L b → Standing C L (elaborated.looks m c p a b)
  looks_stand m c p a b h x y = (h.stands, h.own, (x, (y, tt)))

  otherwise_acts : (n : Node) (o : Else) → ElseRanges o → (d : Temporary) → H (order.order (elaborated.otherwise T n o) d)
  otherwise_acts n named.absent h d = tt
  otherwise_acts n (named.present e) h d = acts_of e h d

  otherwise_stands : (n : Node) (o : Else) → ElseRanges o → Standing C L (elaborated.otherwise T n o)
  otherwise_stands n named.absent h = tt
  otherwise_stands n (named.present e) h = h.stands

  tail_acts : (n : Node) (o : Else) → ElseRanges o → (d : Temporary) → H (order.order (elaborated.tail T n o) d)
  tail_acts n named.absent h d = tt
  tail_acts n (named.present e) h d = acts_of e h d

  tail_stands : (n : Node) (o : Else) → ElseRanges o → Standing C L (elaborated.tail T n o)
  tail_stands n named.absent h = tt
  tail_stands n (named.present e) h = h.stands

  tail_own : (n : Node) (o : Else) → Found N (clear n.number) → ElseRanges o → NotN (temporary_of (elaborated.tail T n o))
  tail_own n named.absent u h = at_node n.number 0 u
  tail_own n (named.present e) u h = own_of e h

  returned_give : (m : tree.Mark) (n : Node) (o : Else) → Found N (clear n.number) → ElseRanges o → (d : Temporary) → H (order.order (tree.give m (elaborated.returned T n o)) d)
  returned_give m n named.absent u h d = (tt, (at_node n.number 0 u, tt))
  returned_give m n (named.present e) u h d = (self_of e h, (own_of e h, tt))

  returned_stands : (n : Node) (o : Else) → ElseRanges o → Standing C L (elaborated.returned T n o)
  returned_stands n named.absent h = tt
  returned_stands n (named.present e) h = h.stands

  -- a literal
  literal_acts : (b m : Bool) (n : Node) (v : ℕ) → (m ≡ true → b ≡ true) → (m ≡ false → ConstantRanged (tree.whole_number (kind_in (T.typ n.number)) (pos v))) → Found N (flag n.number m) → (d : Temporary) → (b ≡ true → d ≡ temporary_at n.number 0)
      → H (order.order (tree.build (elaborated.mark T n) (tree.constant (tree.whole_number (kind_in (T.typ n.number)) (pos v))) tree.no_operand) d)
  literal_acts b true n v s h u d q = (tt, (inl (subst (λ (t : Temporary). N t ≡ true) (sym (q (s refl))) (u 0)), tt))
  literal_acts b false n v s h u d q = (tt, (inr (h refl), tt))

  literal_own : (b m : Bool) (n : Node) → (m ≡ true → b ≡ true) → Found N (flag n.number m) → b ≡ false → NotN (temporary_at n.number 0)
  literal_own b true n s u q = absurd (true≢false (sym (s refl) ∙ q))
  literal_own b false n s u q = not_if (temporary_at n.number 0) (u 0)

  -- ---- all forms

  mutual
    exp_ranges : (b : Bool) (e : Exp) → Signed b e → Literals T e → OfFlags (exp_flags e) → Ranges b e
    exp_ranges b (named.int n m v k) s l u = record { acts = λ d q. literal_acts b m n v s l u.0 d q; own = λ q. literal_own b m n s u.0 q; stands = tt }
    exp_ranges b (named.bool n c) s l u = ranges b (named.bool n c) n.number refl u.0 (λ d. (tt, (inr tt, tt))) tt
    exp_ranges b (named.tuple n es) s l u = let x = each_ranges 0 es s l u.1 in ranges b (named.tuple n es) n.number (tuple_node n es) u.0 (tuple_acts n es x) (tuple_stands n es x)
    exp_ranges b (named.var n x) s l u = place_ranges b (named.var n x) refl u.0
    exp_ranges b (named.field n e x) s l u = place_ranges b (named.field n e x) refl u.0
    exp_ranges b (named.part n e i) s l u = place_ranges b (named.part n e i) refl u.0
    exp_ranges b (named.deref n e) s l u = place_ranges b (named.deref n e) refl u.0
    exp_ranges b (named.negate n e) s l u = let x = exp_ranges true e s l u.1 in
        ranges b (named.negate n e) n.number refl u.0 (λ d. ((x.acts (temporary_of (value e)) (λ q. refl), tt), tt)) (x.stands, tt)
    exp_ranges b (named.invert n e) s l u = let x = exp_ranges false e s l u.1 in
        ranges b (named.invert n e) n.number refl u.0 (λ d. ((self_of e x, tt), (own_of e x, tt))) (x.stands, tt)
    exp_ranges b (named.borrow n m e) s l u = passed_ranges b (named.borrow n m e) (tree.borrow (elaborated.mark T n) m (elaborated.place T e)) refl refl u.0 (λ d. tt) (place_direct T e)
    exp_ranges b (named.binary n o x y) s l u =
        let v = two_of (exp_flags x) (exp_flags y) u.1 in let g = exp_ranges false x s.0 l.0 v.0 in let h = exp_ranges false y s.1 l.1 v.1 in
        let t : Both (value x) (value y) = (self_of x g, own_of x g, g.stands, self_of y h, own_of y h, h.stands) in
        ranges b (named.binary n o x y) n.number (operated_node n o (value x) (value y)) u.0 (operated_acts n o (value x) (value y) t) (operated_stands n o (value x) (value y) t)
    exp_ranges b (named.assign n p e) s l u =
        let v = two_of (exp_flags p) (exp_flags e) u.1 in let g = exp_ranges false e s.1 l.1 v.1 in
        ranges b (named.assign n p e) n.number refl u.0 (λ d. (self_of e g, own_of e g)) (place_direct T p, g.stands)
    exp_ranges b (named.gives n p x k e) s l u = let g = exp_ranges false e s l u.1.1 in
        ranges b (named.gives n p x k e) n.number refl u.0 (λ d. (self_of e g, own_of e g)) ((tt, tt), g.stands)
    exp_ranges b (named.update n o p e) s l u =
        let v = two_of (exp_flags p) (exp_flags e) u.1 in let g = exp_ranges false e s.1 l.1 v.1 in
        ranges b (named.update n o p e) n.number refl u.0 (λ d. (self_of e g, (tt, ((at_node n.number 1 u.0, (own_of e g, tt)), at_node n.number 2 u.0)))) (place_direct T p, g.stands)
    exp_ranges b (named.call n f es) s l u = let x = each_ranges 0 es s l u.1 in
        passed_ranges b (named.call n f es) (tree.call (elaborated.mark T n) f (elaborated.operands T 0 es)) refl refl u.0 (λ d. (x.acts, x.none)) x.stands
    exp_ranges b (named.hidden_call n es) s l u = ranges b (named.hidden_call n es) n.number refl u.0 (λ d. tt) tt
    exp_ranges b (named.next_input n) s l u = ranges b (named.next_input n) n.number refl u.0 (λ d. tt) tt
    exp_ranges b (named.variant n i v es) s l u = let x = each_ranges 0 es s l u.1 in ranges b (named.variant n i v es) n.number refl u.0 (λ d. (x.acts, x.none)) x.stands
    exp_ranges b (named.make n i fs) s l u = let x = fields_range i fs s l u.1 in ranges b (named.make n i fs) n.number refl u.0 (λ d. (x.acts, x.none)) x.stands
    exp_ranges b (named.print n e) s l u = let x = exp_ranges false e s l u.1 in ranges b (named.print n e) n.number refl u.0 (λ d. (self_of e x, own_of e x)) x.stands
    exp_ranges b (named.block n c) s l u = let x = body_ranges c s l u.1 in record { acts = λ d q. x.acts d; own = λ q. x.own; stands = x.stands }
    exp_ranges b (named.if n e c o) s l u =
        let v = three_of (exp_flags e) (body_flags c) (else_flags o) u.1 in
        let g = exp_ranges false e s.0 l.0 v.0 in let h = body_ranges c s.1 l.1 v.1 in let j = else_ranges o s.2 l.2 v.2 in
        let m = elaborated.mark_if T n (body_never c && else_never o) in
        ranges b (named.if n e c o) n.number refl u.0 (tests_acts n m (value e) (elaborated.body T c) (elaborated.otherwise T n o) (self_of e g) (own_of e g) h.acts (otherwise_acts n o j))
        (tests_stand n m (value e) (elaborated.body T c) (elaborated.otherwise T n o) (own_of e g) g.stands h.stands (otherwise_stands n o j))
    exp_ranges b (named.if_let n p e c o) s l u =
        let v = four_of (map clear (pattern_nodes p)) (exp_flags e) (body_flags c) (else_flags o) u.1 in
        let g = looked e (exp_ranges false e s.0 l.0 v.1) in let h = body_ranges c s.1 l.1 v.2 in let j = else_ranges o s.2 l.2 v.3 in
        let m = elaborated.mark_if T n (body_never c && else_never o) in let q = elaborated.pattern T None p in
        ranges b (named.if_let n p e c o) n.number refl u.0 (looks_acts m (elaborated.matched T e (value e)) q (elaborated.body T c) (elaborated.otherwise T n o) g (pattern_bound None p v.0 []) h.acts (otherwise_acts n o j))
        (looks_stand m (elaborated.matched T e (value e)) q (elaborated.body T c) (elaborated.otherwise T n o) g h.stands (otherwise_stands n o j))
    exp_ranges b (named.match n e r) s l u =
        let v = two_of (exp_flags e) (arms_flags r) u.1 in let g = looked e (exp_ranges false e s.0 l.0 v.0) in let h = arms_range r s.1 l.1 v.1 in
        ranges b (named.match n e r) n.number refl u.0 (λ d. (g.acts, h.acts (subject (elaborated.matched T e (value e))) g.own d)) (g.stands, g.own, h.stands)
    exp_ranges b (named.loop n i k c) s l u = let x = body_ranges c s l u.1 in ranges b (named.loop n i k c) n.number refl u.0 (λ d. x.acts (temporary_of (elaborated.body T c))) x.stands
    exp_ranges b (named.while n i e c) s l u =
        let v = two_of (exp_flags e) (body_flags c) u.1 in let g = exp_ranges false e s.0 l.0 v.0 in let h = body_ranges c s.1 l.1 v.1 in
        let m = elaborated.mark_if T (body_node c) (body_never c) in let w = elaborated.tests n (value e) m (elaborated.body T c) (elaborated.leaves n i) in
        ranges b (named.while n i e c) n.number refl u.0 (λ d. tests_acts n m (value e) (elaborated.body T c) (elaborated.leaves n i) (self_of e g) (own_of e g) h.acts (λ d. tt) (temporary_of w))
        (tests_stand n m (value e) (elaborated.body T c) (elaborated.leaves n i) (own_of e g) g.stands h.stands tt)
    exp_ranges b (named.while_let n i p e c) s l u =
        let v = three_of (map clear (pattern_nodes p)) (exp_flags e) (body_flags c) u.1 in let g = looked e (exp_ranges false e s.0 l.0 v.1) in let h = body_ranges c s.1 l.1 v.2 in
        let m = elaborated.mark_if T (body_node c) (body_never c) in let q = elaborated.pattern T None p in
        let w = elaborated.looks m (elaborated.matched T e (value e)) q (elaborated.body T c) (elaborated.leaves n i) in
        ranges b (named.while_let n i p e c) n.number refl u.0 (λ d. looks_acts m (elaborated.matched T e (value e)) q (elaborated.body T c) (elaborated.leaves n i) g (pattern_bound None p v.0 []) h.acts (λ d. tt) (temporary_of w))
        (looks_stand m (elaborated.matched T e (value e)) q (elaborated.body T c) (elaborated.leaves n i) g h.stands tt)
    exp_ranges b (named.break n i) s l u = ranges b (named.break n i) n.number refl u.0 (λ d. tt) tt
    exp_ranges b (named.continue n i) s l u = ranges b (named.continue n i) n.number refl u.0 (λ d. tt) tt
    exp_ranges b (named.return n o) s l u = let x = else_ranges o s l u.1 in
        ranges b (named.return n o) n.number refl u.0 (returned_give (elaborated.no_mark n) n o u.0 x) (returned_stands n o x)

    each_ranges : (k : ℕ) (es : Exps) → EachSigned es → EachLiterals T es → OfFlags (exps_flags es) → EachRanges k es
    each_ranges k named.no_exp s l u = record { acts = tt; none = tt; stands = tt }
    each_ranges k (named.exp_and e es) s l u =
        let v = two_of (exp_flags e) (exps_flags es) u in let g = exp_ranges false e s.0 l.0 v.0 in let h = each_ranges (suc k) es s.1 l.1 v.1 in
        record { acts = (self_of e g, h.acts); none = (own_of e g, h.none); stands = (g.stands, h.stands) }

    fields_range : (i : ℕ) (fs : Fields) → FieldsSigned fs → FieldsLiterals T fs → OfFlags (fields_flags fs) → FieldsRange i fs
    fields_range i named.no_field s l u = record { acts = tt; none = tt; stands = tt }
    fields_range i (named.field_and x e fs) s l u =
        let v = two_of (exp_flags e) (fields_flags fs) u in let g = exp_ranges false e s.0 l.0 v.0 in let h = fields_range i fs s.1 l.1 v.1 in
        record { acts = (self_of e g, h.acts); none = (own_of e g, h.none); stands = (g.stands, h.stands) }

    else_ranges : (o : Else) → ElseSigned o → ElseLiterals T o → OfFlags (else_flags o) → ElseRanges o
    else_ranges named.absent s l u = tt
    else_ranges (named.present e) s l u = exp_ranges false e s l u

    arms_range : (r : Arms) → ArmsSigned r → ArmsLiterals T r → OfFlags (arms_flags r) → ArmsRange r
    arms_range named.no_arm s l u = record { acts = λ S h d. tt; stands = tt }
    arms_range (named.arm_and p e r) s l u =
        let v = three_of (map clear (pattern_nodes p)) (exp_flags e) (arms_flags r) u in let g = exp_ranges false e s.0 l.0 v.1 in let h = arms_range r s.1 l.1 v.2 in
        record { acts = λ S k d. arm_holds S (elaborated.pattern T None p) (value e) (elaborated.arms T r) d k (pattern_bound None p v.0 []) (acts_of e g d) (h.acts S k d); stands = (g.stands, h.stands) }

    pub body_ranges : (c : Body) → BodySigned c → BodyLiterals T c → OfFlags (body_flags c) → BodyRanges c
    body_ranges (named.body n ss o) s l u =
        let v = two_of (statements_flags ss) (else_flags o) u.1 in let g = statements_range ss s.0 l.0 v.0 in let h = else_ranges o s.1 l.1 v.1 in
        let t = elaborated.tail T n o in
        record {
          acts = λ d. g.acts t n.number d (tail_acts n o h d);
          ends = λ d. g.acts (tree.give (elaborated.no_mark n) t) n.number d (tail_acts n o h (temporary_of t), (tail_own n o u.0 h, tt));
          own = at_node n.number 0 u.0;
          stands = g.stands t (tail_stands n o h);
          stands_ends = g.stands (tree.give (elaborated.no_mark n) t) (tail_stands n o h);
        }

    statement_ranges : (a : Statement) → StatementSigned a → StatementLiterals T a → OfFlags (statement_flags a) → StatementRanges a
    statement_ranges (named.declares n p t) s l u = record { acts = λ rest k d h. declaring_holds n.number (elaborated.variables p) k (order_body rest k d) h; stands = λ rest h. h }
    statement_ranges (named.lets n p t e) s l u =
        let v = three_of (map clear (pattern_nodes p)) (map clear (optional_nodes t)) (exp_flags e) u.1 in let g = looked e (exp_ranges false e s l v.2) in
        record {
          acts = λ rest k d h. (g.acts, binding_holds (subject (elaborated.matched T e (value e))) (bindings [] (elaborated.pattern T None p)) k (order_body rest k d) g.own (pattern_bound None p v.0 []) h);
          stands = λ rest h. (g.stands, g.own, h);
        }
    statement_ranges (named.evaluates n e x) s l u = let g = exp_ranges false e s l u.1 in record { acts = λ rest k d h. (self_of e g, h); stands = λ rest h. (g.stands, h) }

    statements_range : (ss : Statements) → StatementsSigned ss → StatementsLiterals T ss → OfFlags (statements_flags ss) → StatementsRange ss
    statements_range named.no_statement s l u = record { acts = λ last k d h. h; stands = λ last h. h }
    statements_range (named.statement_and a ss) s l u =
        let v = two_of (statement_flags a) (statements_flags ss) u in let g = statement_ranges a s.0 l.0 v.0 in let h = statements_range ss s.1 l.1 v.1 in
        record { acts = λ last k d x. g.acts (elaborated.nested T ss last) k d (h.acts last k d x); stands = λ last x. g.stands (elaborated.nested T ss last) (h.stands last x) }

  -- ---- functions

  first_clear : (y : Written) (ns : List ℕ) → OfFlags (map clear (type_nodes y ++ ns)) → Found N (clear (written_node y).number)
  first_clear (named.a_kind n k) ns u = u.0
  first_clear (named.a_bool n) ns u = u.0
  first_clear (named.a_tuple n ts) ns u = u.0
  first_clear (named.a_reference n m t) ns u = u.0
  first_clear (named.an_item n i ls) ns u = u.0

  begins : (xs : List Parameter) → OfFlags (map clear (parameters_nodes xs)) → (n : ℕ) (rest : Order) → H rest → H (beginning (elaborated.parameters xs) n rest)
  begins [] u n rest h = h
  begins (x ∷ xs) u n rest h = (tt, (at_node (written_node x.typ).number 0 (first_clear x.typ (parameters_nodes xs) u), (tt, begins xs (cleared (type_nodes x.typ) (parameters_nodes xs) u).1 n rest h)))

  none_among : (ts : List Temporary) → NoneN ts → (t : Temporary) → Among t ts → N t ≡ true → ⊥
  none_among [] h t a e = elim a [ ]
  none_among (u ∷ ts) h _ here e = h.0 e
  none_among (u ∷ ts) h t (there a) e = none_among ts h.1 t a e

  one_among : (u t : Temporary) → NotN u → Among t (u ∷ []) → N t ≡ true → ⊥
  one_among u t h a e = none_among (u ∷ []) (h, tt) t a e

  used : (a : Act) → Q a → (t : Temporary) → Among t (operands a) → N t ≡ true → IsNegation a
  used (Declare x) h t i e = elim i [ ]
  used (Dead x) h t i e = elim i [ ]
  used (Read m p d) h t i e = elim i [ ]
  used (Write p u ss) h t i e = one_among u t h i e
  used (Borrow k p d) h t i e = elim i [ ]
  used (Test p c) h t i e = elim i [ ]
  used (Call g ts d) h t i e = none_among ts h t i e
  used (Build (constant c) js ts d) h t i e = none_among ts h.1 t i e
  used (Build negation js ts d) h t i e = tt
  used (Build inversion js ts d) h t i e = none_among ts h t i e
  used (Build (operation o) js ts d) h t i e = none_among ts h t i e
  used (Build lazy js ts d) h t i e = none_among ts h t i e
  used (Build tuple js ts d) h t i e = none_among ts h t i e
  used (Build (struct k) js ts d) h t i e = none_among ts h t i e
  used (Build (variant_of k v) js ts d) h t i e = none_among ts h t i e
  used (Input d) h t i e = elim i [ ]
  used (Print u) h t i e = one_among u t h i e
  used (Give u) h t i e = one_among u t h i e

  function_holds : (F : Function) → BodySigned F.body → BodyLiterals T F.body → OfFlags (function_flags F) → BodyRanges F.body × H (order_function (elaborated.elaborated T F))
  function_holds F s l u =
      let v = three_of (map clear (parameters_nodes F.params)) (map clear (optional_nodes F.result)) (body_flags F.body) u.1 in
      let x = body_ranges F.body s l v.2 in
      let Tree = elaborated.elaborated T F in
      (x, begins F.params v.0 (mark_of Tree.body).node (order.order Tree.body (temporary_of Tree.body)) (x.ends (temporary_of Tree.body)))

  pub function_ranges : (F : Function) → BodySigned F.body → BodyLiterals T F.body → OfFlags (function_flags F) → RangesFit N (elaborated.elaborated T F) × Standing C L (elaborated.elaborated T F).body
  function_ranges F s l u =
      let x = function_holds F s l u in let Tree = elaborated.elaborated T F in (
        record {
          constants = λ w n c js ts d is. (of_walk Q Tree x.1 w (does n (Build (constant c) js ts d)) is).0;
          uses = λ w a t is i e. used a.act (of_walk Q Tree x.1 w a is) t i e;
        },
        x.0.stands_ends,
      )

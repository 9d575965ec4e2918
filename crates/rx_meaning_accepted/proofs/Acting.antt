-- Of an elaborated tree whose function meets what the rules of types ask: each action that a walk comes to acts by the types of the function's
-- variables and temporaries. One induction on the tree with numbers.
use Rattle.std.proofs.Common.{◌≡◌, ◌⊎◌, inl, inr, ℕ, suc, ◌+◌, arith, Bool, true, false, not, ◌&&◌, ◌||◌, List, [], ◌∷◌, ◌++◌, length, map, Option, Some, None, slice_get, refl, sym, ap, ◌∙◌, subst}
use Rattle.std.specs.Prelude.{pos}
use Rattle.std.proofs.lemmas.Bool.{true≢false}
use Rattle.std.proofs.lemmas.List.{length-map}
use Rattle.rx_core.specs.declared.types.Kind.{Kind}
use Rattle.rx_core.specs.declared.types.Step.{Step}
use Rattle.rx_core.specs.declared.types.Step.TheVariants as step
use Rattle.rx_tree.specs.declared.tree.BinaryOp.{BinaryOp}
use Rattle.rx_tree.specs.declared.tree.UpdateOp.{UpdateOp}
use Rattle.rx_tree.specs.Lists.{Every}
use Rattle.rx_typed.specs.declared.nodes.Node.{Node}
use Rattle.rx_typed.specs.declared.nodes.Site.{Site}
use Rattle.rx_typed.specs.declared.nodes.Use.{Use}
use Rattle.rx_typed.specs.Types as types
use Rattle.rx_typed.specs.Types.{Typ, integer, boolean, tuple_of, reference, unit_shape, shapes_of, peeled, result_declared, parameters_declared, FieldDeclared, VariantDeclared, struct_declared, enum_declared, fields_declared, variant_parts}
use Rattle.rx_typed.specs.Named as named
use Rattle.rx_typed.specs.Named.{Written, Pattern, Exp, Exps, Else, Fields, Arms, Body, Statement, Statements, Parameter, Function, written_node, pattern_node, whole_binding, node_of, body_node, is_place, is_variable, root, never, body_never, else_never, all_never, diverges, any_diverges, else_diverges, any_field_diverges, all_diverge, body_diverges, statement_diverges, some_diverges, is_strict}
use Rattle.rx_typed.specs.TypedNumbers.{optional_nodes}
use Rattle.rx_typed.specs.Naming.{passed_on, initialiser_site}
use Rattle.rx_typed.specs.Elaborated as elaborated
use Rattle.rx_typed.specs.Elaborated.{Coercion}
use Rattle.rx_typed.specs.Tree as tree
use Rattle.rx_typed.specs.Tree.{Temporary, Place, Making, mark_of, temporary_of, temporary_at, temporaries_of, fields_of}
use Rattle.rx_lower_walks.specs.Matching.{bindings}
use Rattle.rx_lower_walks.specs.Actions as actions
use Rattle.rx_lower_walks.specs.Orders as order
use Rattle.rx_lower_walks.specs.Orders.{Order, order_all, order_scrutinee, order_arms, order_body, order_function, beginning}
use Rattle.rx_typeck_solver.specs.declared.facts.Subject.{Subject}
use Rattle.rx_typeck_solver.specs.declared.facts.Demand.{Demand}
use Rattle.rx_typeck_solver.specs.Facts.{MeetsEach, Assignment, KnownItems, types_at, names_of}
use Rattle.rx_typeck_typed.specs.Asking.{Asking, ask, expected}
use Rattle.rx_typeck_typed.specs.Demands as rules
use Rattle.rx_meaning_keeping.specs.Units.{GoesOn}
use Rattle.rx_meaning_typed.specs.TypedActs.{Typing, typ_along, types_of_fields, shape_at, Fill, no_field, field_and, Operates, adds, subtracts, multiplies, divides, leaves, IsShown, Makes, constants, negates, inverts, operates, tuples, structs, variants, constant_typ}
use Rattle.rx_repair.specs.TemporaryTypes as given_types
use Rattle.rx_repair.specs.TemporaryTypes.{Entry, silent, at_site, own_or}
use Rattle.rx_repair.proofs.Sites.{Sited, EachSited, ElseSited, FieldsSited, ArmsSited, BodySited, StatementSited, StatementsSited, branch_site}
use Rattle.rx_repair.proofs.Asking.{Asks, NoPlace, asks_map, none, both, then_first, then_second, then_u, one_asked, quiet, refused, whole_type_u, never_asks, join_asks, not_never_u, one_variable_u, evaluated_u, each_after_u, parameters_u, result_u, never_given_u, when_u, loop_asks}
use Rattle.rx_repair.proofs.Places.{some_same}
use Rattle.rx_repair.proofs.Settling.{NotLent, Passing, own_settled, Before, After, part_fits, lone_fits, passed_twice}
use Rattle.rx_repair.proofs.Pieces as pieces
use Rattle.rx_repair.proofs.Pieces.{T, own, wished, Stands, passing, Has}
use Rattle.rx_repair.proofs.Patterns.{every_front, every_behind}
use Rattle.rx_repair.proofs.Acting.{place_stays, body_site}
use Rattle.rx_meaning_accepted.specs.Fitting.{IsStruct, IsVariant, BodyBreaksNot, BreaksNot, Fits, EachFits, ElseFits, FieldsFit, ArmsFit, BodyFits, StatementFits, StatementsFit}
use Rattle.rx_meaning_accepted.proofs.Walking.{first_on, second_on, nowhere_on, leave_on, binding_on, declaring_on, arms_on, loop_stays, test_stays}
use Rattle.rx_meaning_accepted.proofs.Steps.{listed_at, part_is, field_is, field_at, pointee_is, peeled_step}
use Rattle.rx_meaning_accepted.proofs.Going.{or_left, or_right, both_true, never_diverges, matched_avoids, value_avoids, body_avoids}
use Rattle.rx_meaning_accepted.proofs.Operands as operands
use Rattle.rx_meaning_accepted.proofs.Operands.{plain_shown}
use Rattle.rx_meaning_accepted.proofs.Lists as lists
use Rattle.rx_meaning_accepted.proofs.Patterns as patterns
use Rattle.rx_meaning_accepted.proofs.Building as building
use Rattle.rx_meaning_accepted.proofs.Values as values
use Rattle.rx_meaning_accepted.proofs.Values.{is_false, not_both, either_true, both_are, or_false, left_false, right_false, stays_alive}
use Rattle.rx_meaning_accepted.proofs.Joining as joining

module _ (K : KnownItems) (A : Assignment) (U : Temporary → Typ) (R : Typ) (f : ℕ) (result : (u : Typ) → result_declared (slice_get K.items f) ≡ Some u → R ≡ u) where
  abbrev Wants : Type 0 → Asking → Type 0
  Wants S a = Asks K A S a

  abbrev OfNode : Node → Typ
  OfNode n = own K A n

  abbrev V : ℕ → Typ
  V = values.V K A U R

  abbrev AtNode : Node → Typ
  AtNode = values.AtNode K A U R

  abbrev W : Node → Bool → Typ → Typ
  W = values.W K A U R

  abbrev GoesBody : Typ → Body → Typ
  GoesBody = values.GoesBody K A U R

  abbrev F : Entry → Type 0
  F = values.F K A U R

  abbrev At : actions.Subject → List Step → Typ → Type 0
  At = values.At K A U R

  abbrev FineWhole : Typ → Pattern → Type 0
  FineWhole = values.FineWhole K A U R

  abbrev GoodArms : actions.Subject → tree.Arms → Temporary → Type 0
  GoodArms = values.GoodArms K A U R

  abbrev Whole : Typ → tree.Exp → Type 0
  Whole = values.Whole K A U R

  abbrev value : Exp → tree.Exp
  value = values.value K A U R

  abbrev Stays : Exp → Type 0
  Stays = values.Stays K A U R

  abbrev Gives : Typ → Exp → Type 0
  Gives = values.Gives K A U R

  abbrev GivesEach : ℕ → Exps → Type 0
  GivesEach = values.GivesEach K A U R

  abbrev EachWishes : rules.Listed → ℕ → Exps → Type 0
  EachWishes = values.EachWishes K A U R

  abbrev GivesFields : ℕ → Fields → Type 0
  GivesFields = values.GivesFields K A U R

  abbrev GivesElse : Typ → Else → Type 0
  GivesElse = joining.GivesElse K A U R f result

  abbrev GivesReturned : Typ → Else → Type 0
  GivesReturned = joining.GivesReturned K A U R f result

  abbrev Scrutinee : Exp → tree.Scrutinee
  Scrutinee = joining.Scrutinee K A U R f result

  abbrev Subject_of : Exp → actions.Subject
  Subject_of = joining.Subject_of K A U R f result

  abbrev GivesBody : Typ → Body → Type 0
  GivesBody = joining.GivesBody K A U R f result

  abbrev GivesStatement : Statement → Type 0
  GivesStatement = joining.GivesStatement K A U R f result

  abbrev GivesStatements : Statements → Type 0
  GivesStatements = joining.GivesStatements K A U R f result

  abbrev Branches : Node → Body → Else → Typ → Type 0
  Branches = joining.Branches K A U R f result

  -- ---- all forms

  abbrev OfExp : Typ → Exp → Type 0
  OfExp w e = Every F (given_types.exp_entries (T K A) V w e)

  abbrev OfExps : Exps → Type 0
  OfExps es = Every F (given_types.exps_entries (T K A) V es)

  abbrev OfElse : Typ → Else → Type 0
  OfElse w o = Every F (given_types.else_entries (T K A) V w o)

  abbrev OfFields : Fields → Type 0
  OfFields fs = Every F (given_types.fields_entries (T K A) V fs)

  abbrev OfArms : Typ → Arms → Type 0
  OfArms w l = Every F (given_types.arms_entries (T K A) V w l)

  abbrev OfBody : Typ → Body → Type 0
  OfBody w b = Every F (given_types.body_entries (T K A) V w b)

  abbrev OfStatement : Statement → Type 0
  OfStatement a = Every F (given_types.statement_entries (T K A) V a)

  abbrev OfStatements : Statements → Type 0
  OfStatements ss = Every F (given_types.statements_entries (T K A) V ss)

  two_of : (a b : List Entry) → Every F (a ++ b) → Every F a × Every F b
  two_of a b h = (every_front F a b h, every_behind F a b h)

  three_of : (a b c : List Entry) → Every F (a ++ (b ++ c)) → Every F a × Every F b × Every F c
  three_of a b c h = let g = every_behind F a (b ++ c) h in (every_front F a (b ++ c) h, every_front F b c g, every_behind F b c g)

  four_of : (a b c d : List Entry) → Every F (a ++ (b ++ (c ++ d))) → Every F a × Every F b × Every F c × Every F d
  four_of a b c d h = let g = three_of b c d (every_behind F a (b ++ (c ++ d)) h) in (every_front F a (b ++ (c ++ d)) h, g.0, g.1, g.2)

  named_asks : (n : Node) (x : Use) (k : Bool) → Wants (V x.number ≡ own K A n) (rules.named_at n x k)
  named_asks n x true = asks_map (λ h. some_same _ _ h.0) (one_asked n _ _ _)
  named_asks n x false = asks_map (λ h. absurd h) (refused n _)

  assignable_u : (n : Node) (p : Exp) → Wants (Unit {0}) (rules.assignable n p)
  assignable_u n p = when_u (not (is_variable p)) _ (quiet n _ _ _)

  -- a constant
  constant_good : (n : Node) (c : tree.Constant) → AtNode n ≡ constant_typ c → Whole (AtNode n) (tree.build (elaborated.mark (T K A) n) (tree.constant c) tree.no_operand)
  constant_good n c e d u =
      building.build_good K A U R (elaborated.mark (T K A) n) (tree.constant c) tree.no_operand d (building.no_operand_good K A U R)
      (λ z. subst (λ (t : Typ). Makes K.items (tree.constant c) [] [] t) (sym (u ∙ e)) (constants c))

  -- a literal is of the kind of its node
  number_same : (n : Node) → operands.Number K A n → AtNode n ≡ integer (elaborated.kind_in (OfNode n))
  number_same n h = values.made_at K A U R n (integer h.kind) h.has tt ∙ ap (λ (t : Typ). integer (elaborated.kind_in t)) (sym h.has.same)

  -- a tuple: of nothing it is the unit
  tuple_good : (n : Node) (es : Exps) → EachSited Site.Value es → Has K A n (tuple_of (shapes_of (types_at A (rules.exp_nodes es)))) → GivesEach 0 es → Whole (AtNode n) (elaborated.tuple_of (T K A) n (elaborated.operands (T K A) 0 es))
  tuple_good n named.no_exp s h g d u = building.unit_good K A U R (elaborated.mark (T K A) n) d (u ∙ values.made_at K A U R n unit_shape h tt)
  tuple_good n (named.exp_and e es) s h g d u =
      building.build_good K A U R (elaborated.mark (T K A) n) tree.tuple (elaborated.operands (T K A) 0 (named.exp_and e es)) d g.all_good
      (values.members_made K A U R (named.exp_and e es) s g (U d) (u ∙ values.made_at K A U R n _ h tt))

  tuple_stays : (n : Node) (es : Exps) → GivesEach 0 es → Stays (named.tuple n es)
  tuple_stays n named.no_exp g q d z = absurd (true≢false (sym q))
  tuple_stays n (named.exp_and e es) g q d z = g.all_stay q (first_on z)

  -- a loop that no `break` leads to is Never, and another gives the unit
  abbrev LoopUnit : Node → Bool → Type 0
  LoopUnit n k = NoPlace n.site × (k ≡ true → AtNode n ≡ unit_shape)

  loop_unit : (n : Node) (k : Bool) → Wants (LoopUnit n k) (rules.loop_given n k)
  loop_unit n true = asks_map (λ h. (h.outside, λ q. values.made_at K A U R n unit_shape h tt)) (pieces.unit_given K A n)
  loop_unit n false = asks_map (λ h. (h, λ q. absurd (true≢false (sym q)))) (never_asks n n.site)

  loop_typed : (n : Node) (l : ℕ) (k : Bool) (b : Body) (w : Typ) (d : Temporary) → LoopUnit n k → (k ≡ false → BodyBreaksNot l b) → U d ≡ W n (not k) w → GoesOn (order.order (value (named.loop n l k b)) d) → U d ≡ unit_shape
  loop_typed n l true b w d h j u z = u ∙ h.1 refl
  loop_typed n l false b w d h j u z = absurd (loop_stays l _ (body_avoids l (T K A) b (j refl) (temporary_of (elaborated.body (T K A) b))) z)

  loop_quiet : (n : Node) (l : ℕ) (k : Bool) (b : Body) → (k ≡ false → BodyBreaksNot l b) → Stays (named.loop n l k b)
  loop_quiet n l true b j q d z = true≢false (sym q)
  loop_quiet n l false b j q d z = loop_stays l _ (body_avoids l (T K A) b (j refl) (temporary_of (elaborated.body (T K A) b))) z

  -- an operand of `op=`
  updates : (o : UpdateOp) (t u v : Typ) → (k : Kind) × (t ≡ integer k) × (v ≡ integer k) → u ≡ v → Operates (elaborated.operator o) t u t
  updates o t u v h e = let k = h.0 in subst (λ z. Operates (elaborated.operator o) z u z) (sym h.1) (subst (λ z. Operates (elaborated.operator o) (integer k) z (integer k)) (sym (e ∙ h.2)) (by o k))
    where
      by : (o : UpdateOp) (k : Kind) → Operates (elaborated.operator o) (integer k) (integer k) (integer k)
      by UpdateOp.Add k = adds
      by UpdateOp.Sub k = subtracts
      by UpdateOp.Mul k = multiplies
      by UpdateOp.Div k = divides
      by UpdateOp.Rem k = leaves

  -- arms, over what is matched
  pub record GivesArms (t : Typ) (m : Node) (l : Arms) : Type 0 where
    pub good : (S : actions.Subject) → At S [] (OfNode m) → (d : Temporary) → U d ≡ t → GoodArms S (elaborated.arms (T K A) l) d
    pub stays : all_diverge l ≡ true → (S : actions.Subject) (d : Temporary) → GoesOn (order_arms S (elaborated.arms (T K A) l) d) → ⊥

  no_arms : (t : Typ) (m : Node) → GivesArms t m named.no_arm
  no_arms t m = record { good = λ S a d u. building.no_arm_good K A U R S d; stays = λ q S d z. nowhere_on z }

  arm_more : (t : Typ) (m : Node) (p : Pattern) (e : Exp) (l : Arms) → FineWhole (OfNode m) p → Whole t (value e) × Stays e → GivesArms t m l → GivesArms t m (named.arm_and p e l)
  arm_more t m p e l k g h = record {
    good = λ S a d u. building.arm_good K A U R S (elaborated.pattern (T K A) None p) (value e) (elaborated.arms (T K A) l) d (k S a) (g.0 d u) (h.good S a d u);
    stays = λ q S d z. by (both_are (diverges e) (all_diverge l) q) S d (arms_on S (elaborated.pattern (T K A) None p) (value e) (elaborated.arms (T K A) l) d z);
  }
    where
      by : (diverges e ≡ true) × (all_diverge l ≡ true) → (S : actions.Subject) (d : Temporary) → GoesOn (order.order (value e) d) ⊎ GoesOn (order_arms S (elaborated.arms (T K A) l) d) → ⊥
      by q S d (inl z) = g.1 q.0 d z
      by q S d (inr z) = h.stays q.1 S d z

  -- ---- what stays where a part does: forms with several parts

  if_stays : (n : Node) (c : Exp) (b : Body) (o : Else) (w v : Typ) → Gives v c → Branches n b o w → Stays (named.if n c b o)
  if_stays n c b o w v g h q d z = by (either_true (diverges c) (body_diverges b && else_diverges o) q)
    where
      by : (diverges c ≡ true) ⊎ ((body_diverges b && else_diverges o) ≡ true) → ⊥
      by (inl y) = g.stays y (temporary_of (value c)) (first_on z)
      by (inr y) = let k = h.both_stay y d in joining.two_stay K A U R f result (actions.in_temporary (temporary_of (value c))) (tree.exactly n.number (tree.truth true)) (elaborated.body (T K A) b) (elaborated.otherwise (T K A) n o) d k.0 k.1 (second_on z)

  if_let_stays : (n : Node) (p : Pattern) (e : Exp) (b : Body) (o : Else) (w v : Typ) → Gives v e → Branches n b o w → Stays (named.if_let n p e b o)
  if_let_stays n p e b o w v g h q d z = by (either_true (diverges e) (body_diverges b && else_diverges o) q)
    where
      by : (diverges e ≡ true) ⊎ ((body_diverges b && else_diverges o) ≡ true) → ⊥
      by (inl y) = joining.matched_stays K A U R f result v e g y (first_on z)
      by (inr y) = let k = h.both_stay y d in joining.two_stay K A U R f result (Subject_of e) (elaborated.pattern (T K A) None p) (elaborated.body (T K A) b) (elaborated.otherwise (T K A) n o) d k.0 k.1 (second_on z)

  match_stays : (n : Node) (e : Exp) (l : Arms) (t v : Typ) → Gives v e → GivesArms t (node_of e) l → Stays (named.match n e l)
  match_stays n e l t v g h q d z = by (either_true (diverges e) (all_diverge l) q)
    where
      by : (diverges e ≡ true) ⊎ (all_diverge l ≡ true) → ⊥
      by (inl y) = joining.matched_stays K A U R f result v e g y (first_on z)
      by (inr y) = h.stays y (Subject_of e) d (second_on z)

  while_stays : (n : Node) (l : ℕ) (c : Exp) (b : Body) (v : Typ) → BreaksNot l c → Gives v c → Stays (named.while n l c b)
  while_stays n l c b v j g q d z = test_stays l (order.order (value c) (temporary_of (value c))) _ (value_avoids l (T K A) c j (temporary_of (value c))) (g.stays q (temporary_of (value c))) z

  while_let_stays : (n : Node) (l : ℕ) (p : Pattern) (e : Exp) (b : Body) (v : Typ) → BreaksNot l e → Gives v e → Stays (named.while_let n l p e b)
  while_let_stays n l p e b v j g q d z =
      test_stays l (order_scrutinee (Scrutinee e)) _ (matched_avoids l (T K A) (is_place e) (elaborated.coercion_at (T K A) (node_of e)) e (value e) (value_avoids l (T K A) e j)) (joining.matched_stays K A U R f result v e g q) z

  return_stays : (n : Node) (o : Else) (d : Temporary) → GoesOn (order.order (value (named.return n o)) d) → ⊥
  return_stays n o d z = leave_on (second_on (second_on z))

  body_number : (b : Body) → (mark_of (elaborated.body (T K A) b)).node ≡ (body_node b).number
  body_number (named.body n ss o) = refl

  body_stays : (n : Node) (ss : Statements) (o : Else) (r : Typ) → GivesStatements ss → GivesElse r o → (some_diverges ss ≡ true) ⊎ (else_diverges o ≡ true) → (d : Temporary) → GoesOn (order.order (elaborated.body (T K A) (named.body n ss o)) d) → ⊥
  body_stays n ss o r g x (inl q) d z = g.stays q (elaborated.tail (T K A) n o) n.number d z
  body_stays n ss o r g x (inr q) d z = joining.tail_stays K A U R f result n o r x q d (joining.nested_on K A U R f result ss (elaborated.tail (T K A) n o) n.number d z)

  -- two facts of one asking
  paired : {X Y : Type 0} {a : Asking} → Asks K A X a → Asks K A Y a → Asks K A (X × Y) a
  paired {a = a} x y = record { more = x.more; adds = x.adds; gives = λ h. (x.gives h, y.gives (subst (λ (l : List Demand). MeetsEach K A l) (sym (x.adds []) ∙ y.adds []) h)) }

  both_join : (n : Node) (v : Bool) → Wants (NoPlace n.site × (v ≡ false → operands.Same K A n)) (rules.join n v)
  both_join n v = paired (join_asks n v) (operands.join_same K A n v)

  mutual
    pub exp_asks : (w : Typ) (e : Exp) → Sited e → Fits K.items e → OfExp w e → Wants (Gives w e) (rules.of_exp f e)
    exp_asks w (named.int n m v k) h j u =
        asks_map (λ p. values.at_node K A U R w (named.int n m v k) refl p.has.outside refl (u.0 0) (values.no_stay K A U R (named.int n m v k) refl)
        (constant_good n (tree.whole_number (elaborated.kind_in (OfNode n)) (pos v)) (number_same n p))) (operands.integer_given K A n m v k)
    exp_asks w (named.bool n b) h j u =
        asks_map (λ p. values.at_node K A U R w (named.bool n b) refl p.outside refl (u.0 0) (values.no_stay K A U R (named.bool n b) refl) (constant_good n (tree.truth b) (values.made_at K A U R n boolean p tt))) (pieces.truth_given K A n)
    exp_asks w (named.tuple n es) h j u =
        asks_map (λ g. values.at_node K A U R w (named.tuple n es) refl g.1.0.outside (values.tuple_node K A U R n (elaborated.operands (T K A) 0 es)) (u.0 0) (tuple_stays n es g.0.0) (tuple_good n es h g.1.0 g.0.0))
        (both (each_asks rules.members 0 Site.Value es h j u.1) (both (pieces.tuple_given K A n _) (quiet n _ _ _)))
    exp_asks w (named.var n x) h j u =
        asks_map (λ g. values.a_place K A U R w (named.var n x) n refl refl refl refl (u.0 0) (ap (λ (t : Typ). Some t) g.0) g.1 refl) (both (named_asks n x x.known) (pieces.place_given K A n _ _ n.site))
    exp_asks w (named.field n e x) h j u =
        asks_map (λ g. let t = OfNode (node_of e) in values.a_place K A U R w (named.field n e x) n refl refl refl refl (u.0 0)
        (patterns.reads_under K A U R (elaborated.place (T K A) e) t (elaborated.dereferences t ++ step.Field (elaborated.field_in K.items (peeled t) x) ∷ []) (OfNode n)
        (peeled_step K.items t (step.Field (elaborated.field_in K.items (peeled t) x)) (OfNode n) (field_is K.items (peeled t) x (OfNode n) g.1.0.0)) (values.root_of K A U R unit_shape e h.1 g.0)) g.1.1 (values.even_of K A U R unit_shape e h.1 g.0))
        (both (exp_asks unit_shape e h.0 j u.1) (both (one_asked n _ _ _) (pieces.place_given K A n _ _ n.site)))
    exp_asks w (named.part n e i) h j u =
        asks_map (λ g. let t = OfNode (node_of e) in values.a_place K A U R w (named.part n e i) n refl refl refl refl (u.0 0)
        (patterns.reads_under K A U R (elaborated.place (T K A) e) t (elaborated.dereferences t ++ step.Field i ∷ []) (OfNode n)
        (peeled_step K.items t (step.Field i) (OfNode n) (part_is K.items (peeled t) i (OfNode n) g.1.0.0)) (values.root_of K A U R unit_shape e h.1 g.0)) g.1.1 (values.even_of K A U R unit_shape e h.1 g.0))
        (both (exp_asks unit_shape e h.0 j u.1) (both (one_asked n _ _ _) (pieces.place_given K A n _ _ n.site)))
    exp_asks w (named.deref n e) h j u =
        asks_map (λ g. let t = OfNode (node_of e) in values.a_place K A U R w (named.deref n e) n refl refl refl refl (u.0 0)
        (patterns.reads_under K A U R (elaborated.place (T K A) e) t (elaborated.dereference t) (OfNode n) (pointee_is K.items t (OfNode n) g.1.0.0) (values.root_of K A U R unit_shape e h.1 g.0)) g.1.1 (values.even_of K A U R unit_shape e h.1 g.0))
        (both (exp_asks unit_shape e h.0 j u.1) (both (one_asked n _ _ _) (pieces.place_given K A n _ _ n.site)))
    exp_asks w (named.negate n e) h j u =
        asks_map (λ g. values.at_node K A U R w (named.negate n e) refl g.1.has.outside refl (u.0 0) (λ q d z. g.0.stays q (temporary_of (value e)) (first_on (first_on z)))
        (values.one_good K A U R n tree.negation e (integer g.1.kind) (own K A n) g.0 h.1 g.1.operand (values.made_at K A U R n (integer g.1.kind) g.1.has tt) negates))
        (both (exp_asks (own K A n) e h.0 j u.1) (operands.negated_given K A n (node_of e) (never e)))
    exp_asks w (named.invert n e) h j u =
        asks_map (λ g. values.at_node K A U R w (named.invert n e) refl g.1.has.outside refl (u.0 0) (λ q d z. g.0.stays q (temporary_of (value e)) (first_on (first_on z)))
        (values.one_good K A U R n tree.inversion e boolean boolean g.0 h.1 g.1.operand (values.made_at K A U R n boolean g.1.has tt) inverts))
        (both (exp_asks boolean e h.0 j u.1) (operands.inverted_given K A n (node_of e) (never e)))
    exp_asks w (named.borrow n m e) h j u =
        asks_map (λ g. let x = tree.borrow (elaborated.mark (T K A) n) m (elaborated.place (T K A) e) in let c = elaborated.coercion_at (T K A) n in
        values.at_node K A U R w (named.borrow n m e) refl g.1.outside (values.passed_node K A U R n c x refl) (u.0 0) (values.no_stay K A U R (named.borrow n m e) (values.even_of K A U R unit_shape e h.1 g.0))
        (values.passes_on K A U R n c x (AtNode n) (passing K A n g.1.stands) (u.0 1) (λ d z. building.borrow_good K A U R (elaborated.mark (T K A) n) m (elaborated.place (T K A) e) d (OfNode (node_of e)) (values.root_of K A U R unit_shape e h.1 g.0) (z ∙ g.1.same))))
        (both (exp_asks unit_shape e h.0 j u.1) (pieces.borrowed_given K A n m (node_of e) (root e) _))
    exp_asks w (named.binary n o a b) h j u =
        let v = two_of (given_types.exp_entries (T K A) V (given_types.wanted_beside (T K A) V o n b) a) (given_types.exp_entries (T K A) V (given_types.wanted_beside (T K A) V o n a) b) u.1 in
        asks_map (λ g. let x = values.operating K A U R n o a b _ _ g.0 g.1.0 h.0.1 h.1.1 g.1.1 in
        values.at_node K A U R w (named.binary n o a b) refl x.outside (values.operated_node K A U R n o (value a) (value b)) (u.0 0) x.stays x.whole)
        (both (exp_asks _ a h.0.0 j.0 v.0) (both (exp_asks _ b h.1.0 j.1 v.1) (operands.operation_given K A o n (node_of a) (never a) (node_of b) (never b))))
    exp_asks w (named.assign n p e) h j u =
        let v = two_of (given_types.exp_entries (T K A) V unit_shape p) (given_types.exp_entries (T K A) V unit_shape e) u.1 in
        asks_map (λ g. values.at_node K A U R w (named.assign n p e) refl g.1.1.1.outside refl (u.0 0)
        (values.operand_stays K A U R e (named.assign n p e) g.1.1.0.stays (values.behind_place K A U R p e (values.even_of K A U R unit_shape p h.0.1 g.0)) (λ d z. first_on z))
        (λ d z. building.assign_good K A U R (elaborated.mark (T K A) n) (elaborated.place (T K A) p) (value e) d (OfNode (node_of p)) g.1.1.0.self (values.root_of K A U R unit_shape p h.0.1 g.0)
        (λ y. values.valued_wished K A U R unit_shape e h.1.1 g.1.1.0 y ∙ g.1.0) (z ∙ values.made_at K A U R n unit_shape g.1.1.1 tt)))
        (both (exp_asks unit_shape p h.0.0 j.0 v.0) (both (operands.wished_same K A (node_of e) (node_of p)) (both (exp_asks unit_shape e h.1.0 j.1 v.1) (then_second (assignable_u n p) (pieces.unit_given K A n)))))
    exp_asks w (named.gives n p x k e) h j u =
        asks_map (λ g. values.at_node K A U R w (named.gives n p x k e) refl g.1.1.outside refl (u.0 0) (λ q d z. g.0.stays q (temporary_of (value e)) (first_on z))
        (λ d z. building.assign_good K A U R (elaborated.mark (T K A) n) (tree.own x.number) (value e) d (V x.number) g.0.self refl
        (λ y. values.valued K A U R (V x.number) e g.0 y ∙ (ap (λ (t : Site). at_site t (OfNode (node_of e)) (wished K A (node_of e))) h.1 ∙ sym (g.1.0 (values.alive K A U R (V x.number) e g.0 (temporary_of (value e)) y)))) (z ∙ values.made_at K A U R n unit_shape g.1.1 tt)))
        (both (exp_asks (V x.number) e h.0 j u.1.1) (both (operands.assigned_given K A n p x k (node_of e) (never e)) (pieces.unit_given K A n)))
    exp_asks w (named.update n o p e) h j u =
        let v = two_of (given_types.exp_entries (T K A) V unit_shape p) (given_types.exp_entries (T K A) V (own K A (node_of p)) e) u.1 in
        asks_map (λ g. values.at_node K A U R w (named.update n o p e) refl g.1.1.1.outside refl (u.0 0)
        (values.operand_stays K A U R e (named.update n o p e) g.1.0.stays (values.behind_place K A U R p e (values.even_of K A U R unit_shape p h.0.1 g.0)) (λ d z. first_on z))
        (λ d z. building.update_good K A U R (elaborated.mark (T K A) n) (elaborated.operator o) (elaborated.place (T K A) p) (value e) d (OfNode (node_of p)) g.1.0.self (values.root_of K A U R unit_shape p h.0.1 g.0) (u.0 1) (u.0 2)
        (λ y. updates o (OfNode (node_of p)) (U (temporary_of (value e))) (OfNode (node_of e)) (g.1.1.0.numbers (place_stays p (values.placed_is K A U R unit_shape p h.0.1 g.0)) (values.alive K A U R (own K A (node_of p)) e g.1.0 (temporary_of (value e)) y)) (values.valued_own K A U R (own K A (node_of p)) e h.1.1 g.1.0 y))
        (z ∙ values.made_at K A U R n unit_shape g.1.1.1 tt)))
        (both (exp_asks unit_shape p h.0.0 j.0 v.0) (both (exp_asks (own K A (node_of p)) e h.1.0 j.1 v.1)
        (both (operands.updated_given K A n (node_of p) (never p) (node_of e) (never e)) (then_second (assignable_u n p) (pieces.unit_given K A n)))))
    exp_asks w (named.call n k es) h j u =
        asks_map (λ g. let x = tree.call (elaborated.mark (T K A) n) k (elaborated.operands (T K A) 0 es) in let c = elaborated.coercion_at (T K A) n in
        values.at_node K A U R w (named.call n k es) refl g.1.1.outside (values.passed_node K A U R n c x refl) (u.0 0) (λ q d z. g.1.0.0.all_stay q (first_on (values.passed_on_goes K A U R n c x d z).1))
        (values.passes_on K A U R n c x (AtNode n) (passing K A n g.1.1.stands) (u.0 1) (λ d z. building.call_good K A U R (elaborated.mark (T K A) n) k (elaborated.operands (T K A) 0 es) d g.1.0.0.all_good
        (λ y. (values.call_typed K A U R k es h g.1.0.0 g.1.0.1 g.0 y, g.1.1.result ∙ ap (λ (t : Typ). Some t) (sym z))))))
        (both (operands.taken_given K A n k (rules.argument_count es)) (both (each_asks (rules.parameters k) 0 Site.Expects es h j u.1) (pieces.result_given K A n k)))
    exp_asks w (named.hidden_call n es) h j u = asks_map (λ g. absurd g) (then_first (refused n _) (each_asks rules.values 0 Site.Value es h j u.1))
    exp_asks w (named.next_input n) h j u =
        asks_map (λ p. values.at_node K A U R w (named.next_input n) refl p.outside refl (u.0 0) (values.no_stay K A U R (named.next_input n) refl)
        (λ d z. (z ∙ values.made_at K A U R n (integer Kind.I64) p tt, (λ t k. absurd k), (λ t k. absurd k)))) (pieces.number_given K A n Kind.I64)
    exp_asks w (named.variant n i v es) h j u =
        asks_map (λ g. values.at_node K A U R w (named.variant n i v es) refl g.1.1.outside refl (u.0 0) (λ q d z. g.1.0.0.all_stay q (first_on z))
        (λ d z. building.build_good K A U R (elaborated.mark (T K A) n) (tree.variant_of i v) (elaborated.operands (T K A) 0 es) d g.1.0.0.all_good
        (values.variant_made K A U R i v es j.0 h g.1.0.0 g.1.0.1 g.0 (U d) (z ∙ values.made_at K A U R n (types.named i) g.1.1 tt))))
        (both (operands.held_given K A n i v (rules.argument_count es)) (both (each_asks (rules.parts_of i v) 0 Site.Expects es h j.1 u.1) (pieces.item_given K A n i)))
    exp_asks w (named.make n i fs) h j u =
        asks_map (λ g. values.at_node K A U R w (named.make n i fs) refl g.1.1.outside refl (u.0 0) (λ q d z. g.1.0.all_stay q (first_on z))
        (λ d z. building.build_good K A U R (elaborated.mark (T K A) n) (tree.struct i) (elaborated.fields (T K A) i fs) d g.1.0.all_good
        (values.struct_made K A U R i fs j.0 g.1.0 g.0 (U d) (z ∙ values.made_at K A U R n (types.named i) g.1.1 tt))))
        (both (operands.fields_given K A n i (rules.names_given fs)) (both (fields_asks i fs h j.1 u.1) (pieces.item_given K A n i)))
    exp_asks w (named.print n e) h j u =
        asks_map (λ g. values.at_node K A U R w (named.print n e) refl g.1.1.outside refl (u.0 0) (λ q d z. g.0.stays q (temporary_of (value e)) (first_on z))
        (λ d z. building.print_good K A U R (elaborated.mark (T K A) n) (value e) d g.0.self
        (λ y. subst (λ (t : Typ). IsShown t) (sym (values.valued_own K A U R boolean e h.1 g.0 y)) (plain_shown (OfNode (node_of e)) (g.1.0 (values.alive K A U R boolean e g.0 (temporary_of (value e)) y)))) (z ∙ values.made_at K A U R n unit_shape g.1.1 tt)))
        (both (exp_asks boolean e h.0 j u.1) (both (operands.printed_given K A (node_of e) (never e)) (pieces.unit_given K A n)))
    exp_asks w (named.block n b) h j u =
        let t = W n (body_never b) w in
        asks_map (λ g. let e = joining.part_join K A U R f result n (body_node b) (body_never b) (body_never b) w (ap passed_on (body_site (passed_on n.site) b h) ∙ passed_twice n.site) g.0 g.1.1.0 (λ q. q) in
        values.a_whole K A U R w (named.block n b) (body_node b).number refl g.1.1.1 (body_number b) (g.1.0.there ∙ e) g.1.0.stays (joining.whole_as K A U R f result (GoesBody t b) t (elaborated.body (T K A) b) e g.1.0.value_good))
        (both (pieces.before_given K A n n.site (body_node b)) (both (body_asks t (passed_on n.site) b h j u.1) (both (pieces.after_given K A n n.site (body_never b) (body_node b)) (join_asks n (body_never b)))))
    exp_asks w (named.if n c b o) h j u =
        let t = W n (body_never b && else_never o) w in
        let v = three_of (given_types.exp_entries (T K A) V boolean c) (given_types.body_entries (T K A) V t b) (given_types.else_entries (T K A) V t o) u.1 in
        asks_map (λ g. values.at_node K A U R w (named.if n c b o) refl g.1.1.outside refl (u.0 0) (if_stays n c b o t boolean g.0 g.1.1)
        (λ d z. joining.tests_good K A U R f result n (elaborated.mark_if (T K A) n (body_never b && else_never o)) c boolean (elaborated.body (T K A) b) (elaborated.otherwise (T K A) n o) d g.0 h.0.1 g.1.0 (g.1.1.first d z) (g.1.1.second d z)))
        (both (exp_asks boolean c h.0.0 j.0 v.0) (both (operands.tested_given K A (node_of c) (never c))
        (joining.branches K A U R f result n b o w h.1 (body_asks t (branch_site n.site o) b h.1 j.1 v.1) (else_asks n (body_never b && else_never o) w o h.2 j.2 v.2 (right_false (body_never b) (else_never o))))))
    exp_asks w (named.if_let n p e b o) h j u =
        let t = W n (body_never b && else_never o) w in
        let v = four_of (given_types.pattern_entries (T K A) V p) (given_types.exp_entries (T K A) V unit_shape e) (given_types.body_entries (T K A) V t b) (given_types.else_entries (T K A) V t o) u.1 in
        asks_map (λ g. values.at_node K A U R w (named.if_let n p e b o) refl g.1.1.outside refl (u.0 0) (if_let_stays n p e b o t unit_shape g.0 g.1.1)
        (λ d z. joining.looks_good K A U R f result (elaborated.mark_if (T K A) n (body_never b && else_never o)) e unit_shape p (elaborated.body (T K A) b) (elaborated.otherwise (T K A) n o) d g.0 h.0.1 g.1.0 (g.1.1.first d z) (g.1.1.second d z)))
        (both (exp_asks unit_shape e h.0.0 j.0 v.1) (then_second (not_never_u (node_of e) (never e)) (both (patterns.whole_asks K A U R (rules.matched e) _ p v.0)
        (joining.branches K A U R f result n b o w h.1 (body_asks t (branch_site n.site o) b h.1 j.1 v.2) (else_asks n (body_never b && else_never o) w o h.2 j.2 v.3 (right_false (body_never b) (else_never o)))))))
    exp_asks w (named.match n e l) h j u =
        let t = W n (named.all_never l) w in
        let v = two_of (given_types.exp_entries (T K A) V unit_shape e) (given_types.arms_entries (T K A) V t l) u.1 in
        asks_map (λ g. values.at_node K A U R w (named.match n e l) refl g.1.1 refl (u.0 0) (match_stays n e l t unit_shape g.0 g.1.0)
        (λ d z. building.choose_good K A U R (elaborated.mark_if (T K A) n (named.all_never l)) (Scrutinee e) (elaborated.arms (T K A) l) d (joining.matched_good K A U R f result unit_shape e g.0)
        (λ y. g.1.0.good (Subject_of e) (joining.looked_there K A U R f result unit_shape e h.0.1 g.0 y) d z)))
        (both (exp_asks unit_shape e h.0.0 j.0 v.0) (then_second (not_never_u (node_of e) (never e))
        (both (arms_asks n (named.all_never l) w (rules.matched e) (node_of e) l h.1 j.1 v.1 (λ q. q)) (join_asks n (named.all_never l)))))
    exp_asks w (named.loop n l k b) h j u =
        asks_map (λ g. values.at_node K A U R w (named.loop n l k b) refl g.1.0 refl (u.0 0) (loop_quiet n l k b j.0)
        (λ d z. building.loop_good K A U R (elaborated.mark_if (T K A) n (not k)) l (elaborated.body (T K A) b) d g.0.self (loop_typed n l k b w d g.1 j.0 z)))
        (both (body_asks unit_shape Site.Value b h j.1 u.1) (then_second (pieces.nothing_given K A (body_node b) (body_never b)) (loop_unit n k)))
    exp_asks w (named.while n l c b) h j u =
        let v = two_of (given_types.exp_entries (T K A) V boolean c) (given_types.body_entries (T K A) V unit_shape b) u.1 in
        let x = temporary_at (body_node b).number 0 in let m = elaborated.mark_if (T K A) (body_node b) (body_never b) in
        asks_map (λ g. values.at_node K A U R w (named.while n l c b) refl g.1.1.1.outside refl (u.0 0) (while_stays n l c b boolean j.0 g.0)
        (λ d z. building.loop_good K A U R (elaborated.mark (T K A) n) l (elaborated.tests n (value c) m (elaborated.body (T K A) b) (elaborated.leaves n l)) d
        (joining.tests_good K A U R f result n m c boolean (elaborated.body (T K A) b) (elaborated.leaves n l) x g.0 h.0.1 g.1.0 (g.1.1.0.value_good x g.1.1.0.there) (building.jump_good K A U R (elaborated.no_mark n) l false x)) (λ y. z ∙ values.made_at K A U R n unit_shape g.1.1.1 tt)))
        (both (exp_asks boolean c h.0.0 j.1 v.0) (both (operands.tested_given K A (node_of c) (never c))
        (both (body_asks unit_shape Site.Value b h.1 j.2 v.1) (then_second (pieces.nothing_given K A (body_node b) (body_never b)) (pieces.unit_given K A n)))))
    exp_asks w (named.while_let n l p e b) h j u =
        let v = three_of (given_types.pattern_entries (T K A) V p) (given_types.exp_entries (T K A) V unit_shape e) (given_types.body_entries (T K A) V unit_shape b) u.1 in
        let x = temporary_at (body_node b).number 0 in let m = elaborated.mark_if (T K A) (body_node b) (body_never b) in
        asks_map (λ g. values.at_node K A U R w (named.while_let n l p e b) refl g.1.1.1.outside refl (u.0 0) (while_let_stays n l p e b unit_shape j.0 g.0)
        (λ d z. building.loop_good K A U R (elaborated.mark (T K A) n) l (elaborated.looks m (Scrutinee e) (elaborated.pattern (T K A) None p) (elaborated.body (T K A) b) (elaborated.leaves n l)) d
        (joining.looks_good K A U R f result m e unit_shape p (elaborated.body (T K A) b) (elaborated.leaves n l) x g.0 h.0.1 g.1.0 (g.1.1.0.value_good x g.1.1.0.there) (building.jump_good K A U R (elaborated.no_mark n) l false x)) (λ y. z ∙ values.made_at K A U R n unit_shape g.1.1.1 tt)))
        (both (exp_asks unit_shape e h.0.0 j.1 v.1) (then_second (not_never_u (node_of e) (never e)) (both (patterns.whole_asks K A U R (rules.matched e) _ p v.0)
        (both (body_asks unit_shape Site.Value b h.1 j.2 v.2) (then_second (pieces.nothing_given K A (body_node b) (body_never b)) (pieces.unit_given K A n))))))
    exp_asks w (named.break n l) h j u = asks_map (λ p. values.a_jump K A U R w (named.break n l) refl p (λ d z. leave_on z) (λ d. building.jump_good K A U R (elaborated.no_mark n) l false d)) (never_asks n n.site)
    exp_asks w (named.continue n l) h j u = asks_map (λ p. values.a_jump K A U R w (named.continue n l) refl p (λ d z. leave_on z) (λ d. building.jump_good K A U R (elaborated.no_mark n) l true d)) (never_asks n n.site)
    exp_asks w (named.return n o) h j u =
        asks_map (λ g. values.a_jump K A U R w (named.return n o) refl g.1.1 (return_stays n o) (joining.returned_good K A U R f result n o unit_shape (u.0 0) h g.0 g.1.0))
        (both (operands.returned_given K A f n o) (both (returned_asks unit_shape Site.Expects o h j u.1) (never_asks n n.site)))

    each_asks : (l : rules.Listed) (k : ℕ) (t : Site) (es : Exps) → EachSited t es → EachFits K.items es → OfExps es → Wants (GivesEach k es × EachWishes l k es) (rules.of_each f l k es)
    each_asks l k t named.no_exp h j u = asks_map (λ _. (values.no_each K A U R k, tt)) none
    each_asks l k t (named.exp_and e es) h j u =
        let v = two_of (given_types.exp_entries (T K A) V unit_shape e) (given_types.exps_entries (T K A) V es) u in
        asks_map (λ g. (values.each_and K A U R k e es unit_shape g.1.0 g.1.1.0, (g.0, g.1.1.1)))
        (both (operands.each_before_given K A l k (node_of e)) (both (exp_asks unit_shape e h.0.0 j.0 v.0) (then_second (each_after_u l e) (each_asks l (suc k) t es h.1 j.1 v.1))))

    fields_asks : (i : ℕ) (fs : Fields) → FieldsSited fs → FieldsFit K.items fs → OfFields fs → Wants (GivesFields i fs) (rules.of_fields f i fs)
    fields_asks i named.no_field h j u = asks_map (λ _. values.no_fields K A U R i) none
    fields_asks i (named.field_and x e fs) h j u =
        let v = two_of (given_types.exp_entries (T K A) V unit_shape e) (given_types.fields_entries (T K A) V fs) u in
        asks_map (λ g. values.field_and_more K A U R i x e fs unit_shape h.0.1 g.0 g.1.0 g.1.1) (both (operands.field_given K A i x (node_of e)) (both (exp_asks unit_shape e h.0.0 j.0 v.0) (fields_asks i fs h.1 j.1 v.1)))

    else_asks : (n : Node) (v : Bool) (w : Typ) (o : Else) → ElseSited (passed_on n.site) o → ElseFits K.items o → OfElse (W n v w) o → (else_never o ≡ false → v ≡ false) → Wants (GivesElse (W n v w) o) (rules.of_else f n o)
    else_asks n v w named.absent h j u s = none
    else_asks n v w (named.present e) h j u s =
        asks_map (λ g. joining.else_joined K A U R f result n v w e (ap passed_on h.1 ∙ passed_twice n.site) g.0 g.1.1 s g.1.0)
        (both (pieces.before_given K A n n.site (node_of e)) (both (exp_asks (W n v w) e h.0 j u) (pieces.after_given K A n n.site (never e) (node_of e))))

    returned_asks : (w : Typ) (t : Site) (o : Else) → ElseSited t o → ElseFits K.items o → OfElse w o → Wants (GivesReturned w o) (rules.of_returned f o)
    returned_asks w t named.absent h j u = none
    returned_asks w t (named.present e) h j u = exp_asks w e h.0 j u

    arms_asks : (n : Node) (v : Bool) (w : Typ) (s : rules.Matched) (m : Node) (l : Arms) → ArmsSited (passed_on n.site) l → ArmsFit K.items l → OfArms (W n v w) l → (named.all_never l ≡ false → v ≡ false) → Wants (GivesArms (W n v w) m l) (rules.of_arms f n s m l)
    arms_asks n v w s m named.no_arm h j u k = asks_map (λ _. no_arms (W n v w) m) none
    arms_asks n v w s m (named.arm_and p e l) h j u k =
        let y = three_of (given_types.pattern_entries (T K A) V p) (given_types.exp_entries (T K A) V (W n v w) e) (given_types.arms_entries (T K A) V (W n v w) l) u in
        asks_map (λ g. arm_more (W n v w) m p e l g.0 (joining.else_joined K A U R f result n v w e (ap passed_on h.0.1 ∙ passed_twice n.site) g.1.0 g.1.1.1.0 (λ x. k (left_false (never e) (named.all_never l) x)) g.1.1.0) g.1.1.1.1)
        (both (patterns.whole_asks K A U R s _ p y.0) (both (pieces.before_given K A n n.site (node_of e)) (both (exp_asks (W n v w) e h.0.0 j.0 y.1)
        (both (pieces.after_given K A n n.site (never e) (node_of e)) (arms_asks n v w s m l h.1 j.1 y.2 (λ x. k (right_false (never e) (named.all_never l) x)))))))

    pub body_asks : (w : Typ) (t : Site) (b : Body) → BodySited t b → BodyFits K.items b → OfBody w b → Wants (GivesBody w b) (rules.of_body f b)
    body_asks w t (named.body n ss o) h j u =
        let d = some_diverges ss in
        let r = W n (named.tail_never d o) w in
        let v = two_of (given_types.statements_entries (T K A) V ss) (given_types.else_entries (T K A) V r o) u.1 in
        let s = subst (λ (k : Site). ElseSited k o) (sym h.0) h.2 in
        asks_map (λ g. let x = joining.tail_joined K A U R f result n d o w s g.1.0 g.1.1.1.0 g.1.1.0 in let e = joining.tail_unit K A U R f result n d o w g.1.1.1.0 g.1.1.1.1.1 in
        let y : Whole r (elaborated.body (T K A) (named.body n ss o)) = λ k z. g.0.good (elaborated.tail (T K A) n o) n.number k (λ q. joining.tail_good K A U R f result n o r (e q) x k z) in
        record {
          there = u.0 0;
          value_good = y;
          self = y (temporary_at n.number 0) (u.0 0);
          stays = λ q k z. body_stays n ss o r g.0 x (either_true d (else_diverges o) q) k z;
          ends = λ p i k. g.0.good (tree.give (elaborated.no_mark n) (elaborated.tail (T K A) n o)) n.number k (λ q. joining.given_tail K A U R f result n d o w s p i g.1.0 (u.0 0) q (e q) g.1.1.0 k);
        })
        (both (statements_asks ss h.1 j.0 v.0) (both (joining.tail_before_given K A U R f result n o) (both (returned_asks r n.site o s j.1 v.1) (both (joining.tail_after_given K A U R f result n d o) (both_join n (named.tail_never d o))))))

    statement_asks : (a : Statement) → StatementSited a → StatementFits K.items a → OfStatement a → Wants (GivesStatement a) (rules.of_statement f a)
    statement_asks (named.declares n p t) h j u = asks_map (λ _. joining.declares_good K A U R f result n p t) (joining.declared_u K A U R f result p t (two_of (given_types.pattern_entries (T K A) V p) (map silent (optional_nodes t)) u.1).0)
    statement_asks (named.lets n p t e) h j u =
        let w = given_types.wanted_by (T K A) V (whole_binding p) in
        let v = three_of (given_types.pattern_entries (T K A) V p) (map silent (optional_nodes t)) (given_types.exp_entries (T K A) V w e) u.1 in
        asks_map (λ g. joining.lets_good K A U R f result n p t e w g.1.0 (g.1.1 g.0 g.1.0))
        (both (joining.typed_before_asks K A U R f result t e) (both (exp_asks w e h.0 j v.2) (joining.initialised_asks K A U R f result w p t e h.1 v.0)))
    statement_asks (named.evaluates n e s) h j u = asks_map (λ g. joining.evaluates_good K A U R f result n e s unit_shape g) (then_first (exp_asks unit_shape e h.0 j u.1) (evaluated_u s (node_of e) (never e)))

    statements_asks : (ss : Statements) → StatementsSited ss → StatementsFit K.items ss → OfStatements ss → Wants (GivesStatements ss) (rules.of_statements f ss)
    statements_asks named.no_statement h j u = asks_map (λ _. joining.no_statements K A U R f result) none
    statements_asks (named.statement_and a ss) h j u =
        let v = two_of (given_types.statement_entries (T K A) V a) (given_types.statements_entries (T K A) V ss) u in
        asks_map (λ g. joining.statement_more K A U R f result a ss g.0 g.1) (both (statement_asks a h.0 j.0 v.0) (statements_asks ss h.1 j.1 v.1))

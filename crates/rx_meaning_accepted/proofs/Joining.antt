-- Parts that a value is joined of, and what may be missing: branches, tails, statements and what is matched, by the types of temporaries.
use Rattle.std.proofs.Common.{◌≡◌, ◌⊎◌, inl, inr, ℕ, suc, ◌+◌, arith, Bool, true, false, not, ◌&&◌, ◌||◌, List, [], ◌∷◌, ◌++◌, length, map, Option, Some, None, slice_get, refl, sym, ap, ◌∙◌, subst}
use Rattle.std.proofs.lemmas.Bool.{true≢false}
use Rattle.std.proofs.lemmas.List.{length-map}
use Rattle.rx_core.specs.declared.types.Kind.{Kind}
use Rattle.rx_core.specs.declared.types.Step.{Step}
use Rattle.rx_core.specs.declared.types.Step.TheVariants as step
use Rattle.rx_tree.specs.declared.tree.BinaryOp.{BinaryOp}
use Rattle.rx_tree.specs.declared.tree.UpdateOp.{UpdateOp}
use Rattle.rx_tree.specs.Lists.{Every}
use Rattle.rx_typed.specs.declared.nodes.Node.{Node}
use Rattle.rx_typed.specs.declared.nodes.Site.{Site}
use Rattle.rx_typed.specs.declared.nodes.Use.{Use}
use Rattle.rx_typed.specs.Types as types
use Rattle.rx_typed.specs.Types.{Typ, integer, boolean, tuple_of, reference, unit_shape, shapes_of, peeled, result_declared, parameters_declared, FieldDeclared, VariantDeclared, struct_declared, enum_declared, fields_declared, variant_parts}
use Rattle.rx_typed.specs.Named as named
use Rattle.rx_typed.specs.Named.{Written, Pattern, Exp, Exps, Else, Fields, Arms, Body, Statement, Statements, Parameter, Function, written_node, pattern_node, whole_binding, node_of, body_node, is_place, is_variable, root, never, body_never, else_never, all_never, diverges, any_diverges, else_diverges, any_field_diverges, all_diverge, body_diverges, statement_diverges, some_diverges, is_strict}
use Rattle.rx_typed.specs.TypedNumbers.{optional_nodes}
use Rattle.rx_typed.specs.Naming.{passed_on, initialiser_site}
use Rattle.rx_typed.specs.Elaborated as elaborated
use Rattle.rx_typed.specs.Elaborated.{Coercion}
use Rattle.rx_typed.specs.Tree as tree
use Rattle.rx_typed.specs.Tree.{Temporary, Place, Making, mark_of, temporary_of, temporary_at, temporaries_of, fields_of}
use Rattle.rx_lower_walks.specs.Matching.{bindings}
use Rattle.rx_lower_walks.specs.Actions as actions
use Rattle.rx_lower_walks.specs.Orders as order
use Rattle.rx_lower_walks.specs.Orders.{Order, order_all, order_scrutinee, order_arms, order_body, order_function, beginning}
use Rattle.rx_typeck_solver.specs.declared.facts.Subject.{Subject}
use Rattle.rx_typeck_solver.specs.Facts.{MeetsEach, Assignment, KnownItems, types_at, names_of}
use Rattle.rx_typeck_typed.specs.Asking.{Asking, ask, expected}
use Rattle.rx_typeck_typed.specs.Demands as rules
use Rattle.rx_meaning_keeping.specs.Units.{GoesOn}
use Rattle.rx_meaning_typed.specs.TypedActs.{Typing, typ_along, types_of_fields, shape_at, Fill, no_field, field_and, Operates, Makes, constants, negates, inverts, operates, tuples, structs, variants, constant_typ}
use Rattle.rx_repair.specs.TemporaryTypes as given_types
use Rattle.rx_repair.specs.TemporaryTypes.{Entry, silent, at_site, own_or}
use Rattle.rx_repair.proofs.Sites.{Sited, EachSited, ElseSited, FieldsSited, ArmsSited, BodySited, StatementSited, StatementsSited, branch_site}
use Rattle.rx_repair.proofs.Asking.{Asks, NoPlace, asks_map, none, both, then_first, then_second, then_u, one_asked, quiet, refused, whole_type_u, never_asks, join_asks, not_never_u, one_variable_u, evaluated_u, each_after_u, parameters_u, result_u, never_given_u, when_u, loop_asks}
use Rattle.rx_repair.proofs.Places.{some_same}
use Rattle.rx_repair.proofs.Settling.{NotLent, Passing, own_settled, Before, After, part_fits, lone_fits, passed_twice}
use Rattle.rx_repair.proofs.Pieces as pieces
use Rattle.rx_repair.proofs.Pieces.{T, own, wished, Stands, passing, Has}
use Rattle.rx_repair.proofs.Patterns.{every_front, every_behind}
use Rattle.rx_repair.proofs.Acting.{place_stays, body_site}
use Rattle.rx_meaning_accepted.specs.Fitting.{IsStruct, IsVariant, BodyBreaksNot, BreaksNot, Fits, EachFits, ElseFits, FieldsFit, ArmsFit, BodyFits, StatementFits, StatementsFit}
use Rattle.rx_meaning_accepted.proofs.Walking.{first_on, second_on, nowhere_on, leave_on, binding_on, declaring_on, arms_on, loop_stays, test_stays}
use Rattle.rx_meaning_accepted.proofs.Steps.{listed_at, part_is, field_is, field_at, pointee_is, peeled_step}
use Rattle.rx_meaning_accepted.proofs.Going.{or_left, or_right, both_true, never_diverges, value_avoids, body_avoids}
use Rattle.rx_meaning_accepted.proofs.Operands as operands
use Rattle.rx_meaning_accepted.proofs.Operands.{plain_shown}
use Rattle.rx_meaning_accepted.proofs.Lists as lists
use Rattle.rx_meaning_accepted.proofs.Patterns as patterns
use Rattle.rx_meaning_accepted.proofs.Building as building
use Rattle.rx_meaning_accepted.proofs.Values as values
use Rattle.rx_meaning_accepted.proofs.Values.{is_false, not_both, either_true, both_are, or_false, left_false, right_false, stays_alive}

module _ (K : KnownItems) (A : Assignment) (U : Temporary → Typ) (R : Typ) (f : ℕ) (result : (u : Typ) → result_declared (slice_get K.items f) ≡ Some u → R ≡ u) where
  abbrev Wants : Type 0 → Asking → Type 0
  Wants S a = Asks K A S a

  abbrev OfNode : Node → Typ
  OfNode n = own K A n

  abbrev V : ℕ → Typ
  V = values.V K A U R

  abbrev W : Node → Bool → Typ → Typ
  W = values.W K A U R

  abbrev GoesTo : Typ → Exp → Typ
  GoesTo = values.GoesTo K A U R

  abbrev GoesBody : Typ → Body → Typ
  GoesBody = values.GoesBody K A U R

  abbrev Reads : Place → Typ → Type 0
  Reads = values.Reads K A U R

  abbrev F : Entry → Type 0
  F = values.F K A U R

  abbrev Fine : actions.Subject → List Step → tree.Pattern → Type 0
  Fine = values.Fine K A U R

  abbrev At : actions.Subject → List Step → Typ → Type 0
  At = values.At K A U R

  abbrev FineWhole : Typ → Pattern → Type 0
  FineWhole = values.FineWhole K A U R

  abbrev Good : tree.Exp → Temporary → Type 0
  Good = values.Good K A U R

  abbrev GoodScrutinee : tree.Scrutinee → Type 0
  GoodScrutinee = values.GoodScrutinee K A U R

  abbrev GoodBody : tree.Body → ℕ → Temporary → Type 0
  GoodBody = values.GoodBody K A U R

  abbrev Self : tree.Exp → Type 0
  Self = values.Self K A U R

  abbrev Goes : tree.Exp → Type 0
  Goes = values.Goes K A U R

  abbrev Whole : Typ → tree.Exp → Type 0
  Whole = values.Whole K A U R

  abbrev value : Exp → tree.Exp
  value = values.value K A U R

  abbrev Stays : Exp → Type 0
  Stays = values.Stays K A U R

  abbrev Gives : Typ → Exp → Type 0
  Gives = values.Gives K A U R

  -- ---- missing parts

  -- of what follows `else`, and of the tail of a block
  abbrev pub GivesElse : Typ → Else → Type 0
  GivesElse t named.absent = Unit {0}
  GivesElse t (named.present e) = Whole t (value e) × Stays e

  -- where it is missing, the unit stands for it
  abbrev pub ElseUnit : Else → Typ → Type 0
  ElseUnit named.absent t = t ≡ unit_shape
  ElseUnit (named.present e) t = Unit {0}

  pub otherwise_good : (n : Node) (o : Else) (t : Typ) → ElseUnit o t → GivesElse t o → Whole t (elaborated.otherwise (T K A) n o)
  otherwise_good n named.absent t k h d u = building.unit_good K A U R (elaborated.mark (T K A) n) d (u ∙ k)
  otherwise_good n (named.present e) t k h d u = h.0 d u

  pub otherwise_stays : (n : Node) (o : Else) (t : Typ) → GivesElse t o → else_diverges o ≡ true → (d : Temporary) → GoesOn (order.order (elaborated.otherwise (T K A) n o) d) → ⊥
  otherwise_stays n named.absent t h q d z = absurd (true≢false (sym q))
  otherwise_stays n (named.present e) t h q d z = h.1 q d z

  pub tail_good : (n : Node) (o : Else) (t : Typ) → ElseUnit o t → GivesElse t o → Whole t (elaborated.tail (T K A) n o)
  tail_good n named.absent t k h d u = building.unit_good K A U R (elaborated.marked n.number (Some unit_shape)) d (u ∙ k)
  tail_good n (named.present e) t k h d u = h.0 d u

  pub tail_stays : (n : Node) (o : Else) (t : Typ) → GivesElse t o → else_diverges o ≡ true → (d : Temporary) → GoesOn (order.order (elaborated.tail (T K A) n o) d) → ⊥
  tail_stays n named.absent t h q d z = absurd (true≢false (sym q))
  tail_stays n (named.present e) t h q d z = h.1 q d z

  abbrev pub GivesReturned : Typ → Else → Type 0
  GivesReturned w named.absent = Unit {0}
  GivesReturned w (named.present e) = Gives w e

  -- what a `return` gives is of the type of the result
  pub returned_good : (n : Node) (o : Else) (w : Typ) → U (temporary_at n.number 0) ≡ unit_shape → ElseSited Site.Expects o → operands.Returned K A f o → GivesReturned w o → (d : Temporary) → Good (tree.give (elaborated.no_mark n) (elaborated.returned (T K A) n o)) d
  returned_good n named.absent w e s r g d =
      let m = elaborated.marked n.number (Some unit_shape) in
      building.give_good K A U R (elaborated.no_mark n) (tree.unit m) d (building.unit_good K A U R m (temporary_at n.number 0) e) (λ z. e ∙ sym (result unit_shape r))
  returned_good n (named.present x) w e s r g d =
      building.give_good K A U R (elaborated.no_mark n) (value x) d g.self (λ z. values.valued_wished K A U R w x s.1 g z ∙ sym (result (wished K A (node_of x)) r))

  -- ---- bodies and statements

  pub record GivesBody (w : Typ) (b : Body) : Type 0 where
    pub there : U (temporary_at (body_node b).number 0) ≡ GoesBody w b
    pub value_good : Whole (GoesBody w b) (elaborated.body (T K A) b)
    pub self : Self (elaborated.body (T K A) b)
    pub stays : body_diverges b ≡ true → (d : Temporary) → GoesOn (order.order (elaborated.body (T K A) b) d) → ⊥
    -- as the body of the function
    pub ends : (body_node b).site ≡ Site.Expects → wished K A (body_node b) ≡ R → (d : Temporary) → Good (elaborated.function_body (T K A) b) d

  pub record GivesStatement (a : Statement) : Type 0 where
    pub good : (rest : tree.Body) (n : ℕ) (d : Temporary) → (statement_diverges a ≡ false → GoodBody rest n d) → GoodBody (elaborated.statement (T K A) a rest) n d
    pub stays : statement_diverges a ≡ true → (rest : tree.Body) (n : ℕ) (d : Temporary) → GoesOn (order_body (elaborated.statement (T K A) a rest) n d) → ⊥

  pub record GivesStatements (ss : Statements) : Type 0 where
    pub good : (last : tree.Exp) (n : ℕ) (d : Temporary) → (some_diverges ss ≡ false → Good last d) → GoodBody (elaborated.nested (T K A) ss last) n d
    pub stays : some_diverges ss ≡ true → (last : tree.Exp) (n : ℕ) (d : Temporary) → GoesOn (order_body (elaborated.nested (T K A) ss last) n d) → ⊥

  pub statement_on : (a : Statement) (rest : tree.Body) (n : ℕ) (d : Temporary) → GoesOn (order_body (elaborated.statement (T K A) a rest) n d) → GoesOn (order_body rest n d)
  statement_on (named.declares s p t) rest n d z = declaring_on s.number (elaborated.variables p) n (order_body rest n d) z
  statement_on (named.lets s p t e) rest n d z = binding_on (actions.subject (elaborated.matched (T K A) e (value e))) (bindings [] (elaborated.pattern (T K A) None p)) n (order_body rest n d) (second_on z)
  statement_on (named.evaluates s e b) rest n d z = second_on z

  pub nested_on : (ss : Statements) (last : tree.Exp) (n : ℕ) (d : Temporary) → GoesOn (order_body (elaborated.nested (T K A) ss last) n d) → GoesOn (order.order last d)
  nested_on named.no_statement last n d z = z
  nested_on (named.statement_and a ss) last n d z = nested_on ss last n d (statement_on a (elaborated.nested (T K A) ss last) n d z)

  pub no_statements : GivesStatements named.no_statement
  no_statements = record { good = λ last n d k. k refl; stays = λ q. absurd (true≢false (sym q)) }

  pub statement_more : (a : Statement) (ss : Statements) → GivesStatement a → GivesStatements ss → GivesStatements (named.statement_and a ss)
  statement_more a ss g h = record {
    good = λ last n d k. g.good (elaborated.nested (T K A) ss last) n d (λ p. h.good last n d (λ q. k (or_false (statement_diverges a) (some_diverges ss) p q)));
    stays = λ q last n d z. by last n d z (either_true (statement_diverges a) (some_diverges ss) q);
  }
    where
      by : (last : tree.Exp) (n : ℕ) (d : Temporary) → GoesOn (order_body (elaborated.nested (T K A) (named.statement_and a ss) last) n d) → (statement_diverges a ≡ true) ⊎ (some_diverges ss ≡ true) → ⊥
      by last n d z (inl q) = g.stays q (elaborated.nested (T K A) ss last) n d z
      by last n d z (inr q) = h.stays q last n d (statement_on a (elaborated.nested (T K A) ss last) n d z)

  pub evaluates_good : (s : Node) (e : Exp) (b : Bool) (w : Typ) → Gives w e → GivesStatement (named.evaluates s e b)
  evaluates_good s e b w g = record {
    good = λ rest n d k. building.runs_good K A U R (value e) rest n d g.self (λ z. k (is_false (diverges e) (λ q. g.stays q (temporary_of (value e)) z)));
    stays = λ q rest n d z. g.stays q (temporary_of (value e)) (first_on z);
  }

  pub declares_good : (s : Node) (p : Pattern) (t : Option Written) → GivesStatement (named.declares s p t)
  declares_good s p t = record { good = λ rest n d k. building.declares_good K A U R s.number (elaborated.variables p) rest n d (k refl); stays = λ q. absurd (true≢false (sym q)) }

  -- ---- what is matched

  pub scrutinee_good : (b : Bool) (c : Coercion) (e : Exp) (x : tree.Exp) → Self x → GoodScrutinee (elaborated.matched_as (T K A) b c e x)
  scrutinee_good true elaborated.plain e x h = (tt, (λ t k. absurd k), (λ t k. absurd k))
  scrutinee_good true elaborated.reborrow e x h = h
  scrutinee_good true elaborated.share e x h = h
  scrutinee_good false elaborated.plain e x h = h
  scrutinee_good false elaborated.reborrow e x h = h
  scrutinee_good false elaborated.share e x h = h

  abbrev pub Scrutinee : Exp → tree.Scrutinee
  Scrutinee e = elaborated.matched (T K A) e (value e)

  abbrev pub Subject_of : Exp → actions.Subject
  Subject_of e = actions.subject (elaborated.matched (T K A) e (value e))

  pub matched_good : (w : Typ) (e : Exp) → Gives w e → GoodScrutinee (Scrutinee e)
  matched_good w e g = scrutinee_good (is_place e) (elaborated.coercion_at (T K A) (node_of e)) e (value e) g.self

  pub scrutinee_stays : (b : Bool) (c : Coercion) (e : Exp) (x : tree.Exp) → (b ≡ true → ⊥) → (Goes x → ⊥) → GoesOn (order_scrutinee (elaborated.matched_as (T K A) b c e x)) → ⊥
  scrutinee_stays true c e x p k z = p refl
  scrutinee_stays false elaborated.plain e x p k z = k z
  scrutinee_stays false elaborated.reborrow e x p k z = k z
  scrutinee_stays false elaborated.share e x p k z = k z

  pub matched_stays : (w : Typ) (e : Exp) → Gives w e → diverges e ≡ true → GoesOn (order_scrutinee (Scrutinee e)) → ⊥
  matched_stays w e g q =
      scrutinee_stays (is_place e) (elaborated.coercion_at (T K A) (node_of e)) e (value e) (λ b. not_both (diverges e) q (g.even b)) (g.stays q (temporary_of (value e)))

  pub matched_alive : (w : Typ) (e : Exp) → Gives w e → GoesOn (order_scrutinee (Scrutinee e)) → diverges e ≡ false
  matched_alive w e g z = is_false (diverges e) (λ q. matched_stays w e g q z)

  -- what is matched has this type, a place where it isn't coerced, and a value in its temporary
  pub matched_at : (b : Bool) (c : Coercion) (e : Exp) (x : tree.Exp) (t : Typ) → (b ≡ true → c ≡ elaborated.plain → Reads (tree.under (elaborated.place (T K A) e) []) t) → (Goes x → U (temporary_of x) ≡ t)
      → GoesOn (order_scrutinee (elaborated.matched_as (T K A) b c e x)) → At (actions.subject (elaborated.matched_as (T K A) b c e x)) [] t
  matched_at true elaborated.plain e x t h k z = h refl refl
  matched_at true elaborated.reborrow e x t h k z = ap (λ (u : Typ). Some u) (k z)
  matched_at true elaborated.share e x t h k z = ap (λ (u : Typ). Some u) (k z)
  matched_at false elaborated.plain e x t h k z = ap (λ (u : Typ). Some u) (k z)
  matched_at false elaborated.reborrow e x t h k z = ap (λ (u : Typ). Some u) (k z)
  matched_at false elaborated.share e x t h k z = ap (λ (u : Typ). Some u) (k z)

  pub looked_at : (w : Typ) (e : Exp) (t : Typ) → Gives w e → (is_place e ≡ true → elaborated.coercion_at (T K A) (node_of e) ≡ elaborated.plain → OfNode (node_of e) ≡ t) → (Goes (value e) → U (temporary_of (value e)) ≡ t)
      → GoesOn (order_scrutinee (Scrutinee e)) → At (Subject_of e) [] t
  looked_at w e t g k v =
      matched_at (is_place e) (elaborated.coercion_at (T K A) (node_of e)) e (value e) t
      (λ b c. patterns.reads_under K A U R (elaborated.place (T K A) e) t [] t refl (patterns.reads_as K A U R (elaborated.place (T K A) e) (OfNode (node_of e)) t (k b c) (g.place b))) v

  -- at a place that is no coercion site it has the type of its node
  pub looked_there : (w : Typ) (e : Exp) → (node_of e).site ≡ Site.Scrutinee → Gives w e → GoesOn (order_scrutinee (Scrutinee e)) → At (Subject_of e) [] (OfNode (node_of e))
  looked_there w e s g = looked_at w e (OfNode (node_of e)) g (λ b c. refl) (λ z. values.valued K A U R w e g z ∙ ap (λ (t : Site). at_site t (OfNode (node_of e)) (wished K A (node_of e))) s)

  pub pattern_fine : (w : Typ) (e : Exp) (p : Pattern) → (node_of e).site ≡ Site.Scrutinee → Gives w e → FineWhole (OfNode (node_of e)) p → GoesOn (order_scrutinee (Scrutinee e)) → Fine (Subject_of e) [] (elaborated.pattern (T K A) None p)
  pattern_fine w e p s g k z = k (Subject_of e) (looked_there w e s g z)

  -- ---- two ways

  pub two_stay : (S : actions.Subject) (p : tree.Pattern) (a b : tree.Exp) (d : Temporary) → (GoesOn (order.order a d) → ⊥) → (GoesOn (order.order b d) → ⊥) → GoesOn (order_arms S (tree.arm_and p a (tree.arm_and tree.any b tree.no_arm)) d) → ⊥
  two_stay S p a b d j k z = by (arms_on S p a (tree.arm_and tree.any b tree.no_arm) d z)
    where
      other : GoesOn (order.order b d) ⊎ GoesOn (order_arms S tree.no_arm d) → ⊥
      other (inl y) = k y
      other (inr y) = nowhere_on y

      by : GoesOn (order.order a d) ⊎ GoesOn (order_arms S (tree.arm_and tree.any b tree.no_arm) d) → ⊥
      by (inl y) = j y
      by (inr y) = other (arms_on S tree.any b tree.no_arm d y)

  -- `if`, and the test of a `while`
  pub tests_good : (n : Node) (m : tree.Mark) (c : Exp) (v : Typ) (a b : tree.Exp) (d : Temporary) → Gives v c → (node_of c).site ≡ Site.Value → (never c ≡ false → OfNode (node_of c) ≡ boolean) → Good a d → Good b d
      → Good (elaborated.tests n (value c) m a b) d
  tests_good n m c v a b d g s k x y =
      let p = tree.exactly n.number (tree.truth true) in
      building.choose_good K A U R m (tree.of_value (value c)) (tree.arm_and p a (tree.arm_and tree.any b tree.no_arm)) d g.self (λ z.
      building.two_good K A U R (actions.in_temporary (temporary_of (value c))) p a b d
      (((U (temporary_of (value c)), refl, values.valued_own K A U R v c s g z ∙ k (values.alive K A U R v c g (temporary_of (value c)) z)), tt), tt) x y)

  pub looks_good : (m : tree.Mark) (e : Exp) (v : Typ) (p : Pattern) (a b : tree.Exp) (d : Temporary) → Gives v e → (node_of e).site ≡ Site.Scrutinee → FineWhole (OfNode (node_of e)) p → Good a d → Good b d
      → Good (elaborated.looks m (Scrutinee e) (elaborated.pattern (T K A) None p) a b) d
  looks_good m e v p a b d g s k x y =
      let q = elaborated.pattern (T K A) None p in
      building.choose_good K A U R m (Scrutinee e) (tree.arm_and q a (tree.arm_and tree.any b tree.no_arm)) d (matched_good v e g) (λ z.
      building.two_good K A U R (Subject_of e) q a b d (pattern_fine v e p s g k z) x y)

  -- ---- parts that a value is joined of

  pub whole_as : (t u : Typ) (x : tree.Exp) → t ≡ u → Whole t x → Whole u x
  whole_as t u x e h d z = h d (z ∙ sym e)

  pub part_join : (n m : Node) (vm vn : Bool) (w : Typ) → passed_on m.site ≡ passed_on n.site → Before n.site (wished K A m) (wished K A n) → After n.site vm (own K A m) (own K A n) → (vm ≡ false → vn ≡ false) → W m vm (W n vn w) ≡ W n vn w
  part_join n m vm vn w p b a k = part_fits m.site n.site vm vn (own K A m) (wished K A m) (own K A n) (wished K A n) w p b a k

  pub else_joined : (n : Node) (v : Bool) (w : Typ) (e : Exp) → passed_on (node_of e).site ≡ passed_on n.site → Before n.site (wished K A (node_of e)) (wished K A n) → After n.site (never e) (own K A (node_of e)) (own K A n)
      → (never e ≡ false → v ≡ false) → Gives (W n v w) e → GivesElse (W n v w) (named.present e)
  else_joined n v w e p b a k g = (whole_as (GoesTo (W n v w) e) (W n v w) (value e) (part_join n (node_of e) (never e) v w p b a k) g.value_good, g.stays)

  abbrev pub TailBefore : Node → Else → Type 0
  TailBefore n named.absent = Unit {0}
  TailBefore n (named.present e) = Before n.site (wished K A (node_of e)) (wished K A n)

  abbrev pub TailAfter : Node → Bool → Else → Type 0
  TailAfter n d named.absent = d ≡ false → own K A n ≡ unit_shape
  TailAfter n d (named.present e) = After n.site (never e) (own K A (node_of e)) (own K A n)

  pub tail_before_given : (n : Node) (o : Else) → Wants (TailBefore n o) (rules.tail_before n o)
  tail_before_given n named.absent = none
  tail_before_given n (named.present e) = pieces.before_given K A n n.site (node_of e)

  pub tail_after_given : (n : Node) (d : Bool) (o : Else) → Wants (TailAfter n d o) (rules.tail_after n d o)
  tail_after_given n d named.absent = pieces.nothing_given K A n d
  tail_after_given n d (named.present e) = pieces.after_given K A n n.site (never e) (node_of e)

  pub tail_joined : (n : Node) (d : Bool) (o : Else) (w : Typ) → ElseSited n.site o → TailBefore n o → TailAfter n d o → GivesReturned (W n (named.tail_never d o) w) o → GivesElse (W n (named.tail_never d o) w) o
  tail_joined n d named.absent w h b a g = tt
  tail_joined n d (named.present e) w h b a g = else_joined n (never e) w e (ap passed_on h.1) b a (λ q. q) g

  -- a block without a tail that goes on gives the unit
  pub tail_unit : (n : Node) (d : Bool) (o : Else) (w : Typ) → TailAfter n d o → (named.tail_never d o ≡ false → operands.Same K A n) → d ≡ false → ElseUnit o (W n (named.tail_never d o) w)
  tail_unit n d named.absent w a j q = values.lively K A U R n d w q ∙ (j q ∙ a q)
  tail_unit n d (named.present e) w a j q = tt

  -- the end of the function's body gives the result
  pub given_tail : (n : Node) (d : Bool) (o : Else) (w : Typ) → ElseSited n.site o → n.site ≡ Site.Expects → wished K A n ≡ R → TailBefore n o → U (temporary_at n.number 0) ≡ W n (named.tail_never d o) w → d ≡ false → ElseUnit o (W n (named.tail_never d o) w)
      → GivesReturned (W n (named.tail_never d o) w) o → (k : Temporary) → Good (tree.give (elaborated.no_mark n) (elaborated.tail (T K A) n o)) k
  given_tail n d named.absent w h s r b u q e g k =
      let m = elaborated.marked n.number (Some unit_shape) in
      building.give_good K A U R (elaborated.no_mark n) (tree.unit m) k (building.unit_good K A U R m (temporary_at n.number 0) (u ∙ e)) (λ z. u ∙ (values.lively K A U R n d w q ∙ (values.expected_there K A U R n s ∙ r)))
  given_tail n d (named.present x) w h s r b u q e g k =
      building.give_good K A U R (elaborated.no_mark n) (value x) k g.self
      (λ z. values.valued_wished K A U R (W n (never x) w) x (h.1 ∙ s) g z ∙ (subst (λ (t : Site). Before t (wished K A (node_of x)) (wished K A n)) s b ∙ r))

  abbrev pub BranchBefore : Node → Else → Body → Type 0
  BranchBefore n named.absent b = Unit {0}
  BranchBefore n (named.present e) b = Before n.site (wished K A (body_node b)) (wished K A n)

  abbrev pub BranchAfter : Node → Else → Body → Type 0
  BranchAfter n named.absent b = (body_never b ≡ false → own K A (body_node b) ≡ unit_shape) × Has K A n unit_shape
  BranchAfter n (named.present e) b = After n.site (body_never b) (own K A (body_node b)) (own K A n)

  pub branch_before_given : (n : Node) (o : Else) (b : Body) → Wants (BranchBefore n o b) (rules.branch_before n o b)
  branch_before_given n named.absent b = none
  branch_before_given n (named.present e) b = pieces.before_given K A n n.site (body_node b)

  pub branch_after_given : (n : Node) (o : Else) (b : Body) → Wants (BranchAfter n o b) (rules.branch_after n o b)
  branch_after_given n named.absent b = both (pieces.nothing_given K A (body_node b) (body_never b)) (pieces.unit_given K A n)
  branch_after_given n (named.present e) b = pieces.after_given K A n n.site (body_never b) (body_node b)

  abbrev pub Joins : Node → Else → Type 0
  Joins n named.absent = Unit {0}
  Joins n (named.present e) = NoPlace n.site

  pub joins_given : (n : Node) (o : Else) (v : Bool) → Wants (Joins n o) (rules.if_joins n o v)
  joins_given n named.absent v = none
  joins_given n (named.present e) v = join_asks n v

  pub if_outside : (n : Node) (o : Else) (b : Body) → BranchAfter n o b → Joins n o → NoPlace n.site
  if_outside n named.absent b h g = h.1.outside
  if_outside n (named.present e) b h g = g

  pub if_unit : (n : Node) (o : Else) (b : Body) (w : Typ) → BranchAfter n o b → ElseUnit o (W n (body_never b && else_never o) w)
  if_unit n named.absent b w h = values.lively K A U R n (body_never b && false) w (right_false (body_never b) false refl) ∙ values.made_at K A U R n unit_shape h.1 tt
  if_unit n (named.present e) b w h = tt

  pub branch_joined : (n : Node) (b : Body) (o : Else) (w : Typ) → BodySited (branch_site n.site o) b → BranchBefore n o b → BranchAfter n o b → GivesBody (W n (body_never b && else_never o) w) b
      → Whole (W n (body_never b && else_never o) w) (elaborated.body (T K A) b)
  branch_joined n b named.absent w h p a g =
      let m = body_node b in
      whole_as (GoesBody (W n (body_never b && false) w) b) (W n (body_never b && false) w) (elaborated.body (T K A) b)
      (lone_fits m.site n.site (body_never b) (own K A m) (wished K A m) (own K A n) (wished K A n) w (body_site Site.Value b h) (λ e. a.0 e ∙ sym a.1.same) a.1.stands (subst NotLent (sym a.1.same) tt)) g.value_good
  branch_joined n b (named.present e) w h p a g =
      whole_as (GoesBody (W n (body_never b && never e) w) b) (W n (body_never b && never e) w) (elaborated.body (T K A) b)
      (part_join n (body_node b) (body_never b) (body_never b && never e) w (ap passed_on (body_site (passed_on n.site) b h) ∙ passed_twice n.site) p a (left_false (body_never b) (never e))) g.value_good

  pub record Branches (n : Node) (b : Body) (o : Else) (t : Typ) : Type 0 where
    pub first : Whole t (elaborated.body (T K A) b)
    pub second : Whole t (elaborated.otherwise (T K A) n o)
    pub outside : NoPlace n.site
    pub both_stay : (body_diverges b && else_diverges o) ≡ true → (d : Temporary) → (GoesOn (order.order (elaborated.body (T K A) b) d) → ⊥) × (GoesOn (order.order (elaborated.otherwise (T K A) n o) d) → ⊥)

  pub branches : (n : Node) (b : Body) (o : Else) (w : Typ) → BodySited (branch_site n.site o) b → Wants (GivesBody (W n (body_never b && else_never o) w) b) (rules.of_body f b) → Wants (GivesElse (W n (body_never b && else_never o) w) o) (rules.of_else f n o)
      → Wants (Branches n b o (W n (body_never b && else_never o) w)) (rules.of_branches f n (b, o))
  branches n b o w h x y =
      let t = W n (body_never b && else_never o) w in
      asks_map (λ g. record {
        first = branch_joined n b o w h g.0 g.1.1.0 g.1.0;
        second = otherwise_good n o t (if_unit n o b w g.1.1.0) g.1.1.1.0;
        outside = if_outside n o b g.1.1.0 g.1.1.1.1;
        both_stay = λ q d. let r = both_are (body_diverges b) (else_diverges o) q in (g.1.0.stays r.0 d, otherwise_stays n o t g.1.1.1.0 r.1 d);
      })
      (both (branch_before_given n o b) (both x (both (branch_after_given n o b) (both y (joins_given n o (body_never b && else_never o))))))

  -- ---- `let`s

  -- what an initialiser is expected to be
  abbrev pub Expects : Option Written → Exp → Type 0
  Expects None e = Unit {0}
  Expects (Some t) e = own K A (written_node t) ≡ wished K A (node_of e)

  pub typed_before_asks : (t : Option Written) (e : Exp) → Wants (Expects t e) (rules.typed_before t e)
  typed_before_asks None e = none
  typed_before_asks (Some t) e = then_second (whole_type_u t) (asks_map (λ h. some_same _ _ h.0) (one_asked (node_of e) _ _ _))

  -- the pattern, where what is matched goes on
  abbrev pub Matched : Exp → Pattern → Type 0
  Matched e p = GoesOn (order_scrutinee (Scrutinee e)) → Fine (Subject_of e) [] (elaborated.pattern (T K A) None p)

  pub initialised_by_asks : (w : Typ) (v : Bool) (p : Pattern) (e : Exp) → never e ≡ v → (node_of e).site ≡ Site.Scrutinee → Every F (given_types.pattern_entries (T K A) V p) → Wants (Gives w e → Matched e p) (rules.initialised_by v p (rules.matched e) (node_of e))
  initialised_by_asks w true p e q s u =
      asks_map (λ _ g z. absurd (not_both (never e) q (stays_alive e (matched_alive w e g z)))) (one_variable_u (pattern_node p) (whole_binding p))
  initialised_by_asks w false p e q s u = asks_map (λ k g. pattern_fine w e p s g k) (patterns.whole_asks K A U R (rules.matched e) _ p u)

  pub plain_is : (n : Node) (t : Typ) → n.site ≡ Site.Initialises → elaborated.coercion_at (T K A) n ≡ elaborated.plain → Stands K A n → t ≡ wished K A n → own K A n ≡ t
  plain_is n t s c h x =
      let q : own K A n ≡ at_site n.site (own K A n) (wished K A n) = subst (λ (k : Coercion). Passing k (own K A n) (at_site n.site (own K A n) (wished K A n))) c (passing K A n h) in
      q ∙ (ap (λ (k : Site). at_site k (own K A n) (wished K A n)) s ∙ sym x)

  pub initialised_asks : (w : Typ) (p : Pattern) (t : Option Written) (e : Exp) → (node_of e).site ≡ initialiser_site t → Every F (given_types.pattern_entries (T K A) V p) → Wants (Expects t e → Gives w e → Matched e p) (rules.initialised p t e)
  initialised_asks w p None e s u = asks_map (λ k x g. k g) (initialised_by_asks w (never e) p e refl s u)
  initialised_asks w p (Some t) e s u =
      asks_map (λ k x g z. k (Subject_of e) (looked_at w e (own K A (written_node t)) g (λ b c. plain_is (node_of e) (own K A (written_node t)) s c (g.stands b) x)
      (λ y. values.valued K A U R w e g y ∙ (ap (λ (j : Site). at_site j (OfNode (node_of e)) (wished K A (node_of e))) s ∙ sym x)) z))
      (patterns.whole_asks K A U R (rules.matched e) _ p u)

  pub lets_good : (n : Node) (p : Pattern) (t : Option Written) (e : Exp) (w : Typ) → Gives w e → Matched e p → GivesStatement (named.lets n p t e)
  lets_good n p t e w g k = record {
    good = λ rest m d h. building.lets_good K A U R n.number (elaborated.pattern (T K A) None p) (Scrutinee e) rest m d (matched_good w e g) (λ z. (k z, h (matched_alive w e g z)));
    stays = λ q rest m d z. matched_stays w e g q (first_on z);
  }

  pub declared_u : (p : Pattern) (t : Option Written) → Every F (given_types.pattern_entries (T K A) V p) → Wants (Unit {0}) (rules.declared p t)
  declared_u p None u = one_variable_u (pattern_node p) (whole_binding p)
  declared_u p (Some t) u = then_u (whole_type_u t) (patterns.whole_asks K A U R rules.a_value _ p u)

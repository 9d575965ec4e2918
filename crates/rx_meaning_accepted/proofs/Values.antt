-- Of an elaborated tree whose function meets what the rules of types ask: what its values, operands and lists of values give, by the types of
-- the temporaries that they go to.
use Rattle.std.proofs.Common.{◌≡◌, ◌⊎◌, inl, inr, ℕ, suc, ◌+◌, arith, Bool, true, false, not, ◌&&◌, ◌||◌, List, [], ◌∷◌, ◌++◌, length, map, Option, Some, None, slice_get, refl, sym, ap, ◌∙◌, subst}
use Rattle.std.proofs.lemmas.Bool.{true≢false}
use Rattle.std.proofs.lemmas.List.{length-map}
use Rattle.rx_core.specs.declared.types.Kind.{Kind}
use Rattle.rx_core.specs.declared.types.Step.{Step}
use Rattle.rx_core.specs.declared.types.Step.TheVariants as step
use Rattle.rx_tree.specs.declared.tree.BinaryOp.{BinaryOp}
use Rattle.rx_tree.specs.declared.tree.UpdateOp.{UpdateOp}
use Rattle.rx_tree.specs.Lists.{Every}
use Rattle.rx_typed.specs.declared.nodes.Node.{Node}
use Rattle.rx_typed.specs.declared.nodes.Site.{Site}
use Rattle.rx_typed.specs.declared.nodes.Use.{Use}
use Rattle.rx_typed.specs.Types as types
use Rattle.rx_typed.specs.Types.{Typ, integer, boolean, tuple_of, reference, unit_shape, shapes_of, peeled, result_declared, parameters_declared, FieldDeclared, VariantDeclared, struct_declared, enum_declared, fields_declared, variant_parts}
use Rattle.rx_typed.specs.Named as named
use Rattle.rx_typed.specs.Named.{Written, Pattern, Exp, Exps, Else, Fields, Arms, Body, Statement, Statements, Parameter, Function, written_node, pattern_node, whole_binding, node_of, body_node, is_place, is_variable, root, never, body_never, else_never, all_never, diverges, any_diverges, else_diverges, any_field_diverges, all_diverge, body_diverges, statement_diverges, some_diverges, is_strict}
use Rattle.rx_typed.specs.TypedNumbers.{optional_nodes}
use Rattle.rx_typed.specs.Naming.{passed_on, initialiser_site}
use Rattle.rx_typed.specs.Elaborated as elaborated
use Rattle.rx_typed.specs.Elaborated.{Coercion}
use Rattle.rx_typed.specs.Tree as tree
use Rattle.rx_typed.specs.Tree.{Temporary, Place, Making, mark_of, temporary_of, temporary_at, temporaries_of, fields_of}
use Rattle.rx_lower_walks.specs.Matching.{bindings}
use Rattle.rx_lower_walks.specs.Actions as actions
use Rattle.rx_lower_walks.specs.Orders as order
use Rattle.rx_lower_walks.specs.Orders.{Order, order_all, order_scrutinee, order_arms, order_body, order_function, beginning}
use Rattle.rx_typeck_solver.specs.declared.facts.Subject.{Subject}
use Rattle.rx_typeck_solver.specs.Facts.{MeetsEach, Assignment, KnownItems, types_at, names_of}
use Rattle.rx_typeck_typed.specs.Asking.{Asking, ask, expected}
use Rattle.rx_typeck_typed.specs.Demands as rules
use Rattle.rx_meaning_keeping.specs.Units.{GoesOn}
use Rattle.rx_meaning_typed.specs.TypedActs.{Typing, typ_along, types_of_fields, shape_at, Fill, no_field, field_and, Operates, Makes, constants, negates, inverts, operates, tuples, structs, variants, constant_typ}
use Rattle.rx_repair.specs.TemporaryTypes as given_types
use Rattle.rx_repair.specs.TemporaryTypes.{Entry, silent, at_site, own_or}
use Rattle.rx_repair.proofs.Sites.{Sited, EachSited, ElseSited, FieldsSited, ArmsSited, BodySited, StatementSited, StatementsSited, branch_site}
use Rattle.rx_repair.proofs.Asking.{Asks, NoPlace, asks_map, none, both, then_first, then_second, then_u, one_asked, quiet, refused, whole_type_u, never_asks, join_asks, not_never_u, one_variable_u, evaluated_u, each_after_u, parameters_u, result_u, never_given_u, when_u, loop_asks}
use Rattle.rx_repair.proofs.Places.{some_same}
use Rattle.rx_repair.proofs.Settling.{NotLent, Passing, own_settled, Before, After, part_fits, lone_fits, passed_twice}
use Rattle.rx_repair.proofs.Pieces as pieces
use Rattle.rx_repair.proofs.Pieces.{T, own, wished, Stands, passing, Has}
use Rattle.rx_repair.proofs.Patterns.{every_front, every_behind}
use Rattle.rx_repair.proofs.Acting.{place_stays, body_site}
use Rattle.rx_meaning_accepted.specs.Fitting.{IsStruct, IsVariant, BodyBreaksNot, BreaksNot, Fits, EachFits, ElseFits, FieldsFit, ArmsFit, BodyFits, StatementFits, StatementsFit}
use Rattle.rx_meaning_accepted.proofs.Walking.{first_on, second_on, nowhere_on, leave_on, binding_on, declaring_on, arms_on, loop_stays, test_stays}
use Rattle.rx_meaning_accepted.proofs.Steps.{listed_at, part_is, field_is, field_at, pointee_is, peeled_step}
use Rattle.rx_meaning_accepted.proofs.Going.{or_left, or_right, both_true, never_diverges, value_avoids, body_avoids}
use Rattle.rx_meaning_accepted.proofs.Operands as operands
use Rattle.rx_meaning_accepted.proofs.Operands.{plain_shown}
use Rattle.rx_meaning_accepted.proofs.Lists as lists
use Rattle.rx_meaning_accepted.proofs.Patterns as patterns
use Rattle.rx_meaning_accepted.proofs.Building as building

-- ---- truth values

pub is_false : (b : Bool) → (b ≡ true → ⊥) → b ≡ false
is_false true f = absurd (f refl)
is_false false f = refl

pub not_both : (b : Bool) → b ≡ true → b ≡ false → ⊥
not_both true p q = true≢false q
not_both false p q = cc

pub either_true : (a b : Bool) → (a || b) ≡ true → (a ≡ true) ⊎ (b ≡ true)
either_true true b e = inl refl
either_true false b e = inr e

pub both_are : (a b : Bool) → (a && b) ≡ true → (a ≡ true) × (b ≡ true)
both_are true true e = (refl, refl)
both_are true false e = absurd (cc)
both_are false b e = absurd (cc)

pub or_false : (a b : Bool) → a ≡ false → b ≡ false → (a || b) ≡ false
or_false true b p q = absurd (cc)
or_false false b p q = q

pub left_false : (a b : Bool) → a ≡ false → (a && b) ≡ false
left_false a b e = ap (λ (x : Bool). x && b) e

pub right_false : (a b : Bool) → b ≡ false → (a && b) ≡ false
right_false true b e = e
right_false false b e = refl

none_before : (n : ℕ) → n ≡ 0 + n
none_before n = omega arith

-- what doesn't diverge isn't Never
pub stays_alive : (e : Exp) → diverges e ≡ false → never e ≡ false
stays_alive e h = is_false (never e) (λ q. not_both (diverges e) (never_diverges e q) h)

module _ (K : KnownItems) (A : Assignment) (U : Temporary → Typ) (R : Typ) where
  abbrev pub V : ℕ → Typ
  V = patterns.V K A U R

  abbrev pub Wants : Type 0 → Asking → Type 0
  Wants S a = Asks K A S a

  abbrev pub OfNode : Node → Typ
  OfNode n = own K A n

  abbrev pub AtNode : Node → Typ
  AtNode n = at_site n.site (own K A n) (wished K A n)

  -- the type that an expression's value gets
  abbrev pub W : Node → Bool → Typ → Typ
  W n v w = given_types.given (T K A) V n v w

  abbrev pub GoesTo : Typ → Exp → Typ
  GoesTo w e = W (node_of e) (never e) w

  abbrev pub GoesBody : Typ → Body → Typ
  GoesBody w b = W (body_node b) (body_never b) w

  abbrev pub Reads : Place → Typ → Type 0
  Reads = patterns.Reads K A U R

  abbrev pub F : Entry → Type 0
  F = patterns.F K A U R

  abbrev pub Fine : actions.Subject → List Step → tree.Pattern → Type 0
  Fine = patterns.Fine K A U R

  abbrev pub At : actions.Subject → List Step → Typ → Type 0
  At = patterns.At K A U R

  abbrev pub FineWhole : Typ → Pattern → Type 0
  FineWhole = patterns.FineWhole K A U R

  abbrev pub Good : tree.Exp → Temporary → Type 0
  Good = building.Good K A U R

  abbrev pub GoodAll : tree.Operands → Type 0
  GoodAll = building.GoodAll K A U R

  abbrev pub GoodScrutinee : tree.Scrutinee → Type 0
  GoodScrutinee = building.GoodScrutinee K A U R

  abbrev pub GoodArms : actions.Subject → tree.Arms → Temporary → Type 0
  GoodArms = building.GoodArms K A U R

  abbrev pub GoodBody : tree.Body → ℕ → Temporary → Type 0
  GoodBody = building.GoodBody K A U R

  abbrev pub Self : tree.Exp → Type 0
  Self e = Good e (temporary_of e)

  abbrev pub Goes : tree.Exp → Type 0
  Goes e = GoesOn (order.order e (temporary_of e))

  -- wherever its value goes, if that is of this type
  abbrev pub Whole : Typ → tree.Exp → Type 0
  Whole t e = (d : Temporary) → U d ≡ t → Good e d

  abbrev pub value : Exp → tree.Exp
  value e = elaborated.value (T K A) e

  -- ---- values where they stand

  pub reads : (n : Node) (c : Coercion) (p : Place) (w : Typ) → Passing c (OfNode n) w → Reads p (OfNode n) → Whole w (elaborated.read_as (T K A) n c p)
  reads n elaborated.plain p w c h d u = building.read_good K A U R (elaborated.mark (T K A) n) (not (types.copies K.items (OfNode n))) p d (patterns.reads_as K A U R p (OfNode n) (U d) (c ∙ sym u) h)
  reads n elaborated.reborrow p w c h d u = building.borrow_good K A U R (elaborated.mark (T K A) n) true (tree.under p (step.Deref true ∷ [])) d c.0 (through p c.0 (patterns.reads_as K A U R p (OfNode n) (reference true c.0) c.1 h)) (u ∙ c.2)
    where
      through : (p : Place) (t : Typ) → Reads p (reference true t) → Reads (tree.under p (step.Deref true ∷ [])) t
      through p t h = patterns.reads_under K A U R p (reference true t) (step.Deref true ∷ []) t refl h
  reads n elaborated.share p w c h d u = building.borrow_good K A U R (elaborated.shared_mark (T K A) n) false (tree.under p (step.Deref true ∷ [])) d c.0 (through p c.0 (patterns.reads_as K A U R p (OfNode n) (reference true c.0) c.1 h)) (u ∙ c.2)
    where
      through : (p : Place) (t : Typ) → Reads p (reference true t) → Reads (tree.under p (step.Deref true ∷ [])) t
      through p t h = patterns.reads_under K A U R p (reference true t) (step.Deref true ∷ []) t refl h

  pub read_node : (n : Node) (c : Coercion) (p : Place) → (mark_of (elaborated.read_as (T K A) n c p)).node ≡ n.number
  read_node n elaborated.plain p = refl
  read_node n elaborated.reborrow p = refl
  read_node n elaborated.share p = refl

  pub passes_on : (n : Node) (c : Coercion) (x : tree.Exp) (w : Typ) → Passing c (OfNode n) w → U (temporary_at n.number 1) ≡ OfNode n → Whole (OfNode n) x → Whole w (elaborated.passed_as (T K A) n c x)
  passes_on n elaborated.plain x w c s h d u = h d (u ∙ sym c)
  passes_on n elaborated.reborrow x w c s h d u = h d (u ∙ (c.2 ∙ sym c.1))
  passes_on n elaborated.share x w c s h d u = building.share_good K A U R (elaborated.shared_mark (T K A) n) x d c.0 (s ∙ c.1) (u ∙ c.2) (h (temporary_at n.number 1) s)

  pub passed_node : (n : Node) (c : Coercion) (x : tree.Exp) → (mark_of x).node ≡ n.number → (mark_of (elaborated.passed_as (T K A) n c x)).node ≡ n.number
  passed_node n elaborated.plain x h = h
  passed_node n elaborated.reborrow x h = h
  passed_node n elaborated.share x h = refl

  -- where what is passed on goes on, the value does
  pub passed_on_goes : (n : Node) (c : Coercion) (x : tree.Exp) (d : Temporary) → GoesOn (order.order (elaborated.passed_as (T K A) n c x) d) → (k : Temporary) × GoesOn (order.order x k)
  passed_on_goes n elaborated.plain x d g = (d, g)
  passed_on_goes n elaborated.reborrow x d g = (d, g)
  passed_on_goes n elaborated.share x d g = (temporary_at n.number 1, first_on g)

  pub operated_node : (n : Node) (o : BinaryOp) (a b : tree.Exp) → (mark_of (elaborated.operated (T K A) n o a b)).node ≡ n.number
  operated_node n BinaryOp.And a b = refl
  operated_node n BinaryOp.Or a b = refl
  operated_node n BinaryOp.Eq a b = refl
  operated_node n BinaryOp.Ne a b = refl
  operated_node n BinaryOp.Lt a b = refl
  operated_node n BinaryOp.Le a b = refl
  operated_node n BinaryOp.Gt a b = refl
  operated_node n BinaryOp.Ge a b = refl
  operated_node n BinaryOp.Add a b = refl
  operated_node n BinaryOp.Sub a b = refl
  operated_node n BinaryOp.Mul a b = refl
  operated_node n BinaryOp.Div a b = refl
  operated_node n BinaryOp.Rem a b = refl

  pub tuple_node : (n : Node) (es : tree.Operands) → (mark_of (elaborated.tuple_of (T K A) n es)).node ≡ n.number
  tuple_node n tree.no_operand = refl
  tuple_node n (tree.operand_and k e es) = refl

  -- ---- what expressions give

  -- it doesn't go on where it diverges by its syntax
  abbrev pub Stays : Exp → Type 0
  Stays e = diverges e ≡ true → (d : Temporary) → GoesOn (order.order (value e) d) → ⊥

  pub record Gives (w : Typ) (e : Exp) : Type 0 where
    pub placed : NoPlace (node_of e).site ⊎ (is_place e ≡ true)
    pub place : is_place e ≡ true → Reads (elaborated.place (T K A) e) (OfNode (node_of e))
    pub stands : is_place e ≡ true → Stands K A (node_of e)
    -- a place doesn't diverge
    pub even : is_place e ≡ true → diverges e ≡ false
    pub stays : Stays e
    pub there : Goes (value e) → U (temporary_of (value e)) ≡ GoesTo w e
    pub value_good : Whole (GoesTo w e) (value e)
    pub self : Self (value e)

  -- an expression that goes on is not Never, and its value is of the type that its place gets
  pub alive : (w : Typ) (e : Exp) → Gives w e → (d : Temporary) → GoesOn (order.order (value e) d) → never e ≡ false
  alive w e g d z = stays_alive e (is_false (diverges e) (λ q. g.stays q d z))

  pub lively : (n : Node) (v : Bool) (w : Typ) → v ≡ false → W n v w ≡ AtNode n
  lively n v w q = ap (λ (b : Bool). W n b w) q

  pub valued : (w : Typ) (e : Exp) → Gives w e → Goes (value e) → U (temporary_of (value e)) ≡ AtNode (node_of e)
  valued w e g z = g.there z ∙ lively (node_of e) (never e) w (alive w e g (temporary_of (value e)) z)

  -- at a place that is no coercion site, and at one
  pub valued_own : (w : Typ) (e : Exp) → (node_of e).site ≡ Site.Value → Gives w e → Goes (value e) → U (temporary_of (value e)) ≡ OfNode (node_of e)
  valued_own w e s g z = valued w e g z ∙ ap (λ (t : Site). at_site t (OfNode (node_of e)) (wished K A (node_of e))) s

  pub valued_wished : (w : Typ) (e : Exp) → (node_of e).site ≡ Site.Expects → Gives w e → Goes (value e) → U (temporary_of (value e)) ≡ wished K A (node_of e)
  valued_wished w e s g z = valued w e g z ∙ ap (λ (t : Site). at_site t (OfNode (node_of e)) (wished K A (node_of e))) s

  pub node_typ : (x : tree.Exp) (k : ℕ) (t : Typ) → (mark_of x).node ≡ k → U (temporary_at k 0) ≡ t → U (temporary_of x) ≡ t
  node_typ x k t m u = ap (λ (j : ℕ). U (temporary_at j 0)) m ∙ u

  -- one whose value goes to a temporary of this node
  pub a_whole : (w : Typ) (e : Exp) (k : ℕ) → is_place e ≡ false → NoPlace (node_of e).site → (mark_of (value e)).node ≡ k → U (temporary_at k 0) ≡ GoesTo w e → Stays e → Whole (GoesTo w e) (value e) → Gives w e
  a_whole w e k is f m u s h = record {
    placed = inl f;
    place = λ q. absurd (true≢false (sym q ∙ is));
    stands = λ q. absurd (true≢false (sym q ∙ is));
    even = λ q. absurd (true≢false (sym q ∙ is));
    stays = s;
    there = λ z. node_typ (value e) k (GoesTo w e) m u;
    value_good = h;
    self = h (temporary_of (value e)) (node_typ (value e) k (GoesTo w e) m u);
  }

  -- one that has its node's temporary
  pub at_node : (w : Typ) (e : Exp) → is_place e ≡ false → NoPlace (node_of e).site → (mark_of (value e)).node ≡ (node_of e).number → U (temporary_at (node_of e).number 0) ≡ GoesTo w e → Stays e
      → Whole (GoesTo w e) (value e) → Gives w e
  at_node w e is f m u s h = a_whole w e (node_of e).number is f m u s h

  -- one that leaves
  pub a_jump : (w : Typ) (e : Exp) → is_place e ≡ false → NoPlace (node_of e).site → ((d : Temporary) → GoesOn (order.order (value e) d) → ⊥) → ((d : Temporary) → Good (value e) d) → Gives w e
  a_jump w e is f s h = record {
    placed = inl f;
    place = λ q. absurd (true≢false (sym q ∙ is));
    stands = λ q. absurd (true≢false (sym q ∙ is));
    even = λ q. absurd (true≢false (sym q ∙ is));
    stays = λ q. s;
    there = λ z. absurd (s (temporary_of (value e)) z);
    value_good = λ d u. h d;
    self = h (temporary_of (value e));
  }

  pub a_place : (w : Typ) (e : Exp) (n : Node) → n ≡ node_of e → is_place e ≡ true → value e ≡ elaborated.place_value (T K A) n (elaborated.place (T K A) e) → GoesTo w e ≡ AtNode n → U (temporary_at n.number 0) ≡ AtNode n
      → Reads (elaborated.place (T K A) e) (OfNode n) → Stands K A n → diverges e ≡ false → Gives w e
  a_place w e n i is same goes u h f k =
      let p = elaborated.place (T K A) e in let c = elaborated.coercion_at (T K A) n in
      let v : Whole (AtNode n) (elaborated.place_value (T K A) n p) = reads n c p (AtNode n) (passing K A n f) h in
      let t : U (temporary_of (elaborated.place_value (T K A) n p)) ≡ AtNode n = node_typ (elaborated.place_value (T K A) n p) n.number (AtNode n) (read_node n c p) u in
      record {
        placed = inr is;
        place = λ q. subst (λ (m : Node). Reads p (OfNode m)) i h;
        stands = λ q. subst (λ (m : Node). Stands K A m) i f;
        even = λ q. k;
        stays = λ q. absurd (not_both (diverges e) q k);
        there = λ z. subst (λ (x : tree.Exp). U (temporary_of x) ≡ GoesTo w e) (sym same) (t ∙ sym goes);
        value_good = subst (λ (x : tree.Exp). Whole (GoesTo w e) x) (sym same) (λ d z. v d (z ∙ goes));
        self = subst (λ (x : tree.Exp). Self x) (sym same) (v (temporary_of (elaborated.place_value (T K A) n p)) t);
      }

  -- where a place is wanted
  pub placed_is : (w : Typ) (e : Exp) → (node_of e).site ≡ Site.Place → Gives w e → is_place e ≡ true
  placed_is w e p g = by g.placed
    where
      by : NoPlace (node_of e).site ⊎ (is_place e ≡ true) → is_place e ≡ true
      by (inl f) = absurd (f p)
      by (inr q) = q

  pub root_of : (w : Typ) (e : Exp) → (node_of e).site ≡ Site.Place → Gives w e → Reads (elaborated.place (T K A) e) (OfNode (node_of e))
  root_of w e p g = g.place (placed_is w e p g)

  pub even_of : (w : Typ) (e : Exp) → (node_of e).site ≡ Site.Place → Gives w e → diverges e ≡ false
  even_of w e p g = g.even (placed_is w e p g)

  -- ---- what stays where a part does

  pub no_stay : (e : Exp) → diverges e ≡ false → Stays e
  no_stay e k q = absurd (not_both (diverges e) q k)

  pub operand_stays : (e x : Exp) → Stays e → diverges x ≡ diverges e → ((d : Temporary) → GoesOn (order.order (value x) d) → Goes (value e)) → Stays x
  operand_stays e x s k f q d z = s (sym k ∙ q) (temporary_of (value e)) (f d z)

  -- behind a place
  pub behind_place : (p e : Exp) → diverges p ≡ false → (diverges p || diverges e) ≡ diverges e
  behind_place p e k = ap (λ (b : Bool). b || diverges e) k

  -- ---- what is made

  pub made_at : (n : Node) (t : Typ) → Has K A n t → NotLent t → AtNode n ≡ t
  made_at n t h l = sym (own_settled n.site (own K A n) (wished K A n) h.stands (subst NotLent (sym h.same) l)) ∙ h.same

  pub plain_lent : (t : Typ) → operands.PlainTyp t → NotLent t
  plain_lent _ (operands.a_number k) = tt
  plain_lent _ operands.a_truth = tt

  pub one_made : (w : Making) (t : Typ) (u v : Typ) → v ≡ t → u ≡ t → Makes K.items w (0 ∷ []) (t ∷ []) t → Makes K.items w (0 ∷ []) (v ∷ []) u
  one_made w t u v p q h = subst (λ z. Makes K.items w (0 ∷ []) (z ∷ []) u) (sym p) (subst (λ z. Makes K.items w (0 ∷ []) (t ∷ []) z) (sym q) h)

  -- one operand, of its own type
  pub one_good : (n : Node) (w : Making) (e : Exp) (t : Typ) (v : Typ) → Gives v e → (node_of e).site ≡ Site.Value → (never e ≡ false → OfNode (node_of e) ≡ t) → AtNode n ≡ t → Makes K.items w (0 ∷ []) (t ∷ []) t
      → Whole (AtNode n) (tree.build (elaborated.mark (T K A) n) w (elaborated.one_operand (value e)))
  one_good n w e t v g s f k h d u =
      building.build_good K A U R (elaborated.mark (T K A) n) w (elaborated.one_operand (value e)) d (building.operand_good K A U R 0 (value e) tree.no_operand g.self (building.no_operand_good K A U R))
      (λ z. let y = first_on z in one_made w t (U d) (U (temporary_of (value e))) (valued_own v e s g y ∙ f (alive v e g (temporary_of (value e)) y)) (u ∙ k) h)

  pub two_made : (o : BinaryOp) (t u r t' u' r' : Typ) → t ≡ t' → u ≡ u' → r ≡ r' → Operates o t' u' r' → Makes K.items (tree.operation o) (0 ∷ 1 ∷ []) (t ∷ u ∷ []) r
  two_made o t u r t' u' r' p q k h = operates (subst (λ z. Operates o z u r) (sym p) (subst (λ z. Operates o t' z r) (sym q) (subst (λ z. Operates o t' u' z) (sym k) h)))

  pub two_good : (n : Node) (o : BinaryOp) (a b : Exp) (v w : Typ) → Gives v a → Gives w b → (node_of a).site ≡ Site.Value → (node_of b).site ≡ Site.Value → operands.Operated K A o n (node_of a) (never a) (node_of b) (never b)
      → Whole (AtNode n) (tree.build (elaborated.mark (T K A) n) (tree.operation o) (tree.operand_and 0 (value a) (tree.operand_and 1 (value b) tree.no_operand)))
  two_good n o a b v w g h s t x d u =
      building.build_good K A U R (elaborated.mark (T K A) n) (tree.operation o) (tree.operand_and 0 (value a) (tree.operand_and 1 (value b) tree.no_operand)) d
      (building.operand_good K A U R 0 (value a) (tree.operand_and 1 (value b) tree.no_operand) g.self (building.operand_good K A U R 1 (value b) tree.no_operand h.self (building.no_operand_good K A U R)))
      (λ z. let y1 = first_on z in let y2 = first_on (second_on z) in
      two_made o (U (temporary_of (value a))) (U (temporary_of (value b))) (U d) (OfNode (node_of a)) (OfNode (node_of b)) x.made (valued_own v a s g y1) (valued_own w b t h y2) (u ∙ made_at n x.made x.has (plain_lent x.made x.plain))
      (x.operates (alive v a g (temporary_of (value a)) y1) (alive w b h (temporary_of (value b)) y2)))

  pub lazy_good : (n : Node) (k : Bool) (a b : Exp) (v w : Typ) → Gives v a → Gives w b → (node_of a).site ≡ Site.Value → (node_of b).site ≡ Site.Value → operands.Joined K A n (node_of a) (never a) (node_of b) (never b)
      → Whole (AtNode n) (tree.lazily (elaborated.mark (T K A) n) k (value a) (value b))
  lazy_good n k a b v w g h s t x d u =
      building.lazily_good K A U R (elaborated.mark (T K A) n) k (value a) (value b) d g.self h.self
      (λ z. valued_own v a s g z ∙ x.left (alive v a g (temporary_of (value a)) z)) (λ z. valued_own w b t h z ∙ x.right (alive w b h (temporary_of (value b)) z)) (u ∙ made_at n boolean x.has tt)

  -- of an operator: where it stands, what it gives, and that it stays where an operand does
  pub record OperatorGood (n : Node) (o : BinaryOp) (a b : Exp) : Type 0 where
    pub outside : NoPlace n.site
    pub whole : Whole (AtNode n) (elaborated.operated (T K A) n o (value a) (value b))
    pub stays : (diverges a || (is_strict o && diverges b)) ≡ true → (d : Temporary) → GoesOn (order.order (elaborated.operated (T K A) n o (value a) (value b)) d) → ⊥

  pub strict_operates : (n : Node) (o : BinaryOp) (a b : Exp) (v w : Typ) → Gives v a → Gives w b → (node_of a).site ≡ Site.Value → (node_of b).site ≡ Site.Value → operands.Operated K A o n (node_of a) (never a) (node_of b) (never b)
      → elaborated.operated (T K A) n o (value a) (value b) ≡ tree.build (elaborated.mark (T K A) n) (tree.operation o) (tree.operand_and 0 (value a) (tree.operand_and 1 (value b) tree.no_operand)) → is_strict o ≡ true → OperatorGood n o a b
  strict_operates n o a b v w g h s t x e k = record {
    outside = x.outside;
    whole = subst (λ (y : tree.Exp). Whole (AtNode n) y) (sym e) (two_good n o a b v w g h s t x);
    stays = λ q d z. by (subst (λ (y : tree.Exp). GoesOn (order.order y d)) e z) (either_true (diverges a) (diverges b) (sym (ap (λ (c : Bool). diverges a || (c && diverges b)) k) ∙ q));
  }
    where
      by : {d : Temporary} → GoesOn (order.order (tree.build (elaborated.mark (T K A) n) (tree.operation o) (tree.operand_and 0 (value a) (tree.operand_and 1 (value b) tree.no_operand))) d)
          → (diverges a ≡ true) ⊎ (diverges b ≡ true) → ⊥
      by z (inl q) = g.stays q (temporary_of (value a)) (first_on (first_on z))
      by z (inr q) = h.stays q (temporary_of (value b)) (first_on (second_on (first_on z)))

  pub lazy_operates : (n : Node) (o : BinaryOp) (j : Bool) (a b : Exp) (v w : Typ) → Gives v a → Gives w b → (node_of a).site ≡ Site.Value → (node_of b).site ≡ Site.Value → operands.Joined K A n (node_of a) (never a) (node_of b) (never b)
      → elaborated.operated (T K A) n o (value a) (value b) ≡ tree.lazily (elaborated.mark (T K A) n) j (value a) (value b) → is_strict o ≡ false → OperatorGood n o a b
  lazy_operates n o j a b v w g h s t x e k = record {
    outside = x.has.outside;
    whole = subst (λ (y : tree.Exp). Whole (AtNode n) y) (sym e) (lazy_good n j a b v w g h s t x);
    stays = λ q d z. by (subst (λ (y : tree.Exp). GoesOn (order.order y d)) e z) (either_true (diverges a) false (sym (ap (λ (c : Bool). diverges a || (c && diverges b)) k) ∙ q));
  }
    where
      by : {d : Temporary} → GoesOn (order.order (tree.lazily (elaborated.mark (T K A) n) j (value a) (value b)) d) → (diverges a ≡ true) ⊎ (false ≡ true) → ⊥
      by z (inl q) = g.stays q (temporary_of (value a)) (first_on z)
      by z (inr q) = absurd (true≢false (sym q))

  pub operating : (n : Node) (o : BinaryOp) (a b : Exp) (v w : Typ) → Gives v a → Gives w b → (node_of a).site ≡ Site.Value → (node_of b).site ≡ Site.Value → operands.OfOperator K A o n (node_of a) (never a) (node_of b) (never b) → OperatorGood n o a b
  operating n BinaryOp.And a b v w g h s t x = lazy_operates n BinaryOp.And true a b v w g h s t x refl refl
  operating n BinaryOp.Or a b v w g h s t x = lazy_operates n BinaryOp.Or false a b v w g h s t x refl refl
  operating n BinaryOp.Eq a b v w g h s t x = strict_operates n BinaryOp.Eq a b v w g h s t x refl refl
  operating n BinaryOp.Ne a b v w g h s t x = strict_operates n BinaryOp.Ne a b v w g h s t x refl refl
  operating n BinaryOp.Lt a b v w g h s t x = strict_operates n BinaryOp.Lt a b v w g h s t x refl refl
  operating n BinaryOp.Le a b v w g h s t x = strict_operates n BinaryOp.Le a b v w g h s t x refl refl
  operating n BinaryOp.Gt a b v w g h s t x = strict_operates n BinaryOp.Gt a b v w g h s t x refl refl
  operating n BinaryOp.Ge a b v w g h s t x = strict_operates n BinaryOp.Ge a b v w g h s t x refl refl
  operating n BinaryOp.Add a b v w g h s t x = strict_operates n BinaryOp.Add a b v w g h s t x refl refl
  operating n BinaryOp.Sub a b v w g h s t x = strict_operates n BinaryOp.Sub a b v w g h s t x refl refl
  operating n BinaryOp.Mul a b v w g h s t x = strict_operates n BinaryOp.Mul a b v w g h s t x refl refl
  operating n BinaryOp.Div a b v w g h s t x = strict_operates n BinaryOp.Div a b v w g h s t x refl refl
  operating n BinaryOp.Rem a b v w g h s t x = strict_operates n BinaryOp.Rem a b v w g h s t x refl refl

  -- ---- lists of values

  pub record GivesEach (k : ℕ) (es : Exps) : Type 0 where
    pub all_good : GoodAll (elaborated.operands (T K A) k es)
    pub all_typed : GoesOn (order_all (elaborated.operands (T K A) k es)) → map U (temporaries_of (elaborated.operands (T K A) k es)) ≡ lists.each_as AtNode es
    pub all_stay : any_diverges es ≡ true → GoesOn (order_all (elaborated.operands (T K A) k es)) → ⊥

  -- what their places expect
  abbrev pub EachWishes : rules.Listed → ℕ → Exps → Type 0
  EachWishes l k named.no_exp = Unit {0}
  EachWishes l k (named.exp_and e es) = operands.Wishes K A l k (node_of e) × EachWishes l (suc k) es

  pub no_each : (k : ℕ) → GivesEach k named.no_exp
  no_each k = record { all_good = building.no_operand_good K A U R; all_typed = λ z. refl; all_stay = λ q. absurd (true≢false (sym q)) }

  pub each_and : (k : ℕ) (e : Exp) (es : Exps) (w : Typ) → Gives w e → GivesEach (suc k) es → GivesEach k (named.exp_and e es)
  each_and k e es w g h = record {
    all_good = building.operand_good K A U R k (value e) (elaborated.operands (T K A) (suc k) es) g.self h.all_good;
    all_typed = λ z. ap (λ (t : Typ). t ∷ map U (temporaries_of (elaborated.operands (T K A) (suc k) es))) (valued w e g (first_on z)) ∙ ap (λ (l : List Typ). AtNode (node_of e) ∷ l) (h.all_typed (second_on z));
    all_stay = λ q z. by z (either_true (diverges e) (any_diverges es) q);
  }
    where
      by : GoesOn (order_all (elaborated.operands (T K A) k (named.exp_and e es))) → (diverges e ≡ true) ⊎ (any_diverges es ≡ true) → ⊥
      by z (inl q) = g.stays q (temporary_of (value e)) (first_on z)
      by z (inr q) = h.all_stay q (second_on z)

  -- where each stands at a place of this kind
  pub at_sites : (t : Site) (f : Node → Typ) → ((n : Node) → n.site ≡ t → AtNode n ≡ f n) → (es : Exps) → EachSited t es → lists.each_as AtNode es ≡ lists.each_as f es
  at_sites t f h named.no_exp s = refl
  at_sites t f h (named.exp_and e es) s =
      ap (λ (u : Typ). u ∷ lists.each_as AtNode es) (h (node_of e) s.0.1) ∙ ap (λ (l : List Typ). f (node_of e) ∷ l) (at_sites t f h es s.1)

  pub expected_there : (n : Node) → n.site ≡ Site.Expects → AtNode n ≡ wished K A n
  expected_there n s = ap (λ (t : Site). at_site t (OfNode n) (wished K A n)) s

  pub own_there : (n : Node) → n.site ≡ Site.Value → AtNode n ≡ OfNode n
  own_there n s = ap (λ (t : Site). at_site t (OfNode n) (wished K A n)) s

  pub parameters_wished : (g k : ℕ) (es : Exps) → EachWishes (rules.parameters g) k es → lists.EachAt (wished K A) (parameters_declared (slice_get K.items g)) k es
  parameters_wished g k named.no_exp h = tt
  parameters_wished g k (named.exp_and e es) h = (h.0, parameters_wished g (suc k) es h.1)

  pub parts_wished : (i v k : ℕ) (es : Exps) → EachWishes (rules.parts_of i v) k es → lists.EachAt (wished K A) (variant_parts K.items i v) k es
  parts_wished i v k named.no_exp h = tt
  parts_wished i v k (named.exp_and e es) h = (h.0, parts_wished i v (suc k) es h.1)

  -- the arguments of a call
  pub call_typed : (g : ℕ) (es : Exps) → EachSited Site.Expects es → GivesEach 0 es → EachWishes (rules.parameters g) 0 es → length (parameters_declared (slice_get K.items g)) ≡ rules.argument_count es
      → GoesOn (order_all (elaborated.operands (T K A) 0 es)) → map U (temporaries_of (elaborated.operands (T K A) 0 es)) ≡ parameters_declared (slice_get K.items g)
  call_typed g es s x h n z =
      x.all_typed z ∙ (at_sites Site.Expects (wished K A) expected_there es s ∙ lists.each_listed (wished K A) (parameters_declared (slice_get K.items g)) 0 es (parameters_wished g 0 es h) (n ∙ none_before (rules.argument_count es)))

  -- a tuple of members
  pub members_made : (es : Exps) → EachSited Site.Value es → GivesEach 0 es → (t : Typ) → t ≡ tuple_of (shapes_of (types_at A (rules.exp_nodes es))) → GoesOn (order_all (elaborated.operands (T K A) 0 es))
      → Makes K.items tree.tuple (fields_of (elaborated.operands (T K A) 0 es)) (map U (temporaries_of (elaborated.operands (T K A) 0 es))) t
  members_made es s x t e z =
      let us = lists.each_as (own K A) es in
      let p : map U (temporaries_of (elaborated.operands (T K A) 0 es)) ≡ us = x.all_typed z ∙ at_sites Site.Value (own K A) own_there es s in
      let q : tuple_of (shapes_of us) ≡ t = ap (λ (l : List Typ). tuple_of (shapes_of l)) (sym (lists.nodes_as K A es)) ∙ sym e in
      subst (λ (l : List Typ). Makes K.items tree.tuple (fields_of (elaborated.operands (T K A) 0 es)) l t) (sym p)
      (subst (λ (y : Typ). Makes K.items tree.tuple (fields_of (elaborated.operands (T K A) 0 es)) us y) q
      (tuples us refl (lists.fill_each (T K A) (own K A) us 0 es (lists.each_within (own K A) us 0 es (λ i. ap (λ (j : ℕ). slice_get us j) (sym (none_before i)))))))

  -- a variant of an enum
  pub variant_made : (i v : ℕ) (es : Exps) → IsVariant K.items i v → EachSited Site.Expects es → GivesEach 0 es → EachWishes (rules.parts_of i v) 0 es → length (variant_parts K.items i v) ≡ rules.argument_count es
      → (t : Typ) → t ≡ types.named i → GoesOn (order_all (elaborated.operands (T K A) 0 es))
      → Makes K.items (tree.variant_of i v) (fields_of (elaborated.operands (T K A) 0 es)) (map U (temporaries_of (elaborated.operands (T K A) 0 es))) t
  variant_made i v es is s x h n t e z =
      let us = lists.each_as (wished K A) es in
      let p : map U (temporaries_of (elaborated.operands (T K A) 0 es)) ≡ us = x.all_typed z ∙ at_sites Site.Expects (wished K A) expected_there es s in
      let r : variant_parts K.items i v ≡ is.3.parts = ap (λ o. types.parts_declared (slice_get (types.variants_declared o) v)) is.4 ∙ ap types.parts_declared is.5 in
      subst (λ (l : List Typ). Makes K.items (tree.variant_of i v) (fields_of (elaborated.operands (T K A) 0 es)) l t) (sym p)
      (subst (λ (y : Typ). Makes K.items (tree.variant_of i v) (fields_of (elaborated.operands (T K A) 0 es)) us y) (sym e)
      (variants i v is.4 is.5 (lists.each_length (wished K A) es ∙ (sym n ∙ ap (λ (l : List Typ). length l) r))
      (subst (λ (l : List Typ). Fill l (fields_of (elaborated.operands (T K A) 0 es)) us) r (lists.fill_each (T K A) (wished K A) (variant_parts K.items i v) 0 es (parts_wished i v 0 es h)))))

  -- the fields of a struct literal
  pub record GivesFields (i : ℕ) (fs : Fields) : Type 0 where
    pub all_good : GoodAll (elaborated.fields (T K A) i fs)
    pub all_typed : GoesOn (order_all (elaborated.fields (T K A) i fs)) → map U (temporaries_of (elaborated.fields (T K A) i fs)) ≡ lists.fields_as (wished K A) fs
    pub all_stay : any_field_diverges fs ≡ true → GoesOn (order_all (elaborated.fields (T K A) i fs)) → ⊥
    pub fitting : lists.FieldsAt (wished K A) (fields_declared (slice_get K.items i)) fs

  pub no_fields : (i : ℕ) → GivesFields i named.no_field
  no_fields i = record { all_good = building.no_operand_good K A U R; all_typed = λ z. refl; all_stay = λ q. absurd (true≢false (sym q)); fitting = tt }

  pub field_and_more : (i : ℕ) (x : List ℕ) (e : Exp) (fs : Fields) (w : Typ) → (node_of e).site ≡ Site.Expects → types.field_typ (fields_declared (slice_get K.items i)) x ≡ Some (wished K A (node_of e)) → Gives w e → GivesFields i fs
      → GivesFields i (named.field_and x e fs)
  field_and_more i x e fs w s f g h = record {
    all_good = building.operand_good K A U R (elaborated.field_in K.items (types.named i) x) (value e) (elaborated.fields (T K A) i fs) g.self h.all_good;
    all_typed = λ z. ap (λ (t : Typ). t ∷ map U (temporaries_of (elaborated.fields (T K A) i fs))) (valued_wished w e s g (first_on z)) ∙ ap (λ (l : List Typ). wished K A (node_of e) ∷ l) (h.all_typed (second_on z));
    all_stay = λ q z. by z (either_true (diverges e) (any_field_diverges fs) q);
    fitting = (f, h.fitting);
  }
    where
      by : GoesOn (order_all (elaborated.fields (T K A) i (named.field_and x e fs))) → (diverges e ≡ true) ⊎ (any_field_diverges fs ≡ true) → ⊥
      by z (inl q) = g.stays q (temporary_of (value e)) (first_on z)
      by z (inr q) = h.all_stay q (second_on z)

  pub struct_made : (i : ℕ) (fs : Fields) → IsStruct K.items i → GivesFields i fs → length (names_of (fields_declared (slice_get K.items i))) ≡ length (rules.names_given fs)
      → (t : Typ) → t ≡ types.named i → GoesOn (order_all (elaborated.fields (T K A) i fs))
      → Makes K.items (tree.struct i) (fields_of (elaborated.fields (T K A) i fs)) (map U (temporaries_of (elaborated.fields (T K A) i fs))) t
  struct_made i fs is x n t e z =
      let us = lists.fields_as (wished K A) fs in
      let r : fields_declared (slice_get K.items i) ≡ is.2 = ap fields_declared is.3 in
      subst (λ (l : List Typ). Makes K.items (tree.struct i) (fields_of (elaborated.fields (T K A) i fs)) l t) (sym (x.all_typed z))
      (subst (λ (y : Typ). Makes K.items (tree.struct i) (fields_of (elaborated.fields (T K A) i fs)) us y) (sym e)
      (structs i is.3 (lists.fields_length (wished K A) fs ∙ (sym n ∙ (lists.names_length (fields_declared (slice_get K.items i)) ∙ ap (λ (l : List FieldDeclared). length (types_of_fields l)) r)))
      (subst (λ (l : List FieldDeclared). Fill (types_of_fields l) (fields_of (elaborated.fields (T K A) i fs)) us) r (lists.fill_fields (T K A) (wished K A) i fs x.fitting))))

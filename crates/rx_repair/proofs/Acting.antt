-- Of an elaborated tree whose function meets what the rules of types ask: where a temporary has the type of a struct or enum, what fills it
-- is of this type. One induction on the tree with numbers.
use Rattle.std.proofs.Common.{◌≡◌, ℕ, suc, Bool, true, false, not, ◌&&◌, List, [], ◌∷◌, ◌++◌, map, Option, Some, None, refl, sym, ap, ◌∙◌, subst, ◌⊎◌, inl, inr}
use Rattle.std.proofs.lemmas.Bool.{true≢false}
use Rattle.rx_core.specs.declared.types.Kind.{Kind}
use Rattle.rx_core.specs.declared.types.Step.{Step}
use Rattle.rx_core.specs.declared.types.Step.TheVariants as step
use Rattle.rx_tree.specs.declared.tree.BinaryOp.{BinaryOp}
use Rattle.rx_tree.specs.Lists.{Every}
use Rattle.rx_typed.specs.declared.nodes.Node.{Node}
use Rattle.rx_typed.specs.declared.nodes.Site.{Site}
use Rattle.rx_typed.specs.declared.nodes.Use.{Use}
use Rattle.rx_typed.specs.Types as types
use Rattle.rx_typed.specs.Types.{Typ, integer, boolean, tuple_of, reference, unit_shape, peeled, outline, result_declared, references}
use Rattle.rx_typed.specs.Named as named
use Rattle.rx_typed.specs.Named.{Written, Pattern, Patterns, FieldPatterns, Exp, Exps, Else, Fields, Arms, Body, Statement, Statements, Parameter, Function, written_node, pattern_node, whole_binding, node_of, body_node, is_place, is_variable, root, never, body_never, else_never, some_diverges}
use Rattle.rx_typed.specs.TypedNumbers.{optional_nodes}
use Rattle.rx_typed.specs.Naming.{passed_on, initialiser_site}
use Rattle.rx_typed.specs.Elaborated as elaborated
use Rattle.rx_typed.specs.Elaborated.{Coercion, Met}
use Rattle.rx_typed.specs.Tree as tree
use Rattle.rx_typed.specs.Tree.{Temporary, Place, Making, mark_of, temporary_of, temporary_at}
use Rattle.rx_lower_walks.specs.Matching.{PartTest, Binding, tests, bindings}
use Rattle.rx_lower_walks.specs.Actions.{Act, Read, Write, Borrow, Test, Call, Build, Input, in_place, in_temporary}
use Rattle.rx_lower_walks.specs.Actions as actions
use Rattle.rx_lower_walks.specs.Orders as order
use Rattle.rx_lower_walks.specs.Orders.{Order, order_all, order_scrutinee, order_arms, order_body, order_function, testing, binding, declaring, beginning}
use Rattle.rx_typeck_solver.specs.declared.facts.Subject.{Subject}
use Rattle.rx_typeck_solver.specs.Facts.{MeetsEach, Assignment, KnownItems}
use Rattle.rx_typeck_typed.specs.Asking.{Asking}
use Rattle.rx_typeck_typed.specs.Demands as rules
use Rattle.rx_repair.specs.TemporaryTypes as given_types
use Rattle.rx_repair.specs.TemporaryTypes.{Entry, silent, at_site, own_or}
use Rattle.rx_repair.proofs.Sites.{Sited, EachSited, ElseSited, FieldsSited, ArmsSited, BodySited, StatementSited, StatementsSited, branch_site}
use Rattle.rx_repair.proofs.Asking.{Asks, NoPlace, asks_map, none, both, then_first, then_second, then_u, one_asked, quiet, refused, whole_type_u, never_asks, join_asks, tested_u, printed_u, not_never_u, given_u, returns_u, one_variable_u, evaluated_u, each_before_u, each_after_u, parameters_u, result_u, never_given_u, when_u, loop_asks}
use Rattle.rx_repair.proofs.Places.{along, some_same, peeled_step, part_is, field_is, pointee_is}
use Rattle.rx_repair.proofs.Settling.{NoItem, NotLent, no_item, Passing, own_settled, Before, After, part_fits, lone_fits, passed_twice}
use Rattle.rx_repair.proofs.Pieces as pieces
use Rattle.rx_repair.proofs.Pieces.{T, own, wished, Stands, passing, Has, Plain, Results, plain_if}
use Rattle.rx_repair.proofs.Patterns as patterns
use Rattle.rx_repair.proofs.Patterns.{every_front, every_behind}

-- no place is Never
pub place_stays : (e : Exp) → is_place e ≡ true → never e ≡ false
place_stays (named.var n x) h = refl
place_stays (named.field n e x) h = refl
place_stays (named.part n e i) h = refl
place_stays (named.deref n e) h = refl
place_stays (named.int n m v k) h = refl
place_stays (named.bool n b) h = refl
place_stays (named.tuple n es) h = refl
place_stays (named.negate n e) h = refl
place_stays (named.invert n e) h = refl
place_stays (named.borrow n m e) h = refl
place_stays (named.binary n o a b) h = refl
place_stays (named.assign n p e) h = refl
place_stays (named.gives n p x d e) h = refl
place_stays (named.update n o p e) h = refl
place_stays (named.call n f es) h = refl
place_stays (named.hidden_call n es) h = refl
place_stays (named.next_input n) h = refl
place_stays (named.variant n i v es) h = refl
place_stays (named.make n i fs) h = refl
place_stays (named.print n e) h = refl
place_stays (named.while n l c b) h = refl
place_stays (named.while_let n l p e b) h = refl
place_stays (named.block n b) h = absurd (cc)
place_stays (named.if n c b o) h = absurd (cc)
place_stays (named.if_let n p e b o) h = absurd (cc)
place_stays (named.match n e l) h = absurd (cc)
place_stays (named.loop n l k b) h = absurd (cc)
place_stays (named.break n l) h = absurd (cc)
place_stays (named.continue n l) h = absurd (cc)
place_stays (named.return n o) h = absurd (cc)

pub body_site : (t : Site) (b : Body) → BodySited t b → (body_node b).site ≡ t
body_site t (named.body n ss o) h = h.0

module _ (K : KnownItems) (A : Assignment) (U : Temporary → Typ) where
  abbrev V : ℕ → Typ
  V = patterns.V K A U

  abbrev Wants : Type 0 → Asking → Type 0
  Wants R a = Asks K A R a

  abbrev OfNode : Node → Typ
  OfNode n = own K A n

  -- the type that an expression's value gets
  abbrev pub W : Node → Bool → Typ → Typ
  W n v w = given_types.given (T K A) V n v w

  abbrev Goes : Typ → Exp → Typ
  Goes w e = W (node_of e) (never e) w

  abbrev GoesBody : Typ → Body → Typ
  GoesBody w b = W (body_node b) (body_never b) w

  abbrev Reads : Place → Typ → Type 0
  Reads = patterns.Reads K A U

  abbrev H : Order → Type 0
  H = patterns.H K A U

  abbrev F : Entry → Type 0
  F = patterns.F K A U

  abbrev BindingFine : actions.Subject → Binding → Type 0
  BindingFine = patterns.BindingFine K A U

  abbrev Fine : actions.Subject → List Step → tree.Pattern → Type 0
  Fine = patterns.Fine K A U

  abbrev At : actions.Subject → List Step → Typ → Type 0
  At = patterns.At K A U

  abbrev FineWhole : Typ → Pattern → Type 0
  FineWhole = patterns.FineWhole K A U

  reads_as : (p : Place) (t u : Typ) → t ≡ u → Reads p t → Reads p u
  reads_as = patterns.reads_as K A U

  reads_under : (p : Place) (t : Typ) (ss : List Step) (u : Typ) → along K.items t ss ≡ u → Reads p t → Reads (tree.under p ss) u
  reads_under = patterns.reads_under K A U

  whole_asks : (s : rules.Matched) (x : Subject) (p : Pattern) → Every F (given_types.pattern_entries (T K A) V p) → Wants (FineWhole (A x) p) (rules.whole_pattern s x p)
  whole_asks = patterns.whole_asks K A U

  -- ---- orders

  testing_holds : (S : actions.Subject) (ts : List PartTest) (rest : Order) → H rest → H (testing S ts rest)
  testing_holds S [] rest g = g
  testing_holds S (t ∷ ts) rest g = (tt, (testing_holds S ts rest g, tt))

  binding_holds : (S : actions.Subject) (bs : List Binding) (n : ℕ) (rest : Order) → Every (BindingFine S) bs → H rest → H (binding S bs n rest)
  binding_holds S [] n rest h g = g
  binding_holds S (b ∷ bs) n rest h g = (h.0, (tt, (tt, binding_holds S bs n rest h.1 g)))

  declaring_holds : (s : ℕ) (xs : List ℕ) (n : ℕ) (rest : Order) → H rest → H (declaring s xs n rest)
  declaring_holds s [] n rest g = g
  declaring_holds s (x ∷ xs) n rest g = (tt, declaring_holds s xs n rest g)

  -- ---- values as they are put together

  -- wherever its value goes, if that is of this type
  abbrev Whole : Typ → tree.Exp → Type 0
  Whole t e = (d : Temporary) → U d ≡ t → H (order.order e d)

  -- in its own temporary
  abbrev Self : tree.Exp → Type 0
  Self e = H (order.order e (temporary_of e))

  self_if : (t : Typ) (e : tree.Exp) (k : ℕ) → Whole t e → (mark_of e).node ≡ k → U (temporary_at k 0) ≡ t → Self e
  self_if t e k h m u = h (temporary_of e) (ap (λ (j : ℕ). U (temporary_at j 0)) m ∙ u)

  abbrev AtNode : Node → Typ
  AtNode n = at_site n.site (own K A n) (wished K A n)

  reads : (n : Node) (c : Coercion) (p : Place) (w : Typ) → Passing c (OfNode n) w → Reads p (OfNode n) → Whole w (elaborated.read_as (T K A) n c p)
  reads n elaborated.plain p w c h d u = reads_as p (OfNode n) (U d) (c ∙ sym u) h
  reads n elaborated.reborrow p w c h d u = no_item (U d) (reference true c.0) (u ∙ c.2) tt
  reads n elaborated.share p w c h d u = no_item (U d) (reference false c.0) (u ∙ c.2) tt

  read_node : (n : Node) (c : Coercion) (p : Place) → (mark_of (elaborated.read_as (T K A) n c p)).node ≡ n.number
  read_node n elaborated.plain p = refl
  read_node n elaborated.reborrow p = refl
  read_node n elaborated.share p = refl

  passes_on : (n : Node) (c : Coercion) (x : tree.Exp) (w : Typ) → Passing c (OfNode n) w → U (temporary_at n.number 1) ≡ OfNode n → Whole (OfNode n) x → Whole w (elaborated.passed_as (T K A) n c x)
  passes_on n elaborated.plain x w c s h d u = h d (u ∙ sym c)
  passes_on n elaborated.reborrow x w c s h d u = h d (u ∙ (c.2 ∙ sym c.1))
  passes_on n elaborated.share x w c s h d u = (h (temporary_at n.number 1) s, no_item (U d) (reference false c.0) (u ∙ c.2) tt)

  passed_node : (n : Node) (c : Coercion) (x : tree.Exp) → (mark_of x).node ≡ n.number → (mark_of (elaborated.passed_as (T K A) n c x)).node ≡ n.number
  passed_node n elaborated.plain x h = h
  passed_node n elaborated.reborrow x h = h
  passed_node n elaborated.share x h = refl

  two : (n : Node) (o : BinaryOp) (a b : tree.Exp) (w : Typ) → NoItem w → Self a → Self b → Whole w (tree.build (elaborated.mark (T K A) n) (tree.operation o) (tree.operand_and 0 a (tree.operand_and 1 b tree.no_operand)))
  two n o a b w i g h d u = ((g, (h, tt)), no_item (U d) w u i)

  lazily : (n : Node) (k : Bool) (a b : tree.Exp) (w : Typ) → NoItem w → Self a → Self b → Whole w (tree.lazily (elaborated.mark (T K A) n) k a b)
  lazily n k a b w i g h d u = (g, (tt, ((h, tt), no_item (U d) w u i)))

  operates : (n : Node) (o : BinaryOp) (a b : tree.Exp) (w : Typ) → NoItem w → Self a → Self b → Whole w (elaborated.operated (T K A) n o a b)
  operates n BinaryOp.And a b w i g h = lazily n true a b w i g h
  operates n BinaryOp.Or a b w i g h = lazily n false a b w i g h
  operates n BinaryOp.Eq a b w i g h = two n BinaryOp.Eq a b w i g h
  operates n BinaryOp.Ne a b w i g h = two n BinaryOp.Ne a b w i g h
  operates n BinaryOp.Lt a b w i g h = two n BinaryOp.Lt a b w i g h
  operates n BinaryOp.Le a b w i g h = two n BinaryOp.Le a b w i g h
  operates n BinaryOp.Gt a b w i g h = two n BinaryOp.Gt a b w i g h
  operates n BinaryOp.Ge a b w i g h = two n BinaryOp.Ge a b w i g h
  operates n BinaryOp.Add a b w i g h = two n BinaryOp.Add a b w i g h
  operates n BinaryOp.Sub a b w i g h = two n BinaryOp.Sub a b w i g h
  operates n BinaryOp.Mul a b w i g h = two n BinaryOp.Mul a b w i g h
  operates n BinaryOp.Div a b w i g h = two n BinaryOp.Div a b w i g h
  operates n BinaryOp.Rem a b w i g h = two n BinaryOp.Rem a b w i g h

  operated_node : (n : Node) (o : BinaryOp) (a b : tree.Exp) → (mark_of (elaborated.operated (T K A) n o a b)).node ≡ n.number
  operated_node n BinaryOp.And a b = refl
  operated_node n BinaryOp.Or a b = refl
  operated_node n BinaryOp.Eq a b = refl
  operated_node n BinaryOp.Ne a b = refl
  operated_node n BinaryOp.Lt a b = refl
  operated_node n BinaryOp.Le a b = refl
  operated_node n BinaryOp.Gt a b = refl
  operated_node n BinaryOp.Ge a b = refl
  operated_node n BinaryOp.Add a b = refl
  operated_node n BinaryOp.Sub a b = refl
  operated_node n BinaryOp.Mul a b = refl
  operated_node n BinaryOp.Div a b = refl
  operated_node n BinaryOp.Rem a b = refl

  tuples : (n : Node) (es : tree.Operands) (w : Typ) → NoItem w → H (order_all es) → Whole w (elaborated.tuple_of (T K A) n es)
  tuples n tree.no_operand w i h d u = tt
  tuples n (tree.operand_and k e es) w i h d u = (h, no_item (U d) w u i)

  tuple_node : (n : Node) (es : tree.Operands) → (mark_of (elaborated.tuple_of (T K A) n es)).node ≡ n.number
  tuple_node n tree.no_operand = refl
  tuple_node n (tree.operand_and k e es) = refl

  two_ways : (S : actions.Subject) (p : tree.Pattern) (a b : tree.Exp) (d : Temporary) → Fine S [] p → H (order.order a d) → H (order.order b d) → H (order_arms S (tree.arm_and p a (tree.arm_and tree.any b tree.no_arm)) d)
  two_ways S p a b d f g h = (testing_holds S (tests [] p) _ (binding_holds S (bindings [] p) (mark_of a).node (order.order a d) f g), (h, tt))

  tests_hold : (n : Node) (c : tree.Exp) (m : tree.Mark) (a b : tree.Exp) (d : Temporary) → Self c → H (order.order a d) → H (order.order b d) → H (order.order (elaborated.tests n c m a b) d)
  tests_hold n c m a b d f g h = (f, two_ways (in_temporary (temporary_of c)) (tree.exactly n.number (tree.truth true)) a b d tt g h)

  looks_hold : (m : tree.Mark) (s : tree.Scrutinee) (p : tree.Pattern) (a b : tree.Exp) (d : Temporary) → H (order_scrutinee s) → Fine (actions.subject s) [] p → H (order.order a d) → H (order.order b d) → H (order.order (elaborated.looks m s p a b) d)
  looks_hold m s p a b d f z g h = (f, two_ways (actions.subject s) p a b d z g h)

  scrutinee_holds : (b : Bool) (c : Coercion) (e : Exp) (x : tree.Exp) → Self x → H (order_scrutinee (elaborated.matched_as (T K A) b c e x))
  scrutinee_holds true elaborated.plain e x h = tt
  scrutinee_holds true elaborated.reborrow e x h = h
  scrutinee_holds true elaborated.share e x h = h
  scrutinee_holds false elaborated.plain e x h = h
  scrutinee_holds false elaborated.reborrow e x h = h
  scrutinee_holds false elaborated.share e x h = h

  matched_at : (b : Bool) (c : Coercion) (e : Exp) (x : tree.Exp) (t : Typ) → (b ≡ true → c ≡ elaborated.plain → Reads (tree.under (elaborated.place (T K A) e) []) t) → At (actions.subject (elaborated.matched_as (T K A) b c e x)) [] t
  matched_at true elaborated.plain e x t h = h refl refl
  matched_at true elaborated.reborrow e x t h = tt
  matched_at true elaborated.share e x t h = tt
  matched_at false elaborated.plain e x t h = tt
  matched_at false elaborated.reborrow e x t h = tt
  matched_at false elaborated.share e x t h = tt

  -- ---- what expressions give

  pub record Gives (w : Typ) (e : Exp) : Type 0 where
    pub placed : NoPlace (node_of e).site ⊎ (is_place e ≡ true)
    pub place : is_place e ≡ true → Reads (elaborated.place (T K A) e) (OfNode (node_of e))
    pub stands : is_place e ≡ true → Stands K A (node_of e)
    pub value : Whole (Goes w e) (elaborated.value (T K A) e)
    pub self : Self (elaborated.value (T K A) e)

  no_place : (w : Typ) (e : Exp) → is_place e ≡ false → NoPlace (node_of e).site → Whole (Goes w e) (elaborated.value (T K A) e) → Self (elaborated.value (T K A) e) → Gives w e
  no_place w e is f h g = record { placed = inl f; place = λ q. absurd (true≢false (sym q ∙ is)); stands = λ q. absurd (true≢false (sym q ∙ is)); value = h; self = g }

  -- one that has its node's temporary
  at_node : (w : Typ) (e : Exp) → is_place e ≡ false → NoPlace (node_of e).site → (mark_of (elaborated.value (T K A) e)).node ≡ (node_of e).number → U (temporary_at (node_of e).number 0) ≡ Goes w e
      → Whole (Goes w e) (elaborated.value (T K A) e) → Gives w e
  at_node w e is f m u h = no_place w e is f h (self_if (Goes w e) (elaborated.value (T K A) e) (node_of e).number h m u)

  a_place : (w : Typ) (e : Exp) (n : Node) → n ≡ node_of e → is_place e ≡ true → elaborated.value (T K A) e ≡ elaborated.place_value (T K A) n (elaborated.place (T K A) e) → Goes w e ≡ AtNode n → U (temporary_at n.number 0) ≡ AtNode n
      → Reads (elaborated.place (T K A) e) (OfNode n) → Stands K A n → Gives w e
  a_place w e n i is same goes u h f =
      let v : Whole (AtNode n) (elaborated.place_value (T K A) n (elaborated.place (T K A) e)) = reads n (elaborated.coercion_at (T K A) n) (elaborated.place (T K A) e) (AtNode n) (passing K A n f) h in
      record {
        placed = inr is;
        place = λ q. subst (λ (m : Node). Reads (elaborated.place (T K A) e) (OfNode m)) i h;
        stands = λ q. subst (λ (m : Node). Stands K A m) i f;
        value = subst (λ (x : tree.Exp). Whole (Goes w e) x) (sym same) (λ d z. v d (z ∙ goes));
        self = subst Self (sym same) (self_if (AtNode n) (elaborated.place_value (T K A) n (elaborated.place (T K A) e)) n.number v (read_node n (elaborated.coercion_at (T K A) n) (elaborated.place (T K A) e)) u);
      }

  -- where a place is wanted
  placed_is : (w : Typ) (e : Exp) → (node_of e).site ≡ Site.Place → Gives w e → is_place e ≡ true
  placed_is w e p g = by g.placed
    where
      by : NoPlace (node_of e).site ⊎ (is_place e ≡ true) → is_place e ≡ true
      by (inl f) = absurd (f p)
      by (inr q) = q

  root_of : (w : Typ) (e : Exp) → (node_of e).site ≡ Site.Place → Gives w e → Reads (elaborated.place (T K A) e) (OfNode (node_of e))
  root_of w e p g = g.place (placed_is w e p g)

  -- of what follows `else`, the tail of a block and the value of a `return`, where it gets this type
  abbrev GivesElse : Typ → Else → Type 0
  GivesElse t named.absent = Unit {0}
  GivesElse t (named.present e) = Whole t (elaborated.value (T K A) e) × Self (elaborated.value (T K A) e)

  abbrev GivesReturned : Typ → Else → Type 0
  GivesReturned w named.absent = Unit {0}
  GivesReturned w (named.present e) = Gives w e

  otherwise_gives : (n : Node) (o : Else) (t : Typ) → GivesElse t o → Whole t (elaborated.otherwise (T K A) n o)
  otherwise_gives n named.absent t h d u = tt
  otherwise_gives n (named.present e) t h d u = h.0 d u

  returned_gives : (n : Node) (o : Else) (w : Typ) → GivesReturned w o → (d : Temporary) → H (order.order (tree.give (elaborated.no_mark n) (elaborated.returned (T K A) n o)) d)
  returned_gives n named.absent w h d = (tt, (tt, tt))
  returned_gives n (named.present e) w h d = (h.self, (tt, tt))

  tail_gives : (n : Node) (o : Else) (t : Typ) → GivesElse t o → Whole t (elaborated.tail (T K A) n o)
  tail_gives n named.absent t h d u = tt
  tail_gives n (named.present e) t h d u = h.0 d u

  given_tail : (n : Node) (o : Else) (t : Typ) → GivesElse t o → (d : Temporary) → H (order.order (tree.give (elaborated.no_mark n) (elaborated.tail (T K A) n o)) d)
  given_tail n named.absent t h d = (tt, (tt, tt))
  given_tail n (named.present e) t h d = (h.1, (tt, tt))

  pub record GivesBody (w : Typ) (b : Body) : Type 0 where
    pub there : U (temporary_at (body_node b).number 0) ≡ GoesBody w b
    pub value : Whole (GoesBody w b) (elaborated.body (T K A) b)
    pub self : Self (elaborated.body (T K A) b)
    pub whole : (d : Temporary) → H (order.order (elaborated.function_body (T K A) b) d)

  abbrev GivesStatement : Statement → Type 0
  GivesStatement a = (rest : tree.Body) (d : Temporary) → ((n : ℕ) → H (order_body rest n d)) → (n : ℕ) → H (order_body (elaborated.statement (T K A) a rest) n d)

  abbrev GivesStatements : Statements → Type 0
  GivesStatements ss = (last : tree.Exp) (d : Temporary) → H (order.order last d) → (n : ℕ) → H (order_body (elaborated.nested (T K A) ss last) n d)

  -- ---- parts that a value is joined of

  whole_as : (t u : Typ) (x : tree.Exp) → t ≡ u → Whole t x → Whole u x
  whole_as t u x e h d z = h d (z ∙ sym e)

  part_join : (n m : Node) (vm vn : Bool) (w : Typ) → passed_on m.site ≡ passed_on n.site → Before n.site (wished K A m) (wished K A n) → After n.site vm (own K A m) (own K A n) → (vm ≡ false → vn ≡ false) → W m vm (W n vn w) ≡ W n vn w
  part_join n m vm vn w p b a f = part_fits m.site n.site vm vn (own K A m) (wished K A m) (own K A n) (wished K A n) w p b a f

  else_joined : (n : Node) (v : Bool) (w : Typ) (e : Exp) → passed_on (node_of e).site ≡ passed_on n.site → Before n.site (wished K A (node_of e)) (wished K A n) → After n.site (never e) (own K A (node_of e)) (own K A n)
      → (never e ≡ false → v ≡ false) → Gives (W n v w) e → GivesElse (W n v w) (named.present e)
  else_joined n v w e p b a f g = (whole_as (Goes (W n v w) e) (W n v w) (elaborated.value (T K A) e) (part_join n (node_of e) (never e) v w p b a f) g.value, g.self)

  abbrev TailBefore : Node → Else → Type 0
  TailBefore n named.absent = Unit {0}
  TailBefore n (named.present e) = Before n.site (wished K A (node_of e)) (wished K A n)

  abbrev TailAfter : Node → Else → Type 0
  TailAfter n named.absent = Unit {0}
  TailAfter n (named.present e) = After n.site (never e) (own K A (node_of e)) (own K A n)

  tail_before_given : (n : Node) (o : Else) → Wants (TailBefore n o) (rules.tail_before n o)
  tail_before_given n named.absent = none
  tail_before_given n (named.present e) = pieces.before_given K A n n.site (node_of e)

  tail_after_given : (n : Node) (d : Bool) (o : Else) → Wants (TailAfter n o) (rules.tail_after n d o)
  tail_after_given n d named.absent = asks_map (λ h. tt) (pieces.nothing_given K A n d)
  tail_after_given n d (named.present e) = pieces.after_given K A n n.site (never e) (node_of e)

  tail_joined : (n : Node) (d : Bool) (o : Else) (w : Typ) → ElseSited n.site o → TailBefore n o → TailAfter n o → GivesReturned (W n (named.tail_never d o) w) o → GivesElse (W n (named.tail_never d o) w) o
  tail_joined n d named.absent w h b a g = tt
  tail_joined n d (named.present e) w h b a g = else_joined n (never e) w e (ap passed_on h.1) b a (λ q. q) g

  abbrev BranchBefore : Node → Else → Body → Type 0
  BranchBefore n named.absent b = Unit {0}
  BranchBefore n (named.present e) b = Before n.site (wished K A (body_node b)) (wished K A n)

  abbrev BranchAfter : Node → Else → Body → Type 0
  BranchAfter n named.absent b = (body_never b ≡ false → own K A (body_node b) ≡ unit_shape) × Has K A n unit_shape
  BranchAfter n (named.present e) b = After n.site (body_never b) (own K A (body_node b)) (own K A n)

  branch_before_given : (n : Node) (o : Else) (b : Body) → Wants (BranchBefore n o b) (rules.branch_before n o b)
  branch_before_given n named.absent b = none
  branch_before_given n (named.present e) b = pieces.before_given K A n n.site (body_node b)

  branch_after_given : (n : Node) (o : Else) (b : Body) → Wants (BranchAfter n o b) (rules.branch_after n o b)
  branch_after_given n named.absent b = both (pieces.nothing_given K A (body_node b) (body_never b)) (pieces.unit_given K A n)
  branch_after_given n (named.present e) b = pieces.after_given K A n n.site (body_never b) (body_node b)

  abbrev Joins : Node → Else → Type 0
  Joins n named.absent = Unit {0}
  Joins n (named.present e) = NoPlace n.site

  joins_given : (n : Node) (o : Else) (v : Bool) → Wants (Joins n o) (rules.if_joins n o v)
  joins_given n named.absent v = none
  joins_given n (named.present e) v = join_asks n v

  if_outside : (n : Node) (o : Else) (b : Body) → BranchAfter n o b → Joins n o → NoPlace n.site
  if_outside n named.absent b h g = h.1.outside
  if_outside n (named.present e) b h g = g

  left_false : (a b : Bool) → a ≡ false → (a && b) ≡ false
  left_false a b e = ap (λ (x : Bool). x && b) e

  right_false : (a b : Bool) → b ≡ false → (a && b) ≡ false
  right_false true b e = e
  right_false false b e = refl

  branch_joined : (n : Node) (b : Body) (o : Else) (w : Typ) → BodySited (branch_site n.site o) b → BranchBefore n o b → BranchAfter n o b → GivesBody (W n (body_never b && else_never o) w) b
      → Whole (W n (body_never b && else_never o) w) (elaborated.body (T K A) b)
  branch_joined n b named.absent w h p a g =
      let m = body_node b in
      whole_as (GoesBody (W n (body_never b && false) w) b) (W n (body_never b && false) w) (elaborated.body (T K A) b)
      (lone_fits m.site n.site (body_never b) (own K A m) (wished K A m) (own K A n) (wished K A n) w (body_site Site.Value b h) (λ e. a.0 e ∙ sym a.1.same) a.1.stands (subst NotLent (sym a.1.same) tt)) g.value
  branch_joined n b (named.present e) w h p a g =
      whole_as (GoesBody (W n (body_never b && never e) w) b) (W n (body_never b && never e) w) (elaborated.body (T K A) b)
      (part_join n (body_node b) (body_never b) (body_never b && never e) w (ap passed_on (body_site (passed_on n.site) b h) ∙ passed_twice n.site) p a (left_false (body_never b) (never e))) g.value

  record Branches (n : Node) (b : Body) (o : Else) (t : Typ) : Type 0 where
    first : Whole t (elaborated.body (T K A) b)
    second : GivesElse t o
    outside : NoPlace n.site

  branches : (f : ℕ) (n : Node) (b : Body) (o : Else) (w : Typ) → BodySited (branch_site n.site o) b → Wants (GivesBody (W n (body_never b && else_never o) w) b) (rules.of_body f b) → Wants (GivesElse (W n (body_never b && else_never o) w) o) (rules.of_else f n o)
      → Wants (Branches n b o (W n (body_never b && else_never o) w)) (rules.of_branches f n (b, o))
  branches f n b o w h x y =
      asks_map (λ g. record { first = branch_joined n b o w h g.0 g.1.1.0 g.1.0; second = g.1.1.1.0; outside = if_outside n o b g.1.1.0 g.1.1.1.1 })
      (both (branch_before_given n o b) (both x (both (branch_after_given n o b) (both y (joins_given n o (body_never b && else_never o))))))

  -- ---- `let`s

  -- what an initialiser is expected to be
  abbrev Expects : Option Written → Exp → Type 0
  Expects None e = Unit {0}
  Expects (Some t) e = own K A (written_node t) ≡ wished K A (node_of e)

  typed_before_asks : (t : Option Written) (e : Exp) → Wants (Expects t e) (rules.typed_before t e)
  typed_before_asks None e = none
  typed_before_asks (Some t) e = then_second (whole_type_u t) (asks_map (λ h. some_same _ _ h.0) (one_asked (node_of e) _ _ _))

  abbrev Matched : Exp → Pattern → Type 0
  Matched e p = Fine (actions.subject (elaborated.matched (T K A) e (elaborated.value (T K A) e))) [] (elaborated.pattern (T K A) None p)

  -- the place that is matched has this type, where it is one
  looked_at : (w : Typ) (e : Exp) (t : Typ) → Gives w e → (is_place e ≡ true → elaborated.coercion_at (T K A) (node_of e) ≡ elaborated.plain → OfNode (node_of e) ≡ t) → At (actions.subject (elaborated.matched (T K A) e (elaborated.value (T K A) e))) [] t
  looked_at w e t g f =
      matched_at (is_place e) (elaborated.coercion_at (T K A) (node_of e)) e (elaborated.value (T K A) e) t (λ b c. reads_under (elaborated.place (T K A) e) (OfNode (node_of e)) [] t (f b c) (g.place b))

  pattern_gives : (w : Typ) (e : Exp) (p : Pattern) → Gives w e → FineWhole (OfNode (node_of e)) p → Matched e p
  pattern_gives w e p g f = f (actions.subject (elaborated.matched (T K A) e (elaborated.value (T K A) e))) (looked_at w e (OfNode (node_of e)) g (λ _ _. refl))

  matched_gives : (w : Typ) (e : Exp) → Gives w e → H (order_scrutinee (elaborated.matched (T K A) e (elaborated.value (T K A) e)))
  matched_gives w e g = scrutinee_holds (is_place e) (elaborated.coercion_at (T K A) (node_of e)) e (elaborated.value (T K A) e) g.self

  alone_bound : (n : Node) (x : ℕ) (m c : Bool) → U (temporary_at n.number 0) ≡ V x → (S : actions.Subject) → At S [] (V x) → BindingFine S (record { node = n.number; variable = x; steps = []; mode = tree.by_value c })
  alone_bound n x m c u (in_place q) h = reads_as (tree.under q []) (V x) (U (temporary_at n.number 0)) (sym u) h
  alone_bound n x m c u (in_temporary d) h = tt

  alone : (p : Pattern) → Every F (given_types.pattern_entries (T K A) V p) → Wants (FineWhole (given_types.wanted_by (T K A) V (whole_binding p)) p) (rules.one_variable p)
  alone (named.bind n x m) u = asks_map (λ _ S g. (alone_bound n x m _ (u.0 0) S g, tt)) none
  alone (named.wild n) u = asks_map (λ g. absurd g) (refused n _)
  alone (named.whole_number n g v k) u = asks_map (λ g. absurd g) (refused n _)
  alone (named.truth n b) u = asks_map (λ g. absurd g) (refused n _)
  alone (named.tuple_pattern n ps) u = asks_map (λ g. absurd g) (refused n _)
  alone (named.variant_pattern n i v ps) u = asks_map (λ g. absurd g) (refused n _)
  alone (named.struct_pattern n i fs) u = asks_map (λ g. absurd g) (refused n _)

  initialised_by_asks : (w : Typ) (v : Bool) (p : Pattern) (e : Exp) → never e ≡ v → Every F (given_types.pattern_entries (T K A) V p) → Wants (Gives w e → Matched e p) (rules.initialised_by v p (rules.matched e) (node_of e))
  initialised_by_asks w true p e q u =
      asks_map (λ f g. f (actions.subject (elaborated.matched (T K A) e (elaborated.value (T K A) e))) (looked_at w e _ g (λ b _. absurd (true≢false (sym q ∙ place_stays e b))))) (alone p u)
  initialised_by_asks w false p e q u = asks_map (λ f g. pattern_gives w e p g f) (whole_asks (rules.matched e) _ p u)

  plain_is : (n : Node) (t : Typ) → n.site ≡ Site.Initialises → elaborated.coercion_at (T K A) n ≡ elaborated.plain → Stands K A n → t ≡ wished K A n → own K A n ≡ t
  plain_is n t s c h x =
      let q : own K A n ≡ at_site n.site (own K A n) (wished K A n) = subst (λ (k : Coercion). Passing k (own K A n) (at_site n.site (own K A n) (wished K A n))) c (passing K A n h) in
      q ∙ (ap (λ (k : Site). at_site k (own K A n) (wished K A n)) s ∙ sym x)

  initialised_asks : (w : Typ) (p : Pattern) (t : Option Written) (e : Exp) → (node_of e).site ≡ initialiser_site t → Every F (given_types.pattern_entries (T K A) V p) → Wants (Expects t e → Gives w e → Matched e p) (rules.initialised p t e)
  initialised_asks w p None e s u = asks_map (λ f x g. f g) (initialised_by_asks w (never e) p e refl u)
  initialised_asks w p (Some t) e s u =
      asks_map (λ f x g. f (actions.subject (elaborated.matched (T K A) e (elaborated.value (T K A) e))) (looked_at w e (own K A (written_node t)) g (λ b c. plain_is (node_of e) (own K A (written_node t)) s c (g.stands b) x)))
      (whole_asks (rules.matched e) _ p u)

  declared_u : (p : Pattern) (t : Option Written) → Every F (given_types.pattern_entries (T K A) V p) → Wants (Unit {0}) (rules.declared p t)
  declared_u p None u = one_variable_u (pattern_node p) (whole_binding p)
  declared_u p (Some t) u = then_u (whole_type_u t) (whole_asks rules.a_value _ p u)

  -- ---- all forms

  -- of what has no item, nor a mutable reference
  plain_at : (n : Node) → Plain K A n → NoItem (AtNode n)
  plain_at n p = subst NoItem (own_settled n.site (own K A n) (wished K A n) p.stands p.not_lent) p.no_item

  unit_plain : (n : Node) → Has K A n unit_shape → Plain K A n
  unit_plain n h = plain_if K A n unit_shape h tt tt

  made_at : (n : Node) (i : ℕ) → Has K A n (types.named i) → AtNode n ≡ types.named i
  made_at n i h = sym (own_settled n.site (own K A n) (wished K A n) h.stands (subst NotLent (sym h.same) tt)) ∙ h.same

  named_asks : (n : Node) (x : Use) (k : Bool) → Wants (V x.number ≡ own K A n) (rules.named_at n x k)
  named_asks n x true = asks_map (λ h. some_same _ _ h.0) (one_asked n _ _ _)
  named_asks n x false = asks_map (λ h. absurd h) (refused n _)

  nothing_u : (n : Node) (v : Bool) → Wants (Unit {0}) (rules.nothing_given n v)
  nothing_u n v = asks_map (λ h. tt) (pieces.nothing_given K A n v)

  assignable_u : (n : Node) (p : Exp) → Wants (Unit {0}) (rules.assignable n p)
  assignable_u n p = when_u (not (is_variable p)) _ (quiet n _ _ _)

  abbrev GivesArms : Typ → Node → Arms → Type 0
  GivesArms t m l = (S : actions.Subject) → At S [] (OfNode m) → (d : Temporary) → U d ≡ t → H (order_arms S (elaborated.arms (T K A) l) d)

  updates : (n : Node) (o : BinaryOp) (p : Place) (e : tree.Exp) (t : Typ) → Reads p t → NoItem t → U (temporary_at n.number 1) ≡ t → U (temporary_at n.number 2) ≡ t → Self e → (d : Temporary) → H (order.order (tree.update (elaborated.mark (T K A) n) o p e) d)
  updates n o p e t r i u1 u2 h d = (h, (reads_as p t (U (temporary_at n.number 1)) (sym u1) r, (no_item (U (temporary_at n.number 2)) t u2 i, tt)))

  abbrev OfExp : Typ → Exp → Type 0
  OfExp w e = Every F (given_types.exp_entries (T K A) V w e)

  abbrev OfExps : Exps → Type 0
  OfExps es = Every F (given_types.exps_entries (T K A) V es)

  abbrev OfElse : Typ → Else → Type 0
  OfElse w o = Every F (given_types.else_entries (T K A) V w o)

  abbrev OfFields : Fields → Type 0
  OfFields fs = Every F (given_types.fields_entries (T K A) V fs)

  abbrev OfArms : Typ → Arms → Type 0
  OfArms w l = Every F (given_types.arms_entries (T K A) V w l)

  abbrev OfBody : Typ → Body → Type 0
  OfBody w b = Every F (given_types.body_entries (T K A) V w b)

  abbrev OfStatement : Statement → Type 0
  OfStatement a = Every F (given_types.statement_entries (T K A) V a)

  abbrev OfStatements : Statements → Type 0
  OfStatements ss = Every F (given_types.statements_entries (T K A) V ss)

  abbrev OfPattern : Pattern → Type 0
  OfPattern p = Every F (given_types.pattern_entries (T K A) V p)

  two_of : (a b : List Entry) → Every F (a ++ b) → Every F a × Every F b
  two_of a b h = (every_front F a b h, every_behind F a b h)

  three_of : (a b c : List Entry) → Every F (a ++ (b ++ c)) → Every F a × Every F b × Every F c
  three_of a b c h = let g = every_behind F a (b ++ c) h in (every_front F a (b ++ c) h, every_front F b c g, every_behind F b c g)

  four_of : (a b c d : List Entry) → Every F (a ++ (b ++ (c ++ d))) → Every F a × Every F b × Every F c × Every F d
  four_of a b c d h = let g = three_of b c d (every_behind F a (b ++ (c ++ d)) h) in (every_front F a (b ++ (c ++ d)) h, g.0, g.1, g.2)

  mutual
    exp_asks : (f : ℕ) (w : Typ) (e : Exp) → Sited e → OfExp w e → Wants (Gives w e) (rules.of_exp f e)
    exp_asks f w (named.int n m v k) h u = asks_map (λ p. at_node w (named.int n m v k) refl p.outside refl (u.0 0) (λ d z. (tt, no_item (U d) (AtNode n) z (plain_at n p)))) (pieces.integer_given K A n m v k)
    exp_asks f w (named.bool n b) h u =
        asks_map (λ p. at_node w (named.bool n b) refl p.outside refl (u.0 0) (λ d z. (tt, no_item (U d) (AtNode n) z (plain_at n (plain_if K A n boolean p tt tt))))) (pieces.truth_given K A n)
    exp_asks f w (named.tuple n es) h u =
        asks_map (λ g. at_node w (named.tuple n es) refl g.1.0.outside (tuple_node n (elaborated.operands (T K A) 0 es)) (u.0 0)
        (tuples n (elaborated.operands (T K A) 0 es) (AtNode n) (plain_at n (plain_if K A n _ g.1.0 tt tt)) g.0))
        (both (each_asks f rules.members 0 Site.Value es h u.1) (both (pieces.tuple_given K A n _) (quiet n _ _ _)))
    exp_asks f w (named.var n x) h u =
        asks_map (λ g. a_place w (named.var n x) n refl refl refl refl (u.0 0) (x.number, refl, g.0) g.1) (both (named_asks n x x.known) (pieces.place_given K A n _ _ n.site))
    exp_asks f w (named.field n e x) h u =
        asks_map (λ g. let t = OfNode (node_of e) in a_place w (named.field n e x) n refl refl refl refl (u.0 0)
        (reads_under (elaborated.place (T K A) e) t (elaborated.dereferences t ++ step.Field (elaborated.field_in K.items (peeled t) x) ∷ []) (OfNode n)
        (peeled_step K.items t (step.Field (elaborated.field_in K.items (peeled t) x)) (OfNode n) (field_is K.items (peeled t) x (OfNode n) g.1.0.0)) (root_of unit_shape e h.1 g.0)) g.1.1)
        (both (exp_asks f unit_shape e h.0 u.1) (both (one_asked n _ _ _) (pieces.place_given K A n _ _ n.site)))
    exp_asks f w (named.part n e i) h u =
        asks_map (λ g. let t = OfNode (node_of e) in a_place w (named.part n e i) n refl refl refl refl (u.0 0)
        (reads_under (elaborated.place (T K A) e) t (elaborated.dereferences t ++ step.Field i ∷ []) (OfNode n)
        (peeled_step K.items t (step.Field i) (OfNode n) (part_is K.items (peeled t) i (OfNode n) g.1.0.0)) (root_of unit_shape e h.1 g.0)) g.1.1)
        (both (exp_asks f unit_shape e h.0 u.1) (both (one_asked n _ _ _) (pieces.place_given K A n _ _ n.site)))
    exp_asks f w (named.deref n e) h u =
        asks_map (λ g. let t = OfNode (node_of e) in a_place w (named.deref n e) n refl refl refl refl (u.0 0)
        (reads_under (elaborated.place (T K A) e) t (elaborated.dereference t) (OfNode n) (pointee_is K.items t (OfNode n) g.1.0.0) (root_of unit_shape e h.1 g.0)) g.1.1)
        (both (exp_asks f unit_shape e h.0 u.1) (both (one_asked n _ _ _) (pieces.place_given K A n _ _ n.site)))
    exp_asks f w (named.negate n e) h u =
        asks_map (λ g. at_node w (named.negate n e) refl g.1.outside refl (u.0 0) (λ d z. ((g.0.self, tt), no_item (U d) (AtNode n) z (plain_at n g.1))))
        (both (exp_asks f (own K A n) e h.0 u.1) (pieces.negated_given K A n (node_of e) (never e)))
    exp_asks f w (named.invert n e) h u =
        asks_map (λ g. at_node w (named.invert n e) refl g.1.outside refl (u.0 0) (λ d z. ((g.0.self, tt), no_item (U d) (AtNode n) z (plain_at n g.1))))
        (both (exp_asks f boolean e h.0 u.1) (pieces.inverted_given K A n (node_of e) (never e)))
    exp_asks f w (named.borrow n m e) h u =
        asks_map (λ g. let x = tree.borrow (elaborated.mark (T K A) n) m (elaborated.place (T K A) e) in let c = elaborated.coercion_at (T K A) n in
        at_node w (named.borrow n m e) refl g.1.outside (passed_node n c x refl) (u.0 0)
        (passes_on n c x (AtNode n) (passing K A n g.1.stands) (u.0 1) (λ d z. no_item (U d) (reference m (own K A (node_of e))) (z ∙ g.1.same) tt)))
        (both (exp_asks f unit_shape e h.0 u.1) (pieces.borrowed_given K A n m (node_of e) (root e) _))
    exp_asks f w (named.binary n o a b) h u =
        let v = two_of (given_types.exp_entries (T K A) V (given_types.wanted_beside (T K A) V o n b) a) (given_types.exp_entries (T K A) V (given_types.wanted_beside (T K A) V o n a) b) u.1 in
        asks_map (λ g. at_node w (named.binary n o a b) refl g.1.1.outside (operated_node n o (elaborated.value (T K A) a) (elaborated.value (T K A) b)) (u.0 0)
        (operates n o (elaborated.value (T K A) a) (elaborated.value (T K A) b) (AtNode n) (plain_at n g.1.1) g.0.self g.1.0.self))
        (both (exp_asks f _ a h.0.0 v.0) (both (exp_asks f _ b h.1.0 v.1) (pieces.operation_given K A o n (node_of a) (never a) (node_of b) (never b))))
    exp_asks f w (named.assign n p e) h u =
        let v = two_of (given_types.exp_entries (T K A) V unit_shape p) (given_types.exp_entries (T K A) V unit_shape e) u.1 in
        asks_map (λ g. at_node w (named.assign n p e) refl g.1.1.outside refl (u.0 0) (λ d z. (g.1.0.self, tt)))
        (both (exp_asks f unit_shape p h.0.0 v.0) (then_second (quiet (node_of e) _ _ _) (both (exp_asks f unit_shape e h.1.0 v.1) (then_second (assignable_u n p) (pieces.unit_given K A n)))))
    exp_asks f w (named.gives n p x d e) h u =
        asks_map (λ g. at_node w (named.gives n p x d e) refl g.1.outside refl (u.0 0) (λ d z. (g.0.self, tt)))
        (both (exp_asks f _ e h.0 u.1.1) (then_second (given_u n p x d (node_of e) (never e)) (pieces.unit_given K A n)))
    exp_asks f w (named.update n o p e) h u =
        let v = two_of (given_types.exp_entries (T K A) V unit_shape p) (given_types.exp_entries (T K A) V (own K A (node_of p)) e) u.1 in
        asks_map (λ g. at_node w (named.update n o p e) refl g.1.1.1.outside refl (u.0 0)
        (λ d z. updates n (elaborated.operator o) (elaborated.place (T K A) p) (elaborated.value (T K A) e) (own K A (node_of p)) (root_of unit_shape p h.0.1 g.0)
        (g.1.1.0 (place_stays p (placed_is unit_shape p h.0.1 g.0))) (u.0 1) (u.0 2) g.1.0.self d))
        (both (exp_asks f unit_shape p h.0.0 v.0) (both (exp_asks f _ e h.1.0 v.1)
        (both (pieces.updated_given K A n (node_of p) (never p) (node_of e) (never e)) (then_second (assignable_u n p) (pieces.unit_given K A n)))))
    exp_asks f w (named.call n k es) h u =
        asks_map (λ g. let x = tree.call (elaborated.mark (T K A) n) k (elaborated.operands (T K A) 0 es) in let c = elaborated.coercion_at (T K A) n in
        at_node w (named.call n k es) refl g.1.outside (passed_node n c x refl) (u.0 0)
        (passes_on n c x (AtNode n) (passing K A n g.1.stands) (u.0 1) (λ d z. (g.0, g.1.result ∙ ap (λ (t : Typ). Some t) (sym z)))))
        (then_second (quiet n _ _ _) (both (each_asks f (rules.parameters k) 0 Site.Expects es h u.1) (pieces.result_given K A n k)))
    exp_asks f w (named.hidden_call n es) h u = asks_map (λ g. absurd g) (then_first (refused n _) (each_asks f rules.values 0 Site.Value es h u.1))
    exp_asks f w (named.next_input n) h u =
        asks_map (λ p. at_node w (named.next_input n) refl p.outside refl (u.0 0) (λ d z. no_item (U d) (AtNode n) z (plain_at n (plain_if K A n _ p tt tt)))) (pieces.number_given K A n Kind.I64)
    exp_asks f w (named.variant n i v es) h u =
        asks_map (λ g. at_node w (named.variant n i v es) refl g.1.outside refl (u.0 0) (λ d z. (g.0, z ∙ made_at n i g.1)))
        (then_second (quiet n _ _ _) (both (each_asks f (rules.parts_of i v) 0 Site.Expects es h u.1) (pieces.item_given K A n i)))
    exp_asks f w (named.make n i fs) h u =
        asks_map (λ g. at_node w (named.make n i fs) refl g.1.outside refl (u.0 0) (λ d z. (g.0, z ∙ made_at n i g.1)))
        (then_second (quiet n _ _ _) (both (fields_asks f i fs h u.1) (pieces.item_given K A n i)))
    exp_asks f w (named.print n e) h u =
        asks_map (λ g. at_node w (named.print n e) refl g.1.outside refl (u.0 0) (λ d z. (g.0.self, tt))) (both (exp_asks f boolean e h.0 u.1) (then_second (printed_u (node_of e) (never e)) (pieces.unit_given K A n)))
    exp_asks f w (named.block n b) h u =
        let t = W n (body_never b) w in
        asks_map (λ g. no_place w (named.block n b) refl g.1.1.1
        (whole_as (GoesBody t b) t (elaborated.body (T K A) b) (part_join n (body_node b) (body_never b) (body_never b) w (ap passed_on (body_site (passed_on n.site) b h) ∙ passed_twice n.site) g.0 g.1.1.0 (λ q. q)) g.1.0.value) g.1.0.self)
        (both (pieces.before_given K A n n.site (body_node b)) (both (body_asks f t (passed_on n.site) b h u.1) (both (pieces.after_given K A n n.site (body_never b) (body_node b)) (join_asks n (body_never b)))))
    exp_asks f w (named.if n c b o) h u =
        let t = W n (body_never b && else_never o) w in
        let v = three_of (given_types.exp_entries (T K A) V boolean c) (given_types.body_entries (T K A) V t b) (given_types.else_entries (T K A) V t o) u.1 in
        asks_map (λ g. at_node w (named.if n c b o) refl g.1.outside refl (u.0 0)
        (λ d z. tests_hold n (elaborated.value (T K A) c) (elaborated.mark_if (T K A) n (body_never b && else_never o)) (elaborated.body (T K A) b) (elaborated.otherwise (T K A) n o) d g.0.self (g.1.first d z) (otherwise_gives n o t g.1.second d z)))
        (both (exp_asks f boolean c h.0.0 v.0) (then_second (tested_u (node_of c) (never c))
        (branches f n b o w h.1 (body_asks f t (branch_site n.site o) b h.1 v.1) (else_asks f n (body_never b && else_never o) w o h.2 v.2 (right_false (body_never b) (else_never o))))))
    exp_asks f w (named.if_let n p e b o) h u =
        let t = W n (body_never b && else_never o) w in
        let v = four_of (given_types.pattern_entries (T K A) V p) (given_types.exp_entries (T K A) V unit_shape e) (given_types.body_entries (T K A) V t b) (given_types.else_entries (T K A) V t o) u.1 in
        asks_map (λ g. at_node w (named.if_let n p e b o) refl g.1.1.outside refl (u.0 0)
        (λ d z. looks_hold (elaborated.mark_if (T K A) n (body_never b && else_never o)) (elaborated.matched (T K A) e (elaborated.value (T K A) e)) (elaborated.pattern (T K A) None p) (elaborated.body (T K A) b)
        (elaborated.otherwise (T K A) n o) d (matched_gives unit_shape e g.0)
        (pattern_gives unit_shape e p g.0 g.1.0) (g.1.1.first d z) (otherwise_gives n o t g.1.1.second d z)))
        (both (exp_asks f unit_shape e h.0.0 v.1) (then_second (not_never_u (node_of e) (never e)) (both (whole_asks (rules.matched e) _ p v.0)
        (branches f n b o w h.1 (body_asks f t (branch_site n.site o) b h.1 v.2) (else_asks f n (body_never b && else_never o) w o h.2 v.3 (right_false (body_never b) (else_never o)))))))
    exp_asks f w (named.match n e l) h u =
        let t = W n (named.all_never l) w in
        let v = two_of (given_types.exp_entries (T K A) V unit_shape e) (given_types.arms_entries (T K A) V t l) u.1 in
        asks_map (λ g. at_node w (named.match n e l) refl g.1.1 refl (u.0 0) (λ d z. (
          matched_gives unit_shape e g.0,
          g.1.0 (actions.subject (elaborated.matched (T K A) e (elaborated.value (T K A) e))) (looked_at unit_shape e (OfNode (node_of e)) g.0 (λ _ _. refl)) d z,
        )))
        (both (exp_asks f unit_shape e h.0.0 v.0) (then_second (not_never_u (node_of e) (never e))
        (both (arms_asks f n (named.all_never l) w (rules.matched e) (node_of e) l h.1 v.1 (λ q. q)) (join_asks n (named.all_never l)))))
    exp_asks f w (named.loop n l k b) h u =
        asks_map (λ g. at_node w (named.loop n l k b) refl g.1 refl (u.0 0) (λ d z. g.0.self))
        (both (body_asks f unit_shape Site.Value b h u.1) (then_second (nothing_u (body_node b) (body_never b)) (loop_asks n k)))
    exp_asks f w (named.while n l c b) h u =
        let v = two_of (given_types.exp_entries (T K A) V boolean c) (given_types.body_entries (T K A) V unit_shape b) u.1 in
        asks_map (λ g. at_node w (named.while n l c b) refl g.1.1.outside refl (u.0 0)
        (λ d z. tests_hold n (elaborated.value (T K A) c) (elaborated.mark_if (T K A) (body_node b) (body_never b)) (elaborated.body (T K A) b) (elaborated.leaves n l) (temporary_at (body_node b).number 0) g.0.self (g.1.0.value (temporary_at (body_node b).number 0) g.1.0.there) tt))
        (both (exp_asks f boolean c h.0.0 v.0) (then_second (tested_u (node_of c) (never c))
        (both (body_asks f unit_shape Site.Value b h.1 v.1) (then_second (nothing_u (body_node b) (body_never b)) (pieces.unit_given K A n)))))
    exp_asks f w (named.while_let n l p e b) h u =
        let v = three_of (given_types.pattern_entries (T K A) V p) (given_types.exp_entries (T K A) V unit_shape e) (given_types.body_entries (T K A) V unit_shape b) u.1 in
        asks_map (λ g. at_node w (named.while_let n l p e b) refl g.1.1.1.outside refl (u.0 0)
        (λ d z. looks_hold (elaborated.mark_if (T K A) (body_node b) (body_never b)) (elaborated.matched (T K A) e (elaborated.value (T K A) e)) (elaborated.pattern (T K A) None p) (elaborated.body (T K A) b)
        (elaborated.leaves n l) (temporary_at (body_node b).number 0)
        (matched_gives unit_shape e g.0) (pattern_gives unit_shape e p g.0 g.1.0) (g.1.1.0.value (temporary_at (body_node b).number 0) g.1.1.0.there) tt))
        (both (exp_asks f unit_shape e h.0.0 v.1) (then_second (not_never_u (node_of e) (never e)) (both (whole_asks (rules.matched e) _ p v.0)
        (both (body_asks f unit_shape Site.Value b h.1 v.2) (then_second (nothing_u (body_node b) (body_never b)) (pieces.unit_given K A n))))))
    exp_asks f w (named.break n l) h u = asks_map (λ p. no_place w (named.break n l) refl p (λ d z. tt) tt) (never_asks n n.site)
    exp_asks f w (named.continue n l) h u = asks_map (λ p. no_place w (named.continue n l) refl p (λ d z. tt) tt) (never_asks n n.site)
    exp_asks f w (named.return n o) h u =
        asks_map (λ g. no_place w (named.return n o) refl g.1 (λ d z. returned_gives n o unit_shape g.0 d) (returned_gives n o unit_shape g.0 (temporary_at n.number 0)))
        (then_second (returns_u f n o) (both (returned_asks f unit_shape Site.Expects o h u.1) (never_asks n n.site)))

    each_asks : (f : ℕ) (l : rules.Listed) (k : ℕ) (t : Site) (es : Exps) → EachSited t es → OfExps es → Wants (H (order_all (elaborated.operands (T K A) k es))) (rules.of_each f l k es)
    each_asks f l k t named.no_exp h u = none
    each_asks f l k t (named.exp_and e es) h u =
        let v = two_of (given_types.exp_entries (T K A) V unit_shape e) (given_types.exps_entries (T K A) V es) u in
        asks_map (λ g. (g.0.self, g.1)) (then_second (each_before_u l k (node_of e)) (both (exp_asks f unit_shape e h.0.0 v.0) (then_second (each_after_u l e) (each_asks f l (suc k) t es h.1 v.1))))

    fields_asks : (f i : ℕ) (fs : Fields) → FieldsSited fs → OfFields fs → Wants (H (order_all (elaborated.fields (T K A) i fs))) (rules.of_fields f i fs)
    fields_asks f i named.no_field h u = none
    fields_asks f i (named.field_and x e fs) h u =
        let v = two_of (given_types.exp_entries (T K A) V unit_shape e) (given_types.fields_entries (T K A) V fs) u in
        asks_map (λ g. (g.0.self, g.1)) (then_second (quiet (node_of e) _ _ _) (both (exp_asks f unit_shape e h.0.0 v.0) (fields_asks f i fs h.1 v.1)))

    else_asks : (f : ℕ) (n : Node) (v : Bool) (w : Typ) (o : Else) → ElseSited (passed_on n.site) o → OfElse (W n v w) o → (else_never o ≡ false → v ≡ false) → Wants (GivesElse (W n v w) o) (rules.of_else f n o)
    else_asks f n v w named.absent h u s = none
    else_asks f n v w (named.present e) h u s =
        asks_map (λ g. else_joined n v w e (ap passed_on h.1 ∙ passed_twice n.site) g.0 g.1.1 s g.1.0)
        (both (pieces.before_given K A n n.site (node_of e)) (both (exp_asks f (W n v w) e h.0 u) (pieces.after_given K A n n.site (never e) (node_of e))))

    returned_asks : (f : ℕ) (w : Typ) (t : Site) (o : Else) → ElseSited t o → OfElse w o → Wants (GivesReturned w o) (rules.of_returned f o)
    returned_asks f w t named.absent h u = none
    returned_asks f w t (named.present e) h u = exp_asks f w e h.0 u

    arms_asks : (f : ℕ) (n : Node) (v : Bool) (w : Typ) (s : rules.Matched) (m : Node) (l : Arms) → ArmsSited (passed_on n.site) l → OfArms (W n v w) l → (named.all_never l ≡ false → v ≡ false) → Wants (GivesArms (W n v w) m l) (rules.of_arms f n s m l)
    arms_asks f n v w s m named.no_arm h u k = asks_map (λ _ S g d z. tt) none
    arms_asks f n v w s m (named.arm_and p e l) h u k =
        let y = three_of (given_types.pattern_entries (T K A) V p) (given_types.exp_entries (T K A) V (W n v w) e) (given_types.arms_entries (T K A) V (W n v w) l) u in
        asks_map (λ g S q d z. (
          testing_holds S (tests [] (elaborated.pattern (T K A) None p)) _ (binding_holds S (bindings [] (elaborated.pattern (T K A) None p)) (mark_of (elaborated.value (T K A) e)).node (order.order (elaborated.value (T K A) e) d) (g.0 S q)
              ((else_joined n v w e (ap passed_on h.0.1 ∙ passed_twice n.site) g.1.0 g.1.1.1.0 (λ x. k (left_false (never e) (named.all_never l) x)) g.1.1.0).0 d z)),
          g.1.1.1.1 S q d z,
        ))
        (both (whole_asks s _ p y.0) (both (pieces.before_given K A n n.site (node_of e)) (both (exp_asks f (W n v w) e h.0.0 y.1)
        (both (pieces.after_given K A n n.site (never e) (node_of e)) (arms_asks f n v w s m l h.1 y.2 (λ x. k (right_false (never e) (named.all_never l) x)))))))

    body_asks : (f : ℕ) (w : Typ) (t : Site) (b : Body) → BodySited t b → OfBody w b → Wants (GivesBody w b) (rules.of_body f b)
    body_asks f w t (named.body n ss o) h u =
        let r = W n (named.tail_never (some_diverges ss) o) w in
        let v = two_of (given_types.statements_entries (T K A) V ss) (given_types.else_entries (T K A) V r o) u.1 in
        let s = subst (λ (k : Site). ElseSited k o) (sym h.0) h.2 in
        asks_map (λ g. let x = tail_joined n (some_diverges ss) o w s g.1.0 g.1.1.1.0 g.1.1.0 in
        record {
          there = u.0 0;
          value = λ d z. g.0 (elaborated.tail (T K A) n o) d (tail_gives n o r x d z) n.number;
          self = g.0 (elaborated.tail (T K A) n o) (temporary_at n.number 0) (tail_gives n o r x (temporary_at n.number 0) (u.0 0)) n.number;
          whole = λ d. g.0 (tree.give (elaborated.no_mark n) (elaborated.tail (T K A) n o)) d (given_tail n o r x d) n.number;
        })
        (both (statements_asks f ss h.1 v.0) (both (tail_before_given n o) (both (returned_asks f r n.site o s v.1) (both (tail_after_given n (some_diverges ss) o) (join_asks n (named.tail_never (some_diverges ss) o))))))

    statement_asks : (f : ℕ) (a : Statement) → StatementSited a → OfStatement a → Wants (GivesStatement a) (rules.of_statement f a)
    statement_asks f (named.declares n p t) h u =
        asks_map (λ _ rest d r m. declaring_holds n.number (elaborated.variables p) m (order_body rest m d) (r m)) (declared_u p t (two_of (given_types.pattern_entries (T K A) V p) (map silent (optional_nodes t)) u.1).0)
    statement_asks f (named.lets n p t e) h u =
        let w = given_types.wanted_by (T K A) V (whole_binding p) in
        let v = three_of (given_types.pattern_entries (T K A) V p) (map silent (optional_nodes t)) (given_types.exp_entries (T K A) V w e) u.1 in
        asks_map (λ g rest d r m. (matched_gives w e g.1.0, binding_holds (actions.subject (elaborated.matched (T K A) e (elaborated.value (T K A) e))) (bindings [] (elaborated.pattern (T K A) None p)) m (order_body rest m d) (g.1.1 g.0 g.1.0) (r m)))
        (both (typed_before_asks t e) (both (exp_asks f w e h.0 v.2) (initialised_asks w p t e h.1 v.0)))
    statement_asks f (named.evaluates n e s) h u = asks_map (λ g rest d r m. (g.self, r m)) (then_first (exp_asks f unit_shape e h.0 u.1) (evaluated_u s (node_of e) (never e)))

    statements_asks : (f : ℕ) (ss : Statements) → StatementsSited ss → OfStatements ss → Wants (GivesStatements ss) (rules.of_statements f ss)
    statements_asks f named.no_statement h u = asks_map (λ _ last d r m. r) none
    statements_asks f (named.statement_and a ss) h u =
        let v = two_of (given_types.statement_entries (T K A) V a) (given_types.statements_entries (T K A) V ss) u in
        asks_map (λ g last d r m. g.0 (elaborated.nested (T K A) ss last) d (g.1 last d r) m) (both (statement_asks f a h.0 v.0) (statements_asks f ss h.1 v.1))

  -- ---- functions

  function_asks : (f : Function) → BodySited Site.Expects f.body → OfBody unit_shape f.body → Wants (GivesBody unit_shape f.body) (rules.of_function f)
  function_asks f h u = then_second (parameters_u f.params) (then_second (result_u f.result) (then_second (quiet (body_node f.body) _ _ _) (then_first (body_asks f.item unit_shape Site.Expects f.body h u) (never_given_u f.never_given))))

  begin_holds : (xs : List Parameter) (n : ℕ) (rest : Order) → H rest → H (beginning (elaborated.parameters xs) n rest)
  begin_holds [] n rest g = g
  begin_holds (x ∷ xs) n rest g = (tt, (tt, begin_holds xs n rest g))

  pub function_holds : (f : Function) → BodySited Site.Expects f.body → Every F (given_types.entries (T K A) V f) → MeetsEach K A (rules.demands f) → H (order_function (elaborated.elaborated (T K A) f))
  function_holds f h u met =
      let b = three_of (given_types.parameters_entries (T K A) V f.params) (map silent (optional_nodes f.result)) (given_types.body_entries (T K A) V unit_shape f.body) u.1 in
      let x = function_asks f h b.2 in
      begin_holds f.params _ _ ((x.gives (subst (λ (l : List _). MeetsEach K A l) (x.adds []) met)).whole (temporary_of (elaborated.function_body (T K A) f.body)))

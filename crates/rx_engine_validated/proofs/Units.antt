-- What the rules of types say of a function that is declared to give the unit: each value that it returns is of the unit's type, so where none
-- is read from a place, it gives the unit by its form. One induction on the tree with numbers.
use Rattle.std.proofs.Common.{◌≡◌, ℕ, suc, Bool, true, false, not, ◌&&◌, List, [], ◌∷◌, ◌++◌, Option, Some, None, slice_get, refl, sym, ap, ◌∙◌, subst, true≢false}
use Rattle.rx_core.specs.declared.types.Kind.{Kind}
use Rattle.rx_tree.specs.declared.tree.BinaryOp.{BinaryOp}
use Rattle.rx_typed.specs.declared.nodes.Node.{Node}
use Rattle.rx_typed.specs.declared.nodes.Site.{Site}
use Rattle.rx_typed.specs.Types as types
use Rattle.rx_typed.specs.Types.{Typ, integer, boolean, tuple_of, reference, shapes_of, unit_shape, result_declared}
use Rattle.rx_typed.specs.Named as named
use Rattle.rx_typed.specs.Named.{Written, Pattern, Exp, Exps, Else, Fields, Arms, Body, Statement, Statements, Function, pattern_node, whole_binding, node_of, body_node, is_place, is_variable, root, never, body_never, else_never, some_diverges, tail_never}
use Rattle.rx_typed.specs.Naming.{passed_on}
use Rattle.rx_typed.specs.Elaborated as elaborated
use Rattle.rx_typed.specs.Elaborated.{Coercion}
use Rattle.rx_typed.specs.Tree as tree
use Rattle.rx_typed.specs.Tree.{Place}
use Rattle.rx_typeck_solver.specs.declared.facts.Fact.{Fact}
use Rattle.rx_typeck_solver.specs.declared.facts.Fact.TheVariants as fact
use Rattle.rx_typeck_solver.specs.declared.facts.Demand.{Demand}
use Rattle.rx_typeck_solver.specs.declared.facts.Op.TheVariants as op
use Rattle.rx_typeck_solver.specs.Facts.{MeetsAll, MeetsEach, Assignment, KnownItems, types_at}
use Rattle.rx_typeck_typed.specs.Asking.{Asking, ◌>>◌, all, signed}
use Rattle.rx_typeck_typed.specs.Demands as rules
use Rattle.rx_repair.specs.TemporaryTypes.{at_site, own_or}
use Rattle.rx_repair.proofs.Sites.{Sited, EachSited, ElseSited, FieldsSited, ArmsSited, BodySited, StatementSited, StatementsSited, branch_site}
use Rattle.rx_repair.proofs.Asking.{Asks, asks_map, quietly, none, both, then_first, then_second, then_u, one_asked, quiet, refused, whole_type_u, never_asks, join_asks, tested_u, printed_u, not_never_u, named_u, given_u, updated_u, one_variable_u, evaluated_u, each_before_u, each_after_u, parameters_u, result_u, never_given_u, when_u, unit_u, loop_asks, if_joins_asks}
use Rattle.rx_repair.proofs.Places.{some_same, fixed_same}
use Rattle.rx_repair.proofs.Settling.{NotLent, Passing, own_settled, Before, After, part_fits, lone_fits, passed_twice}
use Rattle.rx_repair.proofs.Pieces as pieces
use Rattle.rx_repair.proofs.Pieces.{T, own, wished, passing, Has}
use Rattle.rx_repair.proofs.Bound.{whole_binds}
use Rattle.rx_engine_simulation.specs.Sights.{In}
use Rattle.rx_engine_simulation.specs.Units.{GivesUnit, of_unit, of_assignment, of_update, of_print, of_call, of_block, of_choice, of_loop, of_jump, of_return, AllGiveUnit, no_arm_gives, each_gives, EndsInUnit, tail_gives, behind_run, behind_declaration, behind_let, ReturnsUnit, in_read, in_borrow, in_share, in_build, in_unit, in_lazy, in_assignment, in_update, in_call, in_input, in_print, in_block, in_choice, in_loop, in_jump, in_return, AllReturnUnit, no_operand_returns, operands_return, MatchedReturnsUnit, in_place, in_value, ArmsReturnUnit, no_arm_returns, arms_return, BodyReturnsUnit, tail_returns, run_returns, declaration_returns, let_returns}
use Rattle.rx_engine_validated.specs.UnitReads.{is_unit, ReadsNoUnit, NoneReadsUnit, MatchedReadsNoUnit, ArmsReadNoUnit, BodyReadsNoUnit}

-- ---- types that are not the unit

abbrev NoUnit : Typ → Type 0
NoUnit t = is_unit t ≡ false

other : (t : Typ) → NoUnit t → t ≡ unit_shape → ⊥
other t h e = true≢false (sym (ap is_unit e) ∙ h)

-- of a type that no coercion changes
pub data Scalar : Typ → Type 0 where
  a_number : (k : Kind) → Scalar (integer k)
  a_truth : Scalar boolean

scalar_not : (t : Typ) → Scalar t → NoUnit t
scalar_not _ (a_number k) = refl
scalar_not _ a_truth = refl

scalar_own : (t : Typ) → Scalar t → NotLent t
scalar_own _ (a_number k) = tt
scalar_own _ a_truth = tt

left_false : (a b : Bool) → a ≡ false → (a && b) ≡ false
left_false a b e = ap (λ (x : Bool). x && b) e

right_false : (a b : Bool) → b ≡ false → (a && b) ≡ false
right_false true b e = e
right_false false b e = refl

pub body_site : (t : Site) (b : Body) → BodySited t b → (body_node b).site ≡ t
body_site t (named.body n ss o) h = h.0

module _ (K : KnownItems) (A : Assignment) (U : List ℕ) (units : (g : ℕ) → result_declared (slice_get K.items g) ≡ Some unit_shape → In g U) where
  abbrev Wants : Type 0 → Asking → Type 0
  Wants R a = Asks K A R a

  abbrev value : Exp → tree.Exp
  value e = elaborated.value (T K A) e

  abbrev AtNode : Node → Typ
  AtNode n = at_site n.site (own K A n) (wished K A n)

  -- the type that an expression's value gets, where this is wanted of what is Never
  abbrev W : Node → Bool → Typ → Typ
  W n v w = at_site n.site (own_or v (own K A n) w) (wished K A n)

  abbrev Goes : Typ → Exp → Typ
  Goes w e = W (node_of e) (never e) w

  abbrev GoesBody : Typ → Body → Typ
  GoesBody w b = W (body_node b) (body_never b) w

  -- where it gets this type, and that is the unit's
  abbrev Whole : Typ → tree.Exp → Type 0
  Whole t x = t ≡ unit_shape → GivesUnit U x

  -- ---- what the rules ask of one node

  -- no coercion changes what is no mutable reference
  settled : (n : Node) (t : Typ) → Has K A n t → NotLent t → AtNode n ≡ t
  settled n t h l = sym (own_settled n.site (own K A n) (wished K A n) h.stands (subst NotLent (sym h.same) l)) ∙ h.same

  never_unit : (n : Node) (t : Typ) → Has K A n t → NotLent t → NoUnit t → AtNode n ≡ unit_shape → ⊥
  never_unit n t h l u z = other t u (sym (settled n t h l) ∙ z)

  record Plain (n : Node) : Type 0 where
    typ : Typ
    has : Has K A n typ
    scalar : Scalar typ

  plain_not : (n : Node) → Plain n → AtNode n ≡ unit_shape → ⊥
  plain_not n p z = never_unit n p.typ p.has (scalar_own p.typ p.scalar) (scalar_not p.typ p.scalar) z

  truth : (n : Node) → Has K A n boolean → Plain n
  truth n h = record { typ = boolean; has = h; scalar = a_truth }

  met_behind : (fs gs : List Fact) → MeetsAll K A (fs ++ gs) → MeetsAll K A gs
  met_behind [] gs h = h
  met_behind (f ∷ fs) gs h = met_behind fs gs h.1

  integer_given : (n : Node) (m : Bool) (v : ℕ) (k : Option Kind) → Wants (Plain n) (rules.integer_at n m v k)
  integer_given n m v k =
      asks_map (λ h. record { typ = integer h.0.0.0; has = record { same = h.0.0.1; outside = h.1.0; stands = h.1.1 }; scalar = a_number h.0.0.0 })
      (both (one_asked n _ _ _) (then_first (pieces.value_given K A n n.site) (quiet n _ _ _)))

  arithmetic_given : (n a : Node) (x : Bool) (b : Node) (y : Bool) → Wants (Plain n) (rules.arithmetic n a x b y)
  arithmetic_given n a x b y =
      asks_map (λ h. let z = met_behind (rules.own_operand n a x ++ rules.own_operand n b y) (fact.Integer n.number all ∷ []) h.0 in
      record { typ = integer z.0.0; has = record { same = z.0.1; outside = h.1.0; stands = h.1.1 }; scalar = a_number z.0.0 }) (both (one_asked n _ _ _) (pieces.value_given K A n n.site))

  negated_given : (n a : Node) (x : Bool) → Wants (Plain n) (rules.negated n a x)
  negated_given n a x =
      asks_map (λ h. let z = met_behind (rules.own_operand n a x) (fact.Integer n.number signed ∷ []) h.0 in
      record { typ = integer z.0.0; has = record { same = z.0.1; outside = h.1.0; stands = h.1.1 }; scalar = a_number z.0.0 }) (both (one_asked n _ _ _) (pieces.value_given K A n n.site))

  -- what compares, or joins truth values
  truth_behind : {a : Asking} (n : Node) → Wants (Unit {0}) a → Wants (Plain n) (a >> rules.own n op.Truth [])
  truth_behind n x = asks_map (truth n) (then_second x (pieces.truth_given K A n))

  operation_given : (o : BinaryOp) (n a : Node) (x : Bool) (b : Node) (y : Bool) → Wants (Plain n) (rules.operation o n a x b y)
  operation_given BinaryOp.Or n a x b y = truth_behind n (quiet n _ _ _)
  operation_given BinaryOp.And n a x b y = truth_behind n (quiet n _ _ _)
  operation_given BinaryOp.Eq n a x b y = truth_behind n (quiet n _ _ _)
  operation_given BinaryOp.Ne n a x b y = truth_behind n (quiet n _ _ _)
  operation_given BinaryOp.Lt n a x b y = truth_behind n (quiet n _ _ _)
  operation_given BinaryOp.Le n a x b y = truth_behind n (quiet n _ _ _)
  operation_given BinaryOp.Gt n a x b y = truth_behind n (quiet n _ _ _)
  operation_given BinaryOp.Ge n a x b y = truth_behind n (quiet n _ _ _)
  operation_given _ n a x b y = arithmetic_given n a x b y

  assignable_u : (n : Node) (p : Exp) → Wants (Unit {0}) (rules.assignable n p)
  assignable_u n p = when_u (not (is_variable p)) _ (quiet n _ _ _)

  declared_u : (p : Pattern) (t : Option Written) → Wants (Unit {0}) (rules.declared p t)
  declared_u p None = one_variable_u (pattern_node p) (whole_binding p)
  declared_u p (Some t) = then_u (whole_type_u t) (whole_binds K A rules.a_value _ p)

  typed_before_u : (t : Option Written) (e : Exp) → Wants (Unit {0}) (rules.typed_before t e)
  typed_before_u None e = none
  typed_before_u (Some t) e = then_u (whole_type_u t) (quiet (node_of e) _ _ _)

  initialised_by_u : (v : Bool) (p : Pattern) (s : rules.Matched) (n : Node) → Wants (Unit {0}) (rules.initialised_by v p s n)
  initialised_by_u true p s n = one_variable_u (pattern_node p) (whole_binding p)
  initialised_by_u false p s n = quietly (whole_binds K A s _ p)

  initialised_u : (p : Pattern) (t : Option Written) (e : Exp) → Wants (Unit {0}) (rules.initialised p t e)
  initialised_u p None e = initialised_by_u (never e) p (rules.matched e) (node_of e)
  initialised_u p (Some t) e = quietly (whole_binds K A (rules.matched e) _ p)

  -- ---- values as they are put together

  read_gives : (n : Node) (c : Coercion) (p : Place) (w : Typ) → Passing c (own K A n) w → ReadsNoUnit (elaborated.read_as (T K A) n c p) → Whole w (elaborated.read_as (T K A) n c p)
  read_gives n elaborated.plain p w c h z = absurd (other (own K A n) h (c ∙ z))
  read_gives n elaborated.reborrow p w c h z = absurd (other (reference true c.0) refl (sym c.2 ∙ z))
  read_gives n elaborated.share p w c h z = absurd (other (reference false c.0) refl (sym c.2 ∙ z))

  read_returns : (n : Node) (c : Coercion) (p : Place) → ReturnsUnit U (elaborated.read_as (T K A) n c p)
  read_returns n elaborated.plain p = in_read
  read_returns n elaborated.reborrow p = in_borrow
  read_returns n elaborated.share p = in_borrow

  -- what has the unit's type by its node
  passed_gives : (n : Node) (c : Coercion) (x : tree.Exp) (w : Typ) → Passing c (own K A n) w → Whole (own K A n) x → Whole w (elaborated.passed_as (T K A) n c x)
  passed_gives n elaborated.plain x w c h z = h (c ∙ z)
  passed_gives n elaborated.reborrow x w c h z = absurd (other (reference true c.0) refl (sym c.2 ∙ z))
  passed_gives n elaborated.share x w c h z = absurd (other (reference false c.0) refl (sym c.2 ∙ z))

  passed_returns : (n : Node) (c : Coercion) (x : tree.Exp) → ReturnsUnit U x → ReturnsUnit U (elaborated.passed_as (T K A) n c x)
  passed_returns n elaborated.plain x h = h
  passed_returns n elaborated.reborrow x h = h
  passed_returns n elaborated.share x h = in_share h

  passed_reads : (n : Node) (c : Coercion) (x : tree.Exp) → ReadsNoUnit (elaborated.passed_as (T K A) n c x) → ReadsNoUnit x
  passed_reads n elaborated.plain x h = h
  passed_reads n elaborated.reborrow x h = h
  passed_reads n elaborated.share x h = h

  operated_reads : (n : Node) (o : BinaryOp) (a b : tree.Exp) → ReadsNoUnit (elaborated.operated (T K A) n o a b) → ReadsNoUnit a × ReadsNoUnit b
  operated_reads n BinaryOp.And a b h = h
  operated_reads n BinaryOp.Or a b h = h
  operated_reads n BinaryOp.Eq a b h = (h.0, h.1.0)
  operated_reads n BinaryOp.Ne a b h = (h.0, h.1.0)
  operated_reads n BinaryOp.Lt a b h = (h.0, h.1.0)
  operated_reads n BinaryOp.Le a b h = (h.0, h.1.0)
  operated_reads n BinaryOp.Gt a b h = (h.0, h.1.0)
  operated_reads n BinaryOp.Ge a b h = (h.0, h.1.0)
  operated_reads n BinaryOp.Add a b h = (h.0, h.1.0)
  operated_reads n BinaryOp.Sub a b h = (h.0, h.1.0)
  operated_reads n BinaryOp.Mul a b h = (h.0, h.1.0)
  operated_reads n BinaryOp.Div a b h = (h.0, h.1.0)
  operated_reads n BinaryOp.Rem a b h = (h.0, h.1.0)

  two_return : (n : Node) (o : BinaryOp) (a b : tree.Exp) → ReturnsUnit U a → ReturnsUnit U b
      → ReturnsUnit U (tree.build (elaborated.mark (T K A) n) (tree.operation o) (tree.operand_and 0 a (tree.operand_and 1 b tree.no_operand)))
  two_return n o a b g h = in_build (operands_return g (operands_return h no_operand_returns))

  operated_returns : (n : Node) (o : BinaryOp) (a b : tree.Exp) → ReturnsUnit U a → ReturnsUnit U b → ReturnsUnit U (elaborated.operated (T K A) n o a b)
  operated_returns n BinaryOp.And a b g h = in_lazy g h
  operated_returns n BinaryOp.Or a b g h = in_lazy g h
  operated_returns n BinaryOp.Eq a b g h = two_return n BinaryOp.Eq a b g h
  operated_returns n BinaryOp.Ne a b g h = two_return n BinaryOp.Ne a b g h
  operated_returns n BinaryOp.Lt a b g h = two_return n BinaryOp.Lt a b g h
  operated_returns n BinaryOp.Le a b g h = two_return n BinaryOp.Le a b g h
  operated_returns n BinaryOp.Gt a b g h = two_return n BinaryOp.Gt a b g h
  operated_returns n BinaryOp.Ge a b g h = two_return n BinaryOp.Ge a b g h
  operated_returns n BinaryOp.Add a b g h = two_return n BinaryOp.Add a b g h
  operated_returns n BinaryOp.Sub a b g h = two_return n BinaryOp.Sub a b g h
  operated_returns n BinaryOp.Mul a b g h = two_return n BinaryOp.Mul a b g h
  operated_returns n BinaryOp.Div a b g h = two_return n BinaryOp.Div a b g h
  operated_returns n BinaryOp.Rem a b g h = two_return n BinaryOp.Rem a b g h

  matched_returns : (b : Bool) (c : Coercion) (e : Exp) (x : tree.Exp) → (ReadsNoUnit x → ReturnsUnit U x) → MatchedReadsNoUnit (elaborated.matched_as (T K A) b c e x) → MatchedReturnsUnit U (elaborated.matched_as (T K A) b c e x)
  matched_returns true elaborated.plain e x f h = in_place
  matched_returns true elaborated.reborrow e x f h = in_value (f h)
  matched_returns true elaborated.share e x f h = in_value (f h)
  matched_returns false elaborated.plain e x f h = in_value (f h)
  matched_returns false elaborated.reborrow e x f h = in_value (f h)
  matched_returns false elaborated.share e x f h = in_value (f h)

  two_ways_give : {m : tree.Mark} {c : tree.Scrutinee} {p : tree.Pattern} (a b : tree.Exp) → GivesUnit U a → GivesUnit U b → GivesUnit U (tree.choose m c (tree.arm_and p a (tree.arm_and tree.any b tree.no_arm)))
  two_ways_give a b g h = of_choice (each_gives g (each_gives h no_arm_gives))

  two_ways_return : {m : tree.Mark} {c : tree.Scrutinee} {p : tree.Pattern} (a b : tree.Exp) → MatchedReturnsUnit U c → ReturnsUnit U a → ReturnsUnit U b
      → ReturnsUnit U (tree.choose m c (tree.arm_and p a (tree.arm_and tree.any b tree.no_arm)))
  two_ways_return a b f g h = in_choice f (arms_return g (arms_return h no_arm_returns))

  -- ---- statements round others

  ends_behind : (a : Statement) (rest : tree.Body) → EndsInUnit U rest → EndsInUnit U (elaborated.statement (T K A) a rest)
  ends_behind (named.declares n p t) rest h = behind_declaration h
  ends_behind (named.lets n p t e) rest h = behind_let h
  ends_behind (named.evaluates n e s) rest h = behind_run h

  ends_nested : (ss : Statements) (last : tree.Exp) → GivesUnit U last → EndsInUnit U (elaborated.nested (T K A) ss last)
  ends_nested named.no_statement last h = tail_gives h
  ends_nested (named.statement_and a ss) last h = ends_behind a (elaborated.nested (T K A) ss last) (ends_nested ss last h)

  -- ---- what parts give

  pub record Gives (w : Typ) (e : Exp) : Type 0 where
    gives : Whole (Goes w e) (value e)
    returns : ReturnsUnit U (value e)

  -- where no unit is read in it
  abbrev If : Typ → Exp → Type 0
  If w e = ReadsNoUnit (value e) → Gives w e

  abbrev Operands : ℕ → Exps → Type 0
  Operands k es = NoneReadsUnit (elaborated.operands (T K A) k es) → AllReturnUnit U (elaborated.operands (T K A) k es)

  abbrev InFields : ℕ → Fields → Type 0
  InFields i fs = NoneReadsUnit (elaborated.fields (T K A) i fs) → AllReturnUnit U (elaborated.fields (T K A) i fs)

  -- a tuple of nothing is the unit
  tuple_gives : (w : Typ) (n : Node) (es : Exps) → Has K A n (tuple_of (shapes_of (types_at A (rules.exp_nodes es)))) → Operands 0 es → If w (named.tuple n es)
  tuple_gives w n named.no_exp p g h = record { gives = λ z. of_unit; returns = in_unit }
  tuple_gives w n (named.exp_and e es) p g h = record { gives = λ z. absurd (never_unit n _ p tt refl z); returns = in_build (g h) }

  record Part (t : Typ) (x : tree.Exp) : Type 0 where
    gives : Whole t x
    returns : ReturnsUnit U x

  -- what follows `else`, or the tail of a block, where it gets this type
  abbrev IfElse : Typ → Else → Type 0
  IfElse t named.absent = Unit {0}
  IfElse t (named.present e) = ReadsNoUnit (value e) → Part t (value e)

  abbrev IfReturned : Typ → Else → Type 0
  IfReturned w named.absent = Unit {0}
  IfReturned w (named.present e) = If w e

  otherwise_part : (n : Node) (o : Else) (t : Typ) → IfElse t o → ReadsNoUnit (elaborated.otherwise (T K A) n o) → Part t (elaborated.otherwise (T K A) n o)
  otherwise_part n named.absent t g h = record { gives = λ z. of_unit; returns = in_unit }
  otherwise_part n (named.present e) t g h = g h

  tail_part : (n : Node) (o : Else) (t : Typ) → IfElse t o → ReadsNoUnit (elaborated.tail (T K A) n o) → Part t (elaborated.tail (T K A) n o)
  tail_part n named.absent t g h = record { gives = λ z. of_unit; returns = in_unit }
  tail_part n (named.present e) t g h = g h

  record InBody (w : Typ) (b : Body) : Type 0 where
    part : ReadsNoUnit (elaborated.body (T K A) b) → Part (GoesBody w b) (elaborated.body (T K A) b)
    whole : GoesBody w b ≡ unit_shape → ReadsNoUnit (elaborated.function_body (T K A) b) → ReturnsUnit U (elaborated.function_body (T K A) b)

  abbrev InStatement : Statement → Type 0
  InStatement a = (rest : tree.Body) → BodyReadsNoUnit (elaborated.statement (T K A) a rest) → BodyReadsNoUnit rest × (BodyReturnsUnit U rest → BodyReturnsUnit U (elaborated.statement (T K A) a rest))

  abbrev InStatements : Statements → Type 0
  InStatements ss = (last : tree.Exp) → BodyReadsNoUnit (elaborated.nested (T K A) ss last) → ReadsNoUnit last × (ReturnsUnit U last → BodyReturnsUnit U (elaborated.nested (T K A) ss last))

  -- ---- parts that a value is joined of

  part_join : (n m : Node) (vm vn : Bool) (w : Typ) → passed_on m.site ≡ passed_on n.site → Before n.site (wished K A m) (wished K A n) → After n.site vm (own K A m) (own K A n) → (vm ≡ false → vn ≡ false) → W m vm (W n vn w) ≡ W n vn w
  part_join n m vm vn w p b a f = part_fits m.site n.site vm vn (own K A m) (wished K A m) (own K A n) (wished K A n) w p b a f

  else_joined : (n : Node) (v : Bool) (w : Typ) (e : Exp) → passed_on (node_of e).site ≡ passed_on n.site → Before n.site (wished K A (node_of e)) (wished K A n) → After n.site (never e) (own K A (node_of e)) (own K A n)
      → (never e ≡ false → v ≡ false) → If (W n v w) e → IfElse (W n v w) (named.present e)
  else_joined n v w e p b a f g h = record { gives = λ z. (g h).gives (part_join n (node_of e) (never e) v w p b a f ∙ z); returns = (g h).returns }

  abbrev TailBefore : Node → Else → Type 0
  TailBefore n named.absent = Unit {0}
  TailBefore n (named.present e) = Before n.site (wished K A (node_of e)) (wished K A n)

  abbrev TailAfter : Node → Else → Type 0
  TailAfter n named.absent = Unit {0}
  TailAfter n (named.present e) = After n.site (never e) (own K A (node_of e)) (own K A n)

  tail_before_given : (n : Node) (o : Else) → Wants (TailBefore n o) (rules.tail_before n o)
  tail_before_given n named.absent = none
  tail_before_given n (named.present e) = pieces.before_given K A n n.site (node_of e)

  tail_after_given : (n : Node) (d : Bool) (o : Else) → Wants (TailAfter n o) (rules.tail_after n d o)
  tail_after_given n d named.absent = unit_u n d
  tail_after_given n d (named.present e) = pieces.after_given K A n n.site (never e) (node_of e)

  tail_joined : (n : Node) (d : Bool) (o : Else) (w : Typ) → ElseSited n.site o → TailBefore n o → TailAfter n o → IfReturned (W n (tail_never d o) w) o → IfElse (W n (tail_never d o) w) o
  tail_joined n d named.absent w h b a g = tt
  tail_joined n d (named.present e) w h b a g = else_joined n (never e) w e (ap passed_on h.1) b a (λ q. q) g

  abbrev BranchBefore : Node → Else → Body → Type 0
  BranchBefore n named.absent b = Unit {0}
  BranchBefore n (named.present e) b = Before n.site (wished K A (body_node b)) (wished K A n)

  abbrev BranchAfter : Node → Else → Body → Type 0
  BranchAfter n named.absent b = (body_never b ≡ false → own K A (body_node b) ≡ unit_shape) × Has K A n unit_shape
  BranchAfter n (named.present e) b = After n.site (body_never b) (own K A (body_node b)) (own K A n)

  branch_before_given : (n : Node) (o : Else) (b : Body) → Wants (BranchBefore n o b) (rules.branch_before n o b)
  branch_before_given n named.absent b = none
  branch_before_given n (named.present e) b = pieces.before_given K A n n.site (body_node b)

  branch_after_given : (n : Node) (o : Else) (b : Body) → Wants (BranchAfter n o b) (rules.branch_after n o b)
  branch_after_given n named.absent b = both (pieces.nothing_given K A (body_node b) (body_never b)) (pieces.unit_given K A n)
  branch_after_given n (named.present e) b = pieces.after_given K A n n.site (body_never b) (body_node b)

  branch_join : (n : Node) (b : Body) (o : Else) (w : Typ) → BodySited (branch_site n.site o) b → BranchBefore n o b → BranchAfter n o b
      → GoesBody (W n (body_never b && else_never o) w) b ≡ W n (body_never b && else_never o) w
  branch_join n b named.absent w h p a =
      let m = body_node b in lone_fits m.site n.site (body_never b) (own K A m) (wished K A m) (own K A n) (wished K A n) w (body_site Site.Value b h) (λ e. a.0 e ∙ sym a.1.same) a.1.stands (subst NotLent (sym a.1.same) tt)
  branch_join n b (named.present e) w h p a =
      part_join n (body_node b) (body_never b) (body_never b && never e) w (ap passed_on (body_site (passed_on n.site) b h) ∙ passed_twice n.site) p a (left_false (body_never b) (never e))

  -- the branches of an `if`
  record Branches (n : Node) (b : Body) (o : Else) (t : Typ) : Type 0 where
    first : ReadsNoUnit (elaborated.body (T K A) b) → Part t (elaborated.body (T K A) b)
    second : IfElse t o

  branches : (f : ℕ) (n : Node) (b : Body) (o : Else) (w : Typ) → BodySited (branch_site n.site o) b → Wants (InBody (W n (body_never b && else_never o) w) b) (rules.of_body f b) → Wants (IfElse (W n (body_never b && else_never o) w) o) (rules.of_else f n o)
      → Wants (Branches n b o (W n (body_never b && else_never o) w)) (rules.of_branches f n (b, o))
  branches f n b o w h x y =
      asks_map (λ g. record {
        first = λ r. let p = g.1.0.part r in record { gives = λ z. p.gives (branch_join n b o w h g.0 g.1.1.0 ∙ z); returns = p.returns };
        second = g.1.1.1.0;
      })
      (both (branch_before_given n o b) (both x (both (branch_after_given n o b) (both y (if_joins_asks n o (body_never b && else_never o))))))

  -- of the arms of a `match`
  abbrev IfArms : Typ → Arms → Type 0
  IfArms t l = ArmsReadNoUnit (elaborated.arms (T K A) l) → (t ≡ unit_shape → AllGiveUnit U (elaborated.arms (T K A) l)) × ArmsReturnUnit U (elaborated.arms (T K A) l)

  -- ---- all forms, in a function that is declared to give the unit

  module _ (f : ℕ) (unit : result_declared (slice_get K.items f) ≡ Some unit_shape) where
    -- what the function gives is wanted there
    wanted : (n : Node) → result_declared (slice_get K.items f) ≡ Some (wished K A n) → wished K A n ≡ unit_shape
    wanted n e = some_same _ _ (sym e ∙ unit)

    abbrev Returned : Else → Type 0
    Returned named.absent = Unit {0}
    Returned (named.present e) = wished K A (node_of e) ≡ unit_shape

    returned_given : (n : Node) (o : Else) → Wants (Returned o) (rules.returns_unit f n o)
    returned_given n named.absent = quiet n _ _ _
    returned_given n (named.present e) = asks_map (λ h. wanted (node_of e) (fixed_same (result_declared (slice_get K.items f)) (wished K A (node_of e)) h.0)) (one_asked (node_of e) _ _ _)

    return_returns : (n : Node) (o : Else) → ElseSited Site.Expects o → Returned o → IfReturned unit_shape o → ReadsNoUnit (elaborated.returned (T K A) n o) → ReturnsUnit U (tree.give (elaborated.no_mark n) (elaborated.returned (T K A) n o))
    return_returns n named.absent s u g h = in_return of_unit in_unit
    return_returns n (named.present e) s u g h =
        let x = g h in in_return (x.gives (ap (λ (t : Site). at_site t (own_or (never e) (own K A (node_of e)) unit_shape) (wished K A (node_of e))) s.1 ∙ u)) x.returns

    mutual
      exp_asks : (w : Typ) (e : Exp) → Sited e → Wants (If w e) (rules.of_exp f e)
      exp_asks w (named.int n m v k) s = asks_map (λ p h. record { gives = λ z. absurd (plain_not n p z); returns = in_build no_operand_returns }) (integer_given n m v k)
      exp_asks w (named.bool n b) s = asks_map (λ p h. record { gives = λ z. absurd (plain_not n (truth n p) z); returns = in_build no_operand_returns }) (pieces.truth_given K A n)
      exp_asks w (named.tuple n es) s = asks_map (λ g. tuple_gives w n es g.1 g.0) (both (each_asks rules.members 0 Site.Value es s) (then_first (pieces.tuple_given K A n _) (quiet n _ _ _)))
      exp_asks w (named.var n x) s =
          asks_map (λ g h. let c = elaborated.coercion_at (T K A) n in let p = elaborated.place (T K A) (named.var n x) in
          record { gives = read_gives n c p (AtNode n) (passing K A n g) h; returns = read_returns n c p }) (then_second (named_u n x x.known) (pieces.place_given K A n _ _ n.site))
      exp_asks w (named.field n e x) s =
          asks_map (λ g h. let c = elaborated.coercion_at (T K A) n in let p = elaborated.place (T K A) (named.field n e x) in
          record { gives = read_gives n c p (AtNode n) (passing K A n g) h; returns = read_returns n c p })
          (then_second (exp_asks unit_shape e s.0) (then_second (quiet n _ _ _) (pieces.place_given K A n _ _ n.site)))
      exp_asks w (named.part n e i) s =
          asks_map (λ g h. let c = elaborated.coercion_at (T K A) n in let p = elaborated.place (T K A) (named.part n e i) in
          record { gives = read_gives n c p (AtNode n) (passing K A n g) h; returns = read_returns n c p })
          (then_second (exp_asks unit_shape e s.0) (then_second (quiet n _ _ _) (pieces.place_given K A n _ _ n.site)))
      exp_asks w (named.deref n e) s =
          asks_map (λ g h. let c = elaborated.coercion_at (T K A) n in let p = elaborated.place (T K A) (named.deref n e) in
          record { gives = read_gives n c p (AtNode n) (passing K A n g) h; returns = read_returns n c p })
          (then_second (exp_asks unit_shape e s.0) (then_second (quiet n _ _ _) (pieces.place_given K A n _ _ n.site)))
      exp_asks w (named.negate n e) s =
          asks_map (λ g h. record { gives = λ z. absurd (plain_not n g.1 z); returns = in_build (operands_return (g.0 h.0).returns no_operand_returns) })
          (both (exp_asks unit_shape e s.0) (negated_given n (node_of e) (never e)))
      exp_asks w (named.invert n e) s =
          asks_map (λ g h. record { gives = λ z. absurd (plain_not n g.1 z); returns = in_build (operands_return (g.0 h.0).returns no_operand_returns) })
          (both (exp_asks unit_shape e s.0) (truth_behind n (quiet n _ _ _)))
      exp_asks w (named.borrow n m e) s =
          asks_map (λ g h. let c = elaborated.coercion_at (T K A) n in let x = tree.borrow (elaborated.mark (T K A) n) m (elaborated.place (T K A) e) in record {
            gives = passed_gives n c x (AtNode n) (passing K A n g.stands) (λ z. absurd (other (reference m (own K A (node_of e))) refl (sym g.same ∙ z)));
            returns = passed_returns n c x in_borrow;
          }) (then_second (exp_asks unit_shape e s.0) (pieces.borrowed_given K A n m (node_of e) (root e) _))
      exp_asks w (named.binary n o a b) s =
          asks_map (λ g h. let r = operated_reads n o (value a) (value b) h in
          record { gives = λ z. absurd (plain_not n g.1.1 z); returns = operated_returns n o (value a) (value b) (g.0 r.0).returns (g.1.0 r.1).returns })
          (both (exp_asks unit_shape a s.0.0) (both (exp_asks unit_shape b s.1.0) (operation_given o n (node_of a) (never a) (node_of b) (never b))))
      exp_asks w (named.assign n p e) s =
          asks_map (λ g h. record { gives = λ z. of_assignment; returns = in_assignment (g h).returns })
          (then_second (exp_asks unit_shape p s.0.0) (then_second (quiet (node_of e) _ _ _) (then_first (exp_asks unit_shape e s.1.0) (then_u (assignable_u n p) (pieces.unit_given K A n)))))
      exp_asks w (named.gives n p x d e) s =
          asks_map (λ g h. record { gives = λ z. of_assignment; returns = in_assignment (g h).returns })
          (then_first (exp_asks unit_shape e s.0) (then_u (given_u n p x d (node_of e) (never e)) (pieces.unit_given K A n)))
      exp_asks w (named.update n o p e) s =
          asks_map (λ g h. record { gives = λ z. of_update; returns = in_update (g h).returns })
          (then_second (exp_asks unit_shape p s.0.0) (then_first (exp_asks unit_shape e s.1.0)
          (then_u (updated_u n (node_of p) (never p) (node_of e) (never e)) (then_u (assignable_u n p) (pieces.unit_given K A n)))))
      exp_asks w (named.call n k es) s =
          asks_map (λ g h. let c = elaborated.coercion_at (T K A) n in let x = tree.call (elaborated.mark (T K A) n) k (elaborated.operands (T K A) 0 es) in record {
            gives = passed_gives n c x (AtNode n) (passing K A n g.1.stands) (λ z. of_call (units k (g.1.result ∙ ap (λ (t : Typ). Some t) z)));
            returns = passed_returns n c x (in_call (g.0 (passed_reads n c x h)));
          }) (then_second (quiet n _ _ _) (both (each_asks (rules.parameters k) 0 Site.Expects es s) (pieces.result_given K A n k)))
      exp_asks w (named.hidden_call n es) s = asks_map (λ g. absurd g) (then_first (refused n _) (each_asks rules.values 0 Site.Value es s))
      exp_asks w (named.next_input n) s =
          asks_map (λ p h. record { gives = λ z. absurd (never_unit n (integer Kind.I64) p tt refl z); returns = in_input }) (pieces.number_given K A n Kind.I64)
      exp_asks w (named.variant n i v es) s =
          asks_map (λ g h. record { gives = λ z. absurd (never_unit n (types.named i) g.1 tt refl z); returns = in_build (g.0 h) })
          (then_second (quiet n _ _ _) (both (each_asks (rules.parts_of i v) 0 Site.Expects es s) (pieces.item_given K A n i)))
      exp_asks w (named.make n i fs) s =
          asks_map (λ g h. record { gives = λ z. absurd (never_unit n (types.named i) g.1 tt refl z); returns = in_build (g.0 h) })
          (then_second (quiet n _ _ _) (both (fields_asks i fs s) (pieces.item_given K A n i)))
      exp_asks w (named.print n e) s =
          asks_map (λ g h. record { gives = λ z. of_print; returns = in_print (g h).returns }) (then_first (exp_asks unit_shape e s.0) (then_u (printed_u (node_of e) (never e)) (pieces.unit_given K A n)))
      exp_asks w (named.block n b) s =
          asks_map (λ g h. let x = g.1.0.part h in record {
            gives = λ z. x.gives (part_join n (body_node b) (body_never b) (body_never b) w (ap passed_on (body_site (passed_on n.site) b s) ∙ passed_twice n.site) g.0 g.1.1.0 (λ q. q) ∙ z);
            returns = x.returns;
          })
          (both (pieces.before_given K A n n.site (body_node b)) (both (body_asks (W n (body_never b) w) (passed_on n.site) b s) (both (pieces.after_given K A n n.site (body_never b) (body_node b)) (join_asks n (body_never b)))))
      exp_asks w (named.if n c b o) s =
          let t = W n (body_never b && else_never o) w in
          asks_map (λ g h. let x = g.1.first h.1.0 in let y = otherwise_part n o t g.1.second h.1.1.0 in record {
            gives = λ z. two_ways_give (elaborated.body (T K A) b) (elaborated.otherwise (T K A) n o) (x.gives z) (y.gives z);
            returns = two_ways_return (elaborated.body (T K A) b) (elaborated.otherwise (T K A) n o) (in_value (g.0 h.0).returns) x.returns y.returns;
          })
          (both (exp_asks unit_shape c s.0.0) (then_second (tested_u (node_of c) (never c))
          (branches f n b o w s.1 (body_asks t (branch_site n.site o) b s.1) (else_asks n (body_never b && else_never o) w o s.2 (right_false (body_never b) (else_never o))))))
      exp_asks w (named.if_let n p e b o) s =
          let t = W n (body_never b && else_never o) w in
          asks_map (λ g h. let x = g.1.first h.1.0 in let y = otherwise_part n o t g.1.second h.1.1.0 in record {
            gives = λ z. two_ways_give (elaborated.body (T K A) b) (elaborated.otherwise (T K A) n o) (x.gives z) (y.gives z);
            returns = two_ways_return (elaborated.body (T K A) b) (elaborated.otherwise (T K A) n o)
                (matched_returns (is_place e) (elaborated.coercion_at (T K A) (node_of e)) e (value e) (λ r. (g.0 r).returns) h.0) x.returns y.returns;
          })
          (both (exp_asks unit_shape e s.0.0) (then_second (not_never_u (node_of e) (never e)) (then_second (whole_binds K A (rules.matched e) _ p)
          (branches f n b o w s.1 (body_asks t (branch_site n.site o) b s.1) (else_asks n (body_never b && else_never o) w o s.2 (right_false (body_never b) (else_never o)))))))
      exp_asks w (named.match n e l) s =
          asks_map (λ g h. let x = g.1.0 h.1 in record {
            gives = λ z. of_choice (x.0 z);
            returns = in_choice (matched_returns (is_place e) (elaborated.coercion_at (T K A) (node_of e)) e (value e) (λ r. (g.0 r).returns) h.0) x.1;
          })
          (both (exp_asks unit_shape e s.0.0) (then_second (not_never_u (node_of e) (never e))
          (both (arms_asks n (named.all_never l) w (rules.matched e) (node_of e) l s.1 (λ q. q)) (join_asks n (named.all_never l)))))
      exp_asks w (named.loop n l k b) s =
          asks_map (λ g h. record { gives = λ z. of_loop; returns = in_loop (g.part h).returns }) (then_first (body_asks unit_shape Site.Value b s) (then_u (unit_u (body_node b) (body_never b)) (loop_asks n k)))
      exp_asks w (named.while n l c b) s =
          asks_map (λ g h. record { gives = λ z. of_loop; returns = in_loop (two_ways_return (elaborated.body (T K A) b) (elaborated.leaves n l) (in_value (g.0 h.0).returns) (g.1.part h.1.0).returns in_jump) })
          (both (exp_asks unit_shape c s.0.0) (then_second (tested_u (node_of c) (never c))
          (then_first (body_asks unit_shape Site.Value b s.1) (then_u (unit_u (body_node b) (body_never b)) (pieces.unit_given K A n)))))
      exp_asks w (named.while_let n l p e b) s =
          asks_map (λ g h. record {
            gives = λ z. of_loop;
            returns = in_loop (two_ways_return (elaborated.body (T K A) b) (elaborated.leaves n l)
                (matched_returns (is_place e) (elaborated.coercion_at (T K A) (node_of e)) e (value e) (λ r. (g.0 r).returns) h.0) (g.1.part h.1.0).returns in_jump);
          })
          (both (exp_asks unit_shape e s.0.0) (then_second (not_never_u (node_of e) (never e)) (then_second (whole_binds K A (rules.matched e) _ p)
          (then_first (body_asks unit_shape Site.Value b s.1) (then_u (unit_u (body_node b) (body_never b)) (pieces.unit_given K A n))))))
      exp_asks w (named.break n l) s = asks_map (λ p h. record { gives = λ z. of_jump; returns = in_jump }) (never_asks n n.site)
      exp_asks w (named.continue n l) s = asks_map (λ p h. record { gives = λ z. of_jump; returns = in_jump }) (never_asks n n.site)
      exp_asks w (named.return n o) s =
          asks_map (λ g h. record { gives = λ z. of_return; returns = return_returns n o s g.0 g.1 h }) (both (returned_given n o) (then_first (returned_asks unit_shape Site.Expects o s) (never_asks n n.site)))

      each_asks : (l : rules.Listed) (k : ℕ) (t : Site) (es : Exps) → EachSited t es → Wants (Operands k es) (rules.of_each f l k es)
      each_asks l k t named.no_exp s = asks_map (λ _ h. no_operand_returns) none
      each_asks l k t (named.exp_and e es) s =
          asks_map (λ g h. operands_return (g.0 h.0).returns (g.1 h.1)) (then_second (each_before_u l k (node_of e)) (both (exp_asks unit_shape e s.0.0) (then_second (each_after_u l e) (each_asks l (suc k) t es s.1))))

      fields_asks : (i : ℕ) (fs : Fields) → FieldsSited fs → Wants (InFields i fs) (rules.of_fields f i fs)
      fields_asks i named.no_field s = asks_map (λ _ h. no_operand_returns) none
      fields_asks i (named.field_and x e fs) s =
          asks_map (λ g h. operands_return (g.0 h.0).returns (g.1 h.1)) (then_second (quiet (node_of e) _ _ _) (both (exp_asks unit_shape e s.0.0) (fields_asks i fs s.1)))

      else_asks : (n : Node) (v : Bool) (w : Typ) (o : Else) → ElseSited (passed_on n.site) o → (else_never o ≡ false → v ≡ false) → Wants (IfElse (W n v w) o) (rules.of_else f n o)
      else_asks n v w named.absent s k = none
      else_asks n v w (named.present e) s k =
          asks_map (λ g. else_joined n v w e (ap passed_on s.1 ∙ passed_twice n.site) g.0 g.1.1 k g.1.0)
          (both (pieces.before_given K A n n.site (node_of e)) (both (exp_asks (W n v w) e s.0) (pieces.after_given K A n n.site (never e) (node_of e))))

      returned_asks : (w : Typ) (t : Site) (o : Else) → ElseSited t o → Wants (IfReturned w o) (rules.of_returned f o)
      returned_asks w t named.absent s = none
      returned_asks w t (named.present e) s = exp_asks w e s.0

      arms_asks : (n : Node) (v : Bool) (w : Typ) (c : rules.Matched) (m : Node) (l : Arms) → ArmsSited (passed_on n.site) l → (named.all_never l ≡ false → v ≡ false) → Wants (IfArms (W n v w) l) (rules.of_arms f n c m l)
      arms_asks n v w c m named.no_arm s k = asks_map (λ _ h. (λ z. no_arm_gives, no_arm_returns)) none
      arms_asks n v w c m (named.arm_and p e l) s k =
          asks_map (λ g h. let x = else_joined n v w e (ap passed_on s.0.1 ∙ passed_twice n.site) g.0 g.1.1.0 (λ q. k (left_false (never e) (named.all_never l) q)) g.1.0 h.0 in let y = g.1.1.1 h.1 in
          (λ z. each_gives (x.gives z) (y.0 z), arms_return x.returns y.1))
          (then_second (whole_binds K A c _ p) (both (pieces.before_given K A n n.site (node_of e)) (both (exp_asks (W n v w) e s.0.0)
          (both (pieces.after_given K A n n.site (never e) (node_of e)) (arms_asks n v w c m l s.1 (λ q. k (right_false (never e) (named.all_never l) q)))))))

      body_asks : (w : Typ) (t : Site) (b : Body) → BodySited t b → Wants (InBody w b) (rules.of_body f b)
      body_asks w t (named.body n ss o) s =
          let r = W n (tail_never (some_diverges ss) o) w in
          let z = subst (λ (k : Site). ElseSited k o) (sym s.0) s.2 in
          asks_map (λ g. let x = tail_joined n (some_diverges ss) o w z g.1.0 g.1.1.1 g.1.1.0 in record {
            part = λ h. let q = g.0 (elaborated.tail (T K A) n o) h in let y = tail_part n o r x q.0 in
                record { gives = λ u. of_block (ends_nested ss (elaborated.tail (T K A) n o) (y.gives u)); returns = in_block (q.1 y.returns) };
            whole = λ u h. let q = g.0 (tree.give (elaborated.no_mark n) (elaborated.tail (T K A) n o)) h in let y = tail_part n o r x q.0 in in_block (q.1 (in_return (y.gives u) y.returns));
          })
          (both (statements_asks ss s.1) (both (tail_before_given n o) (both (returned_asks r n.site o z) (then_first (tail_after_given n (some_diverges ss) o) (join_asks n (tail_never (some_diverges ss) o))))))

      statement_asks : (a : Statement) → StatementSited a → Wants (InStatement a) (rules.of_statement f a)
      statement_asks (named.declares n p t) s = asks_map (λ _ rest h. (h, λ r. declaration_returns r)) (declared_u p t)
      statement_asks (named.lets n p t e) s =
          asks_map (λ g rest h. (h.1, λ r. let_returns (matched_returns (is_place e) (elaborated.coercion_at (T K A) (node_of e)) e (value e) (λ q. (g q).returns) h.0) r))
          (then_second (typed_before_u t e) (then_first (exp_asks unit_shape e s.0) (initialised_u p t e)))
      statement_asks (named.evaluates n e k) s = asks_map (λ g rest h. (h.1, λ r. run_returns (g h.0).returns r)) (then_first (exp_asks unit_shape e s.0) (evaluated_u k (node_of e) (never e)))

      statements_asks : (ss : Statements) → StatementsSited ss → Wants (InStatements ss) (rules.of_statements f ss)
      statements_asks named.no_statement s = asks_map (λ _ last h. (h, λ r. tail_returns r)) none
      statements_asks (named.statement_and a ss) s =
          asks_map (λ g last h. let x = g.0 (elaborated.nested (T K A) ss last) h in let y = g.1 last x.0 in (y.0, λ r. x.1 (y.1 r))) (both (statement_asks a s.0) (statements_asks ss s.1))

  -- ---- a function that is declared to give the unit

  pub function_returns : (F : Function) → result_declared (slice_get K.items F.item) ≡ Some unit_shape → BodySited Site.Expects F.body → MeetsEach K A (rules.demands F) → ReadsNoUnit (elaborated.elaborated (T K A) F).body → ReturnsUnit U (elaborated.elaborated (T K A) F).body
  function_returns F unit s met h =
      let n = body_node F.body in
      let asked : Wants ((result_declared (slice_get K.items F.item) ≡ Some (wished K A n)) × InBody unit_shape F.body) (rules.of_function F) =
      then_second (parameters_u F.params) (then_second (result_u F.result) (both (asks_map (λ h. fixed_same (result_declared (slice_get K.items F.item)) (wished K A n) h.0) (one_asked n _ _ _))
      (then_first (body_asks F.item unit unit_shape Site.Expects F.body s) (never_given_u F.never_given)))) in
      let g = asked.gives (subst (λ (l : List Demand). MeetsEach K A l) (asked.adds []) met) in
      g.1.whole (ap (λ (t : Site). at_site t (own_or (body_never F.body) (own K A n) unit_shape) (wished K A n)) (body_site Site.Expects F.body s) ∙ some_same _ _ (sym g.0 ∙ unit)) h

-- Of an elaborated tree whose function meets what the rules of types ask, without references: what is matched in it is of the type that its
-- mark says, and the patterns fit this type. One induction on the tree with numbers, beside that of rx_meaning_accepted.
use Rattle.std.proofs.Common.{◌≡◌, ◌⊎◌, ℕ, suc, Bool, true, false, not, ◌&&◌, List, [], ◌∷◌, ◌++◌, map, Option, Some, None, slice_get, refl, sym, ap, ◌∙◌, subst}
use Rattle.rx_core.specs.declared.types.Kind.{Kind}
use Rattle.rx_tree.specs.declared.tree.BinaryOp.{BinaryOp}
use Rattle.rx_tree.specs.Lists.{Every}
use Rattle.rx_typed.specs.declared.nodes.Node.{Node}
use Rattle.rx_typed.specs.declared.nodes.Site.{Site}
use Rattle.rx_typed.specs.declared.nodes.Use.{Use}
use Rattle.rx_typed.specs.Types.{Typ, integer, boolean, tuple_of, reference, result_declared, fields_declared}
use Rattle.rx_typed.specs.Types as types
use Rattle.rx_typed.specs.Named as named
use Rattle.rx_typed.specs.Named.{Written, Pattern, Exp, Exps, Else, Fields, Arms, Body, Statement, Statements, written_node, pattern_node, whole_binding, node_of, body_node, is_place, is_variable, root, never, body_never, else_never, some_diverges}
use Rattle.rx_typed.specs.TypedNumbers.{optional_nodes}
use Rattle.rx_typed.specs.Naming.{passed_on, initialiser_site}
use Rattle.rx_typed.specs.Elaborated as elaborated
use Rattle.rx_typed.specs.Elaborated.{Coercion}
use Rattle.rx_typed.specs.Tree as tree
use Rattle.rx_typed.specs.Tree.{Temporary, Place, mark_of, temporary_of}
use Rattle.rx_lower_walks.specs.Actions as actions
use Rattle.rx_lower_walks.specs.Orders.{order_scrutinee}
use Rattle.rx_cover.specs.Choices.{scrutinee_typ}
use Rattle.rx_typeck_solver.specs.declared.facts.Subject.{Subject}
use Rattle.rx_typeck_solver.specs.declared.facts.Subject.TheVariants as subject
use Rattle.rx_typeck_solver.specs.declared.facts.Demand.{Demand}
use Rattle.rx_typeck_solver.specs.Facts.{MeetsEach, Assignment, KnownItems}
use Rattle.rx_typeck_typed.specs.Asking.{Asking, type_of}
use Rattle.rx_typeck_typed.specs.Demands as rules
use Rattle.rx_meaning_keeping.specs.Units.{GoesOn}
use Rattle.rx_meaning_typed.specs.TypedActs.{Typing}
use Rattle.rx_meaning_covered.specs.Ways.{IsDirect}
use Rattle.rx_meaning_covered.specs.Standing.{Standing, StandingAll, StandingScrutinee, StandingArms, StandingBody}
use Rattle.rx_meaning_covered.specs.Fitting.{PatternFits}
use Rattle.rx_meaning_covered.specs.Ranged.{IsInhabited}
use Rattle.rx_repair.specs.TemporaryTypes as given_types
use Rattle.rx_repair.specs.TemporaryTypes.{Entry, silent, at_site, own_or}
use Rattle.rx_repair.proofs.Sites.{Sited, EachSited, ElseSited, FieldsSited, ArmsSited, BodySited, StatementSited, StatementsSited}
use Rattle.rx_repair.proofs.Asking.{Asks, asks_map, none, both, then_first, then_second, one_asked, quiet, refused, never_asks, not_never_u, one_variable_u, evaluated_u, each_after_u, when_u}
use Rattle.rx_repair.proofs.Settling.{NotLent, own_settled, Before, After, passed_twice}
use Rattle.rx_repair.proofs.Pieces as pieces
use Rattle.rx_repair.proofs.Pieces.{T, own, wished, Stands, Has}
use Rattle.rx_repair.proofs.Patterns.{every_front, every_behind}
use Rattle.rx_repair.proofs.Acting.{body_site}
use Rattle.rx_meaning_accepted.specs.Fitting.{Fits, EachFits, ElseFits, FieldsFit, ArmsFit, BodyFits, StatementFits, StatementsFit}
use Rattle.rx_meaning_accepted.proofs.Facts.{NamedApart}
use Rattle.rx_meaning_accepted.proofs.Parted.{Means, EachMeans, ElseMeans, FieldsMean, ArmsMean, BodyMeans, StatementMeans, StatementsMean, PatternMeans}
use Rattle.rx_meaning_accepted.proofs.Operands as operands
use Rattle.rx_meaning_accepted.proofs.Patterns as patterns
use Rattle.rx_meaning_accepted.proofs.Values as values
use Rattle.rx_meaning_accepted.proofs.Values.{stays_alive}
use Rattle.rx_meaning_accepted.proofs.Joining as joining
use Rattle.rx_meaning_accepted.proofs.Acting as acting
use Rattle.rx_meaning_sound.specs.Matched.{ArmsOfTyp, IsMatched, ChoiceTyped, LetTyped}
use Rattle.rx_meaning_sound.proofs.Direct.{place_direct}
use Rattle.rx_meaning_sound.proofs.Literals.{literal_fits, Fit, Literals, EachLiterals, ElseLiterals, FieldsLiterals, ArmsLiterals, BodyLiterals, StatementLiterals, StatementsLiterals}
use Rattle.rx_meaning_sound.proofs.Patterns as fitting

not_lent_plain : (t u : Typ) → NotLent t → elaborated.coercion t u ≡ elaborated.plain
not_lent_plain (integer k) u h = refl
not_lent_plain boolean u h = refl
not_lent_plain (tuple_of ts) u h = refl
not_lent_plain (reference true t) u h = absurd h
not_lent_plain (reference false t) u h = refl
not_lent_plain (types.named i) u h = refl

is_true_not : (k : Bool) → not k ≡ false → k ≡ true
is_true_not true e = refl
is_true_not false e = absurd (cc)

module _ (K : KnownItems) (A : Assignment) (U : Temporary → Typ) (R : Typ) (f : ℕ) (result : (u : Typ) → result_declared (slice_get K.items f) ≡ Some u → R ≡ u)
    (free : (n : ℕ) → NotLent (A (subject.Node n))) (inhabited : (n : ℕ) → IsInhabited K.items (A (subject.Node n))) (apart : (i : ℕ) → NamedApart (fields_declared (slice_get K.items i))) where
  abbrev Wants : Type 0 → Asking → Type 0
  Wants S a = Asks K A S a

  abbrev OfNode : Node → Typ
  OfNode n = own K A n

  abbrev V : ℕ → Typ
  V = values.V K A U R

  abbrev AtNode : Node → Typ
  AtNode = values.AtNode K A U R

  abbrev W : Node → Bool → Typ → Typ
  W = values.W K A U R

  abbrev F : Entry → Type 0
  F = values.F K A U R

  abbrev Gives : Typ → Exp → Type 0
  Gives = values.Gives K A U R

  abbrev value : Exp → tree.Exp
  value = values.value K A U R

  abbrev Scrutinee : Exp → tree.Scrutinee
  Scrutinee = joining.Scrutinee K A U R f result

  abbrev pub Its : Typing
  Its = patterns.Ty K A U R

  abbrev pub C : tree.Scrutinee → tree.Arms → Type 0
  C = ChoiceTyped Its

  abbrev pub L : tree.Scrutinee → tree.Pattern → Type 0
  L = LetTyped Its

  abbrev OfExp : Typ → Exp → Type 0
  OfExp w e = Every F (given_types.exp_entries (T K A) V w e)

  abbrev OfExps : Exps → Type 0
  OfExps es = Every F (given_types.exps_entries (T K A) V es)

  abbrev OfElse : Typ → Else → Type 0
  OfElse w o = Every F (given_types.else_entries (T K A) V w o)

  abbrev OfFields : Fields → Type 0
  OfFields fs = Every F (given_types.fields_entries (T K A) V fs)

  abbrev OfArms : Typ → Arms → Type 0
  OfArms w l = Every F (given_types.arms_entries (T K A) V w l)

  abbrev OfBody : Typ → Body → Type 0
  OfBody w b = Every F (given_types.body_entries (T K A) V w b)

  abbrev OfStatement : Statement → Type 0
  OfStatement a = Every F (given_types.statement_entries (T K A) V a)

  abbrev OfStatements : Statements → Type 0
  OfStatements ss = Every F (given_types.statements_entries (T K A) V ss)

  two_of : (a b : List Entry) → Every F (a ++ b) → Every F a × Every F b
  two_of a b h = (every_front F a b h, every_behind F a b h)

  three_of : (a b c : List Entry) → Every F (a ++ (b ++ c)) → Every F a × Every F b × Every F c
  three_of a b c h = let g = every_behind F a (b ++ c) h in (every_front F a (b ++ c) h, every_front F b c g, every_behind F b c g)

  four_of : (a b c d : List Entry) → Every F (a ++ (b ++ (c ++ d))) → Every F a × Every F b × Every F c × Every F d
  four_of a b c d h = let g = three_of b c d (every_behind F a (b ++ (c ++ d)) h) in (every_front F a (b ++ (c ++ d)) h, g.0, g.1, g.2)

  -- two facts of one asking
  paired : {X Y : Type 0} {a : Asking} → Asks K A X a → Asks K A Y a → Asks K A (X × Y) a
  paired {a = a} x y = record { more = x.more; adds = x.adds; gives = λ h. (x.gives h, y.gives (subst (λ (l : List Demand). MeetsEach K A l) (sym (x.adds []) ∙ y.adds []) h)) }

  -- ---- sites

  uncoerced : (n : Node) → elaborated.coercion_at (T K A) n ≡ elaborated.plain
  uncoerced n = by n.site
    where
      by : (t : Site) → elaborated.coercion_in (T K A) n.number t ≡ elaborated.plain
      by Site.Value = refl
      by Site.Place = refl
      by Site.Scrutinee = refl
      by Site.Expects = not_lent_plain (A (subject.Node n.number)) (A (subject.Expected n.number)) (free n.number)
      by Site.Initialises = not_lent_plain (A (subject.Node n.number)) (A (subject.Expected n.number)) (free n.number)
      by Site.Reborrows = not_lent_plain (A (subject.Node n.number)) (A (subject.Expected n.number)) (free n.number)

  abbrev Same : Node → Type 0
  Same n = AtNode n ≡ OfNode n

  same_if : (n : Node) → Stands K A n → Same n
  same_if n h = sym (own_settled n.site (own K A n) (wished K A n) h (free n.number))

  direct : (e : Exp) → IsDirect (elaborated.place (T K A) e)
  direct e = place_direct (T K A) e

  -- ---- what is told of each part

  -- of an expression: its tree, and that its mark says the type of its node, which is that of its place, where it isn't Never
  pub record Told (e : Exp) : Type 0 where
    pub stands : Standing C L (value e)
    pub marked : never e ≡ false → (mark_of (value e)).typ ≡ Some (OfNode (node_of e))
    pub same : never e ≡ false → Same (node_of e)
    pub literals : Literals (T K A) e

  pub record BodyTold (b : Body) : Type 0 where
    pub stands : Standing C L (elaborated.body (T K A) b)
    pub ends : Standing C L (elaborated.function_body (T K A) b)
    pub same : body_never b ≡ false → Same (body_node b)
    pub literals : BodyLiterals (T K A) b

  abbrev EachStands : ℕ → Exps → Type 0
  EachStands k es = StandingAll C L (elaborated.operands (T K A) k es) × EachLiterals (T K A) es

  abbrev FieldsStand : ℕ → Fields → Type 0
  FieldsStand i fs = StandingAll C L (elaborated.fields (T K A) i fs) × FieldsLiterals (T K A) fs

  abbrev ElseStands : Else → Type 0
  ElseStands named.absent = Unit {0}
  ElseStands (named.present e) = Standing C L (value e) × Literals (T K A) e

  abbrev ArmsTold : Node → Arms → Type 0
  ArmsTold m l = StandingArms C L (elaborated.arms (T K A) l) × ArmsOfTyp K.items (OfNode m) (elaborated.arms (T K A) l) × ArmsLiterals (T K A) l

  abbrev StatementStands : Statement → Type 0
  StatementStands a = ((rest : tree.Body) → StandingBody C L rest → StandingBody C L (elaborated.statement (T K A) a rest)) × StatementLiterals (T K A) a

  abbrev StatementsStand : Statements → Type 0
  StatementsStand ss = ((last : tree.Exp) → Standing C L last → StandingBody C L (elaborated.nested (T K A) ss last)) × StatementsLiterals (T K A) ss

  told_if : (e : Exp) → Stands K A (node_of e) → (mark_of (value e)).typ ≡ Some (OfNode (node_of e)) → Standing C L (value e) → Literals (T K A) e → Told e
  told_if e h m s l = record { stands = s; marked = λ q. m; same = λ q. same_if (node_of e) h; literals = l }

  jump_told : (e : Exp) → never e ≡ true → Standing C L (value e) → Literals (T K A) e → Told e
  jump_told e v s l = record { stands = s; marked = λ q. absurd (values.not_both (never e) v q); same = λ q. absurd (values.not_both (never e) v q); literals = l }

  -- ---- forms

  read_stands : (n : Node) (c : Coercion) (p : Place) → c ≡ elaborated.plain → IsDirect p → Standing C L (elaborated.read_as (T K A) n c p)
  read_stands n elaborated.plain p e h = h
  read_stands n elaborated.reborrow p e h = absurd (cc)
  read_stands n elaborated.share p e h = absurd (cc)

  read_marked : (n : Node) (c : Coercion) (p : Place) → c ≡ elaborated.plain → (mark_of (elaborated.read_as (T K A) n c p)).typ ≡ Some (OfNode n)
  read_marked n elaborated.plain p e = refl
  read_marked n elaborated.reborrow p e = refl
  read_marked n elaborated.share p e = absurd (cc)

  place_told : (e : Exp) → value e ≡ elaborated.place_value (T K A) (node_of e) (elaborated.place (T K A) e) → Stands K A (node_of e) → Literals (T K A) e → Told e
  place_told e is h l =
      let n = node_of e in let c = elaborated.coercion_at (T K A) n in let p = elaborated.place (T K A) e in
      told_if e h (subst (λ (x : tree.Exp). (mark_of x).typ ≡ Some (OfNode n)) (sym is) (read_marked n c p (uncoerced n)))
      (subst (λ (x : tree.Exp). Standing C L x) (sym is) (read_stands n c p (uncoerced n) (direct e))) l

  passed_stands : (n : Node) (c : Coercion) (x : tree.Exp) → Standing C L x → Standing C L (elaborated.passed_as (T K A) n c x)
  passed_stands n elaborated.plain x h = h
  passed_stands n elaborated.reborrow x h = h
  passed_stands n elaborated.share x h = h

  passed_marked : (n : Node) (c : Coercion) (x : tree.Exp) → c ≡ elaborated.plain → (mark_of x).typ ≡ Some (OfNode n) → (mark_of (elaborated.passed_as (T K A) n c x)).typ ≡ Some (OfNode n)
  passed_marked n elaborated.plain x e h = h
  passed_marked n elaborated.reborrow x e h = h
  passed_marked n elaborated.share x e h = absurd (cc)

  passed_told : (e : Exp) (x : tree.Exp) → value e ≡ elaborated.value_of (T K A) (node_of e) x → (mark_of x).typ ≡ Some (OfNode (node_of e)) → Stands K A (node_of e) → Standing C L x → Literals (T K A) e → Told e
  passed_told e x is m h s l =
      let n = node_of e in let c = elaborated.coercion_at (T K A) n in
      told_if e h (subst (λ (y : tree.Exp). (mark_of y).typ ≡ Some (OfNode n)) (sym is) (passed_marked n c x (uncoerced n) m))
      (subst (λ (y : tree.Exp). Standing C L y) (sym is) (passed_stands n c x s)) l

  tuple_stands : (n : Node) (es : Exps) → EachStands 0 es → Standing C L (elaborated.tuple_of (T K A) n (elaborated.operands (T K A) 0 es))
  tuple_stands n named.no_exp h = tt
  tuple_stands n (named.exp_and e es) h = h.0

  tuple_marked : (n : Node) (es : Exps) → (mark_of (elaborated.tuple_of (T K A) n (elaborated.operands (T K A) 0 es))).typ ≡ Some (OfNode n)
  tuple_marked n named.no_exp = refl
  tuple_marked n (named.exp_and e es) = refl

  operated_stands : (n : Node) (o : BinaryOp) (a b : tree.Exp) → Standing C L a → Standing C L b → Standing C L (elaborated.operated (T K A) n o a b)
  operated_stands n BinaryOp.And a b h k = (h, k)
  operated_stands n BinaryOp.Or a b h k = (h, k)
  operated_stands n BinaryOp.Eq a b h k = (h, (k, tt))
  operated_stands n BinaryOp.Ne a b h k = (h, (k, tt))
  operated_stands n BinaryOp.Lt a b h k = (h, (k, tt))
  operated_stands n BinaryOp.Le a b h k = (h, (k, tt))
  operated_stands n BinaryOp.Gt a b h k = (h, (k, tt))
  operated_stands n BinaryOp.Ge a b h k = (h, (k, tt))
  operated_stands n BinaryOp.Add a b h k = (h, (k, tt))
  operated_stands n BinaryOp.Sub a b h k = (h, (k, tt))
  operated_stands n BinaryOp.Mul a b h k = (h, (k, tt))
  operated_stands n BinaryOp.Div a b h k = (h, (k, tt))
  operated_stands n BinaryOp.Rem a b h k = (h, (k, tt))

  operated_marked : (n : Node) (o : BinaryOp) (a b : tree.Exp) → (mark_of (elaborated.operated (T K A) n o a b)).typ ≡ Some (OfNode n)
  operated_marked n BinaryOp.And a b = refl
  operated_marked n BinaryOp.Or a b = refl
  operated_marked n BinaryOp.Eq a b = refl
  operated_marked n BinaryOp.Ne a b = refl
  operated_marked n BinaryOp.Lt a b = refl
  operated_marked n BinaryOp.Le a b = refl
  operated_marked n BinaryOp.Gt a b = refl
  operated_marked n BinaryOp.Ge a b = refl
  operated_marked n BinaryOp.Add a b = refl
  operated_marked n BinaryOp.Sub a b = refl
  operated_marked n BinaryOp.Mul a b = refl
  operated_marked n BinaryOp.Div a b = refl
  operated_marked n BinaryOp.Rem a b = refl

  unless_marked : (v : Bool) (t : Typ) → v ≡ false → elaborated.type_unless v t ≡ Some t
  unless_marked true t e = absurd (cc)
  unless_marked false t e = refl

  body_marked : (b : Body) → body_never b ≡ false → (mark_of (elaborated.body (T K A) b)).typ ≡ Some (OfNode (body_node b))
  body_marked (named.body n ss o) e = unless_marked (body_never (named.body n ss o)) (OfNode n) e

  -- a part of a block is of the block's type
  joined_same : (n m : Node) (v : Bool) (w : Typ) → W m v (W n v w) ≡ W n v w → v ≡ false → AtNode m ≡ AtNode n
  joined_same n m true w e q = absurd (cc)
  joined_same n m false w e q = e

  -- ---- what is matched

  scrutinee_stands : (b : Bool) (c : Coercion) (e : Exp) (x : tree.Exp) → Standing C L x → StandingScrutinee C L (elaborated.matched_as (T K A) b c e x)
  scrutinee_stands true elaborated.plain e x h = direct e
  scrutinee_stands true elaborated.reborrow e x h = h
  scrutinee_stands true elaborated.share e x h = h
  scrutinee_stands false elaborated.plain e x h = h
  scrutinee_stands false elaborated.reborrow e x h = h
  scrutinee_stands false elaborated.share e x h = h

  scrutinee_marked : (b : Bool) (c : Coercion) (e : Exp) (x : tree.Exp) → (mark_of x).typ ≡ Some (OfNode (node_of e)) → scrutinee_typ (elaborated.matched_as (T K A) b c e x) ≡ Some (OfNode (node_of e))
  scrutinee_marked true elaborated.plain e x h = refl
  scrutinee_marked true elaborated.reborrow e x h = h
  scrutinee_marked true elaborated.share e x h = h
  scrutinee_marked false elaborated.plain e x h = h
  scrutinee_marked false elaborated.reborrow e x h = h
  scrutinee_marked false elaborated.share e x h = h

  stands_there : (e : Exp) → Told e → StandingScrutinee C L (Scrutinee e)
  stands_there e h = scrutinee_stands (is_place e) (elaborated.coercion_at (T K A) (node_of e)) e (value e) h.stands

  marks_there : (w : Typ) (e : Exp) → Gives w e → Told e → GoesOn (order_scrutinee (Scrutinee e)) → scrutinee_typ (Scrutinee e) ≡ Some (OfNode (node_of e))
  marks_there w e g h z =
      scrutinee_marked (is_place e) (elaborated.coercion_at (T K A) (node_of e)) e (value e) (h.marked (stays_alive e (joining.matched_alive K A U R f result w e g z)))

  matched_told : (w : Typ) (e : Exp) → (node_of e).site ≡ Site.Scrutinee → Gives w e → Told e → GoesOn (order_scrutinee (Scrutinee e)) → IsMatched Its (Scrutinee e) (OfNode (node_of e))
  matched_told w e s g h z =
      record { typed = joining.looked_there K A U R f result w e s g z; marked = marks_there w e g h z; inhabited = inhabited (node_of e).number }

  -- a test of a truth value
  test_told : (n : Node) (v : Typ) (c : Exp) (a b : tree.Exp) → (node_of c).site ≡ Site.Value → Gives v c → Told c → (never c ≡ false → OfNode (node_of c) ≡ boolean)
      → C (tree.of_value (value c)) (tree.arm_and (tree.exactly n.number (tree.truth true)) a (tree.arm_and tree.any b tree.no_arm))
  test_told n v c a b s g h k z =
      let alive = values.alive K A U R v c g (temporary_of (value c)) z in (
        boolean,
        record {
          typed = ap (λ (t : Typ). Some t) (values.valued_own K A U R v c s g z ∙ k alive);
          marked = h.marked alive ∙ ap (λ (t : Typ). Some t) (k alive);
          inhabited = subst (λ (t : Typ). IsInhabited K.items t) (k alive) (inhabited (node_of c).number);
        },
        (refl, (tt, tt)),
      )

  tests_stand : (n : Node) (m : tree.Mark) (v : Typ) (c : Exp) (a b : tree.Exp) → (node_of c).site ≡ Site.Value → Gives v c → Told c → (never c ≡ false → OfNode (node_of c) ≡ boolean) → Standing C L a → Standing C L b
      → Standing C L (elaborated.tests n (value c) m a b)
  tests_stand n m v c a b s g h k x y = (h.stands, test_told n v c a b s g h k, (x, (y, tt)))

  looks_stand : (m : tree.Mark) (w : Typ) (e : Exp) (p : Pattern) (a b : tree.Exp) → (node_of e).site ≡ Site.Scrutinee → Gives w e → Told e → PatternFits K.items (OfNode (node_of e)) (elaborated.pattern (T K A) None p) → Standing C L a → Standing C L b
      → Standing C L (elaborated.looks m (Scrutinee e) (elaborated.pattern (T K A) None p) a b)
  looks_stand m w e p a b s g h k x y = (stands_there e h, (λ z. (OfNode (node_of e), matched_told w e s g h z, (k, (tt, tt)))), (x, (y, tt)))

  otherwise_stands : (n : Node) (o : Else) → ElseStands o → Standing C L (elaborated.otherwise (T K A) n o)
  otherwise_stands n named.absent h = tt
  otherwise_stands n (named.present e) h = h.0

  tail_stands : (n : Node) (o : Else) → ElseStands o → Standing C L (elaborated.tail (T K A) n o)
  tail_stands n named.absent h = tt
  tail_stands n (named.present e) h = h.0

  returned_stands : (n : Node) (o : Else) → ElseStands o → Standing C L (elaborated.returned (T K A) n o)
  returned_stands n named.absent h = tt
  returned_stands n (named.present e) h = h.0

  else_literals : (o : Else) → ElseStands o → ElseLiterals (T K A) o
  else_literals named.absent h = tt
  else_literals (named.present e) h = h.1

  -- ---- small askings

  named_u : (n : Node) (x : Use) (k : Bool) → Wants (Unit {0}) (rules.named_at n x k)
  named_u n x true = quiet n _ _ _
  named_u n x false = quiet n _ _ _

  assignable_u : (n : Node) (p : Exp) → Wants (Unit {0}) (rules.assignable n p)
  assignable_u n p = when_u (not (is_variable p)) _ (quiet n _ _ _)

  literal_told : (n : Node) (m : Bool) (v : ℕ) (k : Option Kind) → Wants (Fit (T K A) n m v) (rules.integer_at n m v k)
  literal_told n m v k = asks_map (λ h e. literal_fits (OfNode n) m v h.0 e) (then_second (quiet n _ _ _) (then_second (pieces.value_given K A n n.site) (one_asked n _ _ _)))

  loop_same : (n : Node) (k : Bool) → Wants (not k ≡ false → Same n) (rules.loop_given n k)
  loop_same n true = asks_map (λ h q. same_if n h.stands) (pieces.unit_given K A n)
  loop_same n false = asks_map (λ h q. absurd (cc)) (never_asks n n.site)

  abbrev IfSame : Node → Else → Type 0
  IfSame n named.absent = Unit {0}
  IfSame n (named.present e) = Same n

  joins_same : (n : Node) (o : Else) (v : Bool) → Wants (v ≡ false → IfSame n o) (rules.if_joins n o v)
  joins_same n named.absent v = asks_map (λ _ q. tt) none
  joins_same n (named.present e) v = operands.join_same K A n v

  if_same : (n : Node) (o : Else) (b : Body) (v : Bool) → joining.BranchAfter K A U R f result n o b → (v ≡ false → IfSame n o) → v ≡ false → Same n
  if_same n named.absent b v h k q = same_if n h.1.stands
  if_same n (named.present e) b v h k q = k q

  if_told : (e : Exp) (n : Node) (v : Bool) → node_of e ≡ n → never e ≡ v → (mark_of (value e)).typ ≡ elaborated.type_unless v (OfNode n) → (v ≡ false → Same n) → Standing C L (value e) → Literals (T K A) e → Told e
  if_told e n v i q m k s l = record {
    stands = s;
    literals = l;
    marked = λ r. m ∙ unless_marked v (OfNode n) (sym q ∙ r) ∙ ap (λ (j : Node). Some (OfNode j)) (sym i);
    same = λ r. subst (λ (j : Node). Same j) (sym i) (k (sym q ∙ r));
  }

  -- what a branch, and what follows `else`, tell
  abbrev BranchesTold : Node → Body → Else → Bool → Type 0
  BranchesTold n b o v = Standing C L (elaborated.body (T K A) b) × Standing C L (elaborated.otherwise (T K A) n o) × (v ≡ false → Same n) × BodyLiterals (T K A) b × ElseLiterals (T K A) o

  branches_told : (n : Node) (b : Body) (o : Else) → Wants (BodyTold b) (rules.of_body f b) → Wants (ElseStands o) (rules.of_else f n o) → Wants (BranchesTold n b o (body_never b && else_never o)) (rules.of_branches f n (b, o))
  branches_told n b o x y =
      asks_map (λ g. (g.1.0.stands, otherwise_stands n o g.1.1.1.0, if_same n o b (body_never b && else_never o) g.1.1.0 g.1.1.1.1, g.1.0.literals, else_literals o g.1.1.1.0))
      (both (joining.branch_before_given K A U R f result n o b) (both x (both (joining.branch_after_given K A U R f result n o b) (both y (joins_same n o (body_never b && else_never o))))))

  abbrev named_passed : Node → Site
  named_passed n = passed_on n.site

  abbrev given_types_silent : Option Written → List Entry
  given_types_silent t = map silent (optional_nodes t)

  -- the body of a block is of the block's type
  block_same : (n : Node) (b : Body) (w : Typ) → BodySited (passed_on n.site) b → Before n.site (wished K A (body_node b)) (wished K A n) → After n.site (body_never b) (own K A (body_node b)) (own K A n) → body_never b ≡ false → AtNode (body_node b) ≡ AtNode n
  block_same n b w h p a q =
      joined_same n (body_node b) (body_never b) w
      (joining.part_join K A U R f result n (body_node b) (body_never b) (body_never b) w (ap passed_on (body_site (passed_on n.site) b h) ∙ passed_twice n.site) p a (λ q. q)) q

  -- ---- `let`s

  abbrev LetTold : Pattern → Exp → Type 0
  LetTold p e = L (Scrutinee e) (elaborated.pattern (T K A) None p)

  let_plain : (w : Typ) (p : Pattern) (e : Exp) → (node_of e).site ≡ Site.Scrutinee → PatternFits K.items (OfNode (node_of e)) (elaborated.pattern (T K A) None p) → Gives w e → Told e → LetTold p e
  let_plain w p e s k g h z = (OfNode (node_of e), matched_told w e s g h z, k)

  initialised_by_told : (w : Typ) (v : Bool) (p : Pattern) (e : Exp) → never e ≡ v → (node_of e).site ≡ Site.Scrutinee → PatternMeans K.items p → Wants (Gives w e → Told e → LetTold p e) (rules.initialised_by v p (rules.matched e) (node_of e))
  initialised_by_told w true p e q s i =
      asks_map (λ _ g h z. absurd (values.not_both (never e) q (stays_alive e (joining.matched_alive K A U R f result w e g z)))) (one_variable_u (pattern_node p) (whole_binding p))
  initialised_by_told w false p e q s i = asks_map (λ k g h. let_plain w p e s k g h) (fitting.whole_fits K A U R apart (rules.matched e) _ p i)

  -- one with a type is of this type
  let_typed : (w : Typ) (p : Pattern) (t : Typ) (e : Exp) → (node_of e).site ≡ Site.Initialises → t ≡ wished K A (node_of e) → PatternFits K.items t (elaborated.pattern (T K A) None p) → Gives w e → Told e → LetTold p e
  let_typed w p t e s x k g h z =
      let n = node_of e in
      let alive = stays_alive e (joining.matched_alive K A U R f result w e g z) in
      let at : AtNode n ≡ t = ap (λ (j : Site). at_site j (OfNode n) (wished K A n)) s ∙ sym x in
      let is : OfNode n ≡ t = sym (h.same alive) ∙ at in (
        t,
        record {
          typed = joining.looked_at K A U R f result w e t g (λ b c. is) (λ y. values.valued K A U R w e g y ∙ at) z;
          marked = marks_there w e g h z ∙ ap (λ (y : Typ). Some y) is;
          inhabited = subst (λ (y : Typ). IsInhabited K.items y) is (inhabited n.number);
        },
        k,
      )

  initialised_told : (w : Typ) (p : Pattern) (t : Option Written) (e : Exp) → (node_of e).site ≡ initialiser_site t → PatternMeans K.items p
      → Wants (joining.Expects K A U R f result t e → Gives w e → Told e → LetTold p e) (rules.initialised p t e)
  initialised_told w p None e s i = asks_map (λ k x g h. k g h) (initialised_by_told w (never e) p e refl s i)
  initialised_told w p (Some t) e s i = asks_map (λ k x g h. let_typed w p (own K A (written_node t)) e s x k g h) (fitting.whole_fits K A U R apart (rules.matched e) _ p i)

  -- ---- all forms

  mutual
    exp_told : (w : Typ) (e : Exp) → Sited e → Fits K.items e → Means K.items e → OfExp w e → Wants (Told e) (rules.of_exp f e)
    exp_told w (named.int n m v k) h j i u = asks_map (λ p. told_if (named.int n m v k) p.1.has.stands refl tt p.0) (paired (literal_told n m v k) (operands.integer_given K A n m v k))
    exp_told w (named.bool n b) h j i u = asks_map (λ p. told_if (named.bool n b) p.stands refl tt tt) (pieces.truth_given K A n)
    exp_told w (named.tuple n es) h j i u =
        asks_map (λ g. told_if (named.tuple n es) g.1.0.stands (tuple_marked n es) (tuple_stands n es g.0) g.0.1)
        (both (each_told rules.members 0 Site.Value es h j i u.1) (both (pieces.tuple_given K A n _) (quiet n _ _ _)))
    exp_told w (named.var n x) h j i u = asks_map (λ g. place_told (named.var n x) refl g tt) (then_second (named_u n x x.known) (pieces.place_given K A n _ _ n.site))
    exp_told w (named.field n e x) h j i u =
        asks_map (λ g. place_told (named.field n e x) refl g.1 g.0.literals) (both (exp_told types.unit_shape e h.0 j i u.1) (then_second (quiet n _ _ _) (pieces.place_given K A n _ _ n.site)))
    exp_told w (named.part n e x) h j i u =
        asks_map (λ g. place_told (named.part n e x) refl g.1 g.0.literals) (both (exp_told types.unit_shape e h.0 j i u.1) (then_second (quiet n _ _ _) (pieces.place_given K A n _ _ n.site)))
    exp_told w (named.deref n e) h j i u =
        asks_map (λ g. place_told (named.deref n e) refl g.1 g.0.literals) (both (exp_told types.unit_shape e h.0 j i u.1) (then_second (quiet n _ _ _) (pieces.place_given K A n _ _ n.site)))
    exp_told w (named.negate n e) h j i u =
        asks_map (λ g. told_if (named.negate n e) g.1.has.stands refl (g.0.stands, tt) g.0.literals) (both (exp_told (own K A n) e h.0 j i u.1) (operands.negated_given K A n (node_of e) (never e)))
    exp_told w (named.invert n e) h j i u =
        asks_map (λ g. told_if (named.invert n e) g.1.has.stands refl (g.0.stands, tt) g.0.literals) (both (exp_told boolean e h.0 j i u.1) (operands.inverted_given K A n (node_of e) (never e)))
    exp_told w (named.borrow n m e) h j i u =
        asks_map (λ g. passed_told (named.borrow n m e) (tree.borrow (elaborated.mark (T K A) n) m (elaborated.place (T K A) e)) refl refl g.1.stands (direct e) g.0.literals)
        (both (exp_told types.unit_shape e h.0 j i u.1) (pieces.borrowed_given K A n m (node_of e) (root e) _))
    exp_told w (named.binary n o a b) h j i u =
        let v = two_of (given_types.exp_entries (T K A) V (given_types.wanted_beside (T K A) V o n b) a) (given_types.exp_entries (T K A) V (given_types.wanted_beside (T K A) V o n a) b) u.1 in
        asks_map (λ g. told_if (named.binary n o a b) g.1.1.stands (operated_marked n o (value a) (value b)) (operated_stands n o (value a) (value b) g.0.stands g.1.0.stands) (g.0.literals, g.1.0.literals))
        (both (exp_told _ a h.0.0 j.0 i.0 v.0) (both (exp_told _ b h.1.0 j.1 i.1 v.1) (pieces.operation_given K A o n (node_of a) (never a) (node_of b) (never b))))
    exp_told w (named.assign n p e) h j i u =
        let v = two_of (given_types.exp_entries (T K A) V types.unit_shape p) (given_types.exp_entries (T K A) V types.unit_shape e) u.1 in
        asks_map (λ g. told_if (named.assign n p e) g.1.1.stands refl (direct p, g.1.0.stands) (g.0.literals, g.1.0.literals))
        (both (exp_told types.unit_shape p h.0.0 j.0 i.0 v.0) (then_second (quiet (node_of e) _ _ _) (both (exp_told types.unit_shape e h.1.0 j.1 i.1 v.1) (then_second (assignable_u n p) (pieces.unit_given K A n)))))
    exp_told w (named.gives n p x k e) h j i u =
        asks_map (λ g. told_if (named.gives n p x k e) g.1.stands refl ((tt, tt), g.0.stands) g.0.literals)
        (both (exp_told (V x.number) e h.0 j i u.1.1) (then_second (operands.assigned_given K A n p x k (node_of e) (never e)) (pieces.unit_given K A n)))
    exp_told w (named.update n o p e) h j i u =
        let v = two_of (given_types.exp_entries (T K A) V types.unit_shape p) (given_types.exp_entries (T K A) V (own K A (node_of p)) e) u.1 in
        asks_map (λ g. told_if (named.update n o p e) g.1.1.stands refl (direct p, g.1.0.stands) (g.0.literals, g.1.0.literals))
        (both (exp_told types.unit_shape p h.0.0 j.0 i.0 v.0) (both (exp_told (own K A (node_of p)) e h.1.0 j.1 i.1 v.1)
        (then_second (operands.updated_given K A n (node_of p) (never p) (node_of e) (never e)) (then_second (assignable_u n p) (pieces.unit_given K A n)))))
    exp_told w (named.call n k es) h j i u =
        asks_map (λ g. passed_told (named.call n k es) (tree.call (elaborated.mark (T K A) n) k (elaborated.operands (T K A) 0 es)) refl refl g.1.stands g.0.0 g.0.1)
        (then_second (quiet n _ _ _) (both (each_told (rules.parameters k) 0 Site.Expects es h j i u.1) (pieces.result_given K A n k)))
    exp_told w (named.hidden_call n es) h j i u = asks_map (λ g. absurd g) (then_first (refused n _) (each_told rules.values 0 Site.Value es h j i u.1))
    exp_told w (named.next_input n) h j i u = asks_map (λ p. told_if (named.next_input n) p.stands refl tt tt) (pieces.number_given K A n Kind.I64)
    exp_told w (named.variant n k v es) h j i u =
        asks_map (λ g. told_if (named.variant n k v es) g.1.stands refl g.0.0 g.0.1)
        (then_second (quiet n _ _ _) (both (each_told (rules.parts_of k v) 0 Site.Expects es h j.1 i.1 u.1) (pieces.item_given K A n k)))
    exp_told w (named.make n k fs) h j i u =
        asks_map (λ g. told_if (named.make n k fs) g.1.stands refl g.0.0 g.0.1) (then_second (quiet n _ _ _) (both (fields_told k fs h j.1 i.1 u.1) (pieces.item_given K A n k)))
    exp_told w (named.print n e) h j i u =
        asks_map (λ g. told_if (named.print n e) g.1.stands refl g.0.stands g.0.literals)
        (both (exp_told boolean e h.0 j i u.1) (then_second (operands.printed_given K A (node_of e) (never e)) (pieces.unit_given K A n)))
    exp_told w (named.block n b) h j i u =
        let t = W n (body_never b) w in
        asks_map (λ g. record {
          stands = g.1.0.stands;
          marked = λ q. body_marked b q ∙ ap (λ (z : Typ). Some z) (sym (g.1.0.same q) ∙ (block_same n b w h g.0 g.1.1.0 q ∙ g.1.1.1 q));
          same = λ q. g.1.1.1 q;
          literals = g.1.0.literals;
        }) (both (pieces.before_given K A n n.site (body_node b)) (both (body_told t (named_passed n) b h j i u.1) (both (pieces.after_given K A n n.site (body_never b) (body_node b)) (operands.join_same K A n (body_never b)))))
    exp_told w (named.if n c b o) h j i u =
        let t = W n (body_never b && else_never o) w in
        let v = three_of (given_types.exp_entries (T K A) V boolean c) (given_types.body_entries (T K A) V t b) (given_types.else_entries (T K A) V t o) u.1 in
        asks_map (λ g. if_told (named.if n c b o) n (body_never b && else_never o) refl refl refl g.1.1.2
        (tests_stand n (elaborated.mark_if (T K A) n (body_never b && else_never o)) boolean c (elaborated.body (T K A) b) (elaborated.otherwise (T K A) n o) h.0.1 g.0.0 g.0.1 g.1.0 g.1.1.0 g.1.1.1) (g.0.1.literals, g.1.1.3, g.1.1.4))
        (both (paired (acting.exp_asks K A U R f result boolean c h.0.0 j.0 v.0) (exp_told boolean c h.0.0 j.0 i.0 v.0)) (both (operands.tested_given K A (node_of c) (never c))
        (branches_told n b o (body_told t _ b h.1 j.1 i.1 v.1) (else_told n t o h.2 j.2 i.2 v.2))))
    exp_told w (named.if_let n p e b o) h j i u =
        let t = W n (body_never b && else_never o) w in
        let v = four_of (given_types.pattern_entries (T K A) V p) (given_types.exp_entries (T K A) V types.unit_shape e) (given_types.body_entries (T K A) V t b) (given_types.else_entries (T K A) V t o) u.1 in
        asks_map (λ g. if_told (named.if_let n p e b o) n (body_never b && else_never o) refl refl refl g.1.1.2
        (looks_stand (elaborated.mark_if (T K A) n (body_never b && else_never o)) types.unit_shape e p (elaborated.body (T K A) b) (elaborated.otherwise (T K A) n o) h.0.1 g.0.0 g.0.1 g.1.0 g.1.1.0 g.1.1.1) (g.0.1.literals, g.1.1.3, g.1.1.4))
        (both (paired (acting.exp_asks K A U R f result types.unit_shape e h.0.0 j.0 v.1) (exp_told types.unit_shape e h.0.0 j.0 i.1.0 v.1)) (then_second (not_never_u (node_of e) (never e))
        (both (fitting.whole_fits K A U R apart (rules.matched e) _ p i.0) (branches_told n b o (body_told t _ b h.1 j.1 i.1.1 v.2) (else_told n t o h.2 j.2 i.1.2 v.3)))))
    exp_told w (named.match n e l) h j i u =
        let t = W n (named.all_never l) w in
        let v = two_of (given_types.exp_entries (T K A) V types.unit_shape e) (given_types.arms_entries (T K A) V t l) u.1 in
        asks_map (λ g. if_told (named.match n e l) n (named.all_never l) refl refl refl g.1.1
        (stands_there e g.0.1, (λ z. (OfNode (node_of e), matched_told types.unit_shape e h.0.1 g.0.0 g.0.1 z, g.1.0.1)), g.1.0.0) (g.0.1.literals, g.1.0.2))
        (both (paired (acting.exp_asks K A U R f result types.unit_shape e h.0.0 j.0 v.0) (exp_told types.unit_shape e h.0.0 j.0 i.0 v.0)) (then_second (not_never_u (node_of e) (never e))
        (both (arms_told n t (rules.matched e) (node_of e) l h.1 j.1 i.1 v.1) (operands.join_same K A n (named.all_never l)))))
    exp_told w (named.loop n l k b) h j i u =
        asks_map (λ g. if_told (named.loop n l k b) n (not k) refl refl refl g.1 g.0.stands g.0.literals)
        (both (body_told types.unit_shape Site.Value b h j.1 i u.1) (then_second (pieces.nothing_given K A (body_node b) (body_never b)) (loop_same n k)))
    exp_told w (named.while n l c b) h j i u =
        let v = two_of (given_types.exp_entries (T K A) V boolean c) (given_types.body_entries (T K A) V types.unit_shape b) u.1 in
        asks_map (λ g. told_if (named.while n l c b) g.1.1.1.stands refl
        (tests_stand n (elaborated.mark_if (T K A) (body_node b) (body_never b)) boolean c (elaborated.body (T K A) b) (elaborated.leaves n l) h.0.1 g.0.0 g.0.1 g.1.0 g.1.1.0.stands tt) (g.0.1.literals, g.1.1.0.literals))
        (both (paired (acting.exp_asks K A U R f result boolean c h.0.0 j.1 v.0) (exp_told boolean c h.0.0 j.1 i.1 v.0)) (both (operands.tested_given K A (node_of c) (never c))
        (both (body_told types.unit_shape Site.Value b h.1 j.2 i.2 v.1) (then_second (pieces.nothing_given K A (body_node b) (body_never b)) (pieces.unit_given K A n)))))
    exp_told w (named.while_let n l p e b) h j i u =
        let v = three_of (given_types.pattern_entries (T K A) V p) (given_types.exp_entries (T K A) V types.unit_shape e) (given_types.body_entries (T K A) V types.unit_shape b) u.1 in
        asks_map (λ g. told_if (named.while_let n l p e b) g.1.1.1.stands refl
        (looks_stand (elaborated.mark_if (T K A) (body_node b) (body_never b)) types.unit_shape e p (elaborated.body (T K A) b) (elaborated.leaves n l) h.0.1 g.0.0 g.0.1 g.1.0 g.1.1.0.stands tt) (g.0.1.literals, g.1.1.0.literals))
        (both (paired (acting.exp_asks K A U R f result types.unit_shape e h.0.0 j.1 v.1) (exp_told types.unit_shape e h.0.0 j.1 i.1.1 v.1)) (then_second (not_never_u (node_of e) (never e))
        (both (fitting.whole_fits K A U R apart (rules.matched e) _ p i.0)
        (both (body_told types.unit_shape Site.Value b h.1 j.2 i.1.2 v.2) (then_second (pieces.nothing_given K A (body_node b) (body_never b)) (pieces.unit_given K A n))))))
    exp_told w (named.break n l) h j i u = asks_map (λ p. jump_told (named.break n l) refl tt tt) (never_asks n n.site)
    exp_told w (named.continue n l) h j i u = asks_map (λ p. jump_told (named.continue n l) refl tt tt) (never_asks n n.site)
    exp_told w (named.return n o) h j i u =
        asks_map (λ g. jump_told (named.return n o) refl (returned_stands n o g) (else_literals o g))
        (then_second (operands.returned_given K A f n o) (then_first (returned_told types.unit_shape Site.Expects o h j i u.1) (never_asks n n.site)))

    each_told : (l : rules.Listed) (k : ℕ) (t : Site) (es : Exps) → EachSited t es → EachFits K.items es → EachMeans K.items es → OfExps es → Wants (EachStands k es) (rules.of_each f l k es)
    each_told l k t named.no_exp h j i u = asks_map (λ _. (tt, tt)) none
    each_told l k t (named.exp_and e es) h j i u =
        let v = two_of (given_types.exp_entries (T K A) V types.unit_shape e) (given_types.exps_entries (T K A) V es) u in
        asks_map (λ g. ((g.0.stands, g.1.0), (g.0.literals, g.1.1)))
        (then_second (operands.each_before_given K A l k (node_of e)) (both (exp_told types.unit_shape e h.0.0 j.0 i.0 v.0) (then_second (each_after_u l e) (each_told l (suc k) t es h.1 j.1 i.1 v.1))))

    fields_told : (k : ℕ) (fs : Fields) → FieldsSited fs → FieldsFit K.items fs → FieldsMean K.items fs → OfFields fs → Wants (FieldsStand k fs) (rules.of_fields f k fs)
    fields_told k named.no_field h j i u = asks_map (λ _. (tt, tt)) none
    fields_told k (named.field_and x e fs) h j i u =
        let v = two_of (given_types.exp_entries (T K A) V types.unit_shape e) (given_types.fields_entries (T K A) V fs) u in
        asks_map (λ g. ((g.0.stands, g.1.0), (g.0.literals, g.1.1))) (then_second (operands.field_given K A k x (node_of e)) (both (exp_told types.unit_shape e h.0.0 j.0 i.0 v.0) (fields_told k fs h.1 j.1 i.1 v.1)))

    else_told : (n : Node) (w : Typ) (o : Else) → ElseSited (named_passed n) o → ElseFits K.items o → ElseMeans K.items o → OfElse w o → Wants (ElseStands o) (rules.of_else f n o)
    else_told n w named.absent h j i u = none
    else_told n w (named.present e) h j i u =
        asks_map (λ g. (g.stands, g.literals)) (then_second (pieces.before_given K A n n.site (node_of e)) (then_first (exp_told w e h.0 j i u) (pieces.after_given K A n n.site (never e) (node_of e))))

    returned_told : (w : Typ) (t : Site) (o : Else) → ElseSited t o → ElseFits K.items o → ElseMeans K.items o → OfElse w o → Wants (ElseStands o) (rules.of_returned f o)
    returned_told w t named.absent h j i u = none
    returned_told w t (named.present e) h j i u = asks_map (λ g. (g.stands, g.literals)) (exp_told w e h.0 j i u)

    arms_told : (n : Node) (w : Typ) (s : rules.Matched) (m : Node) (l : Arms) → ArmsSited (named_passed n) l → ArmsFit K.items l → ArmsMean K.items l → OfArms w l → Wants (ArmsTold m l) (rules.of_arms f n s m l)
    arms_told n w s m named.no_arm h j i u = asks_map (λ _. (tt, tt, tt)) none
    arms_told n w s m (named.arm_and p e l) h j i u =
        let y = three_of (given_types.pattern_entries (T K A) V p) (given_types.exp_entries (T K A) V w e) (given_types.arms_entries (T K A) V w l) u in
        asks_map (λ g. ((g.1.0.stands, g.1.1.0), (g.0, g.1.1.1), (g.1.0.literals, g.1.1.2)))
        (both (fitting.whole_fits K A U R apart s _ p i.0) (then_second (pieces.before_given K A n n.site (node_of e)) (both (exp_told w e h.0.0 j.0 i.1.0 y.1)
        (then_second (pieces.after_given K A n n.site (never e) (node_of e)) (arms_told n w s m l h.1 j.1 i.1.1 y.2)))))

    pub body_told : (w : Typ) (t : Site) (b : Body) → BodySited t b → BodyFits K.items b → BodyMeans K.items b → OfBody w b → Wants (BodyTold b) (rules.of_body f b)
    body_told w t (named.body n ss o) h j i u =
        let d = some_diverges ss in
        let r = W n (named.tail_never d o) w in
        let v = two_of (given_types.statements_entries (T K A) V ss) (given_types.else_entries (T K A) V r o) u.1 in
        asks_map (λ g. record {
          literals = (g.0.1, else_literals o g.1.0);
          stands = g.0.0 (elaborated.tail (T K A) n o) (tail_stands n o g.1.0);
          ends = g.0.0 (tree.give (elaborated.no_mark n) (elaborated.tail (T K A) n o)) (tail_stands n o g.1.0);
          same = λ q. g.1.1 q;
        })
        (both (statements_told ss h.1 j.0 i.0 v.0) (then_second (joining.tail_before_given K A U R f result n o)
        (both (returned_told r t o h.2 j.1 i.1 v.1) (then_second (joining.tail_after_given K A U R f result n d o) (operands.join_same K A n (named.tail_never d o))))))

    statement_told : (a : Statement) → StatementSited a → StatementFits K.items a → StatementMeans K.items a → OfStatement a → Wants (StatementStands a) (rules.of_statement f a)
    statement_told (named.declares n p t) h j i u =
        asks_map (λ _. ((λ rest s. s), tt)) (joining.declared_u K A U R f result p t (two_of (given_types.pattern_entries (T K A) V p) (given_types_silent t) u.1).0)
    statement_told (named.lets n p t e) h j i u =
        let w = given_types.wanted_by (T K A) V (whole_binding p) in
        let v = three_of (given_types.pattern_entries (T K A) V p) (given_types_silent t) (given_types.exp_entries (T K A) V w e) u.1 in
        asks_map (λ g. ((λ rest s. (stands_there e g.1.0.1, g.1.1 g.0 g.1.0.0 g.1.0.1, s)), g.1.0.1.literals))
        (both (joining.typed_before_asks K A U R f result t e) (both (paired (acting.exp_asks K A U R f result w e h.0 j v.2) (exp_told w e h.0 j i.1 v.2)) (initialised_told w p t e h.1 i.0)))
    statement_told (named.evaluates n e s) h j i u =
        asks_map (λ g. ((λ rest y. (g.stands, y)), g.literals)) (then_first (exp_told types.unit_shape e h.0 j i u.1) (evaluated_u s (node_of e) (never e)))

    statements_told : (ss : Statements) → StatementsSited ss → StatementsFit K.items ss → StatementsMean K.items ss → OfStatements ss → Wants (StatementsStand ss) (rules.of_statements f ss)
    statements_told named.no_statement h j i u = asks_map (λ _. ((λ last s. s), tt)) none
    statements_told (named.statement_and a ss) h j i u =
        let v = two_of (given_types.statement_entries (T K A) V a) (given_types.statements_entries (T K A) V ss) u in
        asks_map (λ g. ((λ last s. g.0.0 (elaborated.nested (T K A) ss last) (g.1.0 last s)), (g.0.1, g.1.1))) (both (statement_told a h.0 j.0 i.0 v.0) (statements_told ss h.1 j.1 i.1 v.1))
